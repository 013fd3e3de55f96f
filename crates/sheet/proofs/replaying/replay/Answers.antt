use Rattle.std.proofs.Common.{◌≡◌, ℕ, ◌<◌, min, [], length, take, drop, sym, refl, ap, ◌∙◌, subst, arith, rules}
use Rattle.sheet.proofs.Consistency.{consistent_fresh}
use Rattle.sheet.proofs.Promising.{promised}
use Rattle.sheet.proofs.Running.{behind_more, run_consistent, run_single, run_turn}
use Rattle.sheet.proofs.replaying.replay.Goals as goal
use Rattle.sheet.specs.Promises.{Consistent}
use Rattle.sheet.specs.Runs.{Replayed, Run, Step, done}
use Rattle.table.specs.Sheets.{sheet_of}
use Rattle.unification.proofs.Cycles.{depth_no_cycle}
use Rattle.unification.specs.Sheets.{fresh}

pub loop-i-init : goal.loop-i-init
loop-i-init g c =
    let R = Run g.L.Lexicon.spellings g.V.Degree.Scale.operations (g.V.Vocabulary.model c.args.vocabulary.now) fresh [] [] in
    (subst R (sym c.new-sheet.ensures.sheet) done, c.new-sheet.ensures.vocabulary, refl)

pub offset_bounds-outcomes-i : goal.offset_bounds-outcomes-i
offset_bounds-outcomes-i g c = let h : c.loop-i.i < length c.args.outcomes.now = omega arith in search rules

pub loop-i-preserved : goal.loop-i-preserved
loop-i-preserved g c =
    let S = g.V.Degree.Scale.operations in
    let L = g.met.V.Degree.Scale.lawful in
    let W = g.met.V.Vocabulary.lawful c.args.vocabulary.now in
    let t = c.loop-i.sheet.table in
    let s = sheet_of t.rows t.equations in
    let u = sheet_of c.carry_out.new.self.table.rows c.carry_out.new.self.table.equations in
    let e = c.loop-i.invariant.1 in
    let C = run_consistent g.L.Lexicon.spellings L W (consistent_fresh L W) c.loop-i.invariant.0 in
    let h = subst (λ v. Consistent S (g.V.Vocabulary.model v) s → Step g.L.Lexicon.spellings S (g.V.Vocabulary.model v) s c.index-calls-i.result c.carry_out.result u) e c.carry_out.ensures.step in
    let a : c.loop-i.i < length c.args.calls.now = omega arith in
    let b : c.loop-i.i < length c.loop-i.outcomes = omega arith in (
      run_turn g.L.Lexicon.spellings L W c.args.calls.now c.loop-i.outcomes c.loop-i.i c.index-calls-i.result c.carry_out.result a b c.index-calls-i.is c.loop-i.invariant.0 (h C),
      ap (λ x. x.now) c.carry_out.ensures.vocabulary ∙ e,
      behind_more c.loop-i.outcomes c.args.outcomes.now c.loop-i.i c.carry_out.result c.loop-i.invariant.2,
    )

pub returns : goal.returns
returns g c =
    let S = g.V.Degree.Scale.operations in
    let L = g.met.V.Degree.Scale.lawful in
    let W = g.met.V.Vocabulary.lawful c.args.vocabulary.now in
    let V = g.V.Vocabulary.model c.args.vocabulary.now in
    let M = g.L.Lexicon.spellings in
    let t = c.loop-i.sheet.table in
    let s = sheet_of t.rows t.equations in
    let cs = c.args.calls.now in
    let os = c.loop-i.outcomes in
    let r = c.loop-i.invariant.0 in
    let k = c.loop-i-test.false in
    let m = c.loop-i.auto.i-end in
    let i : c.loop-i.i ≡ c.min-count.result = omega arith in
    let n : c.loop-i.i ≡ min (length cs) (length c.args.outcomes.now) = i ∙ c.min-count.ensures in
    record {
      vocabulary = c.loop-i.invariant.1;
      run = subst (λ (z : ℕ). Replayed M S V (take z cs) (take z os) s) n (record { run = r; only = λ vs u q. run_single M L W (consistent_fresh L W) r q });
      rest = subst (λ (z : ℕ). drop z os ≡ drop z c.args.outcomes.now) n c.loop-i.invariant.2;
      promise = promised L W (run_consistent M L W (consistent_fresh L W) r) (depth_no_cycle t.falls);
    }
