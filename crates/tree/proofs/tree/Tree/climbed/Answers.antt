use Rattle.std.proofs.Common.{ℕ, ◌<◌, List, get_or, sym, refl, ap, ◌∙◌, arith}
use Rattle.scale.specs.Scales.{degree_of}
use Rattle.tree.specs.Paths.{like_below}
use Rattle.tree.specs.Tables.{tabled}
use Rattle.tree.specs.Words.{blank}
use Rattle.tree.specs.declared.word.Word.{Word}
use Rattle.tree.specs.Growth.{like_turn, like_halt, like_met}
use Rattle.tree.proofs.tree.Tree.climbed.Goals as goal

pub returns-then-parent-high : goal.returns-then-parent-high
returns-then-parent-high g c =
    let parent = ap (λ (W : List Word). (get_or W c.max-high.result blank).parent) (sym c.as_slice-words.ensures) in
    c.bottom-apart.ensures
    ∙ sym
    (like_halt _ g.met.S.Scale.lawful (tabled c.args.self.now.table) _ _ _ _ _ _ _ c.loop-f.invariant.0 c.loop-f.invariant.1
    c.loop-f-test.true c.max-high.ensures refl c.loop-f.invariant.2 (parent ∙ c.if-parent-high.true))

pub loop-f-preserved : goal.loop-f-preserved
loop-f-preserved g c =
    let S = g.S.Scale.operations in
    let table = c.args.self.now.table in
    let high : c.max-high.result < (tabled table).count = omega (arith, c.loop-f.invariant) in
    let lower = table.family.lower c.max-high.result high in
    let parent = ap (λ (W : List Word). (get_or W c.max-high.result blank).parent) (sym c.as_slice-words.ensures) in
    let code = ap (λ (W : List Word). (get_or W c.max-high.result blank).code) (sym c.as_slice-words.ensures) in (
      omega (arith, parent),
      omega (arith, c.loop-f.invariant),
      like_turn S g.met.S.Scale.lawful (tabled table) _ _ _ _ _ _ _ c.loop-f.invariant.0 c.loop-f.invariant.1
          c.loop-f-test.true c.max-high.ensures c.min-g.ensures c.loop-f.invariant.2 _ _
          (c.degree_of.ensures ∙ ap (degree_of S) (sym code)) c.meet-degree.ensures lower (λ e. c.if-parent-high.false (sym parent ∙ e))
          ∙ ap (λ (p : ℕ). S.meet c.meet-degree.result (like_below S (tabled table) (tabled table).count p c.min-g.result)) parent,
    )

pub returns : goal.returns
returns g c =
    like_met _ g.met.S.Scale.lawful (tabled c.args.self.now.table) _ _ _ _ _ c.loop-f.invariant.0 c.loop-f-test.false
    c.loop-f.invariant.2
