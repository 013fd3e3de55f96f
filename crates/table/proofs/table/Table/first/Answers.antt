use Rattle.std.proofs.Common.{ℕ, length, refl, subst}
use Rattle.rows.specs.declared.numbers.Numbers.{Numbers}
use Rattle.std.specs.Prelude.{Ok, Err, Result, MatchResult, IsOk}
use Rattle.table.proofs.Backs.{coherent_first, cut_down, like_first, straight_first}
use Rattle.table.proofs.Deeps.{stuck_cycle}
use Rattle.table.proofs.Kept.{deep_from, facts_from, within_from}
use Rattle.table.proofs.table.Table.first.Goals as goal
use Rattle.table.specs.Deepening.{Settled, Stuck}
use Rattle.table.specs.Sheets.{sheet_of}

-- Where no row is without a depth, all are settled.
settled : (P : Numbers → Type 0) (Q : ℕ → Type 0) (r : Result Numbers ℕ) → MatchResult r P Q → ((p : ℕ) → Q p → ⊥) → IsOk r
settled P Q (Ok d) h k = refl
settled P Q (Err p) h k = absurd (k p h)

pub classes_of-classes-requires : goal.classes_of-classes-requires
classes_of-classes-requires c =
    let t = c.args.self.now in
    let s = sheet_of c.cut.new.self c.truncate.new.self in
    let e = cut_down t c.args.n c.args.m c.cut.new.self c.truncate.new.self c.cut.ensures c.truncate.ensures in
    record {
      coherent = ∣ coherent_first t c.args.n c.args.m c.requires.rows c.requires.among s e ∣₁;
      like = like_first t c.args.n c.args.m c.requires.rows c.requires.among s e c.requires.uniform;
    }

pub invariant_of-classing : goal.invariant_of-classing
invariant_of-classing c =
    let t = c.args.self.now in
    let s = sheet_of c.cut.new.self c.truncate.new.self in
    let e = cut_down t c.args.n c.args.m c.cut.new.self c.truncate.new.self c.cut.ensures c.truncate.ensures in
    record { within = within_from (coherent_first t c.args.n c.args.m c.requires.rows c.requires.among s e) c.classes_of-classes.result.of c.classes_of-classes.ensures.represents }

pub unwrap-depths-requires : goal.unwrap-depths-requires
unwrap-depths-requires c =
    let t = c.args.self.now in
    let s = sheet_of c.cut.new.self c.truncate.new.self in
    let e = cut_down t c.args.n c.args.m c.cut.new.self c.truncate.new.self c.cut.ensures c.truncate.ensures in
    let I = coherent_first t c.args.n c.args.m c.requires.rows c.requires.among s e in
    settled _ _ c.deepen.result c.deepen.ensures
    (λ p h. straight_first t c.args.n c.args.m c.requires.rows c.requires.among s e (stuck_cycle I c.classes_of-classes.result.of c.classes_of-classes.ensures.represents p h))

pub invariant_of-result : goal.invariant_of-result
invariant_of-result c =
    let t = c.args.self.now in
    let s = sheet_of c.cut.new.self c.truncate.new.self in
    let e = cut_down t c.args.n c.args.m c.cut.new.self c.truncate.new.self c.cut.ensures c.truncate.ensures in
    let I = coherent_first t c.args.n c.args.m c.requires.rows c.requires.among s e in
    let k = c.classes_of-classes.result.of in
    let R = c.classes_of-classes.ensures.represents in
    let d = c.unwrap-depths.result.of in
    let n = length s.rows in
    let S = subst (λ (r : Result Numbers ℕ). MatchResult r (λ d. Settled s.rows n k d.of) (Stuck s.rows n k)) c.unwrap-depths.ensures c.deepen.ensures in
    let f = facts_from I k R d (deep_from I k R d c.classes_of-classes.ensures.uniform S) in
    record { coherent = f.coherent; represents = f.represents; falls = f.falls; within = f.within; shallow = f.shallow }

pub returns-clause-sheet : goal.returns-clause-sheet
returns-clause-sheet c = cut_down c.args.self.now c.args.n c.args.m c.cut.new.self c.truncate.new.self c.cut.ensures c.truncate.ensures
