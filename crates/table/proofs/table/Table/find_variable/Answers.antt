use Rattle.std.proofs.Common.{◌≡◌, ◌<◌, ℕ, List, map, length, ap, arith, rules, tests}
use lib.ListN.{get_elem?}
use mathlib.Core.Option.{some}
use Rattle.std.proofs.lemmas.Iterator.{IsFirst-from_position, YieldsList-from_slice}
use Rattle.std.proofs.lemmas.List.{length-map}
use Rattle.std.specs.List.{AllWithin, HoldsAt}
use Rattle.std.specs.Prelude.{None, Option, Some, MatchOption}
use Rattle.rows.proofs.Places.{mapped_at}
use Rattle.rows.specs.Stored.{row_of, rows_of}
use Rattle.rows.specs.declared.row.Row.{Row}
use Rattle.rows.specs.declared.row.Row.TheVariants.{Variable}
use Rattle.table.proofs.table.Table.find_variable.Goals as goal
use Rattle.unification.proofs.Reading.{at_within}
use Rattle.unification.specs.Sheets as theory
use Rattle.unification.specs.Sheets.{variable}

-- A row that is the variable of the label, and one that is not.
abbrev Yes : ℕ → Row → Type 0
Yes x r = row_of r ≡ variable x

abbrev No : ℕ → Row → Type 0
No x r = row_of r ≡ variable x → ⊥

-- No row of the sheet is the variable, or the one that is found is.
labelled : (items : List Row) (rows : List theory.Row) → map row_of items ≡ rows → (x : ℕ) (r : Option ℕ) → MatchOption r (AllWithin (No x) items 0 (length items)) (λ i. (i < length items) × HoldsAt (Yes x) items i × AllWithin (No x) items 0 i) → MatchOption r ((p : ℕ) → get_elem? rows p ≡ some (variable x) → ⊥) (λ p. (p < length rows) × (get_elem? rows p ≡ some (variable x)))
labelled items rows e x None h = λ p f.
    let l = length-map items row_of in
    let n = ap length e in
    let k = at_within rows p (variable x) f in
    let m = mapped_at row_of items p (Variable 0) (omega arith) in
    h p (Variable 0) (omega arith) (omega arith) (cc)
labelled items rows e x (Some i) h =
    let l = length-map items row_of in
    let n = ap length e in
    let b = h.0 in
    let m = mapped_at row_of items i (Variable 0) (omega arith) in
    let y = h.1 (Variable 0) in
    (omega arith, cc)

pub returns : goal.returns
returns c =
    let x = c.args.label in
    let items = c.as_slice.result.now in
    labelled items (rows_of c.args.self.now.rows.items) c.as_slice.ensures x c.position.result
    (IsFirst-from_position _ _ c.position.result (Yes x) (No x) c.position.ensures.ran (YieldsList-from_slice items (cc)) (λ y q k. search (rules, tests)) (λ y q k. search (rules, tests)))
