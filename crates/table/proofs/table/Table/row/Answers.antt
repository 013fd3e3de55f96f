use Rattle.std.proofs.Common.{◌≡◌, ◌<◌, ℕ, List, map, length, arith, rules, tests}
use lib.ListN.{get_elem?}
use mathlib.Core.Option.{some}
use Rattle.std.proofs.lemmas.List.{length-map}
use Rattle.std.specs.List.{HoldsAt}
use Rattle.rows.proofs.Places.{mapped_at}
use Rattle.rows.specs.Stored.{row_of}
use Rattle.rows.specs.declared.row.Row.{Row}
use Rattle.table.proofs.table.Table.row.Goals as goal
use Rattle.unification.specs.Sheets as theory

-- What is read at a place of the slice is the sheet's row there.
stands : (items : List Row) (rows : List theory.Row) → map row_of items ≡ rows → (p : ℕ) (x : Row) → p < length items → HoldsAt (λ y. x ≡ y) items p → get_elem? rows p ≡ some (row_of x)
stands items rows e p x h b =
    let l = length-map items row_of in
    let m = mapped_at row_of items p x (omega (arith, h)) in
    let r = b x in
    cc

pub returns : goal.returns
returns c =
    let read = c.in_ok-row.ensures.lookup.3 in
    let there = stands c.as_slice.result.now _ c.as_slice.ensures c.args.p c.in_ok-row.row.now read.0 read.1 in
    search (rules, tests, there)
