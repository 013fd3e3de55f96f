use Rattle.std.proofs.Common.{◌≡◌, ℕ, ◌+◌, ◌<◌, List, map, length, get_or, refl, sym, ap, ◌∙◌, subst, arith, rules, tests}
use mathlib.Core.Option.{some}
use denote.Bor.{Bor}
use lib.ListN.{get_elem?}
use Rattle.std.proofs.lemmas.List.{length-map}
use Rattle.lists.specs.Entries.{entries}
use Rattle.rows.proofs.Places.{few, long, mapped_at}
use Rattle.rows.specs.Stored.{Equations, equation_of, equations_of, rows_of}
use Rattle.rows.specs.declared.equations.Equation.{Equation}
use Rattle.rows.specs.declared.rows.Rows.{Rows}
use Rattle.table.proofs.Hands.{coherent_at_hand}
use Rattle.table.proofs.Rebuilt.{SidesTo, left_row, right_row, sides_all, sides_more, sound_more, sound_own}
use Rattle.table.proofs.rebuilding.join_sides.Goals as goal
use Rattle.table.specs.Joining.{Sides, Sound, merged}
use Rattle.table.specs.Sheets.{sheet_of}
use Rattle.unification.specs.Sheets as theory
use Rattle.unification.specs.Sheets.{IsCoherent}

-- What came of merging x and y came of merging u and v, where these are the same numbers.
merged_as : (rows : List theory.Row) (k new : List ℕ) (x y u v : ℕ) → new ≡ merged rows k x y → x ≡ u → y ≡ v → new ≡ merged rows k u v
merged_as rows k new x y u v e p q = cc

-- The equation at a place of the slice is that of the sheet.
found : (equations : Equations) (items : List Equation) → items ≡ entries equations → (i : ℕ) → i < length items → get_elem? (equations_of equations) i ≡ some (equation_of (get_or items i (record { left = 0; right = 0 })))
found equations items e i h =
    let l = length-map items equation_of in
    subst (λ (z : List Equation). get_elem? (map equation_of z) i ≡ some (equation_of (get_or items i (record { left = 0; right = 0 })))) e
    (mapped_at equation_of items i (record { left = 0; right = 0 }) (omega arith))

pub loop-e-init : goal.loop-e-init
loop-e-init c =
    let rows = c.args.rows.now in
    record {
      rows = refl;
      sound = sound_own (sheet_of rows c.args.equations.now) _ c.own.result.of (λ p h. let w = few rows in c.own.ensures p (omega arith));
      sides = λ k h. absurd (omega arith);
    }

pub loop-e-preserved : goal.loop-e-preserved
loop-e-preserved c =
    let rows = c.args.rows.now in
    let s = sheet_of rows c.args.equations.now in
    let n = length s.rows in
    let I = coherent_at_hand c.requires in
    let k = c.loop-e.classing.classes in
    let i = c.loop-e.e-index in
    let e = equation_of (get_or c.as_slice-e-items.result.now i (record { left = 0; right = 0 })) in
    let f = found c.args.equations.now c.as_slice-e-items.result.now c.as_slice-e-items.ensures i c.loop-e-test.true in
    let r = c.loop-e.invariant.rows in
    let m = sym (merged_as (rows_of c.loop-e.classing.rows.now.items) k.of _ _ _ e.left e.right c.merge.ensures.classes (search (rules, tests)) (search (rules, tests)) ∙ ap (λ (z : Rows). merged (rows_of z.items) k.of e.left e.right) r) in
    record {
      rows = ap (λ (z : Bor Rows). z.now) c.merge.ensures.rows ∙ r;
      sound = subst (λ (z : List ℕ). Sound s n z) m (sound_more I n refl k.of (long rows k) i e f c.loop-e.invariant.sound);
      sides = subst (λ (z : List ℕ). SidesTo s (i + 1) z) m (sides_more I n refl k.of (long rows k) i e f c.loop-e.invariant.sides);
    }

pub merge-requires : goal.merge-requires
merge-requires c =
    let rows = c.args.rows.now in
    let I = coherent_at_hand c.requires in
    let k = c.loop-e.classing.classes in
    let f = found c.args.equations.now c.as_slice-e-items.result.now c.as_slice-e-items.ensures c.loop-e.e-index c.loop-e-test.true in
    let r = sym c.loop-e.invariant.rows in
    let e = get_or c.as_slice-e-items.result.now c.loop-e.e-index (record { left = 0; right = 0 }) in
    let left : e.left < length (rows_of c.loop-e.classing.rows.now.items) = subst (λ (z : Rows). e.left < length (rows_of z.items)) r (left_row I _ refl k.of (long rows k) c.loop-e.e-index _ f) in
    let right : e.right < length (rows_of c.loop-e.classing.rows.now.items) = subst (λ (z : Rows). e.right < length (rows_of z.items)) r (right_row I _ refl k.of (long rows k) c.loop-e.e-index _ f) in
    record {
      left = search (rules, tests, left);
      right = search (rules, tests, right);
    }

pub invariant_of-result : goal.invariant_of-result
invariant_of-result c =
    let equations = c.args.equations.now in
    let s = sheet_of c.args.rows.now equations in
    let k = c.loop-e.classing.classes.of in
    let r = sym c.loop-e.invariant.rows in
    let l = length-map (entries equations) equation_of in
    let n = ap length c.as_slice-e-items.ensures in
    record {
      coherent = subst (λ (z : Rows). ∥ IsCoherent (sheet_of z equations) ∥₁) r c.requires;
      sound = subst (λ (z : Rows). Sound (sheet_of z equations) (length (rows_of z.items)) k) r c.loop-e.invariant.sound;
      sides = subst (λ (z : Rows). Sides (sheet_of z equations) k) r (sides_all s k (λ i h. c.loop-e.invariant.sides i (omega arith)));
    }

pub returns-clause-rows : goal.returns-clause-rows
returns-clause-rows c = c.loop-e.invariant.rows
