use Rattle.std.proofs.Common.{◌≡◌, ℕ, ◌<◌, List, length, sym, ap, ◌∙◌, subst, arith}
use denote.Bor.{Bor}
use Rattle.std.proofs.lemmas.List.{length-map}
use Rattle.lists.specs.Entries.{entries}
use Rattle.rows.proofs.Places.{few, long}
use Rattle.rows.specs.Stored.{Equations, at, equation_of, rows_of}
use Rattle.rows.specs.declared.equations.Equation.{Equation}
use Rattle.rows.specs.declared.rows.Rows.{Rows}
use Rattle.table.proofs.Equated.{put_down}
use Rattle.table.proofs.Hands.{coherent_at_hand, represents_at_hand}
use Rattle.table.proofs.Joins.{sides_equated, sound_joined}
use Rattle.table.proofs.table.Table.join.Goals as goal
use Rattle.table.specs.Joining.{Sides, Sound, Uniform, merged}
use Rattle.table.specs.Sheets.{sheet_of}
use Rattle.table.specs.declared.table.Table.{Table}
use Rattle.unification.proofs.Bridges.{equated_coherent}
use Rattle.unification.specs.Sheets.{Sheet, IsCoherent, equated}
use Rattle.unification.specs.Tables.{Represents}

-- What fits a sheet of the table's rows with one more equation, where the rows and the equations go by other names.
record Fits (s : Sheet) (k : List ℕ) : Type 0 where
  coherent : ∥ IsCoherent s ∥₁
  sound : Sound s (length s.rows) k
  sides : Sides s k

-- The table's classes, joined by an equation between rows, fit the sheet with that equation.
fits : (t : Table) (e : Equation) → e.left < length (rows_of t.rows.items) → e.right < length (rows_of t.rows.items) → Fits (equated (sheet_of t.rows t.equations) (equation_of e)) (merged (rows_of t.rows.items) t.classes.of e.left e.right)
fits t e hl hr =
    let I = coherent_at_hand t.coherent in
    let R = represents_at_hand I t.represents in
    let l = long t.rows t.classes in
    record {
      coherent = ∣ equated_coherent I (equation_of e) hl hr ∣₁;
      sound = sound_joined I t.classes.of R (equation_of e) (few t.rows) l hl hr;
      sides = sides_equated I t.classes.of R (equation_of e) (few t.rows) l hl hr;
    }

moved : (t : Table) (e : Equation) (u : Equations) → sheet_of t.rows u ≡ equated (sheet_of t.rows t.equations) (equation_of e) → (rows : Rows) → rows ≡ t.rows → (k m : List ℕ) → k ≡ m → Fits (equated (sheet_of t.rows t.equations) (equation_of e)) m → Fits (sheet_of rows u) k
moved t e u i rows r k m j f =
    subst (λ (z : Rows). Fits (sheet_of z u) k) (sym r) (subst (λ (z : List ℕ). Fits (sheet_of t.rows u) z) (sym j) (subst (λ (z : Sheet). Fits z m) (sym i) f))

pub invariant_of-closing : goal.invariant_of-closing
invariant_of-closing c =
    let t = c.args.self.now in
    let e = c.args.e in
    let f =
    moved t e c.push.new.self (put_down t e c.push.new.self c.push.ensures) c.merge.new.self.rows.now (ap (λ (z : Bor Rows). z.now) c.merge.ensures.rows) c.merge.new.self.classes.of _ c.merge.ensures.classes
    (fits t e (omega arith) (omega arith)) in
    record { coherent = f.coherent; sound = f.sound; sides = f.sides }

pub returns : goal.returns
returns c =
    let t = c.args.self.now in
    let u = c.push.new.self in
    let k = c.in_ok-classes.classes.of in
    let i = ap (λ (z : Bor Rows). sheet_of z.now u) c.merge.ensures.rows ∙ put_down t c.args.e u c.push.ensures in
    let h = subst (λ (s : Sheet). Represents s (at k) × Uniform s.rows (length s.rows) k) i c.in_ok-classes.ensures in
    let l = length-map (entries t.equations) equation_of in
    ((omega arith, omega arith), omega arith, h.0, h.1)
