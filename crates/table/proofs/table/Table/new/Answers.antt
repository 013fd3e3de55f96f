use Rattle.std.proofs.Common.{◌≡◌, List, [], map, length, sym, ap, ◌∙◌, subst, arith}
use Rattle.table.proofs.Fresh.{fresh_depth, fresh_represents}
use Rattle.table.proofs.table.Table.new.Goals as goal
use Rattle.table.specs.Sheets.{sheet_of}
use Rattle.rows.specs.Stored.{at, depth_at, equation_of, equations_of}
use Rattle.rows.specs.declared.equations.Equation.{Equation}
use Rattle.unification.proofs.Bridges.{fresh_coherent}
use Rattle.unification.specs.Closures.{IsDepth}
use Rattle.unification.specs.Sheets as theory
use Rattle.unification.specs.Sheets.{Sheet, IsCoherent, fresh}
use Rattle.unification.specs.Tables.{Represents}

pub invariant_of-result : goal.invariant_of-result
invariant_of-result c =
    let b = c.new.result in
    let e : fresh ≡ sheet_of c.none.result b =
    sym (ap (λ (r : List theory.Row). record { rows = r; equations = equations_of b }) c.none.ensures ∙ ap (λ (l : List Equation). record { rows = []; equations = map equation_of l }) c.new.ensures) in
    let l = ap length c.none.ensures in
    record {
      coherent = subst (λ (s : Sheet). ∥ IsCoherent s ∥₁) e ∣ fresh_coherent ∣₁;
      represents = subst (λ (s : Sheet). ∥ Represents s (at c.zeros.result.of) ∥₁) e ∣ fresh_represents (at c.zeros.result.of) ∣₁;
      falls = subst (λ (s : Sheet). IsDepth s (depth_at c.zeros.result.of c.zeros-2.result.of)) e (fresh_depth (depth_at c.zeros.result.of c.zeros-2.result.of));
      within = λ p h. absurd (omega arith);
      shallow = λ p h. absurd (omega arith);
    }
