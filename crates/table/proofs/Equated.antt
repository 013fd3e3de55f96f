-- A table with one more equation: its classes and depths.
use Rattle.std.proofs.Common.{◌≡◌, ℕ, ◌<◌, List, [], ◌∷◌, ◌++◌, map, length, ap, ◌∙◌}
use Rattle.std.proofs.lemmas.List.{map_push}
use Rattle.lists.specs.Entries.{entries}
use Rattle.fault.specs.Firsts.{Below}
use Rattle.table.proofs.Deeps.{stuck_cycle}
use Rattle.table.proofs.Facts.{Facts}
use Rattle.table.proofs.Hands.{coherent_at_hand}
use Rattle.table.proofs.Kept.{deep_from, facts_from, within_from}
use Rattle.table.specs.Deepening.{Settled, Stuck}
use Rattle.table.specs.Equating.{Between, Deep}
use Rattle.table.specs.Joining.{Uniform}
use Rattle.table.specs.Sheets.{sheet_of}
use Rattle.rows.specs.Stored.{Equations, at, equation_of, rows_of}
use Rattle.rows.specs.declared.equations.Equation.{Equation}
use Rattle.table.specs.declared.table.Table.{Table}
use Rattle.unification.proofs.Bridges.{equated_coherent}
use Rattle.unification.specs.Closures.{Cycle}
use Rattle.unification.specs.Sheets as theory
use Rattle.unification.specs.Sheets.{Sheet, IsCoherent, equated}
use Rattle.unification.specs.Tables.{Represents}

-- The sheet after the equation was put down.
pub put_down : (t : Table) (e : Equation) (u : Equations) → entries u ≡ entries t.equations ++ (e ∷ []) → sheet_of t.rows u ≡ equated (sheet_of t.rows t.equations) (equation_of e)
put_down t e u h =
    ap (λ (l : List theory.Equation). record { rows = rows_of t.rows.items; equations = l })
    (ap (map equation_of) h ∙ map_push equation_of (entries t.equations) e)

module _ (t : Table) (e : Equation) (b : Between (sheet_of t.rows t.equations) (equation_of e)) where
  abbrev pub after : Sheet
  after = equated (sheet_of t.rows t.equations) (equation_of e)

  pub coherent_after : IsCoherent after
  coherent_after = equated_coherent (coherent_at_hand t.coherent) (equation_of e) b.0 b.1

  module _ (c : List ℕ) (R : Represents after (at c)) where
    pub within_after : Below (length after.rows) (λ p. at c p < length after.rows)
    within_after = within_from coherent_after c R

    pub deep_after : (d : List ℕ) → Uniform after.rows (length after.rows) c → Settled after.rows (length after.rows) c d → Deep after c d
    deep_after = deep_from coherent_after c R

    pub cycle_after : (p : ℕ) → Stuck after.rows (length after.rows) c p → Cycle after
    cycle_after = stuck_cycle coherent_after c R

    pub facts_after : (d : List ℕ) → Deep after c d → Facts after c d
    facts_after = facts_from coherent_after c R
