-- What a table keeps of a sheet, from its classes and depths.
use Rattle.std.proofs.Common.{ℕ, ◌<◌, List, length}
use Rattle.fault.specs.Firsts.{Below}
use Rattle.table.proofs.Deeps.{settled_depth}
use Rattle.table.proofs.Facts.{Facts}
use Rattle.table.specs.Deepening.{Settled}
use Rattle.table.specs.Equating.{Deep}
use Rattle.table.specs.Joining.{Uniform}
use Rattle.rows.specs.Stored.{at}
use Rattle.unification.proofs.Depths.{closure_rows}
use Rattle.unification.specs.Sheets.{Sheet, IsCoherent}
use Rattle.unification.specs.Tables.{Represents}

module _ {s : Sheet} (I : IsCoherent s) (c : List ℕ) (R : Represents s (at c)) where
  pub within_from : Below (length s.rows) (λ p. at c p < length s.rows)
  within_from p h = (closure_rows I (R p h).together).0 h

  pub deep_from : (d : List ℕ) → Uniform s.rows (length s.rows) c → Settled s.rows (length s.rows) c d → Deep s c d
  deep_from d U S =
      record {
        falls = settled_depth I c R d U S;
        bound = λ p h. S.bound (at c p) (within_from p h);
      }

  pub facts_from : (d : List ℕ) → Deep s c d → Facts s c d
  facts_from d D = record { coherent = ∣ I ∣₁; represents = ∣ R ∣₁; falls = D.falls; within = within_from; shallow = D.bound }
