-- What merely holds of a sheet and its representatives, and is at hand all the same.
use mathlib.Core.HLevel.{×_prop}
use mathlib.Core.Logic.{∥∥₁_elim, ∥∥₁_map}
use Rattle.std.proofs.Common.{ℕ}
use native.Mathlib.Bridge.{le_prop}
use native.Mathlib.Nat.{ℕ_set}
use Rattle.unification.proofs.Numberings.{at_hand}
use Rattle.unification.specs.Sheets.{Sheet, IsCoherent}
use Rattle.unification.specs.Tables.{Represents}

pub coherent_at_hand : {s : Sheet} → ∥ IsCoherent s ∥₁ → IsCoherent s
coherent_at_hand t =
    record {
      label = λ p x h. ∥∥₁_elim t le_prop (λ I. I.label p x h);
      once = λ p q x h k. ∥∥₁_elim t (ℕ_set _ _) (λ I. I.once p q x h k);
      lower = λ p f xs h i hi. ∥∥₁_elim t le_prop (λ I. I.lower p f xs h i hi);
      within = λ e m. ∥∥₁_elim t (×_prop le_prop le_prop) (λ I. I.within e m);
    }

pub represents_at_hand : {s : Sheet} → IsCoherent s → {of : ℕ → ℕ} → ∥ Represents s of ∥₁ → Represents s of
represents_at_hand I t p hp =
    record {
      together = at_hand I (∥∥₁_map t (λ R. (R p hp).together));
      kindest = λ r c. ∥∥₁_elim t le_prop (λ R. (R p hp).kindest r c);
      lowest = λ r c e. ∥∥₁_elim t le_prop (λ R. (R p hp).lowest r c e);
    }
