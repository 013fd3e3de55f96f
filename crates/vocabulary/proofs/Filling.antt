-- A list that is filled from its front, and is 0 behind.
use Rattle.std.proofs.Common.{◌≡◌, ℕ, zero, suc, ◌≤◌, List, get_or, replicate, refl, arith}
use Rattle.fault.specs.Firsts.{Below}

pub zeros : (n k : ℕ) → ◌≡◌ {A = ℕ} (get_or (replicate n 0) k 0) 0
zeros zero k = refl
zeros (suc n) zero = refl
zeros (suc n) (suc k) = zeros n k

-- The first i entries are what `of` says, and the others are 0.
pub record Filled (xs : List ℕ) (i : ℕ) (of : ℕ → ℕ) : Type 0 where
  pub front : Below i (λ k. get_or xs k 0 ≡ of k)
  pub rest : (k : ℕ) → i ≤ k → get_or xs k 0 ≡ 0

pub filled_none : (n : ℕ) (of : ℕ → ℕ) → Filled (replicate n 0) 0 of
filled_none n of = record { front = λ k h. absurd (omega arith); rest = λ k h. zeros n k }
