use Rattle.std.specs.Prelude.{ℕ, ◌<◌}

-- P holds of every number below n.
abbrev pub Below : ℕ → (ℕ → Type 0) → Type 0
Below n P = (k : ℕ) → k < n → P k

-- P holds of every pair of numbers below n.
abbrev pub All2 : ℕ → (ℕ → ℕ → Type 0) → Type 0
All2 n P = Below n (λ i. Below n (P i))

-- P holds of every three numbers below n.
abbrev pub All3 : ℕ → (ℕ → ℕ → ℕ → Type 0) → Type 0
All3 n P = Below n (λ i. All2 n (P i))

-- i is the first number below n of which P fails.
pub record First1 (n : ℕ) (P : ℕ → Type 0) (i : ℕ) : Type 0 where
  pub within : i < n
  pub fails : P i → ⊥
  pub before : Below i P

-- i and j are the first pair below n of which P fails: the lowest i, and for it the lowest j.
pub record First2 (n : ℕ) (P : ℕ → ℕ → Type 0) (i j : ℕ) : Type 0 where
  pub row : i < n
  pub column : j < n
  pub fails : P i j → ⊥
  pub rows : Below i (λ a. Below n (P a))
  pub columns : Below j (P i)

-- i, j and k are the first three below n of which P fails: the lowest i, for it the lowest j, for both the lowest k.
pub record First3 (n : ℕ) (P : ℕ → ℕ → ℕ → Type 0) (i j k : ℕ) : Type 0 where
  pub first : i < n
  pub second : j < n
  pub third : k < n
  pub fails : P i j k → ⊥
  pub firsts : Below i (λ a. All2 n (P a))
  pub seconds : Below j (λ b. Below n (P i b))
  pub thirds : Below k (P i j)
