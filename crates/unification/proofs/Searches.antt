-- Searches among the numbers below a bound, sums and greatest values over them, and the pigeonhole.
use Rattle.std.proofs.Common.{◌≡◌, ℕ, zero, suc, ◌+◌, ◌<◌, ◌≤◌, max, Bool, true, cond, ◌&&◌, eqb, ◌⊎◌, sym, refl, ◌∙◌, ap₂, inl, inr, arith}
use Rattle.std.proofs.lemmas.Bool.{and_parts, cases_eq, eq-eqb, ne_eqb}
use Rattle.fault.specs.Firsts.{Below}

-- What holds below k and of k holds below the next.
pub below_suc : (P : ℕ → Type 0) (k : ℕ) → Below k P → P k → Below (suc k) P
below_suc P k h e i l =
    elim (cases_eq i k) [
      | inl q ↦ rw q e
      | inr n ↦ h i (omega arith)
    ]

-- Where of each number one of two things holds: either the first of some, or the second of all.
pub search_below : (P Q : ℕ → Type 0) (n : ℕ) → Below n (λ k. P k ⊎ Q k) → ((k : ℕ) × (k < n) × P k) ⊎ Below n Q
search_below P Q zero h = inr (λ k l. absurd (omega arith))
search_below P Q (suc n) h = go (search_below P Q n (λ k l. h k (omega arith))) (h n (omega arith))
  where
    go : ((k : ℕ) × (k < n) × P k) ⊎ Below n Q → P n ⊎ Q n → ((k : ℕ) × (k < suc n) × P k) ⊎ Below (suc n) Q
    go (inl m) e = let b = m.1 in inl (m.0, omega arith, m.2)
    go (inr b) (inl e) = inl (n, omega arith, e)
    go (inr b) (inr e) = inr (below_suc Q n b e)

-- The first of which P holds, or that it holds of none.
pub first_below : (P : ℕ → Type 0) → ((k : ℕ) → Dec (P k)) → (n : ℕ) → ((k : ℕ) × (k < n) × P k × Below k (λ i. ¬ P i)) ⊎ Below n (λ i. ¬ P i)
first_below P d zero = inr (λ k l. absurd (omega arith))
first_below P d (suc n) = go (first_below P d n) (d n)
  where
    go : ((k : ℕ) × (k < n) × P k × Below k (λ i. ¬ P i)) ⊎ Below n (λ i. ¬ P i) → Dec (P n) → ((k : ℕ) × (k < suc n) × P k × Below k (λ i. ¬ P i)) ⊎ Below (suc n) (λ i. ¬ P i)
    go (inl m) e = let b = m.1 in inl (m.0, omega arith, m.2, m.3)
    go (inr b) (yes e) = inl (n, omega arith, e, b)
    go (inr b) (no e) = inr (below_suc (λ i. ¬ P i) n b e)

-- Whether a test holds of every number below n.
abbrev pub every : ℕ → (ℕ → Bool) → Bool
every zero t = true
every (suc n) t = t n && every n t

pub every_below : (n : ℕ) (t : ℕ → Bool) → every n t ≡ true → Below n (λ k. t k ≡ true)
every_below zero t e k l = absurd (omega arith)
every_below (suc n) t e k l =
    let p = and_parts (t n) (every n t) e in
    elim (cases_eq k n) [
      | inl q ↦ rw q p.0
      | inr m ↦ every_below n t p.1 k (omega arith)
    ]

-- The sum of f below n, which falls with f.
abbrev pub sum : ℕ → (ℕ → ℕ) → ℕ
sum zero f = 0
sum (suc n) f = f n + sum n f

sum_le : (n : ℕ) (f g : ℕ → ℕ) → Below n (λ k. f k ≤ g k) → sum n f ≤ sum n g
sum_le zero f g h = omega arith
sum_le (suc n) f g h = let a = h n (omega arith) in let b = sum_le n f g (λ k l. h k (omega arith)) in omega arith

pub sum_lt : (n : ℕ) (f g : ℕ → ℕ) → Below n (λ k. f k ≤ g k) → (k : ℕ) → k < n → f k < g k → sum n f < sum n g
sum_lt zero f g h k l e = absurd (omega arith)
sum_lt (suc n) f g h k l e =
    elim (cases_eq k n) [
      | inl q ↦ let a : f n < g n = rw q at e in let b = sum_le n f g (λ k l. h k (omega arith)) in omega arith
      | inr m ↦ let a = h n (omega arith) in let b = sum_lt n f g (λ k l. h k (omega arith)) k (omega arith) e in omega arith
    ]

-- The greatest value of f below n; 0 for none.
abbrev pub greatest : ℕ → (ℕ → ℕ) → ℕ
greatest zero f = 0
greatest (suc n) f = max (f n) (greatest n f)

pub greatest_at : (n : ℕ) (f : ℕ → ℕ) → Below n (λ k. f k ≤ greatest n f)
greatest_at zero f k l = absurd (omega arith)
greatest_at (suc n) f k l =
    elim (cases_eq k n) [
      | inl q ↦ rw q (omega arith)
      | inr m ↦ let a = greatest_at n f k (omega arith) in omega arith
    ]

pub greatest_below : (n : ℕ) (f : ℕ → ℕ) (b : ℕ) → Below n (λ k. f k ≤ b) → greatest n f ≤ b
greatest_below zero f b h = omega arith
greatest_below (suc n) f b h = let a = h n (omega arith) in let c = greatest_below n f b (λ k l. h k (omega arith)) in omega arith

pub greatest_same : (n : ℕ) (f g : ℕ → ℕ) → Below n (λ k. f k ≡ g k) → greatest n f ≡ greatest n g
greatest_same zero f g h = refl
greatest_same (suc n) f g h = ap₂ max (h n (omega arith)) (greatest_same n f g (λ k l. h k (omega arith)))

-- A greatest value above 0 is the value somewhere.
pub greatest_found : (n : ℕ) (f : ℕ → ℕ) → 0 < greatest n f → (k : ℕ) × (k < n) × (f k ≡ greatest n f)
greatest_found zero f h = absurd (omega arith)
greatest_found (suc n) f h =
    elim (cases_eq (f n) (greatest (suc n) f)) [
      | inl e ↦ (n, omega arith, e)
      | inr m ↦
          let a : greatest n f ≡ greatest (suc n) f = omega arith in
          let b = greatest_found n f (omega arith) in let c = b.1 in (b.0, omega arith, b.2 ∙ a)
    ]

-- The value n gives way to another.
abbrev moved : (n last : ℕ) → ℕ → ℕ
moved n last x = cond (eqb x n) last x

moved_less : (n last x : ℕ) → last ≤ n → x ≤ n → (x ≡ last → ⊥) → moved n last x < n
moved_less n last x b c m =
    elim (cases_eq x n) [
      | inl e ↦ rw (eq-eqb x n e) (let k : last ≡ n → ⊥ = λ q. m (e ∙ sym q) in omega arith)
      | inr k ↦ rw (ne_eqb x n k) (omega arith)
    ]

moved_same : (n last x y : ℕ) → (x ≡ last → ⊥) → (y ≡ last → ⊥) → moved n last x ≡ moved n last y → x ≡ y
moved_same n last x y a b e = go (cases_eq x n) (cases_eq y n)
  where
    go : (x ≡ n) ⊎ (x ≡ n → ⊥) → (y ≡ n) ⊎ (y ≡ n → ⊥) → x ≡ y
    go (inl p) (inl q) = p ∙ sym q
    go (inl p) (inr k) = let z = rw (eq-eqb x n p, ne_eqb y n k) at e in absurd (b (sym z))
    go (inr k) (inl q) = let z = rw (ne_eqb x n k, eq-eqb y n q) at e in absurd (a z)
    go (inr k) (inr l) = rw (ne_eqb x n k, ne_eqb y n l) at e

-- Of n + 1 numbers below n two are equal.
pub pigeonhole : (n : ℕ) (f : ℕ → ℕ) → Below (suc n) (λ i. f i < n) → (i : ℕ) × (j : ℕ) × (i < j) × (j ≤ n) × (f i ≡ f j)
pigeonhole zero f h = let a = h 0 (omega arith) in absurd (omega arith)
pigeonhole (suc n) f h =
    elim (search_below (λ i. f i ≡ f (suc n)) (λ i. f i ≡ f (suc n) → ⊥) (suc n) (λ i l. cases_eq (f i) (f (suc n)))) [
      | inl m ↦ (m.0, suc n, m.1, omega arith, m.2)
      | inr other ↦
          let last = h (suc n) (omega arith) in
          let r = pigeonhole n (λ i. moved n (f (suc n)) (f i)) (λ i l. let a = h i (omega arith) in moved_less n (f (suc n)) (f i) (omega arith) (omega arith) (other i l)) in
          let a = r.2 in
          let b = r.3 in
          (r.0, r.1, r.2, omega arith, moved_same n (f (suc n)) (f r.0) (f r.1) (other r.0 (omega arith)) (other r.1 (omega arith)) r.4)
    ]
