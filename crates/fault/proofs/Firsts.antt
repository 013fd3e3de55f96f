-- A first violation is the only one, and there is none where nothing is violated.
use Rattle.std.proofs.Common.{◌≡◌, ℕ, sym, subst, inl, inr}
use Rattle.std.proofs.lemmas.Bool.{cases_order}
use Rattle.fault.specs.Firsts.{Below, All2, All3, First1, First2, First3}

-- Of two numbers, each with all before it good and itself bad, none is lower.
meet : (P : ℕ → Type 0) (i k : ℕ) → (P i → ⊥) → Below i P → (P k → ⊥) → Below k P → i ≡ k
meet P i k bad before bad' before' =
    elim (cases_order i k) [
      | inl e ↦ e
      | inr (inl lt) ↦ absurd (bad (before' i lt))
      | inr (inr gt) ↦ absurd (bad' (before k gt))
    ]

pub first1_only : (n : ℕ) (P : ℕ → Type 0) (i k : ℕ) → First1 n P i → First1 n P k → i ≡ k
first1_only n P i k a b = meet P i k a.fails a.before b.fails b.before

pub first1_none : (n : ℕ) (P : ℕ → Type 0) (i : ℕ) → Below n P → First1 n P i → ⊥
first1_none n P i all a = a.fails (all i a.within)

pub first2_only : (n : ℕ) (P : ℕ → ℕ → Type 0) (i j k l : ℕ) → First2 n P i j → First2 n P k l → (i ≡ k) × (j ≡ l)
first2_only n P i j k l a b =
    let e : i ≡ k =
    meet (λ r. Below n (P r)) i k (λ all. a.fails (all j a.column)) a.rows (λ all. b.fails (all l b.column)) b.rows in
    let b' = subst (λ (r : ℕ). First2 n P r l) (sym e) b in
    (e, meet (P i) j l a.fails a.columns b'.fails b'.columns)

pub first2_none : (n : ℕ) (P : ℕ → ℕ → Type 0) (i j : ℕ) → All2 n P → First2 n P i j → ⊥
first2_none n P i j all a = a.fails (all i a.row j a.column)

pub first3_only : (n : ℕ) (P : ℕ → ℕ → ℕ → Type 0) (i j k a b c : ℕ) → First3 n P i j k → First3 n P a b c → (i ≡ a) × (j ≡ b) × (k ≡ c)
first3_only n P i j k a b c x y =
    let e : i ≡ a =
    meet (λ r. All2 n (P r)) i a (λ all. x.fails (all j x.second k x.third)) x.firsts
    (λ all. y.fails (all b y.second c y.third)) y.firsts in
    let y' = subst (λ (r : ℕ). First3 n P r b c) (sym e) y in
    let f : j ≡ b =
    meet (λ r. Below n (P i r)) j b (λ all. x.fails (all k x.third)) x.seconds
    (λ all. y'.fails (all c y'.third)) y'.seconds in
    let y'' = subst (λ (r : ℕ). First3 n P i r c) (sym f) y' in
    (e, f, meet (P i j) k c x.fails x.thirds y''.fails y''.thirds)

pub first3_none : (n : ℕ) (P : ℕ → ℕ → ℕ → Type 0) (i j k : ℕ) → All3 n P → First3 n P i j k → ⊥
first3_none n P i j k all a = a.fails (all i a.first j a.second k a.third)
