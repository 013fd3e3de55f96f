-- What is known of a number, where it is a word and where it is none.
use Rattle.std.proofs.Common.{◌≡◌, ℕ, ◌<◌, ◌≤◌, ltb, Some, None, inl, inr, arith}
use Rattle.std.proofs.lemmas.Bool.{cases_lt, cond-false, cond-true, le-ltb, lt-ltb}
use Rattle.vocabulary.specs.Words.{known}

module _ {X : Type 0} (n : ℕ) (of : ℕ → X) where
  pub known_word : (f : ℕ) → f < n → known n of f ≡ Some (of f)
  known_word f h = cond-true (ltb f n) _ _ (lt-ltb f n h)

  pub known_none : (f : ℕ) → n ≤ f → known n of f ≡ None
  known_none f h = cond-false (ltb f n) _ _ (le-ltb f n h)

  -- Only of a word something is known, and that is what its number has.
  pub known_some : (f : ℕ) (x : X) → known n of f ≡ Some x → (f < n) × (of f ≡ x)
  known_some f x e =
      elim (cases_lt f n) [
        | inl h ↦ let k = known_word f h in (h, let same : of f ≡ x = cc in same)
        | inr h ↦ let k = known_none f h in let z : ◌≡◌ {A = ℕ} 0 1 = cc in absurd (omega arith)
      ]
