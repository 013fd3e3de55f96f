-- The front of a list that has the arities of all words is the list of these arities.
use Rattle.std.proofs.Common.{◌≡◌, ℕ, zero, suc, ◌-◌, ◌≤◌, List, [], ◌∷◌, ◌++◌, length, get_or, take, refl, ap, ◌∙◌, arith, take-suc}
use native.Mathlib.Nat.{sub-zero}
use Rattle.fault.specs.Firsts.{Below}
use Rattle.report.specs.Texts.{arity_list}

listed : (xs : List ℕ) (arity : ℕ → ℕ) (n : ℕ) → n ≤ length xs → Below n (λ k. get_or xs k 0 ≡ arity k) → take n xs ≡ arity_list n arity
unfolding arity_list
listed xs arity zero h places = refl
listed xs arity (suc n) h places =
    take-suc xs n 0 (omega arith) ∙
    (λ i. listed xs arity n (omega arith) (λ k l. places k (omega arith)) i ++ (places n (omega arith) i ∷ []))

pub arities_listed : (xs : List ℕ) (arity : ℕ → ℕ) (m n : ℕ) → m ≡ n → n ≤ length xs → Below n (λ k. get_or xs k 0 ≡ arity k) → take (m - 0) xs ≡ arity_list n arity
arities_listed xs arity m n e h places =
    ap (λ (k : ℕ). take k xs) (sub-zero m ∙ e) ∙ listed xs arity n h places
