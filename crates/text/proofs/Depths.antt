-- The counts of brackets, one byte on.
use Rattle.std.proofs.Common.{◌≡◌, ℕ, ◌+◌, ◌<◌, eqb, List, length, get_or, take, eq-eqb, ne_eqb}
use Rattle.std.proofs.lemmas.List.Sums.{count_by_more_yes, count_by_more_no}
use Rattle.text.specs.Brackets.{often}

module _ (text : List ℕ) (i : ℕ) (h : i < length text) (b : ℕ) where
  pub one_more : get_or text i 0 ≡ b → often b (take (i + 1) text) ≡ often b (take i text) + 1
  one_more e = count_by_more_yes (λ x. eqb x b) text i 0 h (eq-eqb (get_or text i 0) b e)

  pub no_more : (get_or text i 0 ≡ b → ⊥) → often b (take (i + 1) text) ≡ often b (take i text)
  no_more e = count_by_more_no (λ x. eqb x b) text i 0 h (ne_eqb (get_or text i 0) b e)
