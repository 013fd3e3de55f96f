use Rattle.std.specs.Prelude.{ℕ, zero, suc, List, [], ◌∷◌, ◌++◌}
use Rattle.vocabulary.specs.Words.{Words}

-- The values of a function at 0, 1 and so on, n of them.
abbrev pub first_of : ℕ → (ℕ → ℕ) → List ℕ
first_of zero of = []
first_of (suc n) of = first_of n of ++ (of n ∷ [])

-- The arities of a vocabulary's words, in the order of their numbers.
abbrev pub arities_of : {D : Type 0} → Words D → List ℕ
arities_of V = first_of V.count V.arity
