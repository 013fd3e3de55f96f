use Rattle.std.specs.Prelude.{ℕ, List, [], ◌∷◌, codes, Option, slice_index_or}
use Rattle.vocabulary.specs.Words.{known}

-- The eight words' names, in the order of their numbers.
abbrev pub eight_names : List (List ℕ)
eight_names =
    codes "status"
    ∷ codes "paused"
    ∷ codes "suspended"
    ∷ codes "ended"
    ∷ codes "grid"
    ∷ codes "mains"
    ∷ codes "driver"
    ∷ codes "c2"
    ∷ []

-- How a number is spelled: each of the eight words by its name, and nothing else.
abbrev pub eight_spellings : ℕ → Option (List ℕ)
eight_spellings = known 8 (λ f. slice_index_or eight_names f [])
