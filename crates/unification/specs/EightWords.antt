use Rattle.std.specs.Prelude.{ℕ, min, cond, List, [], ◌∷◌, nat_lt, slice_index, slice_index_or}
use Rattle.std.proofs.Math.Nat.{min-le_right}
use Rattle.scale.specs.declared.mark.Mark.{Mark}
use Rattle.vocabulary.specs.Words.{Words}

-- Eight words, numbered from 0: status, paused, suspended, ended, grid, mains, driver and c2.

-- How many arguments each takes.
abbrev pub eight_arities : List ℕ
eight_arities = 2 ∷ 1 ∷ 1 ∷ 1 ∷ 0 ∷ 0 ∷ 0 ∷ 0 ∷ []

-- How much each is alike to each, in marks: paused and suspended at 800, each of them to ended at 300, grid and mains at 900.
abbrev pub eight_marks : List (List ℕ)
eight_marks =
    (1000 ∷ 0 ∷ 0 ∷ 0 ∷ 0 ∷ 0 ∷ 0 ∷ 0 ∷ [])
    ∷ (0 ∷ 1000 ∷ 800 ∷ 300 ∷ 0 ∷ 0 ∷ 0 ∷ 0 ∷ [])
    ∷ (0 ∷ 800 ∷ 1000 ∷ 300 ∷ 0 ∷ 0 ∷ 0 ∷ 0 ∷ [])
    ∷ (0 ∷ 300 ∷ 300 ∷ 1000 ∷ 0 ∷ 0 ∷ 0 ∷ 0 ∷ [])
    ∷ (0 ∷ 0 ∷ 0 ∷ 0 ∷ 1000 ∷ 900 ∷ 0 ∷ 0 ∷ [])
    ∷ (0 ∷ 0 ∷ 0 ∷ 0 ∷ 900 ∷ 1000 ∷ 0 ∷ 0 ∷ [])
    ∷ (0 ∷ 0 ∷ 0 ∷ 0 ∷ 0 ∷ 0 ∷ 1000 ∷ 0 ∷ [])
    ∷ (0 ∷ 0 ∷ 0 ∷ 0 ∷ 0 ∷ 0 ∷ 0 ∷ 1000 ∷ [])
    ∷ []

-- The entry of the table for two numbers; 0 where one is no word.
abbrev pub eight_mark : ℕ → ℕ → ℕ
eight_mark f g = cond (nat_lt f 8) (cond (nat_lt g 8) (slice_index (slice_index_or eight_marks f []) g) 0) 0

-- The eight words as a vocabulary over marks.
abbrev pub eight_words : Words Mark
eight_words =
    record {
      count = 8;
      arity = λ f. slice_index eight_arities f;
      likeness = λ f g. record { value = min (eight_mark f g) 1000; ok = min-le_right (eight_mark f g) 1000 };
    }
