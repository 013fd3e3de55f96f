use Rattle.std.specs.Prelude.{ℕ, List, Some, None, Option}
use Rattle.layout.specs.Places.{arity_at, code_of, count_of}
use Rattle.scale.specs.Scales.{Operations}
use Rattle.std.specs.Option.{unwrap_or}
use Rattle.vocabulary.specs.Words.{Words}

-- The degree that a number, if there is one, is the code of, if it is.
abbrev pub decoded_if : {D : Type 0} → Operations D → Option ℕ → Option D
decoded_if S None = None
decoded_if S (Some n) = S.decoded n

-- The degree that the table has for two words; nothing where one of them is no word, or the table's number is no code.
abbrev pub degree_at : {D : Type 0} → Operations D → List ℕ → ℕ → ℕ → Option D
degree_at S B i j = decoded_if S (code_of B i j)

-- At what degree two numbers are alike: what the table has for them, and bottom where it has nothing.
unfoldable pub likeness_of : {D : Type 0} → Operations D → List ℕ → ℕ → ℕ → D
likeness_of S B i j = unwrap_or (degree_at S B i j) S.bottom

-- What a book says of its words.
abbrev pub words_of : {D : Type 0} → Operations D → List ℕ → Words D
words_of S B = record { count = count_of B; arity = arity_at B; likeness = likeness_of S B }
