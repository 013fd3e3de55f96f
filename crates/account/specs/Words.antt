use Rattle.std.specs.Prelude.{ℕ, cond, ◌||◌, List, [], ◌++◌, Some, None, codes, decimal, Option, ◌==◌}
use Rattle.scale.specs.Scales.{Operations}
use Rattle.vocabulary.specs.Words.{Words, known}
use Rattle.scale.specs.Told.{listing}
use Rattle.account.specs.Names.{name_of}

-- What is told of a number of arguments, if it is known.
abbrev pub arguments_text : Option ℕ → List ℕ
arguments_text (Some n) = codes ", arguments: " ++ (decimal n ++ codes "\n")
arguments_text None = codes ", no word\n"

-- The word f, by name, with its number of arguments.
abbrev pub head_text : {D : Type 0} → Words D → (ℕ → Option (List ℕ)) → ℕ → List ℕ
head_text V spellings f = name_of spellings f ++ arguments_text (known V.count V.arity f)

-- What is told of the words of a vocabulary: `told` says a degree in words, `spellings` how words are spelled.
module _ {D : Type 0} (S : Operations D) (told : D → List ℕ) (V : Words D) (spellings : ℕ → Option (List ℕ)) where
  -- How much f is alike to g: nothing where they are the same word, or not alike at all.
  abbrev pub like_text : ℕ → ℕ → List ℕ
  like_text f g =
      cond (f == g || S.same (V.likeness f g) S.bottom) []
      (codes "  alike to " ++ (name_of spellings g ++ (codes " at " ++ (told (V.likeness f g) ++ codes "\n"))))

  -- The word f, and the words that it is alike to.
  abbrev pub word_text : ℕ → List ℕ
  word_text f = head_text V spellings f ++ listing V.count (like_text f)

  -- All words, by rising number.
  abbrev pub words_text : List ℕ
  words_text = listing V.count word_text
