use Rattle.std.specs.Prelude.{◌≡◌, ℕ, ◌<◌, List, length, Option, slice_index_or}
use Rattle.vocabulary.specs.Spellings.{Spells}
use Rattle.text.specs.Occurrences.{Occurrence}

-- By a lexicon, and the arities of the words that the vocabulary has:
module _ (spellings : ℕ → Option (List ℕ)) (arities : List ℕ) where
  -- The lexicon and the vocabulary have the word.
  pub record Known (w : Occurrence) : Type 0 where
    pub number : ℕ
    pub spells : Spells spellings number w.spelling
    pub has : number < length arities

  -- They have the word, and it stands there with as many arguments as it takes.
  pub record Fitting (w : Occurrence) : Type 0 where
    pub number : ℕ
    pub spells : Spells spellings number w.spelling
    pub has : number < length arities
    pub takes : slice_index_or arities number 0 ≡ w.arguments
