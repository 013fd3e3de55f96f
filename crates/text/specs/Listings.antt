use Rattle.std.specs.Prelude.{◌≡◌, ℕ, ◌+◌, List, [], ◌∷◌, ◌++◌, length}
use Rattle.text.specs.Phrases.{Phrase, Phrases, variable, word, none, more, count, bytes, following}
use Rattle.text.specs.Occurrences.{Occurrence}
use Rattle.text.specs.Remains.{Left, whole, arguments, left_bytes, LeftSound, open_bytes, OpenSound}

module _ (X : Type 0) (label : ℕ → ℕ → List X) (name : ℕ → List ℕ → ℕ → X) where
  -- What is listed of a phrase that is written from place i on, front to back: `label` says what of a variable, by its place and label,
  -- `name` what of a word, by its place, its characters and how many arguments it has.
  abbrev mutual
    pub listed : ℕ → Phrase → List X
    listed i (variable n) = label i n
    listed i (word s ps) = name i s (count ps) ∷ listed_among (i + length s) ps

    -- of arguments, the bracket or comma before the first standing at place i
    pub listed_among : ℕ → Phrases → List X
    listed_among i none = []
    listed_among i (more p ps) = listed (i + 1) p ++ listed_among (i + 1 + length (bytes p)) ps

  -- What is listed of what is left of a phrase.
  abbrev pub left_listed : ℕ → Left → List X
  left_listed i (whole p) = listed i p
  left_listed i (arguments ps) = listed_among i ps

  abbrev pub open_listed : ℕ → List Phrases → List X
  open_listed i [] = []
  open_listed i (ps ∷ os) = listed_among i ps ++ open_listed (i + length (following ps)) os

  -- The list xs is that of the bytes that are left from place i on.
  pub record Remain (left : List ℕ) (i : ℕ) (xs : List X) : Type 0 where
    pub first : Left
    pub opened : List Phrases
    pub sound : LeftSound first × OpenSound opened
    pub read : left ≡ left_bytes first ++ open_bytes opened
    pub has : xs ≡ left_listed i first ++ open_listed (i + length (left_bytes first)) opened

-- For the words of a phrase nothing is listed of a variable, and of a word how it occurs.
abbrev pub unlisted : ℕ → ℕ → List Occurrence
unlisted i n = []

abbrev pub occurs : ℕ → List ℕ → ℕ → Occurrence
occurs i s n = record { place = i; spelling = s; arguments = n }
