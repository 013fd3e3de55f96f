use Rattle.std.specs.Prelude.{◌≡◌, ℕ, ◌+◌, List, [], ◌∷◌, ◌++◌, length}
use Rattle.std.specs.List.{AllByRecursion}
use Rattle.text.specs.Phrases.{Phrase, Phrases, variable, word, none, more, count, bytes, Sound}

-- A word in a text: the place of its first byte, its characters, and how many arguments it has.
pub record Occurrence : Type 0 where
  pub place : ℕ
  pub spelling : List ℕ
  pub arguments : ℕ

-- The words of a phrase that is written from place i on, front to back.
abbrev mutual
  pub words : ℕ → Phrase → List Occurrence
  words i (variable n) = []
  words i (word s ps) = record { place = i; spelling = s; arguments = count ps } ∷ words_among (i + length s) ps

  -- of arguments, the bracket or comma before the first standing at place i
  pub words_among : ℕ → Phrases → List Occurrence
  words_among i none = []
  words_among i (more p ps) = words (i + 1) p ++ words_among (i + 1 + length (bytes p)) ps

-- w is the first of the words of which P fails.
pub record FirstOf (P : Occurrence → Type 0) (ws : List Occurrence) (w : Occurrence) : Type 0 where
  pub before : List Occurrence
  pub behind : List Occurrence
  pub split : ws ≡ before ++ (w ∷ behind)
  pub good : AllByRecursion P before
  pub fails : P w → ⊥

-- P holds of every word of the text.
pub record AllWords (P : Occurrence → Type 0) (text : List ℕ) : Type 0 where
  pub phrase : Phrase
  pub sound : Sound phrase
  pub written : bytes phrase ≡ text
  pub all : AllByRecursion P (words 0 phrase)

-- The first word of the text of which P fails stands at place p.
pub record FirstWord (P : Occurrence → Type 0) (text : List ℕ) (p : ℕ) : Type 0 where
  pub phrase : Phrase
  pub sound : Sound phrase
  pub written : bytes phrase ≡ text
  pub word : Occurrence
  pub first : FirstOf P (words 0 phrase) word
  pub at : word.place ≡ p
