use Rattle.std.specs.Prelude.{ℕ, suc, ◌+◌, ◌/◌, ◌%◌, ◌<◌, cond, List, [], ◌∷◌, ◌++◌, nat_lt}
use Rattle.text.specs.Limits.{labels}
use Rattle.vocabulary.specs.Spellings.{IsSpelling}

-- A phrase is a term before any lexicon is asked: each word is its characters.
mutual
  pub data Phrase : Type 0 where
    variable : ℕ → Phrase
    word : List ℕ → Phrases → Phrase

  pub data Phrases : Type 0 where
    none : Phrases
    more : Phrase → Phrases → Phrases

-- How many phrases there are.
abbrev pub count : Phrases → ℕ
count none = 0
count (more p ps) = suc (count ps)

-- A label below 100 in decimal, with no leading zero.
abbrev pub decimal : ℕ → List ℕ
decimal n = cond (nat_lt n 10) ((48 + n) ∷ []) ((48 + n / 10) ∷ ((48 + n % 10) ∷ []))

-- How a phrase is written: `?` and the label, or the word and its arguments.
-- Arguments, if there are any, stand in brackets and are parted by commas.
abbrev mutual
  pub bytes : Phrase → List ℕ
  bytes (variable n) = 63 ∷ decimal n
  bytes (word s ps) = s ++ bracketed ps

  pub bracketed : Phrases → List ℕ
  bracketed none = []
  bracketed (more p ps) = 40 ∷ (bytes p ++ following ps)

  -- what stands behind an argument, up to the closing bracket
  pub following : Phrases → List ℕ
  following none = 41 ∷ []
  following (more p ps) = 44 ∷ (bytes p ++ following ps)

-- Labels are below 100, and words are spellings.
abbrev mutual
  pub Sound : Phrase → Type 0
  Sound (variable n) = n < labels
  Sound (word s ps) = IsSpelling s × AllSound ps

  pub AllSound : Phrases → Type 0
  AllSound none = Unit {0}
  AllSound (more p ps) = Sound p × AllSound ps
