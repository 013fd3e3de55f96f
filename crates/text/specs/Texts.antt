use Rattle.std.specs.Prelude.{◌≡◌, ℕ, ◌+◌, ◌<◌, ◌≤◌, List, ◌++◌, length, take}
use Rattle.text.specs.Phrases.{Phrase, bytes, Sound}

-- A text by the grammar alone: some phrase is written so.
pub record IsText (text : List ℕ) : Type 0 where
  pub phrase : Phrase
  pub sound : Sound phrase
  pub written : bytes phrase ≡ text

-- Some text begins so.
pub record Begins (front : List ℕ) : Type 0 where
  pub more : List ℕ
  pub whole : IsText (front ++ more)

-- The place p is the first byte, or the end, with which no text can go on:
-- some text begins as the bytes before p do, none as the bytes up to and with p, and the bytes as a whole are no text.
pub record StopsAt (text : List ℕ) (p : ℕ) : Type 0 where
  pub within : p ≤ length text
  pub before : Begins (take p text)
  pub here : p < length text → Begins (take (p + 1) text) → ⊥
  pub no_text : IsText text → ⊥
