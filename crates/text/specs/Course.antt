use Rattle.std.specs.Prelude.{◌≡◌, ℕ, zero, suc, ◌+◌, ◌<◌, ◌≤◌, Bool, true, false, cond, List, [], ◌∷◌, ◌++◌, length, drop, ◌==◌}
use Rattle.text.specs.Phrases.{Phrase, Phrases, bytes, following, Sound, AllSound}
use Rattle.text.specs.Tokens.{small, in_word, digit}

-- How the reading of a text goes on byte by byte. Each state has first the number of brackets that are open.
pub data State : Type 0 where
  start : ℕ → State  -- a term is to begin
  mark : ℕ → State  -- after `?`
  tens : ℕ → State  -- after `?` and a digit that is not 0
  letters : ℕ → ℕ → State  -- in a word, which may have so many more characters
  after : ℕ → State  -- a term has ended

pub data Next : Type 0 where
  stop : Next
  on : State → Next

-- What may follow a term.
abbrev pub follow : ℕ → ℕ → Next
follow zero b = stop
follow (suc n) b = cond (b == 44) (on (start (suc n))) (cond (b == 41) (on (after n)) stop)

abbrev pub step : State → ℕ → Next
step (start n) b = cond (small b) (on (letters n 15)) (cond (b == 63) (on (mark n)) stop)
step (mark n) b = cond (b == 48) (on (after n)) (cond (digit b) (on (tens n)) stop)
step (tens n) b = cond (digit b) (on (after n)) (follow n b)
step (letters n zero) b = cond (b == 40) (on (start (suc n))) (follow n b)
step (letters n (suc k)) b = cond (in_word b) (on (letters n k)) (cond (b == 40) (on (start (suc n))) (follow n b))
step (after n) b = follow n b

abbrev pub closed : ℕ → Bool
closed zero = true
closed (suc n) = false

-- A text may end here.
abbrev pub ends : State → Bool
ends (start n) = false
ends (mark n) = false
ends (tens n) = closed n
ends (letters n k) = closed n
ends (after n) = closed n

pub data Outcome : Type 0 where
  whole : Outcome
  stopped : ℕ → Outcome

-- From a state, at a place, over what is left.
abbrev pub course : State → ℕ → List ℕ → Outcome
course s p [] = cond (ends s) whole (stopped p)
course s p (b ∷ bs) = elim (step s b) [ stop ↦ stopped p | on t ↦ course t (p + 1) bs ]

abbrev pub at_place : List ℕ → State → ℕ → Outcome
at_place text s i = course s i (drop i text)

-- A phrase stands from `at` to `e`, and the course leads over it, however many brackets are open.
pub record PhraseTo (text : List ℕ) (at e : ℕ) : Type 0 where
  pub past : at < e
  pub within : e ≤ length text
  pub phrase : Phrase
  pub sound : Sound phrase
  pub read : drop at text ≡ bytes phrase ++ drop e text
  pub goes : (n : ℕ) → at_place text (start n) at ≡ at_place text (after n) e

-- What some phrase begins with stands from `at` to p, and nothing goes on there.
pub record PhraseStops (text : List ℕ) (at p : ℕ) : Type 0 where
  pub past : at ≤ p
  pub within : p ≤ length text
  pub phrase : Phrase
  pub sound : Sound phrase
  pub front : List ℕ
  pub more : List ℕ
  pub read : drop at text ≡ front ++ drop p text
  pub would : bytes phrase ≡ front ++ more
  pub goes : (n : ℕ) → at_place text (start n) at ≡ stopped p

-- The same of one argument and those that follow it up to their `)`, behind the `(` or `,` at `at`.
pub record ArgumentsTo (text : List ℕ) (at e : ℕ) : Type 0 where
  pub past : at < e
  pub within : e ≤ length text
  pub first : Phrase
  pub others : Phrases
  pub sound : Sound first × AllSound others
  pub read : drop (at + 1) text ≡ bytes first ++ (following others ++ drop e text)
  pub goes : (n : ℕ) → at_place text (start (suc n)) (at + 1) ≡ at_place text (after n) e

pub record ArgumentsStop (text : List ℕ) (at p : ℕ) : Type 0 where
  pub past : at < p
  pub within : p ≤ length text
  pub first : Phrase
  pub others : Phrases
  pub sound : Sound first × AllSound others
  pub front : List ℕ
  pub more : List ℕ
  pub read : drop (at + 1) text ≡ front ++ drop p text
  pub would : bytes first ++ following others ≡ front ++ more
  pub goes : (n : ℕ) → at_place text (start (suc n)) (at + 1) ≡ stopped p
