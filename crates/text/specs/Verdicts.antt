use Rattle.std.specs.Prelude.{◌≡◌, ℕ, ◌<◌, ◌≤◌, List, length, Option, Result, MatchResult, slice_index}
use Rattle.fault.specs.Firsts.{Below, First1}
use Rattle.unification.specs.Terms.{Term, Formed}
use Rattle.vocabulary.specs.Spellings.{IsLexicon}
use Rattle.text.specs.Limits.{longest_text, deepest}
use Rattle.text.specs.Texts.{StopsAt}
use Rattle.text.specs.Brackets.{Shallow}
use Rattle.text.specs.Occurrences.{AllWords, FirstWord}
use Rattle.text.specs.Meanings.{Known, Fitting}
use Rattle.text.specs.Writings.{Nested, Spelled, write, Writes, Reads}
use Rattle.text.specs.declared.causes.TextFault.{TextFault}
use Rattle.text.specs.declared.causes.TextFault.TheVariants.{Empty, TooLong, TooDeep, NoText, UnknownWord, WrongArguments}

-- 1 to 4,096 bytes.
abbrev pub Sized : List ℕ → Type 0
Sized text = (0 < length text) × (length text ≤ longest_text)

-- At most 31 brackets are open at once.
abbrev pub AllShallow : List ℕ → Type 0
AllShallow text = Below (length text) (Shallow text)

module _ (spellings : ℕ → Option (List ℕ)) (arities : List ℕ) (text : List ℕ) where
  -- The text is within the limits, and is read as one term.
  pub record Accepted : Type 0 where
    pub sized : Sized text
    pub shallow : AllShallow text
    pub term : Term
    pub reads : Reads spellings arities text term

  -- Each refusal: what it says holds, at the lowest place, and none of those before it does.
  abbrev pub Refused : TextFault → Type 0
  Refused Empty = length text ≡ 0
  Refused TooLong = longest_text < length text
  Refused (TooDeep p) = Sized text × First1 (length text) (Shallow text) p
  Refused (NoText p) = Sized text × AllShallow text × StopsAt text p
  Refused (UnknownWord p) = Sized text × AllShallow text × FirstWord (Known spellings arities) text p
  Refused (WrongArguments p) = Sized text × AllShallow text × AllWords (Known spellings arities) text × FirstWord (Fitting spellings arities) text p

  -- What the check of a text answers.
  abbrev pub Verdict : Result (Unit {0}) TextFault → Type 0
  Verdict r = MatchResult r (λ _. Accepted) Refused

  -- What is proved of the check's answer.
  pub record Judged (r : Result (Unit {0}) TextFault) : Type 0 where
    -- it fits the text
    pub verdict : Verdict r
    -- and no other does
    pub only : (v : Result (Unit {0}) TextFault) → Verdict v → v ≡ r
    -- a writing of a term within the limits is read as that term, and never refused
    pub takes : (t : Term) → Formed (length arities) (λ f. slice_index arities f) t → Writes spellings text t → Sized text → AllShallow text → MatchResult r (λ _. Reads spellings arities text t) (λ _. ⊥)
    -- a text is a writing of those terms alone that are written so
    pub exact : (t : Term) → Writes spellings text t → write spellings t ≡ text
    -- what a term is written as is read as that term, as far as the limits reach
    pub back :
        (t : Term) → Formed (length arities) (λ f. slice_index arities f) t → Spelled spellings t → IsLexicon spellings → Nested t deepest → write spellings t ≡ text → length text ≤ longest_text →
        MatchResult r (λ _. Reads spellings arities text t) (λ _. ⊥)
