use Rattle.std.specs.Prelude.{◌≡◌, ℕ, ◌<◌, List, length, Option, slice_index_or}
use Rattle.std.specs.List.{AllByRecursion}
use Rattle.vocabulary.specs.Spellings.{Spells}
use Rattle.text.specs.Meanings.{Known, Fitting}
use Rattle.text.specs.Occurrences.{Occurrence, FirstOf}
use Rattle.text.specs.declared.causes.TextFault.{TextFault}
use Rattle.text.specs.declared.causes.TextFault.TheVariants.{Empty, TooLong, TooDeep, NoText, UnknownWord, WrongArguments}

-- The first of the words of which P fails stands at place p.
pub record FirstAt (P : Occurrence → Type 0) (ws : List Occurrence) (p : ℕ) : Type 0 where
  pub word : Occurrence
  pub first : FirstOf P ws word
  pub at : word.place ≡ p

-- How a demand on words is refused: for this cause, at the first of them that does not meet it.
abbrev pub Told : (Occurrence → Type 0) → List Occurrence → (ℕ → TextFault) → TextFault → Type 0
Told P ws cause f = (p : ℕ) × (f ≡ cause p) × FirstAt P ws p

module _ (spellings : ℕ → Option (List ℕ)) (arities : List ℕ) where
  -- No word of the vocabulary is spelled so.
  abbrev pub Lacking : List ℕ → Type 0
  Lacking s = (n : ℕ) → n < length arities → Spells spellings n s → ⊥

  -- At most one word is spelled so.
  abbrev pub Single : List ℕ → Type 0
  Single s = (v w : ℕ) → Spells spellings v s → Spells spellings w s → v ≡ w

  -- The one word that is spelled so takes a arguments.
  pub record Arity (s : List ℕ) (a : ℕ) : Type 0 where
    pub number : ℕ
    pub spells : Spells spellings number s
    pub has : number < length arities
    pub takes : slice_index_or arities number 0 ≡ a
    pub single : Single s

  -- The word fits, and is the only one that is spelled so.
  abbrev pub Sure : Occurrence → Type 0
  Sure w = Fitting spellings arities w × Single w.spelling

  -- How a text with these words is refused for one of them: the first that is not known, or where each is known, the first that does not fit.
  abbrev pub WordsRefused : List Occurrence → TextFault → Type 0
  WordsRefused ws Empty = ⊥
  WordsRefused ws TooLong = ⊥
  WordsRefused ws (TooDeep p) = ⊥
  WordsRefused ws (NoText p) = ⊥
  WordsRefused ws (UnknownWord p) = FirstAt (Known spellings arities) ws p
  WordsRefused ws (WrongArguments p) = AllByRecursion (Known spellings arities) ws × FirstAt (Fitting spellings arities) ws p
