use Rattle.std.specs.Prelude.{◌≡◌, ℕ, zero, suc, List, [], length, Some, None, Option, slice_index}
use Rattle.unification.specs.Terms.{Term, Terms, var, app, nil, cons, Formed}
use Rattle.vocabulary.specs.Spellings.{Spells}
use Rattle.text.specs.Phrases.{Phrase, Phrases, variable, word, none, more, bytes, Sound}

-- At most d brackets are open at once in the writing of the term.
abbrev mutual
  pub Nested : Term → ℕ → Type 0
  Nested (var x) d = Unit {0}
  Nested (app f ts) d = Bracketed ts d

  pub Bracketed : Terms → ℕ → Type 0
  Bracketed nil d = Unit {0}
  Bracketed (cons t ts) zero = ⊥
  Bracketed (cons t ts) (suc d) = Nested t d × AllNested ts d

  pub AllNested : Terms → ℕ → Type 0
  AllNested nil d = Unit {0}
  AllNested (cons t ts) d = Nested t d × AllNested ts d

-- The characters of a spelling; of none, nothing.
abbrev pub characters : Option (List ℕ) → List ℕ
characters None = []
characters (Some s) = s

module _ (spellings : ℕ → Option (List ℕ)) where
  -- A term with each word put as its spelling.
  abbrev mutual
    pub spelled : Term → Phrase
    spelled (var x) = variable x
    spelled (app f ts) = word (characters (spellings f)) (all_spelled ts)

    pub all_spelled : Terms → Phrases
    all_spelled nil = none
    all_spelled (cons t ts) = more (spelled t) (all_spelled ts)

  -- How a term is written.
  abbrev pub write : Term → List ℕ
  write t = bytes (spelled t)

  -- Each word of the term has a spelling.
  abbrev mutual
    pub Spelled : Term → Type 0
    Spelled (var x) = Unit {0}
    Spelled (app f ts) = ((s : List ℕ) × (spellings f ≡ Some s)) × AllSpelled ts

    pub AllSpelled : Terms → Type 0
    AllSpelled nil = Unit {0}
    AllSpelled (cons t ts) = Spelled t × AllSpelled ts

  -- The phrase means the term: the same labels, and words that are spelled so.
  abbrev mutual
    pub Means : Phrase → Term → Type 0
    Means (variable n) (var x) = n ≡ x
    Means (variable n) (app f ts) = ⊥
    Means (word s ps) (var x) = ⊥
    Means (word s ps) (app f ts) = Spells spellings f s × AllMean ps ts

    pub AllMean : Phrases → Terms → Type 0
    AllMean none nil = Unit {0}
    AllMean none (cons t ts) = ⊥
    AllMean (more p ps) nil = ⊥
    AllMean (more p ps) (cons t ts) = Means p t × AllMean ps ts

  -- The text is a writing of the term: it is the text of a phrase that means the term.
  pub record Writes (text : List ℕ) (t : Term) : Type 0 where
    pub phrase : Phrase
    pub sound : Sound phrase
    pub written : bytes phrase ≡ text
    pub means : Means phrase t

  -- The text is read as the term: a writing of it, and of no other term over the words.
  pub record Reads (arities : List ℕ) (text : List ℕ) (t : Term) : Type 0 where
    pub formed : Formed (length arities) (λ f. slice_index arities f) t
    pub writes : Writes text t
    pub only : (u : Term) → Formed (length arities) (λ f. slice_index arities f) u → Writes text u → u ≡ t
