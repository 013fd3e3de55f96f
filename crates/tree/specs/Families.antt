use Rattle.std.specs.Prelude.{◌≡◌, ℕ, ◌<◌, ◌≤◌, true, ◌⊎◌, List, length, is_some, slice_index}
use Rattle.fault.specs.Firsts.{Below}
use Rattle.lists.specs.Counts.{Counted}
use Rattle.scale.specs.Scales.{Operations}

-- A family of words: how many there are, and of each its arity, its parent and the code of its degree.
pub record Family : Type 0 where
  pub count : ℕ
  pub arity : ℕ → ℕ
  pub parent : ℕ → ℕ
  pub code : ℕ → ℕ

-- The family that three lists give, one entry of each to a word.
abbrev pub family : List ℕ → List ℕ → List ℕ → Family
family arities parents codes =
    record {
      count = length arities;
      arity = λ i. slice_index arities i;
      parent = λ i. slice_index parents i;
      code = λ i. slice_index codes i;
    }

-- The three lists are of one length.
abbrev pub Even : List ℕ → List ℕ → List ℕ → Type 0
Even arities parents codes = (length parents ≡ length arities) × (length codes ≡ length arities)

-- The parent of word i is the word itself, which then is a root, or a lower word of the same arity.
abbrev pub Descends : Family → ℕ → Type 0
Descends F i = (F.parent i ≡ i) ⊎ ((F.parent i < i) × (F.arity (F.parent i) ≡ F.arity i))

-- What is asked of word i: an arity of at most 6, a fit parent, and the code of a degree, at a root too.
pub record Fit {D : Type 0} (S : Operations D) (F : Family) (i : ℕ) : Type 0 where
  pub small : F.arity i ≤ 6
  pub descends : Descends F i
  pub coded : is_some (S.decoded (F.code i)) ≡ true

-- The three lists are a family tree: of one length, 1 to 128 words, each of them fit.
pub record IsTree {D : Type 0} (S : Operations D) (arities parents codes : List ℕ) : Type 0 where
  pub even : Even arities parents codes
  pub counted : Counted (length arities)
  pub fit : Below (length arities) (Fit S (family arities parents codes))

-- What holds of a family tree whatever the scale: arities of at most 6, and parents that are no higher and of the same arity.
pub record IsFamily (F : Family) : Type 0 where
  pub counted : Counted F.count
  pub small : Below F.count (λ i. F.arity i ≤ 6)
  pub lower : Below F.count (λ i. F.parent i ≤ i)
  pub typed : Below F.count (λ i. F.arity (F.parent i) ≡ F.arity i)
