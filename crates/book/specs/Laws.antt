use Rattle.std.specs.Prelude.{◌≡◌, ℕ, true, List, is_some, ◌≢◌}
use Rattle.book.specs.Likeness.{degree_at, likeness_of}
use Rattle.book.specs.declared.causes.LawFault.{LawFault}
use Rattle.book.specs.declared.causes.LawFault.TheVariants.{NoDegree, Reflexivity, Symmetry, Arity, Transitivity}
use Rattle.fault.specs.Firsts.{All2, All3, Below, First1, First2, First3}
use Rattle.layout.specs.Places.{arity_at, code_of, count_of}
use Rattle.scale.specs.Scales.{AtMost, Operations}

module _ {D : Type 0} (S : Operations D) (B : List ℕ) where
  -- The table's number for i and j is the code of a degree.
  abbrev pub Coded : ℕ → ℕ → Type 0
  Coded i j = is_some (degree_at S B i j) ≡ true

  -- Word i is wholly alike to itself.
  abbrev pub Reflexive : ℕ → Type 0
  Reflexive i = likeness_of S B i i ≡ S.top

  -- Words of different arities are not alike.
  abbrev pub Typed : ℕ → ℕ → Type 0
  Typed i j = (arity_at B i ≢ arity_at B j) → likeness_of S B i j ≡ S.bottom

  -- The words i and k are alike at least at the meet of the likenesses of i and j and of j and k.
  abbrev pub Transitive : ℕ → ℕ → ℕ → Type 0
  Transitive i j k = AtMost S (S.meet (likeness_of S B i j) (likeness_of S B j k)) (likeness_of S B i k)

-- The table has the same number for i and j as for j and i.
abbrev pub Symmetric : List ℕ → ℕ → ℕ → Type 0
Symmetric B i j = code_of B i j ≡ code_of B j i

module _ {D : Type 0} (S : Operations D) (B : List ℕ) where
  -- The table keeps all laws.
  pub record Lawful : Type 0 where
    pub coded : All2 (count_of B) (Coded S B)
    pub reflexive : Below (count_of B) (Reflexive S B)
    pub symmetric : All2 (count_of B) (Symmetric B)
    pub typed : All2 (count_of B) (Typed S B)
    pub transitive : All3 (count_of B) (Transitive S B)

  -- Which law the table breaks first, and where: each law is tried over the whole table before the next, lowest i, then j, then k.
  abbrev pub Unlawful : LawFault → Type 0
  Unlawful (NoDegree i j) = First2 (count_of B) (Coded S B) i j
  Unlawful (Reflexivity i) = All2 (count_of B) (Coded S B) × First1 (count_of B) (Reflexive S B) i
  Unlawful (Symmetry i j) =
      All2 (count_of B) (Coded S B) × Below (count_of B) (Reflexive S B) × First2 (count_of B) (Symmetric B) i j
  Unlawful (Arity i j) =
      All2 (count_of B) (Coded S B) × Below (count_of B) (Reflexive S B) × All2 (count_of B) (Symmetric B) × First2 (count_of B) (Typed S B) i j
  Unlawful (Transitivity i j k) =
      All2 (count_of B) (Coded S B) × Below (count_of B) (Reflexive S B) × All2 (count_of B) (Symmetric B) × All2 (count_of B) (Typed S B)
      × First3 (count_of B) (Transitive S B) i j k
