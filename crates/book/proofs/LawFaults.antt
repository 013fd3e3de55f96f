-- A lawful table has no fault, and an unlawful one has one.
use Rattle.std.proofs.Common.{◌≡◌, ℕ, List, refl, inl, inr}
use Rattle.book.specs.Laws.{Coded, Lawful, Reflexive, Symmetric, Transitive, Typed, Unlawful}
use Rattle.book.specs.declared.causes.LawFault.{LawFault}
use Rattle.book.specs.declared.causes.LawFault.TheVariants.{NoDegree, Reflexivity, Symmetry, Arity, Transitivity}
use Rattle.fault.proofs.Checks.{Checks, done, check, Fails, Passes, Single, fails_once, passes_none}
use Rattle.fault.proofs.Firsts.{first1_none, first1_only, first2_none, first2_only, first3_none, first3_only}
use Rattle.fault.specs.Firsts.{All2, All3, Below, First1, First2, First3}
use Rattle.layout.specs.Places.{count_of}
use Rattle.scale.specs.Scales.{Operations}

-- The fault that a first pair makes.
record At2 (n : ℕ) (P : ℕ → ℕ → Type 0) (make : ℕ → ℕ → LawFault) (f : LawFault) : Type 0 where
  i : ℕ
  j : ℕ
  is : f ≡ make i j
  first : First2 n P i j

at2_once : (n : ℕ) (P : ℕ → ℕ → Type 0) (make : ℕ → ℕ → LawFault) (f g : LawFault) → At2 n P make f → At2 n P make g → f ≡ g
at2_once n P make f g a b =
    let same = first2_only n P a.i a.j b.i b.j a.first b.first in
    let p = a.is in
    let q = b.is in
    cc

-- The fault that a first word makes.
record At1 (n : ℕ) (P : ℕ → Type 0) (f : LawFault) : Type 0 where
  i : ℕ
  is : f ≡ Reflexivity i
  first : First1 n P i

at1_once : (n : ℕ) (P : ℕ → Type 0) (f g : LawFault) → At1 n P f → At1 n P g → f ≡ g
at1_once n P f g a b =
    let same = first1_only n P a.i b.i a.first b.first in
    let p = a.is in
    let q = b.is in
    cc

-- The fault that the first three words make.
record At3 (n : ℕ) (P : ℕ → ℕ → ℕ → Type 0) (f : LawFault) : Type 0 where
  i : ℕ
  j : ℕ
  k : ℕ
  is : f ≡ Transitivity i j k
  first : First3 n P i j k

at3_once : (n : ℕ) (P : ℕ → ℕ → ℕ → Type 0) (f g : LawFault) → At3 n P f → At3 n P g → f ≡ g
at3_once n P f g a b =
    let same = first3_only n P a.i a.j a.k b.i b.j b.k a.first b.first in
    let p = a.is in
    let q = b.is in
    cc

module _ {D : Type 0} (S : Operations D) (B : List ℕ) where
  law_checks : Checks LawFault
  law_checks =
      check (All2 (count_of B) (Coded S B)) (At2 (count_of B) (Coded S B) NoDegree)
      (check (Below (count_of B) (Reflexive S B)) (At1 (count_of B) (Reflexive S B))
      (check (All2 (count_of B) (Symmetric B)) (At2 (count_of B) (Symmetric B) Symmetry)
      (check (All2 (count_of B) (Typed S B)) (At2 (count_of B) (Typed S B) Arity)
      (check (All3 (count_of B) (Transitive S B)) (At3 (count_of B) (Transitive S B))
      done))))

  single : Single law_checks
  unfolding law_checks
  single = (at2_once _ _ _, (at1_once _ _, (at2_once _ _ _, (at2_once _ _ _, (at3_once _ _, tt)))))

  passes : Lawful S B → Passes law_checks
  unfolding law_checks
  passes l = (l.coded, (l.reflexive, (l.symmetric, (l.typed, (l.transitive, tt)))))

  fails : (f : LawFault) → Unlawful S B f → Fails law_checks f
  unfolding law_checks
  fails (NoDegree i j) u = inl ((λ all. first2_none _ _ i j all u), record { i = i; j = j; is = refl; first = u })
  fails (Reflexivity i) u = inr (u.0, inl ((λ all. first1_none _ _ i all u.1), record { i = i; is = refl; first = u.1 }))
  fails (Symmetry i j) u =
      inr (u.0, inr (u.1, inl ((λ all. first2_none _ _ i j all u.2), record { i = i; j = j; is = refl; first = u.2 })))
  fails (Arity i j) u =
      inr (u.0, inr (u.1, inr (u.2, inl ((λ all. first2_none _ _ i j all u.3), record { i = i; j = j; is = refl; first = u.3 }))))
  fails (Transitivity i j k) u =
      inr (
        u.0,
        inr (
          u.1,
          inr (
            u.2,
            inr (
              u.3,
              inl ((λ all. first3_none _ _ i j k all u.4), record { i = i; j = j; k = k; is = refl; first = u.4 }),
            ),
          ),
        ),
      )

  pub unlawful_once : (f g : LawFault) → Unlawful S B f → Unlawful S B g → f ≡ g
  unlawful_once f g a b = fails_once law_checks single f g (fails f a) (fails g b)

  pub lawful_none : (f : LawFault) → Lawful S B → Unlawful S B f → ⊥
  lawful_none f lawful bad = passes_none law_checks f (passes lawful) (fails f bad)
