-- There is one verdict on three lists.
use Rattle.std.proofs.Common.{◌≡◌, ℕ, List, length, Ok, Err, Result, sym, refl, ◌∙◌, subst}
use Rattle.fault.specs.Firsts.{Below}
use Rattle.fault.proofs.Firsts.{first1_only, first1_none}
use Rattle.lists.specs.Counts.{Counted}
use Rattle.scale.specs.Scales.{Operations}
use Rattle.tree.specs.Families.{Family, family, Even, Fit}
use Rattle.tree.specs.Verdicts.{Unfit, Refused, Verdict}
use Rattle.tree.specs.declared.causes.Flaw.{Flaw}
use Rattle.tree.specs.declared.causes.Flaw.TheVariants.{Arity, Parent, Code}
use Rattle.tree.specs.declared.causes.TreeFault.{TreeFault}
use Rattle.tree.specs.declared.causes.TreeFault.TheVariants.{Lengths, Count, Word}

module _ {D : Type 0} (S : Operations D) where
  flaw_only : (F : Family) (i : ℕ) (v w : Flaw) → Unfit S F i v → Unfit S F i w → v ≡ w
  flaw_only F i Arity Arity a b = refl
  flaw_only F i Arity Parent a b = absurd (a b.0)
  flaw_only F i Arity Code a b = absurd (a b.0)
  flaw_only F i Parent Arity a b = absurd (b a.0)
  flaw_only F i Parent Parent a b = refl
  flaw_only F i Parent Code a b = absurd (a.1 b.1)
  flaw_only F i Code Arity a b = absurd (b a.0)
  flaw_only F i Code Parent a b = absurd (b.1 a.1)
  flaw_only F i Code Code a b = refl

  fault_only : (x y z : List ℕ) (v w : TreeFault) → Refused S x y z v → Refused S x y z w → v ≡ w
  fault_only x y z Lengths Lengths a b = refl
  fault_only x y z Lengths (Count n) a b = absurd (a b.0)
  fault_only x y z Lengths (Word j q) a b = absurd (a b.0)
  fault_only x y z (Count n) Lengths a b = absurd (b a.0)
  fault_only x y z (Count n) (Count m) a b = λ i. Count ((a.1 ∙ sym b.1) i)
  fault_only x y z (Count n) (Word j q) a b = absurd (a.2 (subst Counted (sym a.1) b.1))
  fault_only x y z (Word i p) Lengths a b = absurd (b a.0)
  fault_only x y z (Word i p) (Count m) a b = absurd (b.2 (subst Counted (sym b.1) a.1))
  fault_only x y z (Word i p) (Word j q) a b =
      let e = first1_only (length x) (Fit S (family x y z)) i j a.2 b.2 in
      let f = flaw_only (family x y z) j p q (subst (λ (k : ℕ). Unfit S (family x y z) k p) e a.3) b.3 in
      λ k. Word (e k) (f k)

  -- A family tree is not refused.
  refuted : (x y z : List ℕ) (f : TreeFault) → Refused S x y z f → Even x y z → Counted (length x) → Below (length x) (Fit S (family x y z)) → ⊥
  refuted x y z Lengths no-even even counted fit = no-even even
  refuted x y z (Count n) r even counted fit = r.2 (subst Counted (sym r.1) counted)
  refuted x y z (Word i p) r even counted fit = first1_none (length x) (Fit S (family x y z)) i fit r.2

  pub verdict_only : (x y z : List ℕ) (v w : Result (Unit {0}) TreeFault) → Verdict S x y z v → Verdict S x y z w → v ≡ w
  verdict_only x y z (Ok u) (Ok v) a b = refl
  verdict_only x y z (Ok u) (Err f) a b = absurd (refuted x y z f b a.even a.counted a.fit)
  verdict_only x y z (Err f) (Ok v) a b = absurd (refuted x y z f a b.even b.counted b.fit)
  verdict_only x y z (Err f) (Err g) a b = λ i. Err (fault_only x y z f g a b i)
