-- What three lists give is a family.
use Rattle.std.proofs.Common.{◌≡◌, ℕ, ◌≤◌, List, ap, inl, inr, arith}
use Rattle.scale.specs.Scales.{Operations}
use Rattle.tree.specs.Families.{family, Descends, IsTree, IsFamily}

-- What was checked under a scale holds whatever the scale.
pub tree_family : {D : Type 0} (S : Operations D) (x y z : List ℕ) → IsTree S x y z → IsFamily (family x y z)
tree_family S x y z t =
    record {
      counted = t.counted;
      small = λ i h. (t.fit i h).small;
      lower = λ i h. lower_of (t.fit i h).descends;
      typed = λ i h. typed_of (t.fit i h).descends;
    }
  where
    lower_of : {i : ℕ} → Descends (family x y z) i → (family x y z).parent i ≤ i
    lower_of (inl e) = omega arith
    lower_of (inr (lt, e)) = omega arith

    typed_of : {i : ℕ} → Descends (family x y z) i → (family x y z).arity ((family x y z).parent i) ≡ (family x y z).arity i
    typed_of (inl e) = ap (family x y z).arity e
    typed_of (inr (lt, e)) = e
