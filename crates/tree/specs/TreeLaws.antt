-- A family tree keeps the laws of a vocabulary.
use Rattle.std.proofs.Common.{◌≡◌, ℕ, zero, suc, ◌<◌, ◌≤◌, sym, refl, ap, ◌∙◌, subst, inl, inr, arith}
use Rattle.std.proofs.lemmas.Bool.{cases_eq}
use Rattle.scale.specs.Scales.{Operations, IsScale, AtMost}
use Rattle.vocabulary.specs.Words.{IsVocabulary}
use Rattle.scale.proofs.Orders.{le_refl, le_trans, le_top, meet_left, meet_right, meet_glb, meet_mono, meet_bottom}
use Rattle.tree.specs.Families.{Family, IsFamily}
use Rattle.tree.specs.Paths.{degree, like_below, tree_words}
use Rattle.tree.specs.Growth.{newest_self, newest_left, newest_right, earlier, none_below, by_newest, like_symmetric, like_self, like_outside}

module _ {D : Type 0} (S : Operations D) (L : IsScale S) where
  -- Where x and y together are at most z, they are so met with one more degree: on the left, on the right, in the middle.
  met_left : (d x y z : D) → AtMost S (S.meet x y) z → AtMost S (S.meet (S.meet d x) y) (S.meet d z)
  met_left d x y z h =
      meet_glb L (le_trans L (meet_left L (S.meet d x) y) (meet_left L d x))
      (le_trans L (meet_mono L (meet_right L d x) (le_refl L y)) h)

  met_right : (d x y z : D) → AtMost S (S.meet x y) z → AtMost S (S.meet x (S.meet d y)) (S.meet d z)
  met_right d x y z h =
      meet_glb L (le_trans L (meet_right L x (S.meet d y)) (meet_left L d y))
      (le_trans L (meet_mono L (le_refl L x) (meet_right L d y)) h)

  met_middle : (d x y z : D) → AtMost S (S.meet x y) z → AtMost S (S.meet (S.meet d x) (S.meet d y)) z
  met_middle d x y z h = le_trans L (meet_mono L (meet_right L d x) (meet_right L d y)) h

  -- The order goes by the values alone.
  moved : (a b c x y z : D) → a ≡ x → b ≡ y → c ≡ z → AtMost S (S.meet x y) z → AtMost S (S.meet a b) c
  moved a b c x y z p q r h = cc

module _ {D : Type 0} (S : Operations D) (L : IsScale S) (F : Family) where
  abbrev Through : ℕ → ℕ → ℕ → ℕ → Type 0
  Through k f g h = AtMost S (S.meet (like_below S F k f g) (like_below S F k g h)) (like_below S F k f h)

  pub like_transitive : (k f g h : ℕ) → Through k f g h
  like_transitive zero f g h =
      moved S L _ _ _ _ _ _ (none_below S F f g) (none_below S F g h) (none_below S F f h) (meet_left L S.bottom S.bottom)
  like_transitive (suc k) f g h =
      elim (cases_eq h k) [
        | inl e ↦
            subst (λ (w : ℕ). Through (suc k) f g w) (sym e)
            (by_newest S F k (λ f g. Through (suc k) f g k)
            (moved S L _ _ _ _ _ _ refl refl (newest_self S F k) (le_top L _))
            (λ g ne. moved S L _ _ _ _ _ _ refl refl (newest_self S F k) (le_top L _))
            (λ f ne. moved S L _ _ _ _ _ _ refl (newest_self S F k) refl (meet_left L _ _))
            (λ f g ne ne'.
            moved S L _ _ _ _ _ _ (earlier S F k f g ne ne') (newest_right S F k g ne') (newest_right S F k f ne)
            (met_right S L (degree S F k) _ _ _
            (moved S L _ _ _ _ _ _ refl (like_symmetric S F k (F.parent k) g) (like_symmetric S F k (F.parent k) f)
            (like_transitive k f g (F.parent k)))))
            f g)
        | inr out ↦
            by_newest S F k (λ f g. Through (suc k) f g h)
            (moved S L _ _ _ _ _ _ (newest_self S F k) refl refl (meet_right L _ _))
            (λ g ne.
            moved S L _ _ _ _ _ _ (newest_left S F k g ne) (earlier S F k g h ne out) (newest_left S F k h out)
            (met_left S L (degree S F k) _ _ _ (like_transitive k (F.parent k) g h)))
            (λ f ne.
            moved S L _ _ _ _ _ _ (newest_right S F k f ne) (newest_left S F k h out) (earlier S F k f h ne out)
            (met_middle S L (degree S F k) _ _ _
            (moved S L _ _ _ _ _ _ (like_symmetric S F k (F.parent k) f) refl refl (like_transitive k f (F.parent k) h))))
            (λ f g ne ne'.
            moved S L _ _ _ _ _ _ (earlier S F k f g ne ne') (earlier S F k g h ne' out) (earlier S F k f h ne out)
            (like_transitive k f g h))
            f g
      ]

module _ {D : Type 0} (S : Operations D) (L : IsScale S) (F : Family) (H : IsFamily F) where
  -- The newest word and an earlier one of another arity: its parent has its arity, or it is a root.
  newest_typed : (k g : ℕ) → k < F.count → (g ≡ k → ⊥) → (F.arity k ≡ F.arity g → ⊥)
      → (F.parent k < k → (F.arity (F.parent k) ≡ F.arity g → ⊥) → like_below S F k (F.parent k) g ≡ S.bottom)
      → like_below S F (suc k) k g ≡ S.bottom
  newest_typed k g lk ne other below =
      newest_left S F k g ne ∙ ap (S.meet (degree S F k)) parted ∙ meet_bottom L (degree S F k)
    where
      parted : like_below S F k (F.parent k) g ≡ S.bottom
      parted =
          elim (cases_eq (F.parent k) k) [
            | inl e ↦ ap (λ (p : ℕ). like_below S F k p g) e ∙ like_outside S L F k k g (omega arith)
            | inr ne ↦
                let le = H.lower k lk in
                below (omega arith) (λ e. other (sym (H.typed k lk) ∙ e))
          ]

  pub like_typed : (k f g : ℕ) → k ≤ F.count → f < k → g < k → (F.arity f ≡ F.arity g → ⊥) → like_below S F k f g ≡ S.bottom
  like_typed zero f g le lf lg other = absurd (omega arith)
  like_typed (suc k) f g le lf lg other =
      by_newest S F k (λ f g. f < suc k → g < suc k → (F.arity f ≡ F.arity g → ⊥) → like_below S F (suc k) f g ≡ S.bottom)
      (λ lf lg other. absurd (other refl))
      (λ g ne lf lg other.
      newest_typed k g (omega arith) ne other (λ lp other'. like_typed k (F.parent k) g (omega arith) lp (omega arith) other'))
      (λ f ne lf lg other.
      like_symmetric S F (suc k) f k
      ∙ newest_typed k f (omega arith) ne (λ e. other (sym e))
      (λ lp other'. like_typed k (F.parent k) f (omega arith) lp (omega arith) other'))
      (λ f g ne ne' lf lg other.
      earlier S F k f g ne ne' ∙ like_typed k f g (omega arith) (omega arith) (omega arith) other)
      f g lf lg other

  pub tree_laws : IsVocabulary S (tree_words S F)
  tree_laws =
      record {
        some = H.counted.0;
        few = H.counted.1;
        small = H.small;
        same = λ f h. like_self S F F.count f h;
        symmetric = like_symmetric S F F.count;
        transitive = like_transitive S L F F.count;
        typed = λ f lf g lg other. like_typed F.count f g (omega arith) lf lg other;
        outside = like_outside S L F F.count;
      }
