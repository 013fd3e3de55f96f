-- The likeness of a family tree is the degree of the path between two words, and there is no other.
use Rattle.std.proofs.Common.{◌≡◌, ℕ, zero, suc, ◌<◌, ◌≤◌, sym, refl, ap, ◌∙◌, subst, inl, inr, arith}
use Rattle.std.proofs.lemmas.Bool.{cases_eq, cases_lt}
use Rattle.scale.specs.Scales.{Operations, IsScale}
use Rattle.scale.proofs.Orders.{meet_bottom}
use Rattle.tree.specs.Families.{Family, IsFamily}
use Rattle.tree.specs.Paths.{degree, Climb, stay, rise, Path, Apart, IsLikeness, like_below}
use Rattle.tree.specs.Growth.{newest_self, newest_left, earlier, by_newest, like_symmetric, like_self, like_outside, like_step, like_root}

module _ {D : Type 0} (S : Operations D) (F : Family) where
  climb_word : {f a : ℕ} {d : D} → Climb S F f a d → f < F.count
  climb_word (stay h) = h
  climb_word (rise h ne c) = h

  -- One comes to another word by way of the parent.
  climb_up : {f a : ℕ} {d : D} → Climb S F f a d → (a ≡ f → ⊥) → (e : D) × Climb S F (F.parent f) a e × (F.parent f ≡ f → ⊥)
  climb_up (stay h) ne = absurd (ne refl)
  climb_up (rise {d = d} h root c) ne = (d, c, root)

  turned : {f g : ℕ} {d : D} → IsScale S → Path S F f g d → Path S F g f d
  turned L p =
      record {
        summit = p.summit;
        left = p.right;
        right = p.left;
        from_left = p.from_right;
        from_right = p.from_left;
        lowest = λ a x y cx cy. p.lowest a y x cy cx;
        is = p.is ∙ L.comm p.left p.right;
      }

  turned_likeness : {f g : ℕ} {d : D} → IsScale S → IsLikeness S F f g d → IsLikeness S F g f d
  turned_likeness L (inl p) = inl (turned L p)
  turned_likeness L (inr (apart, e)) = inr (λ a x y cx cy. apart a y x cy cx, e)

module _ {D : Type 0} (S : Operations D) (L : IsScale S) (F : Family) (H : IsFamily F) where
  climb_le : {f a : ℕ} {d : D} → Climb S F f a d → a ≤ f
  climb_le (stay h) = omega arith
  climb_le (rise {f = f} h root c) = let up = climb_le c in let le = H.lower f h in omega arith

  -- The degree of a climb is the likeness of its ends.
  climb_value : {f a : ℕ} {d : D} → Climb S F f a d → like_below S F F.count f a ≡ d
  climb_value (stay {f = f} h) = like_self S F F.count f h
  climb_value (rise {f = f} {a = a} h root c) =
      let up = climb_le c in
      let le = H.lower f h in
      let lower : F.parent f < f = elim (cases_lt (F.parent f) f) [ inl lt ↦ lt | inr ge ↦ absurd (root (omega arith)) ] in
      like_step S L F F.count f a h (omega arith) lower ∙ ap (S.meet (degree S F f)) (climb_value c)

  -- From a path of the parent to one of a word that is higher than the other end.
  raised : (f g : ℕ) (d : D) → f < F.count → g < f → (F.parent f ≡ f → ⊥) → IsLikeness S F (F.parent f) g d
      → IsLikeness S F f g (S.meet (degree S F f) d)
  raised f g d lf lg root (inl p) =
      inl
      record {
        summit = p.summit;
        left = S.meet (degree S F f) p.left;
        right = p.right;
        from_left = rise lf root p.from_left;
        from_right = p.from_right;
        lowest = λ a x y cx cy. let le = climb_le cy in let up = climb_up S F cx (λ e. omega arith) in p.lowest a up.0 y up.1 cy;
        is = ap (S.meet (degree S F f)) p.is ∙ sym (L.assoc (degree S F f) p.left p.right);
      }
  raised f g d lf lg root (inr (apart, e)) =
      inr (
        λ a x y cx cy. let le = climb_le cy in let up = climb_up S F cx (λ e. omega arith) in apart a up.0 y up.1 cy,
        ap (S.meet (degree S F f)) e ∙ meet_bottom L (degree S F f),
      )

  -- No word is above both a root and a lower word.
  root_apart : (f g : ℕ) → g < f → F.parent f ≡ f → Apart S F f g
  root_apart f g lg e a x y cx cy = let le = climb_le cy in (climb_up S F cx (λ e. omega arith)).2 e

  newest_likeness : (k g : ℕ) → k < F.count → g < k
      → (F.parent k < k → IsLikeness S F (F.parent k) g (like_below S F k (F.parent k) g))
      → IsLikeness S F k g (like_below S F (suc k) k g)
  newest_likeness k g lk lg below =
      elim (cases_eq (F.parent k) k) [
        | inl e ↦ inr (root_apart k g lg e, like_root S L F (suc k) k g (omega arith) lg e)
        | inr root ↦
            let le = H.lower k lk in
            subst (λ (d : D). IsLikeness S F k g d) (sym (newest_left S F k g (λ e. omega arith)))
            (raised k g _ lk lg root (below (omega arith)))
      ]

  self_likeness : (f : ℕ) → f < F.count → IsLikeness S F f f S.top
  self_likeness f h =
      inl
      record {
        summit = f;
        left = S.top;
        right = S.top;
        from_left = stay h;
        from_right = stay h;
        lowest = λ a x y cx cy. (x, cx);
        is = sym (L.idem S.top);
      }

  likeness_below : (k f g : ℕ) → k ≤ F.count → f < k → g < k → IsLikeness S F f g (like_below S F k f g)
  likeness_below zero f g le lf lg = absurd (omega arith)
  likeness_below (suc k) f g le lf lg =
      by_newest S F k (λ f g. f < suc k → g < suc k → IsLikeness S F f g (like_below S F (suc k) f g))
      (λ lf lg. subst (λ (d : D). IsLikeness S F k k d) (sym (newest_self S F k)) (self_likeness k (omega arith)))
      (λ g ne lf lg.
      newest_likeness k g (omega arith) (omega arith) (λ lp. likeness_below k (F.parent k) g (omega arith) lp (omega arith)))
      (λ f ne lf lg.
      subst (λ (d : D). IsLikeness S F f k d) (like_symmetric S F (suc k) k f)
      (turned_likeness S F L
      (newest_likeness k f (omega arith) (omega arith) (λ lp. likeness_below k (F.parent k) f (omega arith) lp (omega arith)))))
      (λ f g ne ne' lf lg.
      subst (λ (d : D). IsLikeness S F f g d) (sym (earlier S F k f g ne ne'))
      (likeness_below k f g (omega arith) (omega arith) (omega arith)))
      f g lf lg

  -- What the function gives is the likeness.
  tree_likeness : (f g : ℕ) → IsLikeness S F f g (like_below S F F.count f g)
  tree_likeness f g =
      elim (cases_lt f F.count) [
        | inl lf ↦
            elim (cases_lt g F.count) [
              | inl lg ↦ likeness_below F.count f g (omega arith) lf lg
              | inr out ↦
                  inr (
                    λ a x y cx cy. let lg = climb_word S F cy in omega arith,
                    like_symmetric S F F.count f g ∙ like_outside S L F F.count g f out,
                  )
            ]
        | inr out ↦ inr (λ a x y cx cy. let lf = climb_word S F cx in omega arith, like_outside S L F F.count f g out)
      ]

  path_only : {f g : ℕ} {d e : D} → Path S F f g d → Path S F f g e → d ≡ e
  path_only {f} {g} {d} {e} p q =
      let u = climb_le (p.lowest q.summit q.left q.right q.from_left q.from_right).1 in
      let v = climb_le (q.lowest p.summit p.left p.right p.from_left p.from_right).1 in
      let same : p.summit ≡ q.summit = omega arith in
      let a : p.left ≡ q.left = sym (climb_value p.from_left) ∙ ap (like_below S F F.count f) same ∙ climb_value q.from_left in
      let b : p.right ≡ q.right = sym (climb_value p.from_right) ∙ ap (like_below S F F.count g) same ∙ climb_value q.from_right in
      p.is ∙ (λ i. S.meet (a i) (b i)) ∙ sym q.is

  -- There is one likeness of two words.
  likeness_only : {f g : ℕ} {d e : D} → IsLikeness S F f g d → IsLikeness S F f g e → d ≡ e
  likeness_only (inl p) (inl q) = path_only p q
  likeness_only (inl p) (inr (apart, e)) = absurd (apart p.summit p.left p.right p.from_left p.from_right)
  likeness_only (inr (apart, e)) (inl p) = absurd (apart p.summit p.left p.right p.from_left p.from_right)
  likeness_only (inr (apart, e)) (inr (apart', e')) = e ∙ sym e'

  -- The one likeness is what the function gives.
  pub likeness_exact : (f g : ℕ) (r : D) → r ≡ like_below S F F.count f g
      → IsLikeness S F f g r × ((d : D) → IsLikeness S F f g d → d ≡ r)
  likeness_exact f g r e =
      let path = subst (λ (d : D). IsLikeness S F f g d) (sym e) (tree_likeness f g) in (path, λ d p. likeness_only p path)
