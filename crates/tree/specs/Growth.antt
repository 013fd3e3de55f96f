-- How the likeness among the words below a number grows with each word, and the laws that it keeps.
use Rattle.std.proofs.Common.{◌≡◌, ℕ, zero, suc, ◌<◌, ◌≤◌, min, max, ◌⊎◌, sym, refl, ap, ◌∙◌, subst, inl, inr, arith}
use Rattle.std.proofs.lemmas.Bool.{cases_eq, cases_lt, eq-eqb, ne_eqb, cond-true, cond-false}
use Rattle.scale.specs.Scales.{Operations, IsScale}
use Rattle.scale.proofs.Orders.{le_top, meet_bottom}
use Rattle.tree.specs.Families.{Family}
use Rattle.tree.specs.Paths.{degree, like_below}

module _ {D : Type 0} (S : Operations D) (F : Family) where
  -- The newest word and an earlier one, or two earlier ones.
  pub newest_self : (k : ℕ) → like_below S F (suc k) k k ≡ S.top
  unfolding like_below
  newest_self k = cond-true _ _ _ (eq-eqb k k refl) ∙ cond-true _ _ _ (eq-eqb k k refl)

  pub newest_left : (k g : ℕ) → (g ≡ k → ⊥) → like_below S F (suc k) k g ≡ S.meet (degree S F k) (like_below S F k (F.parent k) g)
  unfolding like_below
  newest_left k g ne = cond-true _ _ _ (eq-eqb k k refl) ∙ cond-false _ _ _ (ne_eqb g k ne)

  pub newest_right : (k f : ℕ) → (f ≡ k → ⊥) → like_below S F (suc k) f k ≡ S.meet (degree S F k) (like_below S F k (F.parent k) f)
  unfolding like_below
  newest_right k f ne = cond-false _ _ _ (ne_eqb f k ne) ∙ cond-true _ _ _ (eq-eqb k k refl)

  pub earlier : (k f g : ℕ) → (f ≡ k → ⊥) → (g ≡ k → ⊥) → like_below S F (suc k) f g ≡ like_below S F k f g
  unfolding like_below
  earlier k f g ne ne' = cond-false _ _ _ (ne_eqb f k ne) ∙ cond-false _ _ _ (ne_eqb g k ne')

  pub none_below : (f g : ℕ) → like_below S F zero f g ≡ S.bottom
  unfolding like_below
  none_below f g = refl

  -- What is proved of the newest word with itself, with an earlier word on either side, and of two earlier ones, holds of all.
  pub by_newest : (k : ℕ) (P : ℕ → ℕ → Type 0) → P k k → ((g : ℕ) → (g ≡ k → ⊥) → P k g) → ((f : ℕ) → (f ≡ k → ⊥) → P f k)
      → ((f g : ℕ) → (f ≡ k → ⊥) → (g ≡ k → ⊥) → P f g) → (f g : ℕ) → P f g
  by_newest k P self left right other f g =
      elim (cases_eq f k) [
        | inl e ↦
            elim (cases_eq g k) [
              | inl e' ↦ subst (λ (x : ℕ). P x g) (sym e) (subst (λ (y : ℕ). P k y) (sym e') self)
              | inr ne' ↦ subst (λ (x : ℕ). P x g) (sym e) (left g ne')
            ]
        | inr ne ↦
            elim (cases_eq g k) [
              | inl e' ↦ subst (λ (y : ℕ). P f y) (sym e') (right f ne)
              | inr ne' ↦ other f g ne ne'
            ]
      ]

  pub like_symmetric : (k f g : ℕ) → like_below S F k f g ≡ like_below S F k g f
  like_symmetric zero f g = none_below f g ∙ sym (none_below g f)
  like_symmetric (suc k) f g =
      by_newest k (λ f g. like_below S F (suc k) f g ≡ like_below S F (suc k) g f) refl
      (λ g ne. newest_left k g ne ∙ sym (newest_right k g ne))
      (λ f ne. newest_right k f ne ∙ sym (newest_left k f ne))
      (λ f g ne ne'. earlier k f g ne ne' ∙ like_symmetric k f g ∙ sym (earlier k g f ne' ne)) f g

  pub like_self : (k f : ℕ) → f < k → like_below S F k f f ≡ S.top
  like_self zero f h = absurd (omega arith)
  like_self (suc k) f h =
      elim (cases_eq f k) [
        | inl e ↦ subst (λ (x : ℕ). like_below S F (suc k) x x ≡ S.top) (sym e) (newest_self k)
        | inr ne ↦ earlier k f f ne ne ∙ like_self k f (omega arith)
      ]

  -- Later words change nothing between earlier ones.
  pub like_stable : (n k f g : ℕ) → k ≤ n → f < k → g < k → like_below S F n f g ≡ like_below S F k f g
  like_stable zero k f g le lf lg = absurd (omega arith)
  like_stable (suc m) k f g le lf lg =
      elim (cases_eq k (suc m)) [
        | inl e ↦ subst (λ (n : ℕ). like_below S F (suc m) f g ≡ like_below S F n f g) (sym e) refl
        | inr ne ↦ earlier m f g (λ e. omega arith) (λ e. omega arith) ∙ like_stable m k f g (omega arith) lf lg
      ]

module _ {D : Type 0} (S : Operations D) (L : IsScale S) (F : Family) where
  pub like_outside : (k f g : ℕ) → k ≤ f → like_below S F k f g ≡ S.bottom
  like_outside zero f g h = none_below S F f g
  like_outside (suc k) f g h =
      elim (cases_eq g k) [
        | inl e ↦
            subst (λ (y : ℕ). like_below S F (suc k) f y ≡ S.bottom) (sym e)
            (newest_right S F k f (λ e'. omega arith)
            ∙ ap (S.meet (degree S F k)) (like_symmetric S F k (F.parent k) f ∙ like_outside k f (F.parent k) (omega arith))
            ∙ meet_bottom L (degree S F k))
        | inr ne ↦ earlier S F k f g (λ e. omega arith) ne ∙ like_outside k f g (omega arith)
      ]

  -- Climbing one step from the higher of two words.
  pub like_step : (n f g : ℕ) → f < n → g < f → F.parent f < f
      → like_below S F n f g ≡ S.meet (degree S F f) (like_below S F n (F.parent f) g)
  like_step n f g lf lg lp =
      like_stable S F n (suc f) f g (omega arith) (omega arith) (omega arith)
      ∙ newest_left S F f g (λ e. omega arith)
      ∙ ap (S.meet (degree S F f)) (sym (like_stable S F n f (F.parent f) g (omega arith) lp lg))

  -- A root is alike to no lower word.
  pub like_root : (n f g : ℕ) → f < n → g < f → F.parent f ≡ f → like_below S F n f g ≡ S.bottom
  like_root n f g lf lg e =
      like_stable S F n (suc f) f g (omega arith) (omega arith) (omega arith)
      ∙ newest_left S F f g (λ e. omega arith)
      ∙ ap (S.meet (degree S F f)) (ap (λ (p : ℕ). like_below S F f p g) e ∙ like_outside f f g (omega arith))
      ∙ meet_bottom L (degree S F f)

  -- Of two words the higher one climbs.
  ordered : (n f g high low : ℕ) → high ≡ max f g → low ≡ min f g → like_below S F n f g ≡ like_below S F n high low
  ordered n f g high low eh el =
      elim (cases_lt g f) [
        | inl lt ↦
            let a : f ≡ high = omega arith in
            let b : g ≡ low = omega arith in
            λ i. like_below S F n (a i) (b i)
        | inr ge ↦
            let a : g ≡ high = omega arith in
            let b : f ≡ low = omega arith in
            like_symmetric S F n f g ∙ (λ i. like_below S F n (a i) (b i))
      ]

  module _ (n f g high low : ℕ) (start d : D) (lf : f < n) (lg : g < n) (apart : f ≡ g → ⊥) (eh : high ≡ max f g) (el : low ≡ min f g)
      (so_far : start ≡ S.meet d (like_below S F n f g)) where
    -- To its parent.
    pub like_turn : (link next : D) → link ≡ degree S F high → next ≡ S.meet d link → F.parent high ≤ high → (F.parent high ≡ high → ⊥)
        → start ≡ S.meet next (like_below S F n (F.parent high) low)
    like_turn link next is-link is-next lower root =
        so_far
        ∙ ap (S.meet d) (ordered n f g high low eh el ∙ like_step n high low (omega arith) (omega arith) (below (cases_lt (F.parent high) high)))
        ∙ sym (L.assoc d (degree S F high) (like_below S F n (F.parent high) low))
        ∙ ap (λ (x : D). S.meet x (like_below S F n (F.parent high) low)) (ap (S.meet d) (sym is-link) ∙ sym is-next)
      where
        below : (F.parent high < high) ⊎ (high ≤ F.parent high) → F.parent high < high
        below (inl lt) = lt
        below (inr ge) = absurd (root (omega arith))

    -- A root that has not met the other word has no path to it.
    pub like_halt : F.parent high ≡ high → start ≡ S.bottom
    like_halt e =
        so_far
        ∙ ap (S.meet d) (ordered n f g high low eh el ∙ like_root n high low (omega arith) (omega arith) e)
        ∙ meet_bottom L d

  -- Where the two have met, nothing is left to meet.
  pub like_met : (n f g : ℕ) (start d : D) → f < n → f ≡ g → start ≡ S.meet d (like_below S F n f g) → d ≡ start
  like_met n f g start d lf e so_far =
      sym (le_top L d) ∙ ap (S.meet d) (sym (like_self S F n f lf) ∙ ap (like_below S F n f) e) ∙ sym so_far
