-- Every sheet has either a depth for its rows or a cycle.
use mathlib.Core.HLevel.{⊥_prop}
use Rattle.std.proofs.Common.{◌≡◌, ℕ, zero, suc, ◌<◌, ◌≤◌, ◌⊎◌, List, length, get_or, sym, refl, ap, ◌∙◌, subst, inl, inr, arith}
use mathlib.Core.Logic.{∥∥₁_elim, ∥∥₁_map, ∥∥₁_prop}
use mathlib.Core.Option.{Option, none, some}
use native.Mathlib.Decide.{ℕ_discrete}
use lib.ListN.{get_elem?}
use Rattle.std.proofs.lemmas.Bool.{cases_eq}
use Rattle.unification.specs.Closures.{Closure, stated, same, turned, joined, passed, Above, Descent, step, more, Cycle, IsDepth}
use Rattle.unification.specs.Sheets.{Row, variable, composed, Sheet, At, IsCoherent}
use Rattle.unification.proofs.Cycles.{depth_no_cycle}
use Rattle.unification.proofs.Numberings.{closure?}
use Rattle.unification.proofs.Reading.{at_within}
use Rattle.unification.proofs.Searches.{first_below, greatest, greatest_at, greatest_below, greatest_same, greatest_found, pigeonhole}
use Rattle.unification.proofs.Solving.{args_within}

-- A walk of k steps from row p, each to a row that the last is above.
data Walk (s : Sheet) : ℕ → ℕ → Type 0 where
  stop : {p : ℕ} → Walk s zero p
  onto : {k p q : ℕ} → Above s p q → Walk s k q → Walk s (suc k) p

-- The row that a walk has come to after i steps.
abbrev reached : {s : Sheet} {k p : ℕ} → Walk s k p → ℕ → ℕ
reached {p = p} stop i = p
reached {p = p} (onto a w) zero = p
reached (onto a w) (suc i) = reached w i

module _ {s : Sheet} (I : IsCoherent s) where
  -- A row is in the closure with rows alone.
  pub closure_rows : {p q : ℕ} → Closure s p q → (p < length s.rows → q < length s.rows) × (q < length s.rows → p < length s.rows)
  closure_rows (stated e h) = let w = I.within e h in (λ b. w.1, λ b. w.0)
  closure_rows (same p) = (λ b. b, λ b. b)
  closure_rows (turned c) = let w = closure_rows c in (w.1, w.0)
  closure_rows (joined c d) = let v = closure_rows c in let w = closure_rows d in (λ b. w.0 (v.0 b), λ b. v.1 (w.1 b))
  closure_rows (passed {p = a} {q = b} f g xs ys i c hp hq hl hi) =
      (λ k. args_within I b g ys hq i (omega arith), λ k. args_within I a f xs hp i hi)

  above_rows : {p q : ℕ} → Above s p q → (p < length s.rows) × (q < length s.rows)
  above_rows a = (
    (closure_rows a.together).1 (at_within s.rows a.row (composed a.word a.args) a.is),
    (closure_rows a.below).0 (args_within I a.row a.word a.args a.is a.place a.in_args),
  )

  -- Whether row p is above q, through an argument of row r, or of any row.
  abbrev Through : ℕ → ℕ → ℕ → Type 0
  Through p q r = (f : ℕ) × (xs : List ℕ) × (i : ℕ) × Closure s p r × At s r (composed f xs) × (i < length xs) × Closure s (get_or xs i 0) q

  through? : (p q r : ℕ) → Dec (Through p q r)
  through? p q r = go (get_elem? s.rows r) refl (closure? I p r)
    where
      go : (o : Option Row) → get_elem? s.rows r ≡ o → Dec (Closure s p r) → Dec (Through p q r)
      go o e (no n) = no (λ t. n t.3)
      go none e (yes c) = no (λ t. let k = t.4 in let z : ◌≡◌ {A = ℕ} 0 1 = cc in omega arith)
      go (some (variable x)) e (yes c) = no (λ t. let k = t.4 in let z : ◌≡◌ {A = ℕ} 0 1 = cc in omega arith)
      go (some (composed f xs)) e (yes c) =
          elim (first_below (λ i. Closure s (get_or xs i 0) q) (λ i. closure? I (get_or xs i 0) q) (length xs)) [
            | inl m ↦ yes (f, xs, m.0, c, e, m.1, m.2)
            | inr n ↦ no (λ t.
                let k = t.4 in
                let x : t.1 ≡ xs = cc in
                n t.2 (subst (λ (l : List ℕ). t.2 < length l) x t.5) (subst (λ (l : List ℕ). Closure s (get_or l t.2 0) q) x t.6))
          ]

  above? : (p q : ℕ) → Dec (Above s p q)
  above? p q =
      elim (first_below (Through p q) (through? p q) (length s.rows)) [
        | inl m ↦ let t = m.2 in
            yes (record { row = m.0; word = t.0; args = t.1; place = t.2; together = t.3; is = t.4; in_args = t.5; below = t.6 })
        | inr n ↦ no (λ a.
            n a.row (at_within s.rows a.row (composed a.word a.args) a.is)
            (a.word, a.args, a.place, a.together, a.is, a.in_args, a.below))
      ]

  -- A walk of as many steps as there are rows comes to a row twice.
  reached_row : {k p : ℕ} (w : Walk s k p) → p < length s.rows → (i : ℕ) → reached w i < length s.rows
  reached_row stop b i = b
  reached_row (onto a w) b zero = b
  reached_row (onto a w) b (suc i) = reached_row w (above_rows a).1 i

  reached_start : {k p : ℕ} (w : Walk s k p) → reached w 0 ≡ p
  reached_start stop = refl
  reached_start (onto a w) = refl

  reached_descent : {k p : ℕ} (w : Walk s k p) (i j : ℕ) → i < j → j ≤ k → Descent s (reached w i) (reached w j)
  reached_descent stop i j lt b = absurd (omega arith)
  reached_descent (onto a w) i zero lt b = absurd (omega arith)
  reached_descent (onto {p = p} {q = q} a w) zero (suc j) lt b =
      elim (cases_eq j 0) [
        | inl e ↦ step (subst (λ (r : ℕ). Above s p r) (sym (ap (reached w) e ∙ reached_start w)) a)
        | inr n ↦ more a (subst (λ (r : ℕ). Descent s r (reached w j)) (reached_start w) (reached_descent w 0 j (omega arith) (omega arith)))
      ]
  reached_descent (onto a w) (suc i) (suc j) lt b = reached_descent w i j (omega arith) (omega arith)

  walk_cycle : {p : ℕ} → p < length s.rows → Walk s (length s.rows) p → Cycle s
  walk_cycle b w =
      let m = pigeonhole (length s.rows) (reached w) (λ i l. reached_row w b i) in
      (reached w m.0, subst (λ (r : ℕ). Descent s (reached w m.0) r) (sym m.4) (reached_descent w m.0 m.1 m.2 m.3))

  -- The length of the longest walk from p, as far as k steps.
  farther : {p q : ℕ} → Dec (Above s p q) → ℕ → ℕ
  farther (yes a) x = suc x
  farther (no n) x = 0

  far : ℕ → ℕ → ℕ
  far zero p = 0
  far (suc k) p = greatest (length s.rows) (λ q. farther (above? p q) (far k q))

  farther_le : {p q : ℕ} (d : Dec (Above s p q)) (x k : ℕ) → x ≤ k → farther d x ≤ suc k
  unfolding farther
  farther_le (yes a) x k h = omega arith
  farther_le (no n) x k h = omega arith

  far_le : (k p : ℕ) → far k p ≤ k
  unfolding far
  far_le zero p = omega arith
  far_le (suc k) p = greatest_below (length s.rows) (λ q. farther (above? p q) (far k q)) (suc k) (λ q hq. farther_le (above? p q) (far k q) k (far_le k q))

  -- Where it is as far as it can be, there is such a walk.
  farther_step : {k p q : ℕ} (d : Dec (Above s p q)) (x : ℕ) → farther d x ≡ suc k → (x ≡ k → Walk s k q) → Walk s (suc k) p
  unfolding farther
  farther_step (yes a) x e w = onto a (w (omega arith))
  farther_step (no n) x e w = absurd (omega arith)

  far_walk : (k p : ℕ) → far k p ≡ k → Walk s k p
  unfolding far
  far_walk zero p e = stop
  far_walk (suc k) p e =
      let m = greatest_found (length s.rows) (λ q. farther (above? p q) (far k q)) (omega arith) in
      farther_step (above? p m.0) (far k m.0) (m.2 ∙ e) (far_walk k m.0)

  -- Where it is not, more steps lead no farther.
  farther_same : {p q : ℕ} (d : Dec (Above s p q)) (x y : ℕ) → (Above s p q → x ≡ y) → farther d x ≡ farther d y
  unfolding farther
  farther_same (yes a) x y h = ap suc (h a)
  farther_same (no n) x y h = refl

  farther_above : {p q : ℕ} (d : Dec (Above s p q)) (x : ℕ) → Above s p q → farther d x ≡ suc x
  unfolding farther
  farther_above (yes b) x a = refl
  farther_above (no n) x a = absurd (n a)

  far_above : (k : ℕ) {p q : ℕ} → Above s p q → far k q < far (suc k) p
  unfolding far
  far_above k {p} {q} a =
      let b = greatest_at (length s.rows) (λ r. farther (above? p r) (far k r)) q (above_rows a).1 in
      let c = farther_above (above? p q) (far k q) a in
      omega arith

  far_same : (k p : ℕ) → far k p < k → far (suc k) p ≡ far k p
  unfolding far
  far_same zero p h = absurd (omega arith)
  far_same (suc k) p h =
      greatest_same (length s.rows) (λ q. farther (above? p q) (far (suc k) q)) (λ q. farther (above? p q) (far k q))
      (λ q hq. farther_same (above? p q) (far (suc k) q) (far k q) (λ a. let b = far_above k a in far_same k q (omega arith)))

  -- A row that is as far from the end as there are rows is on a cycle or above one; else the distances are a depth.
  pub depth_or_cycle : ((depth : ℕ → ℕ) × IsDepth s depth) ⊎ Cycle s
  depth_or_cycle =
      elim (first_below (λ p. far (length s.rows) p ≡ length s.rows) (λ p. ℕ_discrete (far (length s.rows) p) (length s.rows)) (length s.rows)) [
        | inl m ↦ inr (walk_cycle m.1 (far_walk (length s.rows) m.0 m.2))
        | inr n ↦ inl (
          far (length s.rows),
          λ p q a.
              let b = far_above (length s.rows) a in
              let c = far_le (length s.rows) p in
              let d = n p (above_rows a).0 in
              let e = far_same (length s.rows) p (omega arith) in
              omega arith,
        )
      ]

  pub depth_of : ¬ Cycle s → (depth : ℕ → ℕ) × IsDepth s depth
  depth_of n = elim depth_or_cycle [ inl d ↦ d | inr c ↦ absurd (n c) ]

  -- A cycle that is merely there is at hand.
  pub cycle_at_hand : ∥ Cycle s ∥₁ → Cycle s
  cycle_at_hand t =
      elim depth_or_cycle [
        | inl d ↦ absurd (∥∥₁_elim t ⊥_prop (λ c. depth_no_cycle d.1 c))
        | inr c ↦ c
      ]

  -- Where each row of some is above another of them, there is a cycle.
  endless_walk : (P : ℕ → Type 0) → ((p : ℕ) → P p → ∥ ((q : ℕ) × Above s p q × P q) ∥₁) → (k p : ℕ) → P p → ∥ Walk s k p ∥₁
  endless_walk P next zero p h = ∣ stop ∣₁
  endless_walk P next (suc k) p h =
      ∥∥₁_elim (next p h) ∥∥₁_prop (λ m. ∥∥₁_map (endless_walk P next k m.0 m.2) (λ w. onto m.1 w))

  pub endless_cycle : (P : ℕ → Type 0) → ((p : ℕ) → P p → ∥ ((q : ℕ) × Above s p q × P q) ∥₁) → (p : ℕ) → p < length s.rows → P p → Cycle s
  endless_cycle P next p b h = cycle_at_hand (∥∥₁_map (endless_walk P next (length s.rows) p h) (walk_cycle b))
