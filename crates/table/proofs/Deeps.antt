-- Giving depths: one more, all given, none more to give.
use Rattle.std.proofs.Common.{◌≡◌, ℕ, zero, suc, ◌+◌, ◌<◌, ◌≤◌, cond, eqb, ◌⊎◌, List, length, get_or, set, sym, refl, ap, ◌∙◌, subst, inl, inr, arith}
use lib.ListN.{get_elem?}
use Rattle.fault.specs.Firsts.{Below}
use Rattle.std.proofs.lemmas.List.{get_or-set_other, get_or-set_same}
use Rattle.std.proofs.lemmas.Bool.{cases_eq, cond-true, cond-false, eq-eqb, ne_eqb}
use Rattle.table.proofs.Growing.{same_class}
use Rattle.table.proofs.Joins.{composed_with}
use Rattle.table.specs.Deepening.{Heights, Ready, Settled, Stuck, missing}
use Rattle.table.specs.Joining.{Uniform}
use Rattle.rows.specs.Stored.{Lower, args_at, args_of, at, depth_at}
use Rattle.unification.proofs.Depths.{closure_rows, endless_cycle}
use Rattle.unification.proofs.Reading.{at_within}
use Rattle.unification.proofs.Searches.{search_below}
use Rattle.unification.proofs.Solving.{args_within}
use Rattle.unification.specs.Closures.{same, passed, Above, Cycle, IsDepth, kind}
use Rattle.unification.specs.Sheets.{Row, Sheet, IsCoherent, composed}
use Rattle.unification.specs.Tables.{Represents}

-- One where there is no depth, else none.
abbrev gap : List ℕ → ℕ → ℕ
gap d k = cond (eqb (at d k) 0) 1 0

gap_none : (d : List ℕ) (k : ℕ) → at d k ≡ 0 → gap d k ≡ 1
gap_none d k e = cond-true (eqb (at d k) 0) 1 0 (eq-eqb (at d k) 0 e)

gap_some : (d : List ℕ) (k : ℕ) → (at d k ≡ 0 → ⊥) → gap d k ≡ 0
gap_some d k n = cond-false (eqb (at d k) 0) 1 0 (ne_eqb (at d k) 0 n)

gap_other : (d : List ℕ) (p x k : ℕ) → (k ≡ p → ⊥) → gap (set d p x) k ≡ gap d k
gap_other d p x k n = ap (λ (z : ℕ). cond {A = ℕ} (eqb z 0) 1 0) (get_or-set_other d p k x 0 n)

missing_other : (d : List ℕ) (p x n : ℕ) → n ≤ p → missing (set d p x) n ≡ missing d n
unfolding missing
missing_other d p x zero h = refl
missing_other d p x (suc n) h =
    let a = gap_other d p x n (λ e. omega arith) in let b = missing_other d p x n (omega arith) in omega arith

-- With a depth for one more row, one fewer is missing.
pub missing_falls : (d : List ℕ) (p x n : ℕ) → p < n → n ≤ length d → at d p ≡ 0 → 0 < x → missing (set d p x) n + 1 ≡ missing d n
unfolding missing
missing_falls d p x zero h l e k = absurd (omega arith)
missing_falls d p x (suc n) h l e k =
    elim (cases_eq p n) [
      | inl s ↦
          let a : gap d n ≡ 1 = gap_none d n (subst (λ (z : ℕ). at d z ≡ 0) s e) in
          let w : at (set d p x) n ≡ x = subst (λ (z : ℕ). at (set d p x) z ≡ x) s (get_or-set_same d p x 0 (omega arith)) in
          let b : gap (set d p x) n ≡ 0 = gap_some (set d p x) n (λ z. omega arith) in
          let m = missing_other d p x n (omega arith) in
          omega arith
      | inr s ↦
          let a = gap_other d p x n (λ z. s (sym z)) in
          let m = missing_falls d p x n (omega arith) (omega arith) e k in
          omega arith
    ]

gap_le : (d : List ℕ) (k : ℕ) → gap d k ≤ 1
gap_le d k =
    elim (cases_eq (at d k) 0) [
      | inl e ↦ let a : gap d k ≡ 1 = gap_none d k e in omega arith
      | inr e ↦ let a : gap d k ≡ 0 = gap_some d k e in omega arith
    ]

pub missing_le : (d : List ℕ) (n : ℕ) → missing d n ≤ n
unfolding missing
missing_le d zero = omega arith
missing_le d (suc n) = let a = gap_le d n in let b = missing_le d n in omega arith

-- Before any depth is given.
pub heights_none : (rows : List Row) (n : ℕ) (c d : List ℕ) → Below n (λ p. at d p ≡ 0) → Heights rows n c d 1
heights_none rows n c d z =
    record {
      positive = omega arith;
      below = λ p hp. let e = z p hp in omega arith;
      left = let m = missing_le d n in omega arith;
      ready = λ p hp k. let e = z p hp in absurd (omega arith);
      falls = λ p hp k. let e = z p hp in absurd (omega arith);
    }

module _ (rows : List Row) (n : ℕ) (c : List ℕ) (lower : Lower rows) (within : Below n (λ p. at c p < n)) where
  -- A ready row gets the next depth.
  pub heights_more : (d : List ℕ) (next p : ℕ) → n ≤ length d → Heights rows n c d next → p < n → at d p ≡ 0 → Ready rows c d p → Heights rows n c (set d p next) (next + 1)
  heights_more d next p l h hp e r =
      record {
        positive = omega arith;
        below = λ q hq. below q hq (cases_eq q p);
        left = let m = missing_falls d p next n hp l e h.positive in let k = h.left in omega arith;
        ready = λ q hq. ready q hq (cases_eq q p);
        falls = λ q hq. falls q hq (cases_eq q p);
      }
    where
      mine : at (set d p next) p ≡ next
      mine = get_or-set_same d p next 0 (omega arith)

      other : (q : ℕ) → (q ≡ p → ⊥) → at (set d p next) q ≡ at d q
      other q k = get_or-set_other d p q next 0 k

      -- what has a depth keeps it
      kept : (a : ℕ) → 0 < at d a → at (set d p next) a ≡ at d a
      kept a k = other a (λ z. let w : at d a ≡ 0 = ap (at d) z ∙ e in omega arith)

      below : (q : ℕ) → q < n → (q ≡ p) ⊎ (q ≡ p → ⊥) → at (set d p next) q < next + 1
      below q hq (inl s) = let a = ap (at (set d p next)) s ∙ mine in omega arith
      below q hq (inr s) = let a = other q s in let b = h.below q hq in omega arith

      was : (q : ℕ) → q < n → (q ≡ p) ⊎ (q ≡ p → ⊥) → 0 < at (set d p next) q → Ready rows c d q
      was q hq (inl s) k = subst (Ready rows c d) (sym s) r
      was q hq (inr s) k = h.ready q hq (subst (λ (z : ℕ). 0 < z) (other q s) k)

      ready : (q : ℕ) → q < n → (q ≡ p) ⊎ (q ≡ p → ⊥) → 0 < at (set d p next) q → Ready rows c (set d p next) q
      ready q hq s k i hi = let a = was q hq s k i hi in subst (λ (z : ℕ). 0 < z) (sym (kept (at c (get_or (args_at rows q) i 0)) a)) a

      falls : (q : ℕ) → q < n → (q ≡ p) ⊎ (q ≡ p → ⊥) → 0 < at (set d p next) q → Below (length (args_at rows q)) (λ i. depth_at c (set d p next) (get_or (args_at rows q) i 0) < at (set d p next) q)
      falls q hq (inl s) k i hi =
          let a = was q hq (inl s) k i hi in
          let b = kept (at c (get_or (args_at rows q) i 0)) a in
          let o = ap (at (set d p next)) s ∙ mine in
          let u = lower q i hi in
          let f = h.below (at c (get_or (args_at rows q) i 0)) (within (get_or (args_at rows q) i 0) (omega arith)) in
          omega arith
      falls q hq (inr s) k i hi =
          let a = was q hq (inr s) k i hi in
          let b = kept (at c (get_or (args_at rows q) i 0)) a in
          let o = other q s in
          let f = h.falls q hq (subst (λ (z : ℕ). 0 < z) o k) i hi in
          omega arith

module _ {s : Sheet} (I : IsCoherent s) (c : List ℕ) (R : Represents s (at c)) where
  -- Settled depths are depths of the sheet, where each composed row has as many arguments as its representative.
  pub settled_depth : (d : List ℕ) → Uniform s.rows (length s.rows) c → Settled s.rows (length s.rows) c d → IsDepth s (depth_at c d)
  settled_depth d U S p q a =
      let row = a.row in
      let xs = a.args in
      let i = a.place in
      let hr = at_within s.rows row (composed a.word xs) a.is in
      let x : args_at s.rows row ≡ xs = ap args_of a.is in
      let hx = args_within I row a.word xs a.is i a.in_args in
      let rep = (closure_rows I (R row hr).together).0 hr in
      let u = U row hr (ap kind a.is) in
      let m : i < length (args_at s.rows (at c row)) = subst (λ (z : ℕ). i < z) (sym (ap length x) ∙ u) a.in_args in
      let b = composed_with (get_elem? s.rows (at c row)) i m in
      let ys = args_at s.rows (at c row) in
      let hy = args_within I (at c row) b.0 ys b.1 i m in
      let l : length xs ≡ length ys = sym (ap length x) ∙ u in
      let k = passed a.word b.0 xs ys i (R row hr).together a.is b.1 l a.in_args in
      let one : at c (get_or xs i 0) ≡ at c (get_or ys i 0) = same_class R hx hy k in
      let two : at c (get_or xs i 0) ≡ at c q = same_class R hx ((closure_rows I a.below).0 hx) a.below in
      let three : at c p ≡ at c row = same_class R ((closure_rows I a.together).1 hr) hr a.together in
      let f = S.falls (at c row) rep i m in
      let g = ap (at d) (sym two ∙ one) in
      let o = ap (at d) three in
      omega arith

  -- A row that gets no depth is on a cycle or above one.
  pub stuck_cycle : (p : ℕ) → Stuck s.rows (length s.rows) c p → Cycle s
  stuck_cycle p t = endless_cycle I Waiting next p t.row (t.row, t.none)
    where
      Waiting : ℕ → Type 0
      Waiting q = (q < length s.rows) × (at t.depths q ≡ 0)

      zero_or : (x : ℕ) → (x ≡ 0) ⊎ (0 < x)
      zero_or x = elim (cases_eq x 0) [ inl e ↦ inl e | inr n ↦ inr (omega arith) ]

      next : (q : ℕ) → Waiting q → ∥ ((r : ℕ) × Above s q r × Waiting r) ∥₁
      next q w =
          elim (search_below (λ k. depth_at c t.depths (get_or (args_at s.rows q) k 0) ≡ 0) (λ k. 0 < depth_at c t.depths (get_or (args_at s.rows q) k 0)) (length (args_at s.rows q)) (λ k h. zero_or (depth_at c t.depths (get_or (args_at s.rows q) k 0)))) [
            | inl m ↦
                let b = composed_with (get_elem? s.rows q) m.0 m.1 in
                let xs = args_at s.rows q in
                let h = args_within I q b.0 xs b.1 m.0 m.1 in
                let k = (R (get_or xs m.0 0) h).together in
                ∣ (at c (get_or xs m.0 0), record { row = q; word = b.0; args = xs; place = m.0; together = same q; is = b.1; in_args = m.1; below = k }, ((closure_rows I k).0 h, m.2)) ∣₁
            | inr r ↦ absurd (t.still q w.0 w.1 r)
          ]
