-- A sheet with one more row: the row is its own class, and all else stays.
use Rattle.std.proofs.Common.{◌≡◌, ℕ, ◌+◌, ◌<◌, ◌≤◌, ◌⊎◌, List, [], ◌∷◌, ◌++◌, length, get_or, set, sym, refl, ap, ◌∙◌, subst, inl, inr, arith, length-append}
use mathlib.Core.Option.{Option, some}
use lib.ListN.{get_elem?}
use Rattle.fault.specs.Firsts.{Below}
use Rattle.std.proofs.lemmas.List.{get_or-set_other, get_or-set_same}
use Rattle.std.proofs.lemmas.Bool.{cases_eq}
use Rattle.rows.proofs.Places.{appended_at, last_at}
use Rattle.table.specs.Joining.{Uniform}
use Rattle.rows.specs.Stored.{args_of, at, depth_at}
use Rattle.unification.proofs.Bridges.{appended_coherent, depth_from, represents_from}
use Rattle.unification.proofs.Depths.{closure_rows}
use Rattle.unification.proofs.Orderings.{closure_appended}
use Rattle.unification.proofs.Reading.{at_within}
use Rattle.unification.proofs.Solving.{args_within, one_representative}
use Rattle.unification.proofs.Tables.{closed_closure}
use Rattle.unification.specs.Closures.{Closure, stated, same, turned, joined, passed, Above, IsDepth, kind}
use Rattle.unification.specs.Sheets.{Row, variable, composed, Sheet, At, Fits, IsCoherent, appended}
use Rattle.unification.specs.Tables.{IsClosed, Represents}

-- Rows of one number are in the closure, and rows in the closure have one number.
module _ {s : Sheet} {of : ℕ → ℕ} (R : Represents s of) where
  pub class_same : (p q : ℕ) → p < length s.rows → q < length s.rows → of p ≡ of q → Closure s p q
  class_same p q hp hq e = joined (R p hp).together (subst (λ (z : ℕ). Closure s z q) (sym e) (turned (R q hq).together))

  pub same_class : {p q : ℕ} → p < length s.rows → q < length s.rows → Closure s p q → of p ≡ of q
  same_class {p} {q} hp hq c = one_representative c (R p hp) (R q hq)

module _ {s : Sheet} (I : IsCoherent s) (c : List ℕ) (R : Represents s (at c)) (r : Row) (F : Fits s r) (hc : length s.rows < length c) where
  abbrev pub grown : List ℕ
  grown = set c (length s.rows) (length s.rows)

  at_old : (p : ℕ) → p < length s.rows → at grown p ≡ at c p
  at_old p h = get_or-set_other c (length s.rows) p (length s.rows) 0 (λ e. omega arith)

  at_new : at grown (length s.rows) ≡ length s.rows
  at_new = get_or-set_same c (length s.rows) (length s.rows) 0 hc

  inside : (p : ℕ) → p < length s.rows → at c p < length s.rows
  inside p h = (closure_rows I (R p h).together).0 h

  -- A composed row is an old one or the new one.
  which : (p f : ℕ) (xs : List ℕ) → At (appended s r) p (composed f xs) → ((p < length s.rows) × At s p (composed f xs)) ⊎ ((p ≡ length s.rows) × (r ≡ composed f xs))
  which p f xs h =
      elim (appended_at s.rows r p) [
        | inl e ↦ let k : At s p (composed f xs) = sym e ∙ h in inl (at_within s.rows p (composed f xs) k, k)
        | inr b ↦ let e = b.1 in inr (b.0, cc)
      ]

  old_row : (p : ℕ) → p < length s.rows → get_elem? (s.rows ++ (r ∷ [])) p ≡ get_elem? s.rows p
  old_row p h = elim (appended_at s.rows r p) [ inl e ↦ e | inr b ↦ let e = b.0 in absurd (omega arith) ]

  closed_grown : IsClosed (appended s r) (at grown)
  closed_grown =
      record {
        sides = λ e m.
            let w = I.within e m in
            at_old e.left w.0 ∙ same_class R w.0 w.1 (stated e m) ∙ sym (at_old e.right w.1);
        args = λ p q f g xs ys e hp hq hl i hi. go p q f g xs ys e hl i hi (which p f xs hp) (which q g ys hq);
      }
    where
      go : (p q f g : ℕ) (xs ys : List ℕ) → at grown p ≡ at grown q → length xs ≡ length ys → (i : ℕ) → i < length xs → ((p < length s.rows) × At s p (composed f xs)) ⊎ ((p ≡ length s.rows) × (r ≡ composed f xs)) → ((q < length s.rows) × At s q (composed g ys)) ⊎ ((q ≡ length s.rows) × (r ≡ composed g ys)) → at grown (get_or xs i 0) ≡ at grown (get_or ys i 0)
      go p q f g xs ys e hl i hi (inl a) (inl b) =
          let u = args_within I p f xs a.1 i hi in
          let v = args_within I q g ys b.1 i (omega arith) in
          let k = class_same R p q a.0 b.0 (sym (at_old p a.0) ∙ e ∙ at_old q b.0) in
          at_old (get_or xs i 0) u ∙ same_class R u v (passed f g xs ys i k a.1 b.1 hl hi) ∙ sym (at_old (get_or ys i 0) v)
      go p q f g xs ys e hl i hi (inl a) (inr b) =
          let u = at_old p a.0 in
          let v = inside p a.0 in
          let w = ap (at grown) b.0 ∙ at_new in
          absurd (omega arith)
      go p q f g xs ys e hl i hi (inr a) (inl b) =
          let u = at_old q b.0 in
          let v = inside q b.0 in
          let w = ap (at grown) a.0 ∙ at_new in
          absurd (omega arith)
      go p q f g xs ys e hl i hi (inr a) (inr b) =
          let h = a.1 in let k = b.1 in let z : xs ≡ ys = cc in ap (λ (l : List ℕ). at grown (get_or l i 0)) z

  -- What holds of an old row and its class, and of the new row, holds of every row.
  every : (P : ℕ → ℕ → Option Row → Option Row → Type 0) → Below (length s.rows) (λ p. P p (at c p) (get_elem? s.rows (at c p)) (get_elem? s.rows p)) → P (length s.rows) (length s.rows) (some r) (some r) → Below (length (s.rows ++ (r ∷ []))) (λ p. P p (at grown p) (get_elem? (s.rows ++ (r ∷ [])) (at grown p)) (get_elem? (s.rows ++ (r ∷ [])) p))
  every P old new p hp = go (cases_eq p (length s.rows))
    where
      go : (p ≡ length s.rows) ⊎ (p ≡ length s.rows → ⊥) → P p (at grown p) (get_elem? (s.rows ++ (r ∷ [])) (at grown p)) (get_elem? (s.rows ++ (r ∷ [])) p)
      go (inl e) = rw (e, at_new, last_at s.rows r) new
      go (inr d) =
          let n = length-append s.rows (r ∷ []) in
          let h : p < length s.rows = omega arith in
          rw (at_old p h, old_row p h, old_row (at c p) (inside p h)) (old p h)

  pub represents_grown : Represents (appended s r) (at grown)
  represents_grown =
      represents_from (appended_coherent I r F) closed_grown
      (every (λ p q a b. ∥ Closure (appended s r) p q ∥₁) (λ p h. ∣ closure_appended s (r ∷ []) (R p h).together ∣₁) ∣ same (length s.rows) ∣₁)
      (every (λ p q a b. kind a ≤ kind b) (λ p h. (R p h).kindest p (same p)) (omega arith))
      (every (λ p q a b. kind a ≡ kind b → q ≤ p) (λ p h. (R p h).lowest p (same p)) (λ e. omega arith))

  -- The arguments of the new row are rows.
  fits_args : (r : Row) → Fits s r → (f : ℕ) (xs : List ℕ) → r ≡ composed f xs → Below (length xs) (λ i. get_or xs i 0 < length s.rows)
  fits_args (variable y) F f xs e = let z : ◌≡◌ {A = ℕ} 0 1 = cc in absurd (omega arith)
  fits_args (composed g ys) F f xs e = let y : ys ≡ xs = cc in subst (λ (l : List ℕ). Below (length l) (λ i. get_or l i 0 < length s.rows)) y F

  module _ (d : List ℕ) (hd : length s.rows < length d) (D : IsDepth s (depth_at c d)) (x : ℕ) (X : Below (length (args_of (some r))) (λ i. depth_at c d (get_or (args_of (some r)) i 0) < x)) where
    abbrev pub deeper : List ℕ
    deeper = set d (length s.rows) x

    depth_old : (p : ℕ) → p < length s.rows → depth_at grown deeper p ≡ depth_at c d p
    depth_old p h =
        let i = inside p h in ap (at deeper) (at_old p h) ∙ get_or-set_other d (length s.rows) (at c p) x 0 (λ e. omega arith)

    depth_new : depth_at grown deeper (length s.rows) ≡ x
    depth_new = ap (at deeper) at_new ∙ get_or-set_same d (length s.rows) x 0 hd

    pub depth_grown : IsDepth (appended s r) (depth_at grown deeper)
    depth_grown = depth_from (λ p q k. ap (at deeper) (closed_closure closed_grown k)) (λ p f xs h i hi. go p f xs i hi (which p f xs h))
      where
        go : (p f : ℕ) (xs : List ℕ) (i : ℕ) → i < length xs → ((p < length s.rows) × At s p (composed f xs)) ⊎ ((p ≡ length s.rows) × (r ≡ composed f xs)) → depth_at grown deeper (get_or xs i 0) < depth_at grown deeper p
        go p f xs i hi (inl a) =
            let u = args_within I p f xs a.1 i hi in
            let b : Above s p (get_or xs i 0) = record { row = p; word = f; args = xs; place = i; together = same p; is = a.1; in_args = hi; below = same (get_or xs i 0) } in
            let v = D p (get_or xs i 0) b in
            let l = depth_old p a.0 in
            let m = depth_old (get_or xs i 0) u in
            omega arith
        go p f xs i hi (inr a) =
            let e : args_of (some r) ≡ xs = ap (λ (z : Row). args_of (some z)) a.1 in
            let v : depth_at c d (get_or xs i 0) < x = subst (λ (l : List ℕ). depth_at c d (get_or l i 0) < x) e (X i (subst (λ (l : List ℕ). i < length l) (sym e) hi)) in
            let u = fits_args r F f xs a.1 i hi in
            let l = ap (depth_at grown deeper) a.0 ∙ depth_new in
            let m = depth_old (get_or xs i 0) u in
            omega arith

    pub shallow_grown : Below (length s.rows) (λ p. depth_at c d p ≤ length s.rows) → x ≤ length s.rows + 1 → Below (length s.rows + 1) (λ p. depth_at grown deeper p ≤ length s.rows + 1)
    shallow_grown k hx p hp =
        elim (cases_eq p (length s.rows)) [
          | inl e ↦ let l = ap (depth_at grown deeper) e ∙ depth_new in omega arith
          | inr e ↦ let h : p < length s.rows = omega arith in let l = depth_old p h in let m = k p h in omega arith
        ]

  pub within_grown : Below (length s.rows + 1) (λ p. at grown p < length s.rows + 1)
  within_grown p hp =
      elim (cases_eq p (length s.rows)) [
        | inl e ↦ let l = ap (at grown) e ∙ at_new in omega arith
        | inr e ↦ let h : p < length s.rows = omega arith in let l = at_old p h in let m = inside p h in omega arith
      ]

  pub uniform_grown : Uniform s.rows (length s.rows) c → Uniform (s.rows ++ (r ∷ [])) (length s.rows + 1) grown
  uniform_grown U p hp =
      let n = length-append s.rows (r ∷ []) in
      every (λ p q a b. kind b ≡ 0 → length (args_of b) ≡ length (args_of a)) U (λ e. refl) p (omega arith)
