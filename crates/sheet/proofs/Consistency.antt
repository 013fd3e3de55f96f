-- Calls keep a sheet consistent.
use Rattle.std.proofs.Common.{◌≡◌, ℕ, zero, suc, ◌<◌, ◌≤◌, ◌⊎◌, List, [], ◌∷◌, ◌++◌, length, get_or, take, sym, refl, ap, ◌∙◌, subst, inl, inr, arith, length-append}
use mathlib.Core.List.Memᴰ
use mathlib.Core.Option.{some}
use lib.ListN.{get_elem?}
use Rattle.fault.specs.Firsts.{Below}
use Rattle.scale.proofs.Orders.{le_bottom, le_of_eq, le_top, le_trans}
use Rattle.scale.specs.Scales.{Operations, IsScale, AtMost}
use Rattle.sheet.specs.Promises.{Consistent}
use Rattle.unification.proofs.Bridges.{fresh_sheet, appended_sheet, kept_sheet}
use Rattle.unification.proofs.Depths.{closure_rows}
use Rattle.unification.proofs.Main.{degree_of_lem}
use Rattle.unification.proofs.Orderings.{closure_grows}
use Rattle.unification.proofs.Reading.{at_within}
use Rattle.unification.specs.Classes.{Member}
use Rattle.unification.specs.Closures.{Closure, stated, same, turned, joined, passed, Bound, IsDegree}
use Rattle.unification.specs.Putting as putting
use Rattle.unification.specs.Putting.{Put, PutAll}
use Rattle.unification.specs.Sheets.{Row, variable, composed, Equation, Sheet, At, Holds, IsCoherent, IsSheet, IsTyped, Fits, fresh, appended, kept}
use Rattle.unification.specs.Terms.{Term, Terms, size, Formed, AllFormed}
use Rattle.vocabulary.specs.Words.{Words, IsVocabulary}

-- A row below the last stands where it stood.
at_old : (l : List Row) (x : Row) (p : ℕ) (r : Row) → p < length l → get_elem? (l ++ (x ∷ [])) p ≡ some r → get_elem? l p ≡ some r
at_old [] x p r h e = absurd (omega arith)
at_old (y ∷ l) x zero r h e = e
at_old (y ∷ l) x (suc p) r h e = at_old l x p r (omega arith) e

at_taken : (l : List Row) (k p : ℕ) (r : Row) → get_elem? (take k l) p ≡ some r → get_elem? l p ≡ some r
at_taken l zero p r h = let z : ◌≡◌ {A = ℕ} 0 1 = cc in absurd (omega arith)
at_taken [] (suc k) p r h = let z : ◌≡◌ {A = ℕ} 0 1 = cc in absurd (omega arith)
at_taken (x ∷ l) (suc k) zero r h = h
at_taken (x ∷ l) (suc k) (suc p) r h = at_taken l k p r h

taken : (l : List Equation) (k : ℕ) (e : Equation) → Member e (take k l) → Member e l
taken l zero e h = elim h [ ]
taken [] (suc k) e h = elim h [ ]
taken (x ∷ l) (suc k) e (Memᴰ.head q) = Memᴰ.head q
taken (x ∷ l) (suc k) e (Memᴰ.tail m) = Memᴰ.tail (taken l k e m)

-- Each of the numbers is below n.
below_cons : (p : ℕ) (ps : List ℕ) (n : ℕ) → p < n → Below (length ps) (λ i. get_or ps i 0 < n) → Below (length (p ∷ ps)) (λ i. get_or (p ∷ ps) i 0 < n)
below_cons p ps n h k zero l = h
below_cons p ps n h k (suc i) l = k i (omega arith)

-- A new row is in the closure with itself alone.
closure_old : {s : Sheet} → IsCoherent s → (r : Row) → {p q : ℕ} → Closure (appended s r) p q → (p ≡ q) ⊎ ((p < length s.rows) × Closure s p q)
closure_old I r (stated e h) = inr ((I.within e h).0, stated e h)
closure_old I r (same p) = inl refl
closure_old I r (turned c) =
    elim (closure_old I r c) [ inl e ↦ inl (sym e) | inr k ↦ inr ((closure_rows I k.1).0 k.0, turned k.1) ]
closure_old {s} I r (joined {p = a} {q = b} {r = d} c k) = go (closure_old I r c) (closure_old I r k)
  where
    go : (a ≡ b) ⊎ ((a < length s.rows) × Closure s a b) → (b ≡ d) ⊎ ((b < length s.rows) × Closure s b d) → (a ≡ d) ⊎ ((a < length s.rows) × Closure s a d)
    go (inl e) (inl f) = inl (e ∙ f)
    go (inl e) (inr f) = inr (subst (λ (z : ℕ). (z < length s.rows) × Closure s z d) (sym e) f)
    go (inr e) (inl f) = inr (e.0, subst (λ (z : ℕ). Closure s a z) f e.1)
    go (inr e) (inr f) = inr (e.0, joined e.1 f.1)
closure_old {s} I r (passed {p = a} {q = b} f g xs ys i c hp hq hl hi) = go (closure_old I r c)
  where
    go : (a ≡ b) ⊎ ((a < length s.rows) × Closure s a b) → (get_or xs i 0 ≡ get_or ys i 0) ⊎ ((get_or xs i 0 < length s.rows) × Closure s (get_or xs i 0) (get_or ys i 0))
    go (inl e) =
        let k = subst (λ (z : ℕ). At (appended s r) z (composed f xs)) e hp in
        let z : xs ≡ ys = cc in
        inl (ap (λ (l : List ℕ). get_or l i 0) z)
    go (inr k) =
        let h = at_old s.rows r a (composed f xs) k.0 hp in
        let m = at_old s.rows r b (composed g ys) ((closure_rows I k.1).0 k.0) hq in
        let n = k.0 in
        let o = I.lower a f xs h i hi in
        inr (omega arith, passed f g xs ys i k.1 h m hl hi)

module _ {D : Type 0} {S : Operations D} (L : IsScale S) {V : Words D} (W : IsVocabulary S V) where
  -- Where every bound of one sheet bounds another, the other's degree is not bottom if the first's is not.
  above_moved : {s t : Sheet} → Consistent S V s → ((d : D) → Bound S V s d → Bound S V t d) → IsDegree S V t S.bottom → ⊥
  above_moved {s} C b G =
      let d = degree_of_lem L W C.formed in
      C.above (subst (IsDegree S V s) (le_bottom L (G.greatest d.0 (b d.0 d.1.bound))) d.1)

  pub consistent_fresh : Consistent S V fresh
  consistent_fresh =
      record {
        formed = fresh_sheet;
        above = λ G.
            L.apart (sym (le_bottom L (G.greatest S.top (λ p q f g xs ys c hp. let z : ◌≡◌ {A = ℕ} 0 1 = cc in absurd (omega arith)))));
      }

  pub consistent_appended : {s : Sheet} → Consistent S V s → (r : Row) → Fits s r → IsTyped V.count V.arity r → Consistent S V (appended s r)
  consistent_appended {s} C r F T =
      let I = appended_sheet C.formed r F T in
      record {
        formed = I;
        above = above_moved C (λ d b p q f g xs ys c hp hq. go I d b p q f g xs ys hp hq (closure_old C.formed.coherent r c));
      }
    where
      go : IsSheet V.count V.arity (appended s r) → (d : D) → Bound S V s d → (p q f g : ℕ) (xs ys : List ℕ) → At (appended s r) p (composed f xs) → At (appended s r) q (composed g ys) → (p ≡ q) ⊎ ((p < length s.rows) × Closure s p q) → AtMost S d (V.likeness f g)
      go I d b p q f g xs ys hp hq (inl e) =
          let k = subst (λ (z : ℕ). At (appended s r) z (composed f xs)) e hp in
          let z : f ≡ g = cc in
          le_trans L (le_top L d) (le_of_eq L (sym (W.same f (I.typed p (composed f xs) hp).0) ∙ ap (V.likeness f) z))
      go I d b p q f g xs ys hp hq (inr k) =
          let m = (closure_rows C.formed.coherent k.1).0 k.0 in
          b p q f g xs ys k.1 (at_old s.rows r p (composed f xs) k.0 hp) (at_old s.rows r q (composed g ys) m hq)

  pub consistent_kept : {s : Sheet} → Consistent S V s → (r m : ℕ) → r ≤ length s.rows → ((e : Equation) → Holds (kept r m s) e → (e.left < r) × (e.right < r)) → Consistent S V (kept r m s)
  consistent_kept {s} C r m h w =
      record {
        formed = kept_sheet C.formed r m h w;
        above = above_moved C (λ d b p q f g xs ys c hp hq. b p q f g xs ys (closure_grows (at_taken s.rows r) (taken s.equations m) c) (at_taken s.rows r p (composed f xs) hp) (at_taken s.rows r q (composed g ys) hq));
      }

  -- Rows only grow, and those of what was put are on the sheet.
  mutual
    pub consistent_put : {s u : Sheet} {t : Term} {p : ℕ} → Consistent S V s → Formed V.count V.arity t → Put s t p u → Consistent S V u × (p < length u.rows) × (length s.rows ≤ length u.rows)
    consistent_put {s} C F (putting.met {x = x} {p = p} h) = (C, at_within s.rows p (variable x) h, omega arith)
    consistent_put {s} C F (putting.new {x = x} h) =
        let n = length-append s.rows (variable x ∷ []) in (consistent_appended C (variable x) (F, h) tt, omega arith, omega arith)
    consistent_put {s} C F (putting.built {u = u} {f = f} {ts = ts} {ps = ps} h) =
        let A = consistent_puts C F.2 h in
        let n = length-append u.rows (composed f ps ∷ []) in
        let k = A.3 in
        (consistent_appended A.0 (composed f ps) A.2 (F.0, A.1 ∙ F.1), omega arith, omega arith)

    pub consistent_puts : {s u : Sheet} {ts : Terms} {ps : List ℕ} → Consistent S V s → AllFormed V.count V.arity ts → PutAll s ts ps u → Consistent S V u × (length ps ≡ size ts) × Below (length ps) (λ i. get_or ps i 0 < length u.rows) × (length s.rows ≤ length u.rows)
    consistent_puts C F putting.none = (C, refl, λ i h. absurd (omega arith), omega arith)
    consistent_puts {s} C F (putting.each {u = u} {v = v} {ts = ts} {p = p} {ps = ps} h k) =
        let A = consistent_put C F.0 h in
        let B = consistent_puts A.0 F.1 k in
        let a = A.1 in
        let b = A.2 in
        let d = B.3 in
        (B.0, ap suc B.1, below_cons p ps (length v.rows) (omega arith) B.2, omega arith)
