-- From what code can keep of a sheet to what the theorems ask. Code keeps a closure only as a mere fact, rows and equations by position.
use Rattle.std.proofs.Common.{◌≡◌, ℕ, zero, suc, ◌<◌, ◌≤◌, ◌⊎◌, List, [], ◌∷◌, ◌++◌, length, get_or, take, sym, refl, ap, ◌∙◌, subst, inl, inr, arith, length-append, length-take}
use mathlib.Core.List.Memᴰ
use mathlib.Core.Option.{some}
use lib.ListN.{get_elem?}
use Rattle.fault.specs.Firsts.{Below}
use Rattle.scale.specs.Scales.{Operations, IsScale}
use Rattle.vocabulary.specs.Words.{Words, IsVocabulary}
use Rattle.unification.specs.Classes.{Member}
use Rattle.unification.specs.Closures.{Closure, Cycle, IsDepth, kind, Bound, IsDegree}
use Rattle.unification.specs.Sheets.{Row, variable, composed, Equation, Sheet, At, Holds, kept, fresh, appended, equated, IsCoherent, IsSheet, IsTyped, Fits}
use Rattle.unification.specs.Tables.{IsClosed, Represents}
use Rattle.unification.proofs.Depths.{closure_rows}
use Rattle.unification.proofs.Numberings.{at_hand}
use Rattle.unification.proofs.Orderings.{closure_grows, cycle_grows}
use Rattle.scale.proofs.Orders.{le_trans, bottom_le, le_of_eq}
use Rattle.unification.proofs.Tables.{closed_closure}

-- What stands at a position is a member, and a member stands at one.
pub at_member : {A : Type 0} (l : List A) (i : ℕ) (x : A) → get_elem? l i ≡ some x → Member x l
at_member [] i x h = let z : ◌≡◌ {A = ℕ} 0 1 = cc in absurd (omega arith)
at_member (y ∷ l) zero x h = Memᴰ.head (cc)
at_member (y ∷ l) (suc i) x h = Memᴰ.tail (at_member l i x h)

pub member_at : {A : Type 0} (l : List A) (x : A) → Member x l → (i : ℕ) × (get_elem? l i ≡ some x)
member_at [] x m = elim m [ ]
member_at (y ∷ l) x (Memᴰ.head e) = (0, ap some (sym e))
member_at (y ∷ l) x (Memᴰ.tail m) = let r = member_at l x m in (suc r.0, r.1)

-- Representatives, from a closed numbering of the classes by a row of each: merely in its class, of the least kind, and the lowest such.
pub represents_from : {s : Sheet} (I : IsCoherent s) {of : ℕ → ℕ} → IsClosed s of → Below (length s.rows) (λ p. ∥ Closure s p (of p) ∥₁) → Below (length s.rows) (λ r. kind (get_elem? s.rows (of r)) ≤ kind (get_elem? s.rows r)) → Below (length s.rows) (λ r. kind (get_elem? s.rows (of r)) ≡ kind (get_elem? s.rows r) → of r ≤ r) → Represents s of
represents_from I C h k l p hp =
    record {
      together = at_hand I (h p hp);
      kindest = λ r c. rw (closed_closure C c) (k r ((closure_rows I c).0 hp));
      lowest = λ r c. rw (closed_closure C c) (l r ((closure_rows I c).0 hp));
    }

-- A depth, from one of the classes under which every composed row is above its arguments.
pub depth_from : {s : Sheet} {depth : ℕ → ℕ} → ((p q : ℕ) → Closure s p q → depth p ≡ depth q) → ((p f : ℕ) (xs : List ℕ) → At s p (composed f xs) → Below (length xs) (λ i. depth (get_or xs i 0) < depth p)) → IsDepth s depth
depth_from {s} {depth} h k p q a =
    let x = h p a.row a.together in
    let y = k a.row a.word a.args a.is a.place a.in_args in
    let z = h (get_or a.args a.place 0) q a.below in
    omega arith

-- The last of a list with one more is the new one, and the others stay.
pub at_last : {A : Type 0} (l : List A) (x : A) (p : ℕ) (r : A) → get_elem? (l ++ (x ∷ [])) p ≡ some r → (get_elem? l p ≡ some r) ⊎ ((p ≡ length l) × (r ≡ x))
at_last [] x zero r h = inr (refl, cc)
at_last [] x (suc p) r h = let z : ◌≡◌ {A = ℕ} 0 1 = cc in absurd (omega arith)
at_last (y ∷ l) x zero r h = inl h
at_last (y ∷ l) x (suc p) r h = elim (at_last l x p r h) [ inl a ↦ inl a | inr b ↦ inr (ap suc b.0, b.1) ]

-- Sheets stay coherent, and typed: fresh, with one more equation between rows, with one more row that fits.
pub fresh_coherent : IsCoherent fresh
fresh_coherent =
    record {
      label = λ p x h. let z : ◌≡◌ {A = ℕ} 0 1 = cc in absurd (omega arith);
      once = λ p q x h k. let z : ◌≡◌ {A = ℕ} 0 1 = cc in absurd (omega arith);
      lower = λ p f xs h. let z : ◌≡◌ {A = ℕ} 0 1 = cc in absurd (omega arith);
      within = λ e m. elim m [ ];
    }

pub equated_coherent : {s : Sheet} → IsCoherent s → (e : Equation) → e.left < length s.rows → e.right < length s.rows → IsCoherent (equated s e)
equated_coherent {s} I e hl hr =
    record {
      label = I.label;
      once = I.once;
      lower = I.lower;
      within = λ d m.
          elim (Memᴰ.append_cases s.equations m) [
            | inl a ↦ I.within d a
            | inr b ↦ let q = Memᴰ.eq_of_singleton b in rw q (hl, hr)
          ];
    }

pub appended_coherent : {s : Sheet} → IsCoherent s → (r : Row) → Fits s r → IsCoherent (appended s r)
appended_coherent {s} I r F =
    record {
      label = λ p x h. elim (at_last s.rows r p (variable x) h) [ inl a ↦ I.label p x a | inr b ↦ new_label r F x b.1 ];
      once = λ p q x h k. one p q x (at_last s.rows r p (variable x) h) (at_last s.rows r q (variable x) k);
      lower = λ p f xs h i hi.
          elim (at_last s.rows r p (composed f xs) h) [
            | inl a ↦ I.lower p f xs a i hi
            | inr b ↦ let e = b.0 in let c = new_args r F f xs b.1 i hi in omega arith
          ];
      within = λ e m. let w = I.within e m in let n = length-append s.rows (r ∷ []) in (omega arith, omega arith);
    }
  where
    new_label : (r : Row) → Fits s r → (x : ℕ) → variable x ≡ r → x < 100
    new_label (variable y) F x e = let z : x ≡ y = cc in rw z F.0
    new_label (composed f xs) F x e = let z : ◌≡◌ {A = ℕ} 0 1 = cc in absurd (omega arith)

    new_args : (r : Row) → Fits s r → (f : ℕ) (xs : List ℕ) → composed f xs ≡ r → Below (length xs) (λ i. get_or xs i 0 < length s.rows)
    new_args (variable y) F f xs e = let z : ◌≡◌ {A = ℕ} 0 1 = cc in absurd (omega arith)
    new_args (composed g ys) F f xs e = let y : xs ≡ ys = cc in rw y F

    new_free : (r : Row) → Fits s r → (x : ℕ) → variable x ≡ r → (p : ℕ) → At s p (variable x) → ⊥
    new_free (variable y) F x e = let z : x ≡ y = cc in rw z F.1
    new_free (composed f xs) F x e = let z : ◌≡◌ {A = ℕ} 0 1 = cc in absurd (omega arith)

    one : (p q x : ℕ) → (At s p (variable x)) ⊎ ((p ≡ length s.rows) × (variable x ≡ r)) → (At s q (variable x)) ⊎ ((q ≡ length s.rows) × (variable x ≡ r)) → p ≡ q
    one p q x (inl a) (inl b) = I.once p q x a b
    one p q x (inl a) (inr b) = absurd (new_free r F x b.1 p a)
    one p q x (inr a) (inl b) = absurd (new_free r F x a.1 q b)
    one p q x (inr a) (inr b) = a.0 ∙ sym b.0

-- What stands at a position of the first ones stands there, and the other way round.
pub at_kept : {A : Type 0} (l : List A) (k p : ℕ) (r : A) → get_elem? (take k l) p ≡ some r → get_elem? l p ≡ some r
at_kept l zero p r h = let z : ◌≡◌ {A = ℕ} 0 1 = cc in absurd (omega arith)
at_kept [] (suc k) p r h = let z : ◌≡◌ {A = ℕ} 0 1 = cc in absurd (omega arith)
at_kept (x ∷ l) (suc k) zero r h = h
at_kept (x ∷ l) (suc k) (suc p) r h = at_kept l k p r h

pub kept_at : {A : Type 0} (l : List A) (k p : ℕ) (r : A) → p < k → get_elem? l p ≡ some r → get_elem? (take k l) p ≡ some r
kept_at l zero p r b h = absurd (omega arith)
kept_at [] (suc k) p r b h = h
kept_at (x ∷ l) (suc k) zero r b h = h
kept_at (x ∷ l) (suc k) (suc p) r b h = kept_at l k p r (omega arith) h

holds_kept : (l : List Equation) (k : ℕ) (e : Equation) → Member e (take k l) → Member e l
holds_kept l zero e m = elim m [ ]
holds_kept [] (suc k) e m = elim m [ ]
holds_kept (x ∷ l) (suc k) e (Memᴰ.head q) = Memᴰ.head q
holds_kept (x ∷ l) (suc k) e (Memᴰ.tail m) = Memᴰ.tail (holds_kept l k e m)

-- What is kept of a sheet puts no more rows together, and has no cycle that was not there.
pub closure_kept : (s : Sheet) (r m : ℕ) {p q : ℕ} → Closure (kept r m s) p q → Closure s p q
closure_kept s r m c = closure_grows (at_kept s.rows r) (holds_kept s.equations m) c

pub cycle_kept : (s : Sheet) (r m : ℕ) → Cycle (kept r m s) → Cycle s
cycle_kept s r m c = cycle_grows (at_kept s.rows r) (holds_kept s.equations m) c

pub kept_coherent : {s : Sheet} → IsCoherent s → (r m : ℕ) → r ≤ length s.rows → ((e : Equation) → Holds (kept r m s) e → (e.left < r) × (e.right < r)) → IsCoherent (kept r m s)
kept_coherent {s} I r m b w =
    record {
      label = λ p x h. I.label p x (at_kept s.rows r p (variable x) h);
      once = λ p q x h k. I.once p q x (at_kept s.rows r p (variable x) h) (at_kept s.rows r q (variable x) k);
      lower = λ p f xs h. I.lower p f xs (at_kept s.rows r p (composed f xs) h);
      within = λ e h. let n = length-take r s.rows in let c = w e h in (omega arith, omega arith);
    }

module _ {count : ℕ} {arity : ℕ → ℕ} where
  pub fresh_sheet : IsSheet count arity fresh
  fresh_sheet = record { coherent = fresh_coherent; typed = λ p r h. let z : ◌≡◌ {A = ℕ} 0 1 = cc in absurd (omega arith) }

  pub equated_sheet : {s : Sheet} → IsSheet count arity s → (e : Equation) → e.left < length s.rows → e.right < length s.rows → IsSheet count arity (equated s e)
  equated_sheet I e hl hr = record { coherent = equated_coherent I.coherent e hl hr; typed = I.typed }

  pub kept_sheet : {s : Sheet} → IsSheet count arity s → (r m : ℕ) → r ≤ length s.rows → ((e : Equation) → Holds (kept r m s) e → (e.left < r) × (e.right < r)) → IsSheet count arity (kept r m s)
  kept_sheet {s} I r m b w =
      record {
        coherent = kept_coherent I.coherent r m b w;
        typed = λ p q h. I.typed p q (at_kept s.rows r p q h);
      }

  pub appended_sheet : {s : Sheet} → IsSheet count arity s → (r : Row) → Fits s r → IsTyped count arity r → IsSheet count arity (appended s r)
  appended_sheet {s} I r F t =
      record {
        coherent = appended_coherent I.coherent r F;
        typed = λ p q h. elim (at_last s.rows r p q h) [ inl a ↦ I.typed p q a | inr b ↦ subst (IsTyped count arity) (sym b.1) t ];
      }

-- A degree that the likenesses of a sheet's words are at or above is one for what is kept of it.
module _ {D : Type 0} (S : Operations D) (V : Words D) where
  pub bound_kept : (s : Sheet) (r m : ℕ) (d : D) → Bound S V s d → Bound S V (kept r m s) d
  bound_kept s r m d b p q f g xs ys c hp hq =
      b p q f g xs ys (closure_kept s r m c) (at_kept s.rows r p (composed f xs) hp) (at_kept s.rows r q (composed g ys) hq)

module _ {D : Type 0} {S : Operations D} (L : IsScale S) {V : Words D} (W : IsVocabulary S V) {s : Sheet} where
  -- Two words in the closure that are not alike at all make the degree bottom; so do two with different numbers of arguments.
  pub unlike_bottom : {p q f g : ℕ} {xs ys : List ℕ} → Closure s p q → At s p (composed f xs) → At s q (composed g ys) → V.likeness f g ≡ S.bottom → IsDegree S V s S.bottom
  unlike_bottom {p} {q} {f} {g} {xs} {ys} c hp hq e =
      record {
        bound = λ a b h k us vs d ha hb. bottom_le L (V.likeness h k);
        greatest = λ d b. le_trans L (b p q f g xs ys c hp hq) (le_of_eq L e);
      }

  pub untyped_bottom : IsSheet V.count V.arity s → {p q f g : ℕ} {xs ys : List ℕ} → Closure s p q → At s p (composed f xs) → At s q (composed g ys) → (length xs ≡ length ys → ⊥) → IsDegree S V s S.bottom
  untyped_bottom I {p} {q} {f} {g} {xs} {ys} c hp hq n =
      let a = I.typed p (composed f xs) hp in
      let b = I.typed q (composed g ys) hq in
      unlike_bottom c hp hq (W.typed f a.0 g b.0 (λ e. n (a.1 ∙ e ∙ sym b.1)))
