-- Putting terms onto sheets: always possible, in one way, and what was put stands there.
use Rattle.std.proofs.Common.{◌≡◌, ℕ, zero, suc, ◌+◌, ◌<◌, ◌≤◌, ◌⊎◌, List, [], ◌∷◌, ◌++◌, length, get_or, sym, refl, ap, ◌∙◌, subst, ap₂, inl, inr, append_assoc, append-nil, arith, length-append}
use mathlib.Core.Option.{some}
use lib.ListN.{get_elem?}
use Rattle.fault.specs.Firsts.{Below}
use Rattle.unification.specs.Sheets.{Row, variable, composed, Sheet, At, appended, IsCoherent, IsSheet, terms_of, term}
use Rattle.unification.specs.Terms.{Term, Terms, app, cons, size, Formed, AllFormed}
use Rattle.unification.specs.Putting.{Unlabelled, Put, met, new, built, PutAll, none, each, Extends, PuttingSettled}
use Rattle.unification.proofs.Bridges.{appended_coherent, appended_sheet, at_last}
use Rattle.unification.proofs.Placing.{placed, all_placed, put, put_all}
use Rattle.unification.proofs.Reading.{at_within, within_at, terms_same, term_variable, term_composed}

-- Every term can be put onto every sheet.
pub put_total : (s : Sheet) (t : Term) → (p : ℕ) × (u : Sheet) × Put s t p u
put_total s t = ((placed s t).row, (placed s t).sheet, put s t)

pub put_all_total : (s : Sheet) (ts : Terms) → (ps : List ℕ) × (u : Sheet) × PutAll s ts ps u
put_all_total s ts = ((all_placed s ts).rows, (all_placed s ts).sheet, put_all s ts)

-- Rows are only added, after the last.
pub extends_same : (s : Sheet) → Extends s s
extends_same s = record { more = []; rows = sym (append-nil s.rows); equations = refl }

pub extends_appended : (s : Sheet) (r : Row) → Extends s (appended s r)
extends_appended s r = record { more = r ∷ []; rows = refl; equations = refl }

pub extends_trans : (s u v : Sheet) → Extends s u → Extends u v → Extends s v
extends_trans s u v a b =
    record {
      more = a.more ++ b.more;
      rows = b.rows ∙ ap (λ l. l ++ b.more) a.rows ∙ append_assoc s.rows a.more b.more;
      equations = b.equations ∙ a.equations;
    }

mutual
  pub put_extends : {s : Sheet} {t : Term} {p : ℕ} {u : Sheet} → Put s t p u → Extends s u
  put_extends (met {s} h) = extends_same s
  put_extends (new {s} {x} n) = extends_appended s (variable x)
  put_extends (built {s} {u} {f} {ts} {ps} h) = extends_trans s u (appended u (composed f ps)) (put_all_extends h) (extends_appended u (composed f ps))

  pub put_all_extends : {s : Sheet} {ts : Terms} {ps : List ℕ} {u : Sheet} → PutAll s ts ps u → Extends s u
  put_all_extends (none {s}) = extends_same s
  put_all_extends (each {s} {u} {v} h k) = extends_trans s u v (put_extends h) (put_all_extends k)

pub extends_length : (s u : Sheet) → Extends s u → length s.rows ≤ length u.rows
extends_length s u e = let a = ap length e.rows in let b = length-append s.rows e.more in omega arith

at_front : (l m : List Row) (p : ℕ) (r : Row) → get_elem? l p ≡ some r → get_elem? (l ++ m) p ≡ some r
at_front [] m p r h = let z : ◌≡◌ {A = ℕ} 0 1 = cc in absurd (omega arith)
at_front (x ∷ l) m zero r h = h
at_front (x ∷ l) m (suc p) r h = at_front l m p r h

pub extends_at : (s u : Sheet) → Extends s u → (p : ℕ) (r : Row) → At s p r → At u p r
extends_at s u e p r h = ap (λ l. get_elem? l p) e.rows ∙ at_front s.rows e.more p r h

-- What was put is a row.
pub appended_length : (s : Sheet) (r : Row) → length (appended s r).rows ≡ length s.rows + 1
appended_length s r = length-append s.rows (r ∷ [])

pub put_row : {s : Sheet} {t : Term} {p : ℕ} {u : Sheet} → Put s t p u → p < length u.rows
put_row (met {s} {x} {p} h) = at_within s.rows p (variable x) h
put_row (new {s} {x} n) = let e = appended_length s (variable x) in omega arith
put_row (built {s} {u} {f} {ts} {ps} h) = let e = appended_length u (composed f ps) in omega arith

pub put_rows : {s : Sheet} {ts : Terms} {ps : List ℕ} {u : Sheet} → PutAll s ts ps u → Below (length ps) (λ i. get_or ps i 0 < length u.rows)
put_rows none i l = absurd (omega arith)
put_rows (each {s} {u} {v} h k) zero l = let a = put_row h in let b = extends_length u v (put_all_extends k) in omega arith
put_rows (each h k) (suc i) l = put_rows k i (omega arith)

pub put_size : {s : Sheet} {ts : Terms} {ps : List ℕ} {u : Sheet} → PutAll s ts ps u → length ps ≡ size ts
put_size none = refl
put_size (each h k) = ap suc (put_size k)

-- A label has one row at most; that stays so.
abbrev Once : Sheet → Type 0
Once s = (p q x : ℕ) → At s p (variable x) → At s q (variable x) → p ≡ q

once_variable : (s : Sheet) (y : ℕ) → Once s → Unlabelled s y → Once (appended s (variable y))
once_variable s y o n p q x h k = go (at_last s.rows (variable y) p (variable x) h) (at_last s.rows (variable y) q (variable x) k)
  where
    go : (At s p (variable x)) ⊎ ((p ≡ length s.rows) × (variable x ≡ variable y)) → (At s q (variable x)) ⊎ ((q ≡ length s.rows) × (variable x ≡ variable y)) → p ≡ q
    go (inl a) (inl b) = o p q x a b
    go (inl a) (inr b) = let e : x ≡ y = let w = b.1 in cc in absurd (n p (subst (λ (z : ℕ). At s p (variable z)) e a))
    go (inr a) (inl b) = let e : x ≡ y = let w = a.1 in cc in absurd (n q (subst (λ (z : ℕ). At s q (variable z)) e b))
    go (inr a) (inr b) = a.0 ∙ sym b.0

once_composed : (s : Sheet) (f : ℕ) (xs : List ℕ) → Once s → Once (appended s (composed f xs))
once_composed s f xs o p q x h k = go (at_last s.rows (composed f xs) p (variable x) h) (at_last s.rows (composed f xs) q (variable x) k)
  where
    go : (At s p (variable x)) ⊎ ((p ≡ length s.rows) × (variable x ≡ composed f xs)) → (At s q (variable x)) ⊎ ((q ≡ length s.rows) × (variable x ≡ composed f xs)) → p ≡ q
    go (inl a) (inl b) = o p q x a b
    go (inl a) (inr b) = let w = b.1 in let z : ◌≡◌ {A = ℕ} 0 1 = cc in absurd (omega arith)
    go (inr a) b = let w = a.1 in let z : ◌≡◌ {A = ℕ} 0 1 = cc in absurd (omega arith)

mutual
  put_once : {s : Sheet} {t : Term} {p : ℕ} {u : Sheet} → Once s → Put s t p u → Once u
  put_once o (met h) = o
  put_once o (new {s} {x} n) = once_variable s x o n
  put_once o (built {s} {u} {f} {ts} {ps} h) = once_composed u f ps (put_all_once o h)

  put_all_once : {s : Sheet} {ts : Terms} {ps : List ℕ} {u : Sheet} → Once s → PutAll s ts ps u → Once u
  put_all_once o none = o
  put_all_once o (each h k) = put_all_once (put_once o h) k

-- A term is put in one way.
mutual
  once_same : {s : Sheet} {t : Term} {p q : ℕ} {u v : Sheet} → Once s → Put s t p u → Put s t q v → (p ≡ q) × (u ≡ v)
  once_same o (met {s} {x} {p} h) (met {p = q} k) = (o p q x h k, refl)
  once_same o (met {s} {x} {p} h) (new n) = absurd (n p h)
  once_same o (new n) (met {p = q} k) = absurd (n q k)
  once_same o (new n) (new m) = (refl, refl)
  once_same o (built {f = f} h) (built k) =
      let e = once_same_all o h k in
      (ap (λ (w : Sheet). length w.rows) e.1, ap₂ (λ (w : Sheet) (ps : List ℕ). appended w (composed f ps)) e.1 e.0)

  once_same_all : {s : Sheet} {ts : Terms} {ps qs : List ℕ} {u v : Sheet} → Once s → PutAll s ts ps u → PutAll s ts qs v → (ps ≡ qs) × (u ≡ v)
  once_same_all o none none = (refl, refl)
  once_same_all o (each {s} {u} {v} {t} {ts} {p} {ps} h k) (each {u = w} {v = x} {ps = qs} i l) =
      let e = once_same o h i in
      let f = once_same_all (put_once o h) k (subst (λ (z : Sheet). PutAll z ts qs x) (sym e.1) l) in
      (ap₂ (λ (a : ℕ) (l : List ℕ). a ∷ l) e.0 f.0, f.1)

pub put_same : {s : Sheet} → IsCoherent s → {t : Term} {p q : ℕ} {u v : Sheet} → Put s t p u → Put s t q v → (p ≡ q) × (u ≡ v)
put_same I h k = once_same I.once h k

pub put_all_same : {s : Sheet} → IsCoherent s → {ts : Terms} {ps qs : List ℕ} {u v : Sheet} → PutAll s ts ps u → PutAll s ts qs v → (ps ≡ qs) × (u ≡ v)
put_all_same I h k = once_same_all I.once h k

module _ (count : ℕ) (arity : ℕ → ℕ) where
  -- Sheets stay coherent, and well formed.
  mutual
    pub put_coherent : {s : Sheet} {t : Term} {p : ℕ} {u : Sheet} → IsCoherent s → Formed count arity t → Put s t p u → IsCoherent u
    put_coherent I w (met h) = I
    put_coherent I w (new {s} {x} n) = appended_coherent I (variable x) (w, n)
    put_coherent I w (built {f = f} {ps = ps} h) = appended_coherent (put_all_coherent I w.2 h) (composed f ps) (put_rows h)

    pub put_all_coherent : {s : Sheet} {ts : Terms} {ps : List ℕ} {u : Sheet} → IsCoherent s → AllFormed count arity ts → PutAll s ts ps u → IsCoherent u
    put_all_coherent I w none = I
    put_all_coherent I w (each h k) = put_all_coherent (put_coherent I w.0 h) w.1 k

  mutual
    pub put_sheet : {s : Sheet} {t : Term} {p : ℕ} {u : Sheet} → IsSheet count arity s → Formed count arity t → Put s t p u → IsSheet count arity u
    put_sheet I w (met h) = I
    put_sheet I w (new {s} {x} n) = appended_sheet I (variable x) (w, n) tt
    put_sheet I w (built {f = f} {ps = ps} h) = appended_sheet (put_all_sheet I w.2 h) (composed f ps) (put_rows h) (w.0, put_size h ∙ w.1)

    pub put_all_sheet : {s : Sheet} {ts : Terms} {ps : List ℕ} {u : Sheet} → IsSheet count arity s → AllFormed count arity ts → PutAll s ts ps u → IsSheet count arity u
    put_all_sheet I w none = I
    put_all_sheet I w (each h k) = put_all_sheet (put_sheet I w.0 h) w.1 k

-- Each row that was there stands for what it stood for.
module _ {s u : Sheet} (I : IsCoherent s) (J : IsCoherent u) (e : Extends s u) where
  kept_below : (k q : ℕ) → q < k → q < length s.rows → term u q ≡ term s q
  kept_below zero q l h = absurd (omega arith)
  kept_below (suc k) q l h = let r = within_at s.rows q h in go r.0 r.1 (λ a m. kept_below k a m)
    where
      go : (r : Row) → At s q r → ((a : ℕ) → a < k → a < length s.rows → term u a ≡ term s a) → term u q ≡ term s q
      go (variable x) a ih = term_variable J q x (extends_at s u e q (variable x) a) ∙ sym (term_variable I q x a)
      go (composed f xs) a ih =
          term_composed J q f xs (extends_at s u e q (composed f xs) a)
          ∙ ap (app f) (terms_same (term u) (term s) xs (λ i b. let c = I.lower q f xs a i b in ih (get_or xs i 0) (omega arith) (omega arith)))
          ∙ sym (term_composed I q f xs a)

  pub term_kept : (q : ℕ) → q < length s.rows → term u q ≡ term s q
  term_kept q h = kept_below (suc q) q (omega arith) h

at_end : (l : List Row) (r : Row) → get_elem? (l ++ (r ∷ [])) (length l) ≡ some r
at_end [] r = refl
at_end (x ∷ l) r = at_end l r

module _ (count : ℕ) (arity : ℕ → ℕ) where
  -- What was put is what stands there.
  mutual
    pub put_term : {s : Sheet} {t : Term} {p : ℕ} {u : Sheet} → IsCoherent s → Formed count arity t → Put s t p u → term u p ≡ t
    put_term I w (met {s} {x} {p} h) = term_variable I p x h
    put_term I w (new {s} {x} n) = term_variable (appended_coherent I (variable x) (w, n)) (length s.rows) x (at_end s.rows (variable x))
    put_term I w (built {s} {u} {f} {ts} {ps} h) =
        let J = put_all_coherent count arity I w.2 h in
        let K = appended_coherent J (composed f ps) (put_rows h) in
        term_composed K (length u.rows) f ps (at_end u.rows (composed f ps))
        ∙ ap (app f) (terms_same (term (appended u (composed f ps))) (term u) ps (λ i b. term_kept J K (extends_appended u (composed f ps)) (get_or ps i 0) (put_rows h i b)) ∙ put_terms I w.2 h)

    pub put_terms : {s : Sheet} {ts : Terms} {ps : List ℕ} {u : Sheet} → IsCoherent s → AllFormed count arity ts → PutAll s ts ps u → terms_of (term u) ps ≡ ts
    put_terms I w none = refl
    put_terms I w (each {p = p} h k) =
        let J = put_coherent count arity I w.0 h in
        ap₂ cons (term_kept J (put_all_coherent count arity J w.1 k) (put_all_extends k) p (put_row h) ∙ put_term I w.0 h) (put_terms J w.1 k)

pub putting_settled : PuttingSettled
putting_settled =
    record {
      total = put_total;
      single = λ s I t p q u v h k. put_same I h k;
      extends = λ s t p u h. (put_extends h, put_row h);
      coherent = λ count arity s I t p u w h. put_coherent count arity I w h;
      sheet = λ count arity s I t p u w h. put_sheet count arity I w h;
      reads = λ count arity s I t p u w h. put_term count arity I w h;
      keeps = λ count arity s I t p u w h. term_kept I (put_coherent count arity I w h) (put_extends h);
    }
