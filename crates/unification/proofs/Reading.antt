-- The terms of a sheet's rows.
use Rattle.std.proofs.Common.{◌≡◌, ℕ, zero, suc, ◌<◌, List, [], ◌∷◌, length, get_or, refl, ap, ◌∙◌, ap₂, arith}
use mathlib.Core.Option.{Option, none, some}
use lib.ListN.{get_elem?}
use Rattle.fault.specs.Firsts.{Below}
use Rattle.scale.specs.Scales.{Operations, IsScale, AtMost}
use Rattle.vocabulary.specs.Words.{Words}
use Rattle.unification.specs.Sheets.{Row, variable, composed, Sheet, At, IsCoherent, IsSheet, terms_of, shape, term_to, term, TermsRead}
use Rattle.unification.specs.Similarity.{alike, all_alike}
use Rattle.unification.specs.Substitutions.{apply, apply_all}
use Rattle.unification.specs.Terms.{Term, Terms, var, app, nil, cons, size, Formed, AllFormed}
use Rattle.scale.proofs.Orders.{le_trans, meet_left, meet_right, meet_glb, le_top}

pub terms_same : (v w : ℕ → Term) (xs : List ℕ) → ((i : ℕ) → i < length xs → v (get_or xs i 0) ≡ w (get_or xs i 0)) → terms_of v xs ≡ terms_of w xs
terms_same v w [] h = refl
terms_same v w (x ∷ xs) h = ap₂ cons (h 0 (omega arith)) (terms_same v w xs (λ i l. h (suc i) (omega arith)))

pub apply_terms : (σ v : ℕ → Term) (xs : List ℕ) → apply_all σ (terms_of v xs) ≡ terms_of (λ p. apply σ (v p)) xs
apply_terms σ v [] = refl
apply_terms σ v (x ∷ xs) = ap (cons (apply σ (v x))) (apply_terms σ v xs)

pub size_terms : (v : ℕ → Term) (xs : List ℕ) → size (terms_of v xs) ≡ length xs
size_terms v [] = refl
size_terms v (x ∷ xs) = ap suc (size_terms v xs)

pub size_apply : (σ : ℕ → Term) (ts : Terms) → size (apply_all σ ts) ≡ size ts
size_apply σ nil = refl
size_apply σ (cons t ts) = ap suc (size_apply σ ts)

-- An entry that is there has a number below the length, and the other way round.
pub at_within : {A : Type 0} (l : List A) (p : ℕ) (r : A) → get_elem? l p ≡ some r → p < length l
at_within [] p r e = let z : ◌≡◌ {A = ℕ} 0 1 = cc in omega arith
at_within (x ∷ l) zero r e = omega arith
at_within (x ∷ l) (suc p) r e = let h = at_within l p r e in omega arith

pub within_at : {A : Type 0} (l : List A) (p : ℕ) → p < length l → (r : A) × (get_elem? l p ≡ some r)
within_at [] p h = absurd (omega arith)
within_at (x ∷ l) zero h = (x, refl)
within_at (x ∷ l) (suc p) h = within_at l p (omega arith)

-- The same by get_or, as contracts of code have it.
pub at_get_d : {A : Type 0} (l : List A) (p : ℕ) (d : A) → p < length l → get_elem? l p ≡ some (get_or l p d)
at_get_d [] p d h = absurd (omega arith)
at_get_d (x ∷ l) zero d h = refl
at_get_d (x ∷ l) (suc p) d h = at_get_d l p d (omega arith)

pub get_d_at : {A : Type 0} (l : List A) (p : ℕ) (d r : A) → get_elem? l p ≡ some r → get_or l p d ≡ r
get_d_at [] p d r e = let z : ◌≡◌ {A = ℕ} 0 1 = cc in absurd (omega arith)
get_d_at (x ∷ l) zero d r e = cc
get_d_at (x ∷ l) (suc p) d r e = get_d_at l p d r e

module _ {s : Sheet} (I : IsCoherent s) where
  pub to_same : (k l p : ℕ) → p < k → p < l → term_to s k p ≡ term_to s l p
  unfolding term_to
  to_same zero l p h m = absurd (omega arith)
  to_same (suc k) zero p h m = absurd (omega arith)
  to_same (suc k) (suc l) p h m = go (get_elem? s.rows p) refl (λ i. to_same k l i)
    where
      go : (r : Option Row) → get_elem? s.rows p ≡ r → ((a : ℕ) → a < k → a < l → term_to s k a ≡ term_to s l a) → shape (term_to s k) r ≡ shape (term_to s l) r
      go none e ih = refl
      go (some (variable x)) e ih = refl
      go (some (composed f xs)) e ih =
          ap (app f) (terms_same (term_to s k) (term_to s l) xs (λ i b. let c = I.lower p f xs e i b in ih (get_or xs i 0) (omega arith) (omega arith)))

  pub term_none : (p : ℕ) → get_elem? s.rows p ≡ none → term s p ≡ var 0
  unfolding term_to term
  term_none p e = ap (shape (term_to s p)) e

  pub term_variable : (p x : ℕ) → At s p (variable x) → term s p ≡ var x
  unfolding term_to term
  term_variable p x e = ap (shape (term_to s p)) e

  pub term_composed : (p f : ℕ) (xs : List ℕ) → At s p (composed f xs) → term s p ≡ app f (terms_of (term s) xs)
  unfolding term_to term
  term_composed p f xs e =
      ap (shape (term_to s p)) e
      ∙ ap (app f) (terms_same (term_to s p) (term s) xs (λ i b. to_same p (suc (get_or xs i 0)) (get_or xs i 0) (I.lower p f xs e i b) (omega arith)))

  pub apply_composed : (σ : ℕ → Term) (p f : ℕ) (xs : List ℕ) → At s p (composed f xs) → apply σ (term s p) ≡ app f (terms_of (λ a. apply σ (term s a)) xs)
  apply_composed σ p f xs e = ap (apply σ) (term_composed p f xs e) ∙ ap (app f) (apply_terms σ (term s) xs)

  pub terms_read : TermsRead s
  terms_read = record { variables = term_variable; words = term_composed }

module _ (count : ℕ) (arity : ℕ → ℕ) where
  mutual
    pub formed_apply : (σ : ℕ → Term) → Below 100 (λ x. Formed count arity (σ x)) → (t : Term) → Formed count arity t → Formed count arity (apply σ t)
    formed_apply σ h (var x) w = h x w
    formed_apply σ h (app f ts) w = (w.0, size_apply σ ts ∙ w.1, all_formed_apply σ h ts w.2)

    pub all_formed_apply : (σ : ℕ → Term) → Below 100 (λ x. Formed count arity (σ x)) → (ts : Terms) → AllFormed count arity ts → AllFormed count arity (apply_all σ ts)
    all_formed_apply σ h nil w = tt
    all_formed_apply σ h (cons t ts) w = (formed_apply σ h t w.0, all_formed_apply σ h ts w.1)

  pub formed_terms : (v : ℕ → Term) (xs : List ℕ) → Below (length xs) (λ i. Formed count arity (v (get_or xs i 0))) → AllFormed count arity (terms_of v xs)
  formed_terms v [] h = tt
  formed_terms v (x ∷ xs) h = (h 0 (omega arith), formed_terms v xs (λ i l. h (suc i) (omega arith)))

  module _ {s : Sheet} (I : IsSheet count arity s) where
    -- below k, by induction on k
    formed_below : (k p : ℕ) → p < k → Formed count arity (term s p)
    formed_below zero p h = absurd (omega arith)
    formed_below (suc k) p h = go (get_elem? s.rows p) refl (λ a l. formed_below k a l)
      where
        go : (r : Option Row) → get_elem? s.rows p ≡ r → ((a : ℕ) → a < k → Formed count arity (term s a)) → Formed count arity (term s p)
        go none e ih = rw (term_none I.coherent p e) (omega arith)
        go (some (variable x)) e ih = rw (term_variable I.coherent p x e) (I.coherent.label p x e)
        go (some (composed f xs)) e ih =
            let w = I.typed p (composed f xs) e in
            rw (term_composed I.coherent p f xs e) (w.0, size_terms (term s) xs ∙ w.1, formed_terms (term s) xs (λ i b. let c = I.coherent.lower p f xs e i b in ih (get_or xs i 0) (omega arith)))

    pub formed_term : (p : ℕ) → Formed count arity (term s p)
    formed_term p = formed_below (suc p) p (omega arith)

module _ {D : Type 0} {S : Operations D} (L : IsScale S) (V : Words D) where
  -- Lists of terms are alike at d or more when they are so place by place
  pub all_places : (d : D) (v w : ℕ → Term) (xs ys : List ℕ) → length xs ≡ length ys → ((i : ℕ) → i < length xs → AtMost S d (alike S V (v (get_or xs i 0)) (w (get_or ys i 0)))) → AtMost S d (all_alike S V (terms_of v xs) (terms_of w ys))
  all_places d v w [] [] e h = le_top L d
  all_places d v w [] (y ∷ ys) e h = absurd (omega arith)
  all_places d v w (x ∷ xs) [] e h = absurd (omega arith)
  all_places d v w (x ∷ xs) (y ∷ ys) e h = meet_glb L (h 0 (omega arith)) (all_places d v w xs ys (omega arith) (λ i l. h (suc i) (omega arith)))

  pub place_of : (d : D) (v w : ℕ → Term) (xs ys : List ℕ) → length xs ≡ length ys → (i : ℕ) → i < length xs → AtMost S d (all_alike S V (terms_of v xs) (terms_of w ys)) → AtMost S d (alike S V (v (get_or xs i 0)) (w (get_or ys i 0)))
  place_of d v w [] ys e i l h = absurd (omega arith)
  place_of d v w (x ∷ xs) [] e i l h = absurd (omega arith)
  place_of d v w (x ∷ xs) (y ∷ ys) e zero l h = le_trans L h (meet_left L (alike S V (v x) (w y)) (all_alike S V (terms_of v xs) (terms_of w ys)))
  place_of d v w (x ∷ xs) (y ∷ ys) e (suc i) l h = place_of d v w xs ys (omega arith) i (omega arith) (le_trans L h (meet_right L (alike S V (v x) (w y)) (all_alike S V (terms_of v xs) (terms_of w ys))))
