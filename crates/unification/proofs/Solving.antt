-- The solved substitution: what it suits, and that nothing suits more.
use Rattle.std.proofs.Common.{◌≡◌, ℕ, zero, suc, ◌<◌, ◌≤◌, List, [], ◌∷◌, length, get_or, sym, refl, ap, ◌∙◌, subst, subst₂, arith}
use mathlib.Core.Option.{Option, none, some}
use native.Mathlib.Decide.{ℕ_discrete}
use lib.ListN.{get_elem?}
use Rattle.fault.specs.Firsts.{Below}
use Rattle.scale.specs.Scales.{Operations, IsScale, AtMost}
use Rattle.vocabulary.specs.Words.{Words, IsVocabulary}
use Rattle.unification.specs.Closures.{Closure, stated, same, turned, joined, passed, kind, Representative, Bound, IsDegree}
use Rattle.unification.specs.Sheets.{Row, variable, composed, Sheet, At, IsCoherent, IsSheet, terms_of, shape, term, suits}
use Rattle.unification.specs.Similarity.{alike, all_alike}
use Rattle.unification.specs.Substitutions.{apply, IsSubstitution}
use Rattle.unification.specs.Tables.{IsSolvedBy, IsSolutionBy}
use Rattle.unification.specs.Terms.{Term, var, app, Formed}
use Rattle.unification.proofs.Heights.{height, height_place}
use Rattle.scale.proofs.Orders.{le_trans, le_anti, meet_glb, le_top, le_of_eq, bottom_le}
use Rattle.unification.proofs.Reading.{at_within, within_at, term_variable, apply_composed, apply_terms, size_terms, formed_terms, all_places}
use Rattle.unification.proofs.Similarity.{same_le, turn_le, chain_le}
use Rattle.unification.proofs.Unifiers.{closure_alike, suits_degree, suits_each}

-- Whether a label has a row.
is_label : (r : Row) (x : ℕ) → Dec (r ≡ variable x)
is_label (composed f xs) x = no (λ h. let z : ◌≡◌ {A = ℕ} 0 1 = cc in omega arith)
is_label (variable y) x = go (ℕ_discrete y x)
  where
    go : Dec (y ≡ x) → Dec (variable y ≡ variable x)
    go (yes e) = yes (ap variable e)
    go (no n) = no (λ h. n (cc))

pub find_label : (l : List Row) (x : ℕ) → Dec ((p : ℕ) × (get_elem? l p ≡ some (variable x)))
find_label [] x = no (λ h. let e = h.1 in let z : ◌≡◌ {A = ℕ} 0 1 = cc in omega arith)
find_label (r ∷ l) x = go (is_label r x) (find_label l x)
  where
    go : Dec (r ≡ variable x) → Dec ((p : ℕ) × (get_elem? l p ≡ some (variable x))) → Dec ((p : ℕ) × (get_elem? (r ∷ l) p ≡ some (variable x)))
    go (yes e) d = yes (0, ap some e)
    go (no n) (yes h) = yes (suc h.0, h.1)
    go (no n) (no m) = no (λ h. at h.0 h.1)
      where
        at : (p : ℕ) → get_elem? (r ∷ l) p ≡ some (variable x) → ⊥
        at zero e = n (cc)
        at (suc p) e = m (p, e)

pub row_kind : (r : Row) → kind (some r) ≤ 1
row_kind (variable x) = omega arith
row_kind (composed f xs) = omega arith

-- Two rows in the closure have one representative.
pub one_representative : {s : Sheet} {p q a b : ℕ} → Closure s p q → Representative s a p → Representative s b q → a ≡ b
one_representative {s} {p} {q} {a} {b} c ha hb =
    let x = ha.kindest b (joined c hb.together) in
    let y = hb.kindest a (joined (turned c) ha.together) in
    let z = ha.lowest b (joined c hb.together) (omega arith) in
    let u = hb.lowest a (joined (turned c) ha.together) (omega arith) in
    omega arith

module _ {s : Sheet} {of : ℕ → ℕ} {value : ℕ → Term} (H : IsSolvedBy s of value) where
  pub one_value : {p q : ℕ} → Closure s p q → p < length s.rows → q < length s.rows → value p ≡ value q
  one_value {p} {q} c hp hq =
      H.solved p hp ∙ ap (λ r. shape value (get_elem? s.rows r)) (one_representative c (H.represents p hp) (H.represents q hq)) ∙ sym (H.solved q hq)

  -- A row's representative is a row, and a composed row's is composed.
  pub representative_row : (p : ℕ) → p < length s.rows → ¬ (get_elem? s.rows (of p) ≡ none)
  representative_row p hp e =
      let r = within_at s.rows p hp in
      let k = rw (e, r.1) at ((H.represents p hp).kindest p (same p)) in
      let l = row_kind r.0 in
      omega arith

  pub representative_composed : (p f x : ℕ) (xs : List ℕ) → At s p (composed f xs) → ¬ At s (of p) (variable x)
  representative_composed p f x xs h e =
      let k = rw (e, h) at ((H.represents p (at_within s.rows p (composed f xs) h)).kindest p (same p)) in
      omega arith

  pub value_variable : (p x : ℕ) → p < length s.rows → At s (of p) (variable x) → value p ≡ var x
  value_variable p x hp e = H.solved p hp ∙ ap (shape value) e

  pub value_composed : (p f : ℕ) (xs : List ℕ) → p < length s.rows → At s (of p) (composed f xs) → value p ≡ app f (terms_of value xs)
  value_composed p f xs hp e = H.solved p hp ∙ ap (shape value) e

  -- The arguments of a representative are rows of lower value.
  pub lower_value : (p f : ℕ) (xs : List ℕ) → p < length s.rows → At s (of p) (composed f xs) → (i : ℕ) → i < length xs → height (value (get_or xs i 0)) < height (value p)
  lower_value p f xs hp e i hi = let k = height_place value xs i hi in rw (value_composed p f xs hp e) (omega arith)

pub args_within : {s : Sheet} (I : IsCoherent s) (p f : ℕ) (xs : List ℕ) → At s p (composed f xs) → (i : ℕ) → i < length xs → get_or xs i 0 < length s.rows
args_within {s = s} I p f xs e i hi = let k = I.lower p f xs e i hi in let l = at_within s.rows p (composed f xs) e in omega arith

module _ {D : Type 0} {S : Operations D} (L : IsScale S) {V : Words D} (W : IsVocabulary S V) {s : Sheet} (I : IsSheet V.count V.arity s) {of : ℕ → ℕ} {value : ℕ → Term} (H : IsSolvedBy s of value) where
  -- Under a substitution every row's term is alike its value; by induction on the value's height.
  general_below : (θ : ℕ → Term) → IsSubstitution V θ → (k p : ℕ) → height (value p) < k → p < length s.rows → AtMost S (suits S V s θ) (alike S V (apply θ (term s p)) (apply θ (value p)))
  general_below θ w zero p hk hp = absurd (omega arith)
  general_below θ w (suc k) p hk hp = go (get_elem? s.rows (of p)) refl (λ a. general_below θ w k a)
    where
      first : AtMost S (suits S V s θ) (alike S V (apply θ (term s p)) (apply θ (term s (of p))))
      first = closure_alike L W I θ w (H.represents p hp).together

      go : (r : Option Row) → get_elem? s.rows (of p) ≡ r → ((a : ℕ) → height (value a) < k → a < length s.rows → AtMost S (suits S V s θ) (alike S V (apply θ (term s a)) (apply θ (value a)))) → AtMost S (suits S V s θ) (alike S V (apply θ (term s p)) (apply θ (value p)))
      go none e ih = absurd (representative_row H p hp e)
      go (some (variable x)) e ih =
          subst (λ (t : Term). AtMost S (suits S V s θ) (alike S V (apply θ (term s p)) (apply θ t))) (term_variable I.coherent (of p) x e ∙ sym (value_variable H p x hp e)) first
      go (some (composed f xs)) e ih =
          chain_le L W (apply θ (term s p)) (apply θ (term s (of p))) (apply θ (value p)) first
          (subst₂ (λ (t u : Term). AtMost S (suits S V s θ) (alike S V t u))
          (sym (apply_composed I.coherent θ (of p) f xs e))
          (sym (ap (apply θ) (value_composed H p f xs hp e) ∙ ap (app f) (apply_terms θ value xs)))
          (meet_glb L
          (le_trans L (le_top L (suits S V s θ)) (le_of_eq L (sym (W.same f (I.typed (of p) (composed f xs) e).0))))
          (all_places L V (suits S V s θ) (λ a. apply θ (term s a)) (λ a. apply θ (value a)) xs xs refl
          (λ i hi. let l = lower_value H p f xs hp e i hi in ih (get_or xs i 0) (omega arith) (args_within I.coherent (of p) f xs e i hi)))))

  pub general_row : (θ : ℕ → Term) → IsSubstitution V θ → (p : ℕ) → p < length s.rows → AtMost S (suits S V s θ) (alike S V (apply θ (term s p)) (apply θ (value p)))
  general_row θ w p hp = general_below θ w (suc (height (value p))) p (omega arith) hp

  pub solved_general : (σ : ℕ → Term) → IsSolutionBy s value σ → (θ : ℕ → Term) → IsSubstitution V θ → Below 100 (λ x. AtMost S (suits S V s θ) (alike S V (θ x) (apply θ (σ x))))
  solved_general σ K θ w x hx = go (find_label s.rows x)
    where
      go : Dec ((p : ℕ) × At s p (variable x)) → AtMost S (suits S V s θ) (alike S V (θ x) (apply θ (σ x)))
      go (yes h) =
          subst₂ (λ (t u : Term). AtMost S (suits S V s θ) (alike S V (apply θ t) (apply θ u))) (term_variable I.coherent h.0 x h.1) (sym (K.labelled h.0 x h.1))
          (general_row θ w h.0 (at_within s.rows h.0 (variable x) h.1))
      go (no n) = rw (K.other x hx (λ p e. n (p, e))) (same_le L W (suits S V s θ) (θ x) (w x hx))

  -- The values are well formed.
  formed_value_below : (k p : ℕ) → height (value p) < k → p < length s.rows → Formed V.count V.arity (value p)
  formed_value_below zero p hk hp = absurd (omega arith)
  formed_value_below (suc k) p hk hp = go (get_elem? s.rows (of p)) refl (λ a. formed_value_below k a)
    where
      go : (r : Option Row) → get_elem? s.rows (of p) ≡ r → ((a : ℕ) → height (value a) < k → a < length s.rows → Formed V.count V.arity (value a)) → Formed V.count V.arity (value p)
      go none e ih = absurd (representative_row H p hp e)
      go (some (variable x)) e ih = rw (value_variable H p x hp e) (I.coherent.label (of p) x e)
      go (some (composed f xs)) e ih =
          let w = I.typed (of p) (composed f xs) e in
          rw (value_composed H p f xs hp e)
          (w.0, size_terms value xs ∙ w.1, formed_terms V.count V.arity value xs (λ i hi. let l = lower_value H p f xs hp e i hi in ih (get_or xs i 0) (omega arith) (args_within I.coherent (of p) f xs e i hi)))

  pub formed_value : (p : ℕ) → p < length s.rows → Formed V.count V.arity (value p)
  formed_value p hp = formed_value_below (suc (height (value p))) p (omega arith) hp

  module _ {σ : ℕ → Term} (K : IsSolutionBy s value σ) where
    pub formed_solution : IsSubstitution V σ
    formed_solution x hx = go (find_label s.rows x)
      where
        go : Dec ((p : ℕ) × At s p (variable x)) → Formed V.count V.arity (σ x)
        go (yes h) = rw (K.labelled h.0 x h.1) (formed_value h.0 (at_within s.rows h.0 (variable x) h.1))
        go (no n) = rw (K.other x hx (λ p e. n (p, e))) hx

    -- The solved substitution takes a row's term to what is alike its value; by induction on the row.
    near_below : {d : D} → Bound S V s d → (k p : ℕ) → p < k → p < length s.rows → AtMost S d (alike S V (apply σ (term s p)) (value p))
    near_below b zero p hk hp = absurd (omega arith)
    near_below {d} b (suc k) p hk hp = go (get_elem? s.rows p) (get_elem? s.rows (of p)) refl refl (λ a. near_below b k a)
      where
        go : (r q : Option Row) → get_elem? s.rows p ≡ r → get_elem? s.rows (of p) ≡ q → ((a : ℕ) → a < k → a < length s.rows → AtMost S d (alike S V (apply σ (term s a)) (value a))) → AtMost S d (alike S V (apply σ (term s p)) (value p))
        go r none e m ih = absurd (representative_row H p hp m)
        go none (some q) e m ih = let r = within_at s.rows p hp in let z : none ≡ some r.0 = sym e ∙ r.1 in let z : ◌≡◌ {A = ℕ} 0 1 = cc in absurd (omega arith)
        go (some (variable x)) (some q) e m ih =
            subst (λ (t : Term). AtMost S d (alike S V t (value p))) (sym (ap (apply σ) (term_variable I.coherent p x e) ∙ K.labelled p x e)) (same_le L W d (value p) (formed_value p hp))
        go (some (composed f xs)) (some (variable x)) e m ih = absurd (representative_composed H p f x xs e m)
        go (some (composed f xs)) (some (composed g ys)) e m ih =
            subst₂ (λ (t u : Term). AtMost S d (alike S V t u)) (sym (apply_composed I.coherent σ p f xs e)) (sym (value_composed H p g ys hp m))
            (meet_glb L words (places (ℕ_discrete (length xs) (length ys))))
          where
            with : Closure s p (of p)
            with = (H.represents p hp).together

            words : AtMost S d (V.likeness f g)
            words = b p (of p) f g xs ys (H.represents p hp).together e m

            places : Dec (length xs ≡ length ys) → AtMost S d (all_alike S V (terms_of (λ a. apply σ (term s a)) xs) (terms_of value ys))
            places (yes l) =
                all_places L V d (λ a. apply σ (term s a)) value xs ys l
                (λ i hi.
                subst (λ (t : Term). AtMost S d (alike S V (apply σ (term s (get_or xs i 0))) t))
                (one_value H (passed f g xs ys i (H.represents p hp).together e m l hi) (args_within I.coherent p f xs e i hi) (args_within I.coherent (of p) g ys m i (omega arith)))
                (let c = I.coherent.lower p f xs e i hi in ih (get_or xs i 0) (omega arith) (args_within I.coherent p f xs e i hi)))
            places (no n) =
                let hf = I.typed p (composed f xs) e in
                let hg = I.typed (of p) (composed g ys) m in
                let unlike = W.typed f hf.0 g hg.0 (λ h. n (hf.1 ∙ h ∙ sym hg.1)) in
                le_trans L words (le_trans L (le_of_eq L unlike) (bottom_le L (all_alike S V (terms_of (λ a. apply σ (term s a)) xs) (terms_of value ys))))

    pub near : {d : D} → Bound S V s d → (p : ℕ) → p < length s.rows → AtMost S d (alike S V (apply σ (term s p)) (value p))
    near b p hp = near_below b (suc p) p (omega arith) hp

    -- The solved substitution suits at every bound.
    pub solved_closure : {d : D} → Bound S V s d → (p q : ℕ) → Closure s p q → p < length s.rows → q < length s.rows → AtMost S d (alike S V (apply σ (term s p)) (apply σ (term s q)))
    solved_closure {d} b p q c hp hq =
        chain_le L W (apply σ (term s p)) (value p) (apply σ (term s q)) (near b p hp)
        (turn_le L W (apply σ (term s q)) (value p) (subst (λ (t : Term). AtMost S d (alike S V (apply σ (term s q)) t)) (sym (one_value H c hp hq)) (near b q hq)))

    pub bound_suits : {d : D} → Bound S V s d → AtMost S d (suits S V s σ)
    bound_suits b = suits_each L V s σ s.equations (λ e h. let w = I.coherent.within e h in solved_closure b e.left e.right (stated e h) w.0 w.1)

    pub solved_suits : (d : D) → IsDegree S V s d → suits S V s σ ≡ d
    solved_suits d g = le_anti L (suits_degree L W I σ formed_solution d g) (bound_suits g.bound)
