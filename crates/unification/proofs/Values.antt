-- Solved values: where each row has a representative and a depth there are such values, and no row has two.
use Rattle.std.proofs.Common.{◌≡◌, ℕ, zero, suc, ◌<◌, List, [], ◌∷◌, length, get_or, sym, refl, ap, ◌∙◌, subst, ap₂, arith}
use mathlib.Core.Option.{Option, none, some}
use lib.ListN.{get_elem?}
use Rattle.fault.specs.Firsts.{Below}
use Rattle.unification.specs.Closures.{Closure, same, IsDepth, Representative}
use Rattle.unification.specs.Sheets.{Row, variable, composed, Sheet, At, IsCoherent, terms_of, shape}
use Rattle.unification.specs.Solutions.{Solved, free, built, AllSolved, none as none-solved, each, IsSolution}
use Rattle.unification.specs.Substitutions.{apply}
use Rattle.unification.specs.Tables.{Represents, IsSolvedBy, IsSolutionBy}
use Rattle.unification.specs.Terms.{Term, Terms, var, app, cons}
use Rattle.unification.proofs.Heights.{height}
use Rattle.unification.proofs.Reading.{at_within, terms_same, apply_terms}
use Rattle.unification.proofs.Solving.{find_label, args_within, one_representative, one_value, representative_row, value_variable, value_composed, lower_value}

-- The value of row p, followed down through k representatives.
value_to : Sheet → (ℕ → ℕ) → ℕ → ℕ → Term
value_to s of zero p = var 0
value_to s of (suc k) p = shape (value_to s of k) (get_elem? s.rows (of p))

module _ {s : Sheet} (I : IsCoherent s) {of : ℕ → ℕ} (R : Represents s of) {depth : ℕ → ℕ} (F : IsDepth s depth) where
  lower_depth : (p f : ℕ) (xs : List ℕ) → p < length s.rows → At s (of p) (composed f xs) → Below (length xs) (λ i. depth (get_or xs i 0) < depth p)
  lower_depth p f xs hp e i hi =
      F p (get_or xs i 0)
      (record { row = of p; word = f; args = xs; place = i; together = (R p hp).together; is = e; in_args = hi; below = same (get_or xs i 0) })

  to_same : (k l p : ℕ) → p < length s.rows → depth p < k → depth p < l → value_to s of k p ≡ value_to s of l p
  unfolding value_to
  to_same zero l p hp h m = absurd (omega arith)
  to_same (suc k) zero p hp h m = absurd (omega arith)
  to_same (suc k) (suc l) p hp h m = go (get_elem? s.rows (of p)) refl (λ a. to_same k l a)
    where
      go : (r : Option Row) → get_elem? s.rows (of p) ≡ r → ((a : ℕ) → a < length s.rows → depth a < k → depth a < l → value_to s of k a ≡ value_to s of l a) → shape (value_to s of k) r ≡ shape (value_to s of l) r
      go none e ih = refl
      go (some (variable x)) e ih = refl
      go (some (composed f xs)) e ih =
          ap (app f)
          (terms_same (value_to s of k) (value_to s of l) xs
          (λ i hi. let c = lower_depth p f xs hp e i hi in ih (get_or xs i 0) (args_within I (of p) f xs e i hi) (omega arith) (omega arith)))

  pub value : ℕ → Term
  value p = value_to s of (suc (depth p)) p

  pub value_solved : IsSolvedBy s of value
  unfolding value_to value
  value_solved = record { represents = R; solved = λ p hp. go p hp (get_elem? s.rows (of p)) refl }
    where
      go : (p : ℕ) → p < length s.rows → (r : Option Row) → get_elem? s.rows (of p) ≡ r → shape (value_to s of (depth p)) r ≡ shape value r
      go p hp none e = refl
      go p hp (some (variable x)) e = refl
      go p hp (some (composed f xs)) e =
          ap (app f)
          (terms_same (value_to s of (depth p)) value xs
          (λ i hi. to_same (depth p) (suc (depth (get_or xs i 0))) (get_or xs i 0) (args_within I (of p) f xs e i hi) (lower_depth p f xs hp e i hi) (omega arith)))

-- The solved substitution of given values.
module _ {s : Sheet} (I : IsCoherent s) (value : ℕ → Term) where
  pick : (x : ℕ) → Dec ((p : ℕ) × At s p (variable x)) → Term
  pick x (yes h) = value h.0
  pick x (no n) = var x

  pub solution : ℕ → Term
  solution x = pick x (find_label s.rows x)

  pub is_solution : IsSolutionBy s value solution
  unfolding pick solution
  is_solution = record { labelled = λ p x e. row p x e (find_label s.rows x); other = λ x hx h. no_row x h (find_label s.rows x) }
    where
      row : (p x : ℕ) → At s p (variable x) → (c : Dec ((q : ℕ) × At s q (variable x))) → pick x c ≡ value p
      row p x e (yes h) = ap value (I.once h.0 p x h.1 e)
      row p x e (no n) = absurd (n (p, e))

      no_row : (x : ℕ) → ((p : ℕ) → At s p (variable x) → ⊥) → (c : Dec ((q : ℕ) × At s q (variable x))) → pick x c ≡ var x
      no_row x h (yes k) = absurd (h k.0 k.1)
      no_row x h (no n) = refl

-- Values that a table gives are the solved values, and the other way round.
module _ {s : Sheet} (I : IsCoherent s) {of : ℕ → ℕ} {value : ℕ → Term} (H : IsSolvedBy s of value) where
  representative_at : {p q : ℕ} {r : Row} → p < length s.rows → Representative s q p → At s q r → At s (of p) r
  representative_at {p} {q} {r} hp c e = subst (λ (a : ℕ). At s a r) (one_representative (same p) c (H.represents p hp)) e

  mutual
    pub solved_is : {p : ℕ} {t : Term} → Solved s p t → p < length s.rows → t ≡ value p
    solved_is (free {p = a} {x = y} c e) hp = sym (value_variable H a y hp (representative_at hp c e))
    solved_is (built {p = a} {q = b} {f = f} {xs = xs} {ts = ts} c e h) hp =
        ap (app f) (all_solved_are h (args_within I b f xs e)) ∙ sym (value_composed H a f xs hp (representative_at hp c e))

    all_solved_are : {ps : List ℕ} {ts : Terms} → AllSolved s ps ts → Below (length ps) (λ i. get_or ps i 0 < length s.rows) → ts ≡ terms_of value ps
    all_solved_are none-solved b = refl
    all_solved_are (each h hs) b = ap₂ cons (solved_is h (b 0 (omega arith))) (all_solved_are hs (λ i l. b (suc i) (omega arith)))

  all_each : (xs : List ℕ) → Below (length xs) (λ i. Solved s (get_or xs i 0) (value (get_or xs i 0))) → AllSolved s xs (terms_of value xs)
  all_each [] h = none-solved
  all_each (x ∷ xs) h = each (h 0 (omega arith)) (all_each xs (λ i l. h (suc i) (omega arith)))

  solved_below : (k p : ℕ) → height (value p) < k → p < length s.rows → Solved s p (value p)
  solved_below zero p hk hp = absurd (omega arith)
  solved_below (suc k) p hk hp = go (get_elem? s.rows (of p)) refl (λ a. solved_below k a)
    where
      go : (r : Option Row) → get_elem? s.rows (of p) ≡ r → ((a : ℕ) → height (value a) < k → a < length s.rows → Solved s a (value a)) → Solved s p (value p)
      go none e ih = absurd (representative_row H p hp e)
      go (some (variable x)) e ih = rw (value_variable H p x hp e) (free (H.represents p hp) e)
      go (some (composed f xs)) e ih =
          rw (value_composed H p f xs hp e)
          (built (H.represents p hp) e
          (all_each xs (λ i hi. let l = lower_value H p f xs hp e i hi in ih (get_or xs i 0) (omega arith) (args_within I (of p) f xs e i hi))))

  pub is_solved : (p : ℕ) → p < length s.rows → Solved s p (value p)
  is_solved p hp = solved_below (suc (height (value p))) p (omega arith) hp

  pub solution_by : {σ : ℕ → Term} → IsSolution s σ → IsSolutionBy s value σ
  solution_by K =
      record {
        labelled = λ p x e. solved_is (K.labelled p x e) (at_within s.rows p (variable x) e);
        other = K.other;
      }

  pub by_solution : {σ : ℕ → Term} → IsSolutionBy s value σ → IsSolution s σ
  by_solution {σ} K =
      record {
        labelled = λ p x e.
            subst (Solved s p) (sym (K.labelled p x e)) (is_solved p (at_within s.rows p (variable x) e));
        other = K.other;
      }

  -- The solved substitution leaves the values as they are.
  module _ {σ : ℕ → Term} (K : IsSolutionBy s value σ) where
    stable_below : (k p : ℕ) → height (value p) < k → p < length s.rows → apply σ (value p) ≡ value p
    stable_below zero p hk hp = absurd (omega arith)
    stable_below (suc k) p hk hp = go (get_elem? s.rows (of p)) refl (λ a. stable_below k a)
      where
        go : (r : Option Row) → get_elem? s.rows (of p) ≡ r → ((a : ℕ) → height (value a) < k → a < length s.rows → apply σ (value a) ≡ value a) → apply σ (value p) ≡ value p
        go none e ih = absurd (representative_row H p hp e)
        go (some (variable x)) e ih =
            ap (apply σ) (value_variable H p x hp e)
            ∙ K.labelled (of p) x e
            ∙ sym (one_value H (H.represents p hp).together hp (at_within s.rows (of p) (variable x) e))
        go (some (composed f xs)) e ih =
            let v = value_composed H p f xs hp e in
            ap (apply σ) v
            ∙ ap (app f)
            (apply_terms σ value xs
            ∙ terms_same (λ a. apply σ (value a)) value xs
            (λ i hi. let l = lower_value H p f xs hp e i hi in ih (get_or xs i 0) (omega arith) (args_within I (of p) f xs e i hi)))
            ∙ sym v

    pub stable_solution : Below 100 (λ x. apply σ (σ x) ≡ σ x)
    stable_solution x hx = go (find_label s.rows x)
      where
        go : Dec ((p : ℕ) × At s p (variable x)) → apply σ (σ x) ≡ σ x
        go (yes h) =
            let e = K.labelled h.0 x h.1 in
            ap (apply σ) e ∙ stable_below (suc (height (value h.0))) h.0 (omega arith) (at_within s.rows h.0 (variable x) h.1) ∙ sym e
        go (no n) = ap (apply σ) (K.other x hx (λ p e. n (p, e)))

-- No row has two solved values, whether or not every row has one.
mutual
  one_solved_at : {s : Sheet} (p q : ℕ) {t u : Term} → Closure s p q → Solved s p t → Solved s q u → t ≡ u
  one_solved_at {s} p q r (free {x = x} c e) (free {x = y} d f) =
      let k = subst (λ (a : ℕ). At s a (variable x)) (one_representative r c d) e in let z : x ≡ y = cc in ap var z
  one_solved_at {s} p q r (free {x = x} c e) (built {f = g} {xs = ys} d f l) =
      let k = subst (λ (a : ℕ). At s a (variable x)) (one_representative r c d) e in let z : ◌≡◌ {A = ℕ} 0 1 = cc in absurd (omega arith)
  one_solved_at {s} p q r (built {f = g} {xs = xs} c e l) (free {x = y} d f) =
      let k = subst (λ (a : ℕ). At s a (composed g xs)) (one_representative r c d) e in let z : ◌≡◌ {A = ℕ} 0 1 = cc in absurd (omega arith)
  one_solved_at {s} p q r (built {f = g} {xs = xs} {ts = ts} c e k) (built {f = h} {xs = ys} {ts = us} d f l) =
      let m = subst (λ (a : ℕ). At s a (composed g xs)) (one_representative r c d) e in
      let z : g ≡ h = cc in
      let y : xs ≡ ys = cc in
      ap₂ app z (one_all_solved xs ys ts us y k l)

  one_all_solved : {s : Sheet} (xs ys : List ℕ) (ts us : Terms) → xs ≡ ys → AllSolved s xs ts → AllSolved s ys us → ts ≡ us
  one_all_solved xs ys ts us e none-solved none-solved = refl
  one_all_solved xs ys ts us e none-solved (each h hs) = let z : ◌≡◌ {A = ℕ} 0 1 = cc in absurd (omega arith)
  one_all_solved xs ys ts us e (each h hs) none-solved = let z : ◌≡◌ {A = ℕ} 0 1 = cc in absurd (omega arith)
  one_all_solved {s} xs ys ts us e (each {p = a} {ps = ps} {t = t} {ts = rs} h hs) (each {p = b} {ps = qs} {t = u} {ts = vs} k ks) =
      let x : a ≡ b = cc in
      let y : ps ≡ qs = cc in
      ap₂ cons (one_solved_at a b (subst (λ (c : ℕ). Closure s a c) x (same a)) h k) (one_all_solved ps qs rs vs y hs ks)

pub one_solved : {s : Sheet} {p : ℕ} {t u : Term} → Solved s p t → Solved s p u → t ≡ u
one_solved {p = p} h k = one_solved_at p p (same p) h k

pub one_solution : {s : Sheet} {σ τ : ℕ → Term} → IsSolution s σ → IsSolution s τ → Below 100 (λ x. σ x ≡ τ x)
one_solution {s} {σ} {τ} H K x hx = go (find_label s.rows x)
  where
    go : Dec ((p : ℕ) × At s p (variable x)) → σ x ≡ τ x
    go (yes h) = one_solved (H.labelled h.0 x h.1) (K.labelled h.0 x h.1)
    go (no n) = H.other x hx (λ p e. n (p, e)) ∙ sym (K.other x hx (λ p e. n (p, e)))
