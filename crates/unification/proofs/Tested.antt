-- Facts about a given sheet and a table beside it, each by one computed test.
use Rattle.std.proofs.Common.{◌≡◌, ℕ, Bool, true, false, not, ◌&&◌, ◌||◌, eqb, ltb, leb, List, [], ◌∷◌, length, get_or, sym, refl, ap, ◌∙◌, inl, inr}
use mathlib.Core.List.Memᴰ
use mathlib.Core.Option.{Option, none, some}
use lib.ListN.{get_elem?}
use Rattle.std.proofs.lemmas.Bool.{and_parts, or_cases, not-true, both_ways, ltb-true, leb-true, eqb-true, eq-eqb}
use Rattle.fault.specs.Firsts.{Below}
use Rattle.unification.specs.Classes.{Member}
use Rattle.unification.specs.Closures.{Closure, IsDepth, kind}
use Rattle.unification.specs.Sheets.{Row, variable, composed, Equation, Sheet, At, IsCoherent, IsSheet, IsTyped}
use Rattle.unification.specs.Tables.{IsClosed, Represents}
use Rattle.unification.proofs.Bridges.{represents_from, depth_from}
use Rattle.unification.proofs.Reading.{at_within}
use Rattle.unification.proofs.Searches.{every, every_below}
use Rattle.unification.proofs.Tables.{closed_closure}

-- Whether a test holds of every equation.
abbrev pub every_equation : List Equation → (Equation → Bool) → Bool
every_equation [] t = true
every_equation (e ∷ es) t = t e && every_equation es t

every_equation_lem : (es : List Equation) (t : Equation → Bool) → every_equation es t ≡ true → (e : Equation) → Member e es → t e ≡ true
every_equation_lem [] t h e m = elim m [ ]
every_equation_lem (c ∷ es) t h e (Memᴰ.head q) = rw q (and_parts (t c) (every_equation es t) h).0
every_equation_lem (c ∷ es) t h e (Memᴰ.tail m) = every_equation_lem es t (and_parts (t c) (every_equation es t) h).1 e m

-- Of two tests the second, where the first holds.
implied : (a b : Bool) → (not a || b) ≡ true → a ≡ true → b ≡ true
implied a b h e = elim (or_cases (not a) b h) [ inl n ↦ absurd (both_ways a (not-true a n) e) | inr k ↦ k ]

-- Row p is well formed.
abbrev formed_row : ℕ → (ℕ → ℕ) → ℕ → Option Row → Bool
formed_row count arity p none = true
formed_row count arity p (some (variable x)) = ltb x 100
formed_row count arity p (some (composed f xs)) = ltb f count && (eqb (length xs) (arity f) && every (length xs) (λ i. ltb (get_or xs i 0) p))

abbrev same_label : Option Row → Option Row → Bool
same_label none r = false
same_label (some (composed f xs)) r = false
same_label (some (variable x)) none = false
same_label (some (variable x)) (some (composed f xs)) = false
same_label (some (variable x)) (some (variable y)) = eqb x y

module _ (count : ℕ) (arity : ℕ → ℕ) (s : Sheet) where
  abbrev pub formed_test : Bool
  formed_test = every (length s.rows) (λ p. formed_row count arity p (get_elem? s.rows p))

  abbrev pub once_test : Bool
  once_test = every (length s.rows) (λ p. every (length s.rows) (λ q. not (same_label (get_elem? s.rows p) (get_elem? s.rows q)) || eqb p q))

  abbrev pub within_test : Bool
  within_test = every_equation s.equations (λ e. ltb e.left (length s.rows) && ltb e.right (length s.rows))

  formed_at : formed_test ≡ true → (p : ℕ) (r : Row) → At s p r → formed_row count arity p (some r) ≡ true
  formed_at t p r h =
      ap (formed_row count arity p) (sym h) ∙ every_below (length s.rows) (λ i. formed_row count arity i (get_elem? s.rows i)) t p (at_within s.rows p r h)

  once_at : once_test ≡ true → (p q x : ℕ) → At s p (variable x) → At s q (variable x) → p ≡ q
  once_at t p q x hp hq =
      let a = every_below (length s.rows) (λ j. not (same_label (get_elem? s.rows p) (get_elem? s.rows j)) || eqb p j)
      (every_below (length s.rows) (λ i. every (length s.rows) (λ j. not (same_label (get_elem? s.rows i) (get_elem? s.rows j)) || eqb i j)) t p (at_within s.rows p (variable x) hp))
      q (at_within s.rows q (variable x) hq) in
      let b = rw (hp, hq) at a in
      eqb-true p q (implied (eqb x x) (eqb p q) b (eq-eqb x x refl))

  word_at : formed_test ≡ true → (p f : ℕ) (xs : List ℕ) → At s p (composed f xs) → (ltb f count ≡ true) × (eqb (length xs) (arity f) ≡ true) × (every (length xs) (λ i. ltb (get_or xs i 0) p) ≡ true)
  word_at t p f xs h =
      let a = and_parts (ltb f count) (eqb (length xs) (arity f) && every (length xs) (λ i. ltb (get_or xs i 0) p)) (formed_at t p (composed f xs) h) in
      let b = and_parts (eqb (length xs) (arity f)) (every (length xs) (λ i. ltb (get_or xs i 0) p)) a.1 in
      (a.0, b.0, b.1)

  pub sheet_tested : formed_test ≡ true → once_test ≡ true → within_test ≡ true → IsSheet count arity s
  sheet_tested t o w =
      record {
        coherent = record {
          label = λ p x h. ltb-true x 100 (formed_at t p (variable x) h);
          once = once_at o;
          lower = λ p f xs h i hi. ltb-true (get_or xs i 0) p (every_below (length xs) (λ i. ltb (get_or xs i 0) p) (word_at t p f xs h).2 i hi);
          within = λ e m.
              let a = and_parts (ltb e.left (length s.rows)) (ltb e.right (length s.rows))
              (every_equation_lem s.equations (λ e. ltb e.left (length s.rows) && ltb e.right (length s.rows)) w e m) in
              (ltb-true e.left (length s.rows) a.0, ltb-true e.right (length s.rows) a.1);
        };
        typed = typed;
      }
    where
      typed : (p : ℕ) (r : Row) → At s p r → IsTyped count arity r
      typed p (variable x) h = tt
      typed p (composed f xs) h = let a = word_at t p f xs h in (ltb-true f count a.0, eqb-true (length xs) (arity f) a.1)

-- The arguments of two rows have the same classes, if the rows are composed, of one class and with equally many arguments.
abbrev agree : (ℕ → ℕ) → Bool → Option Row → Option Row → Bool
agree class one none r = true
agree class one (some (variable x)) r = true
agree class one (some (composed f xs)) none = true
agree class one (some (composed f xs)) (some (variable y)) = true
agree class one (some (composed f xs)) (some (composed g ys)) = not one || (not (eqb (length xs) (length ys)) || every (length xs) (λ i. eqb (class (get_or xs i 0)) (class (get_or ys i 0))))

-- The arguments of a composed row have lower depths.
abbrev falling : (ℕ → ℕ) → ℕ → Option Row → Bool
falling depth p none = true
falling depth p (some (variable x)) = true
falling depth p (some (composed f xs)) = every (length xs) (λ i. ltb (depth (get_or xs i 0)) (depth p))

module _ (s : Sheet) (of : ℕ → ℕ) where
  abbrev pub sides_test : Bool
  sides_test = every_equation s.equations (λ e. eqb (of e.left) (of e.right))

  abbrev pub args_test : Bool
  args_test = every (length s.rows) (λ p. every (length s.rows) (λ q. agree of (eqb (of p) (of q)) (get_elem? s.rows p) (get_elem? s.rows q)))

  -- Each row's representative is of no later kind, and of one kind it is no higher.
  abbrev pub kind_test : Bool
  kind_test =
      every (length s.rows)
      (λ r.
      leb (kind (get_elem? s.rows (of r))) (kind (get_elem? s.rows r))
      && (not (eqb (kind (get_elem? s.rows (of r))) (kind (get_elem? s.rows r))) || leb (of r) r))

  -- Depths by class: `depth` is asked of the representative.
  abbrev pub depth_test : (ℕ → ℕ) → Bool
  depth_test depth = every (length s.rows) (λ p. falling (λ r. depth (of r)) p (get_elem? s.rows p))

  args_at_lem : args_test ≡ true → (p q f g : ℕ) (xs ys : List ℕ) → of p ≡ of q → At s p (composed f xs) → At s q (composed g ys) → length xs ≡ length ys → Below (length xs) (λ i. of (get_or xs i 0) ≡ of (get_or ys i 0))
  args_at_lem t p q f g xs ys e hp hq hl i hi =
      let a = every_below (length s.rows) (λ j. agree of (eqb (of p) (of j)) (get_elem? s.rows p) (get_elem? s.rows j))
      (every_below (length s.rows) (λ k. every (length s.rows) (λ j. agree of (eqb (of k) (of j)) (get_elem? s.rows k) (get_elem? s.rows j))) t p (at_within s.rows p (composed f xs) hp))
      q (at_within s.rows q (composed g ys) hq) in
      let b = rw (hp, hq) at a in
      let c = implied (eqb (of p) (of q)) (not (eqb (length xs) (length ys)) || every (length xs) (λ i. eqb (of (get_or xs i 0)) (of (get_or ys i 0)))) b (eq-eqb (of p) (of q) e) in
      let d = implied (eqb (length xs) (length ys)) (every (length xs) (λ i. eqb (of (get_or xs i 0)) (of (get_or ys i 0)))) c (eq-eqb (length xs) (length ys) hl) in
      eqb-true (of (get_or xs i 0)) (of (get_or ys i 0)) (every_below (length xs) (λ i. eqb (of (get_or xs i 0)) (of (get_or ys i 0))) d i hi)

  pub closed_tested : sides_test ≡ true → args_test ≡ true → IsClosed s of
  closed_tested t a =
      record {
        sides = λ e m. eqb-true (of e.left) (of e.right) (every_equation_lem s.equations (λ e. eqb (of e.left) (of e.right)) t e m);
        args = args_at_lem a;
      }

  kind_at : kind_test ≡ true → Below (length s.rows) (λ r. (leb (kind (get_elem? s.rows (of r))) (kind (get_elem? s.rows r)) ≡ true) × ((not (eqb (kind (get_elem? s.rows (of r))) (kind (get_elem? s.rows r))) || leb (of r) r) ≡ true))
  kind_at t r hr =
      and_parts (leb (kind (get_elem? s.rows (of r))) (kind (get_elem? s.rows r))) (not (eqb (kind (get_elem? s.rows (of r))) (kind (get_elem? s.rows r))) || leb (of r) r)
      (every_below (length s.rows) (λ r. leb (kind (get_elem? s.rows (of r))) (kind (get_elem? s.rows r)) && (not (eqb (kind (get_elem? s.rows (of r))) (kind (get_elem? s.rows r))) || leb (of r) r)) t r hr)

  pub represents_tested : IsCoherent s → IsClosed s of → Below (length s.rows) (λ p. Closure s p (of p)) → kind_test ≡ true → Represents s of
  represents_tested I C h t =
      represents_from I C (λ p hp. ∣ h p hp ∣₁)
      (λ r hr. leb-true (kind (get_elem? s.rows (of r))) (kind (get_elem? s.rows r)) (kind_at t r hr).0)
      (λ r hr e. leb-true (of r) r (implied (eqb (kind (get_elem? s.rows (of r))) (kind (get_elem? s.rows r))) (leb (of r) r) (kind_at t r hr).1 (eq-eqb (kind (get_elem? s.rows (of r))) (kind (get_elem? s.rows r)) e)))

  pub depth_tested : IsClosed s of → (depth : ℕ → ℕ) → depth_test depth ≡ true → IsDepth s (λ p. depth (of p))
  depth_tested C depth t =
      depth_from (λ p q c. ap depth (closed_closure C c))
      (λ p f xs h i hi.
      let a = rw h at (every_below (length s.rows) (λ p. falling (λ r. depth (of r)) p (get_elem? s.rows p)) t p (at_within s.rows p (composed f xs) h)) in
      ltb-true (depth (of (get_or xs i 0))) (depth (of p)) (every_below (length xs) (λ i. ltb (depth (of (get_or xs i 0))) (depth (of p))) a i hi))
