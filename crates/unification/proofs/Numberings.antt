-- Every sheet has a numbering of its classes, so that the closure is decided and every row has a representative.
use Rattle.std.proofs.Common.{◌≡◌, ℕ, zero, suc, ◌<◌, ◌≤◌, cond, eqb, ◌⊎◌, List, [], ◌∷◌, length, get_or, sym, refl, ap, ◌∙◌, subst, inl, inr, arith}
use mathlib.Core.List.Memᴰ
use mathlib.Core.Logic.{∥∥₁_elim}
use mathlib.Core.HLevel.{⊥_prop}
use mathlib.Core.Option.{Option, none, some}
use native.Mathlib.Decide.{dec_lt, ℕ_discrete}
use lib.ListN.{get_elem?}
use Rattle.std.proofs.lemmas.Bool.{cases_eq, cases_lt, cases_order, eq-eqb, ne_eqb}
use Rattle.fault.specs.Firsts.{Below}
use Rattle.unification.specs.Classes.{Member}
use Rattle.unification.specs.Closures.{Closure, stated, same, turned, joined, passed, kind, Representative}
use Rattle.unification.specs.Sheets.{Row, variable, composed, Equation, Sheet, At, Holds, IsCoherent}
use Rattle.unification.specs.Tables.{IsClosed, Represents}
use Rattle.unification.proofs.Reading.{at_within, within_at}
use Rattle.unification.proofs.Searches.{search_below, first_below, sum, sum_lt}
use Rattle.unification.proofs.Solving.{args_within, row_kind}
use Rattle.unification.proofs.Tables.{closed_closure}

module _ {s : Sheet} (I : IsCoherent s) where
  -- Each row is in the closure with the number of its class.
  abbrev Sound : (ℕ → ℕ) → Type 0
  Sound class = (p : ℕ) → Closure s p (class p)

  sound_same : (class : ℕ → ℕ) → Sound class → (p q : ℕ) → class p ≡ class q → Closure s p q
  sound_same class h p q e = joined (h p) (subst (λ (c : ℕ). Closure s c q) (sym e) (turned (h q)))

  -- Two rows in the closure with different numbers, of which the first has the greater.
  abbrev Apart : (ℕ → ℕ) → Type 0
  Apart class = (l : ℕ) × (r : ℕ) × (l < length s.rows) × Closure s l r × (class r < class l)

  apart_or_same : (class : ℕ → ℕ) (l r : ℕ) → l < length s.rows → r < length s.rows → Closure s l r → Apart class ⊎ (class l ≡ class r)
  apart_or_same class l r hl hr c =
      elim (cases_order (class l) (class r)) [
        | inl e ↦ inr e
        | inr (inl lt) ↦ inl (r, l, hr, turned c, lt)
        | inr (inr gt) ↦ inl (l, r, hl, c, gt)
      ]

  -- Either two rows have to be put together, or the numbering is closed.
  module _ (class : ℕ → ℕ) (h : Sound class) where
    sides_below : (es : List Equation) → ((e : Equation) → Member e es → Holds s e) → Apart class ⊎ ((e : Equation) → Member e es → class e.left ≡ class e.right)
    sides_below [] b = inr (λ e m. elim m [ ])
    sides_below (c ∷ es) b = go (apart_or_same class c.left c.right w.0 w.1 (stated c (b c (Memᴰ.head refl)))) (sides_below es (λ e m. b e (Memᴰ.tail m)))
      where
        w : (c.left < length s.rows) × (c.right < length s.rows)
        w = I.within c (b c (Memᴰ.head refl))

        each : class c.left ≡ class c.right → ((e : Equation) → Member e es → class e.left ≡ class e.right) → (e : Equation) → Member e (c ∷ es) → class e.left ≡ class e.right
        each here rest e (Memᴰ.head q) = ap (λ (x : Equation). class x.left) q ∙ here ∙ sym (ap (λ (x : Equation). class x.right) q)
        each here rest e (Memᴰ.tail m) = rest e m

        go : Apart class ⊎ (class c.left ≡ class c.right) → Apart class ⊎ ((e : Equation) → Member e es → class e.left ≡ class e.right) → Apart class ⊎ ((e : Equation) → Member e (c ∷ es) → class e.left ≡ class e.right)
        go (inl a) k = inl a
        go (inr e) (inl a) = inl a
        go (inr e) (inr k) = inr (each e k)

    -- The arguments of rows p and q agree, if they are composed, of one class and equally many.
    abbrev Agree : ℕ → ℕ → Type 0
    Agree p q = (f g : ℕ) (xs ys : List ℕ) → class p ≡ class q → At s p (composed f xs) → At s q (composed g ys) → length xs ≡ length ys → Below (length xs) (λ i. class (get_or xs i 0) ≡ class (get_or ys i 0))

    args_agree : (p q f g : ℕ) (xs ys : List ℕ) → class p ≡ class q → At s p (composed f xs) → At s q (composed g ys) → length xs ≡ length ys → Apart class ⊎ Below (length xs) (λ i. class (get_or xs i 0) ≡ class (get_or ys i 0))
    args_agree p q f g xs ys e hp hq hl =
        elim (search_below (λ i. Apart class) (λ i. class (get_or xs i 0) ≡ class (get_or ys i 0)) (length xs)
        (λ i hi.
        apart_or_same class (get_or xs i 0) (get_or ys i 0) (args_within I p f xs hp i hi) (args_within I q g ys hq i (omega arith))
        (passed f g xs ys i (sound_same class h p q e) hp hq hl hi))) [
          | inl m ↦ inl m.2
          | inr b ↦ inr b
        ]

    rows_agree : (p q : ℕ) → Apart class ⊎ Agree p q
    rows_agree p q = go (get_elem? s.rows p) (get_elem? s.rows q) refl refl (cases_eq (class p) (class q))
      where
        lengths : (f g : ℕ) (xs ys : List ℕ) → At s p (composed f xs) → At s q (composed g ys) → class p ≡ class q → (length xs ≡ length ys) ⊎ (length xs ≡ length ys → ⊥) → Apart class ⊎ Agree p q
        lengths f g xs ys hp hq e (inl hl) =
            elim (args_agree p q f g xs ys e hp hq hl) [
              | inl a ↦ inl a
              | inr b ↦ inr (λ f' g' xs' ys' e' hp' hq' hl' i hi'.
                  let x : xs ≡ xs' = cc in
                  let y : ys ≡ ys' = cc in
                  let z : length xs ≡ length xs' = ap length x in
                  ap (λ (l : List ℕ). class (get_or l i 0)) (sym x) ∙ b i (omega arith) ∙ ap (λ (l : List ℕ). class (get_or l i 0)) y)
            ]
        lengths f g xs ys hp hq e (inr n) =
            inr (λ f' g' xs' ys' e' hp' hq' hl' i hi.
            let x : xs ≡ xs' = cc in let y : ys ≡ ys' = cc in absurd (n (ap length x ∙ hl' ∙ sym (ap length y))))

        go : (a b : Option Row) → get_elem? s.rows p ≡ a → get_elem? s.rows q ≡ b → (class p ≡ class q) ⊎ (class p ≡ class q → ⊥) → Apart class ⊎ Agree p q
        go a b hp hq (inr n) = inr (λ f g xs ys e. absurd (n e))
        go none b hp hq (inl e) = inr (λ f g xs ys e' hp'. let z : ◌≡◌ {A = ℕ} 0 1 = cc in absurd (omega arith))
        go (some (variable x)) b hp hq (inl e) = inr (λ f g xs ys e' hp'. let z : ◌≡◌ {A = ℕ} 0 1 = cc in absurd (omega arith))
        go (some (composed f xs)) none hp hq (inl e) = inr (λ f' g xs' ys e' hp' hq'. let z : ◌≡◌ {A = ℕ} 0 1 = cc in absurd (omega arith))
        go (some (composed f xs)) (some (variable y)) hp hq (inl e) = inr (λ f' g xs' ys e' hp' hq'. let z : ◌≡◌ {A = ℕ} 0 1 = cc in absurd (omega arith))
        go (some (composed f xs)) (some (composed g ys)) hp hq (inl e) = lengths f g xs ys hp hq e (cases_eq (length xs) (length ys))

    apart_or_closed : Apart class ⊎ IsClosed s class
    apart_or_closed = go (sides_below s.equations (λ e m. m)) (search_below (λ p. Apart class) (λ p. Below (length s.rows) (Agree p)) (length s.rows) (λ p hp. each p))
      where
        each : (p : ℕ) → Apart class ⊎ Below (length s.rows) (Agree p)
        each p =
            elim (search_below (λ q. Apart class) (Agree p) (length s.rows) (λ q hq. rows_agree p q)) [
              | inl m ↦ inl m.2
              | inr b ↦ inr b
            ]

        go : Apart class ⊎ ((e : Equation) → Holds s e → class e.left ≡ class e.right) → ((p : ℕ) × (p < length s.rows) × Apart class) ⊎ Below (length s.rows) (λ p. Below (length s.rows) (Agree p)) → Apart class ⊎ IsClosed s class
        go (inl a) k = inl a
        go (inr e) (inl m) = inl m.2
        go (inr e) (inr b) =
            inr (record {
              sides = e;
              args = λ p q f g xs ys c hp hq. b p (at_within s.rows p (composed f xs) hp) q (at_within s.rows q (composed g ys) hq) f g xs ys c hp hq;
            })

  -- The number of l gives way to that of r.
  abbrev merged : (ℕ → ℕ) → ℕ → ℕ → ℕ → ℕ
  merged class l r p = cond (eqb (class p) (class l)) (class r) (class p)

  merged_sound : (class : ℕ → ℕ) → Sound class → (l r : ℕ) → Closure s l r → Sound (merged class l r)
  merged_sound class h l r c p =
      elim (cases_eq (class p) (class l)) [
        | inl e ↦ rw (eq-eqb (class p) (class l) e) (joined (sound_same class h p l e) (joined c (h r)))
        | inr n ↦ rw (ne_eqb (class p) (class l) n) (h p)
      ]

  merged_le : (class : ℕ → ℕ) (l r : ℕ) → class r < class l → (p : ℕ) → merged class l r p ≤ class p
  merged_le class l r lt p =
      elim (cases_eq (class p) (class l)) [
        | inl e ↦ rw (eq-eqb (class p) (class l) e) (omega arith)
        | inr n ↦ rw (ne_eqb (class p) (class l) n) (omega arith)
      ]

  merged_lt : (class : ℕ → ℕ) (l r : ℕ) → class r < class l → merged class l r l < class l
  merged_lt class l r lt = rw (eq-eqb (class l) (class l) refl) lt

  -- Put together what has to be, until the numbering is closed: the sum of the numbers falls.
  closed_from : (k : ℕ) (class : ℕ → ℕ) → Sound class → sum (length s.rows) class < k → (c : ℕ → ℕ) × Sound c × IsClosed s c
  closed_from zero class h b = absurd (omega arith)
  closed_from (suc k) class h b =
      elim (apart_or_closed class h) [
        | inl a ↦
            let f = sum_lt (length s.rows) (merged class a.0 a.1) class (λ p hp. merged_le class a.0 a.1 a.4 p) a.0 a.2 (merged_lt class a.0 a.1 a.4) in
            closed_from k (merged class a.0 a.1) (merged_sound class h a.0 a.1 a.3) (omega arith)
        | inr c ↦ (class, h, c)
      ]

  numbering : (c : ℕ → ℕ) × Sound c × IsClosed s c
  numbering = closed_from (suc (sum (length s.rows) (λ p. p))) (λ p. p) (λ p. same p) (omega arith)

  -- The closure is decided.
  pub closure? : (p q : ℕ) → Dec (Closure s p q)
  closure? p q =
      elim (ℕ_discrete (numbering.0 p) (numbering.0 q)) [
        | yes e ↦ yes (sound_same numbering.0 numbering.1 p q e)
        | no n ↦ no (λ c. n (closed_closure numbering.2 c))
      ]

  -- So a closure that merely holds is at hand.
  pub at_hand : {p q : ℕ} → ∥ Closure s p q ∥₁ → Closure s p q
  at_hand {p} {q} t =
      elim (closure? p q) [
        | yes c ↦ c
        | no n ↦ absurd (∥∥₁_elim t ⊥_prop n)
      ]

-- Only a row has a kind below none's, and only a composed row the first.
kind_within : (l : List Row) (r : ℕ) → kind (get_elem? l r) ≤ 1 → r < length l
kind_within l r h = go (get_elem? l r) refl
  where
    go : (o : Option Row) → get_elem? l r ≡ o → r < length l
    go none e = let k = rw e at h in absurd (omega arith)
    go (some a) e = at_within l r a e

within_kind : (l : List Row) (r : ℕ) → r < length l → kind (get_elem? l r) ≤ 1
within_kind l r h = let a = within_at l r h in rw a.1 (row_kind a.0)

module _ {s : Sheet} (I : IsCoherent s) where
  -- Row q is in the closure with p, and of the kind k.
  abbrev Candidate : ℕ → ℕ → ℕ → Type 0
  Candidate k p q = (kind (get_elem? s.rows q) ≡ k) × Closure s p q

  candidate? : (k p q : ℕ) → Dec (Candidate k p q)
  candidate? k p q = go (ℕ_discrete (kind (get_elem? s.rows q)) k) (closure? I p q)
    where
      go : Dec (kind (get_elem? s.rows q) ≡ k) → Dec (Closure s p q) → Dec (Candidate k p q)
      go (yes e) (yes c) = yes (e, c)
      go (yes e) (no n) = no (λ h. n h.1)
      go (no n) d = no (λ h. n h.0)

  -- A first candidate of the least kind there is stands for the class.
  first_represents : (k p q : ℕ) → k ≤ 1 → Candidate k p q → Below q (λ r. ¬ Candidate k p r) → ((r : ℕ) → Closure s p r → k ≤ kind (get_elem? s.rows r)) → Representative s q p
  first_represents k p q hk c before least =
      record {
        together = c.1;
        kindest = λ r d. let a = least r d in let b = c.0 in omega arith;
        lowest = λ r d e.
            elim (cases_lt r q) [
              | inl lt ↦ absurd (before r lt (sym e ∙ c.0, d))
              | inr ge ↦ ge
            ];
      }

  pub representative : (p : ℕ) → p < length s.rows → (q : ℕ) × Representative s q p
  representative p hp = go (first_below (Candidate 0 p) (candidate? 0 p) (length s.rows)) (first_below (Candidate 1 p) (candidate? 1 p) (length s.rows))
    where
      -- with no composed row in the class, each row of it is a variable
      no_word : Below (length s.rows) (λ r. ¬ Candidate 0 p r) → (r : ℕ) → Closure s p r → 1 ≤ kind (get_elem? s.rows r)
      no_word n r c =
          elim (cases_lt 0 (kind (get_elem? s.rows r))) [
            | inl b ↦ omega arith
            | inr z ↦ absurd (n r (kind_within s.rows r (omega arith)) (omega arith, c))
          ]

      go : ((k : ℕ) × (k < length s.rows) × Candidate 0 p k × Below k (λ i. ¬ Candidate 0 p i)) ⊎ Below (length s.rows) (λ i. ¬ Candidate 0 p i) → ((k : ℕ) × (k < length s.rows) × Candidate 1 p k × Below k (λ i. ¬ Candidate 1 p i)) ⊎ Below (length s.rows) (λ i. ¬ Candidate 1 p i) → (q : ℕ) × Representative s q p
      go (inl m) d = (m.0, first_represents 0 p m.0 (omega arith) m.2 m.3 (λ r c. omega arith))
      go (inr n) (inl m) = (m.0, first_represents 1 p m.0 (omega arith) m.2 m.3 (no_word n))
      go (inr n) (inr v) =
          let a = no_word n p (same p) in
          let b = within_kind s.rows p hp in
          absurd (v p hp (omega arith, same p))

  pick : (p : ℕ) → Dec (p < length s.rows) → ℕ
  pick p (yes h) = (representative p h).0
  pick p (no n) = p

  pub representatives : ℕ → ℕ
  representatives p = pick p (dec_lt p (length s.rows))

  pub represents : Represents s representatives
  unfolding pick representatives
  represents p hp = go (dec_lt p (length s.rows))
    where
      go : (d : Dec (p < length s.rows)) → Representative s (pick p d) p
      go (yes h) = (representative p h).1
      go (no n) = absurd (n hp)
