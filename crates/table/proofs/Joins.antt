-- Joining classes, one renaming at a time, until they are closed.
use Rattle.std.proofs.Common.{◌≡◌, ℕ, zero, suc, ◌<◌, ◌≤◌, cond, eqb, ◌⊎◌, List, map, length, get_or, sym, refl, ap, ◌∙◌, subst, inl, inr, arith}
use mathlib.Core.List.Memᴰ
use mathlib.Core.Logic.{∥∥₁_elim, ∥∥₁_map}
use mathlib.Core.Option.{Option, none, some}
use lib.ListN.{get_elem?}
use Rattle.fault.specs.Firsts.{Below}
use Rattle.std.proofs.lemmas.List.{get_or-map}
use Rattle.std.proofs.lemmas.Bool.{cases_eq, cases_Bool, cond-true, cond-false, eq-eqb, ne_eqb, leb-true, leb-false}
use Rattle.table.proofs.Growing.{same_class}
use Rattle.rows.proofs.Renaming.{renamed_same, renamed_other}
use Rattle.table.specs.Joining.{Sound, Sides, Agrees, Apart, Differ, Uniform, Unlike, keeps_left, merged, labels}
use Rattle.rows.specs.Limits.{most_rows}
use Rattle.rows.specs.Labels.{renamed}
use Rattle.rows.specs.Stored.{args_at, args_of, at, rank}
use Rattle.unification.proofs.Bridges.{represents_from}
use Rattle.unification.proofs.Depths.{closure_rows}
use Rattle.unification.proofs.Numberings.{at_hand}
use Rattle.unification.proofs.Orderings.{closure_equated}
use Rattle.unification.proofs.Reading.{at_within}
use Rattle.unification.proofs.Tables.{star_closed}
use Rattle.unification.specs.Closures.{Closure, stated, same, turned, joined, passed, kind}
use Rattle.unification.specs.Sheets.{Row, variable, composed, Equation, Sheet, IsCoherent, equated}
use Rattle.unification.specs.Tables.{IsStar, Represents}

-- What stands at p after a renaming
pub at_renamed : (c : List ℕ) (gone keep p : ℕ) → p < length c → ((at c p ≡ gone) × (at (map (renamed gone keep) c) p ≡ keep)) ⊎ ((at c p ≡ gone → ⊥) × (at (map (renamed gone keep) c) p ≡ at c p))
at_renamed c gone keep p h =
    let e = get_or-map (renamed gone keep) c p 0 0 h in
    elim (cases_eq (at c p) gone) [ inl s ↦ inl (s, e ∙ renamed_same gone keep (at c p) s) | inr d ↦ inr (d, e ∙ renamed_other gone keep (at c p) d) ]

-- Rows of one label have one label after
pub coarser : (c : List ℕ) (gone keep p q : ℕ) → p < length c → q < length c → at c p ≡ at c q → at (map (renamed gone keep) c) p ≡ at (map (renamed gone keep) c) q
coarser c gone keep p q hp hq e = get_or-map (renamed gone keep) c p 0 0 hp ∙ ap (renamed gone keep) e ∙ sym (get_or-map (renamed gone keep) c q 0 0 hq)

-- The numbers after a renaming to a row are rows.
pub within_renamed : (n : ℕ) (c : List ℕ) (gone keep : ℕ) → n ≤ length c → Below n (λ p. at c p < n) → keep < n → Below n (λ p. at (map (renamed gone keep) c) p < n)
within_renamed n c gone keep len w kn p h =
    elim (at_renamed c gone keep p (omega arith)) [ inl e ↦ subst (λ z. z < n) (sym e.1) kn | inr e ↦ subst (λ z. z < n) (sym e.1) (w p h) ]

module _ (sheet : Sheet) (n : ℕ) where
  pub join₁ : {p q r : ℕ} → ∥ Closure sheet p q ∥₁ → ∥ Closure sheet q r ∥₁ → ∥ Closure sheet p r ∥₁
  join₁ t u = ∥∥₁_elim t squash₁ (λ a. ∥∥₁_map u (λ b. joined a b))

  pub turn₁ : {p q : ℕ} → ∥ Closure sheet p q ∥₁ → ∥ Closure sheet q p ∥₁
  turn₁ t = ∥∥₁_map t (λ a. turned a)

  -- A renaming of one label to a better one that is together with it
  pub sound_renamed : (c : List ℕ) (gone keep : ℕ) → n ≤ length c → Sound sheet n c → keep < n → at c keep ≡ keep → rank sheet.rows keep ≤ rank sheet.rows gone → ∥ Closure sheet gone keep ∥₁ → Sound sheet n (map (renamed gone keep) c)
  sound_renamed c gone keep len s kn kk le t = record {
    within = within_renamed n c gone keep len s.within kn;
    fixed = λ p h. elim (at_renamed c gone keep p (omega arith)) [
      | inl e ↦ ap (λ z. at (map (renamed gone keep) c) z) e.1 ∙ at_keep ∙ sym e.1
      | inr e ↦ ap (λ z. at (map (renamed gone keep) c) z) e.1 ∙ at_label p h e.0 ∙ sym e.1
    ];
    first = λ p h. elim (at_renamed c gone keep p (omega arith)) [
      | inl e ↦ subst (λ z. rank sheet.rows z ≤ rank sheet.rows p) (sym e.1) (let f : rank sheet.rows gone ≤ rank sheet.rows p = subst (λ z. rank sheet.rows z ≤ rank sheet.rows p) e.0 (s.first p h) in omega arith)
      | inr e ↦ subst (λ z. rank sheet.rows z ≤ rank sheet.rows p) (sym e.1) (s.first p h)
    ];
    together = λ p h. elim (at_renamed c gone keep p (omega arith)) [
      | inl e ↦ subst (λ z. ∥ Closure sheet p z ∥₁) (sym e.1) (join₁ (subst (λ z. ∥ Closure sheet p z ∥₁) e.0 (s.together p h)) t)
      | inr e ↦ subst (λ z. ∥ Closure sheet p z ∥₁) (sym e.1) (s.together p h)
    ];
  }
    where
      at_keep : at (map (renamed gone keep) c) keep ≡ keep
      at_keep = elim (at_renamed c gone keep keep (omega arith)) [ inl e ↦ e.1 | inr e ↦ e.1 ∙ kk ]

      at_label : (p : ℕ) → p < n → (at c p ≡ gone → ⊥) → get_or (map (renamed gone keep) c) (at c p) 0 ≡ at c p
      at_label p h d = let w : at c p < n = s.within p h in elim (at_renamed c gone keep (at c p) (omega arith)) [ inl e ↦ absurd (d (sym (s.fixed p h) ∙ e.0)) | inr e ↦ e.1 ∙ s.fixed p h ]

  -- Two rows together, made one class.
  pub sound_merged : (c : List ℕ) (a b : ℕ) → n ≤ length c → Sound sheet n c → a < n → b < n → ∥ Closure sheet a b ∥₁ → Sound sheet n (merged sheet.rows c a b)
  sound_merged c a b len s ha hb t =
      let ta = s.together a ha in
      let tb = s.together b hb in
      elim (cases_Bool (keeps_left sheet.rows c a b)) [
        | inl e ↦ subst (Sound sheet n) (sym (cond-true (keeps_left sheet.rows c a b) _ _ e)) (sound_renamed c (at c b) (at c a) len s (s.within a ha) (s.fixed a ha) (leb-true _ _ e) (join₁ (turn₁ tb) (join₁ (turn₁ t) ta)))
        | inr e ↦ subst (Sound sheet n) (sym (cond-false (keeps_left sheet.rows c a b) _ _ e)) (sound_renamed c (at c a) (at c b) len s (s.within b hb) (s.fixed b hb) (let l = leb-false _ _ e in omega arith) (join₁ (turn₁ ta) (join₁ t tb)))
      ]

  -- A merge keeps what was together
  pub merged_keeps : (c : List ℕ) (a b p q : ℕ) → p < length c → q < length c → at c p ≡ at c q → at (merged sheet.rows c a b) p ≡ at (merged sheet.rows c a b) q
  merged_keeps c a b p q hp hq e =
      elim (cases_Bool (keeps_left sheet.rows c a b)) [
        | inl t ↦ subst (λ z. at z p ≡ at z q) (sym (cond-true (keeps_left sheet.rows c a b) _ _ t)) (coarser c (at c b) (at c a) p q hp hq e)
        | inr t ↦ subst (λ z. at z p ≡ at z q) (sym (cond-false (keeps_left sheet.rows c a b) _ _ t)) (coarser c (at c a) (at c b) p q hp hq e)
      ]

  -- And puts its two rows together
  pub merged_joins : (c : List ℕ) (a b : ℕ) → a < length c → b < length c → at (merged sheet.rows c a b) a ≡ at (merged sheet.rows c a b) b
  merged_joins c a b ha hb =
      elim (cases_Bool (keeps_left sheet.rows c a b)) [
        | inl t ↦ subst (λ z. at z a ≡ at z b) (sym (cond-true (keeps_left sheet.rows c a b) _ _ t)) (one c a b ha hb)
        | inr t ↦ subst (λ z. at z a ≡ at z b) (sym (cond-false (keeps_left sheet.rows c a b) _ _ t)) (sym (one c b a hb ha))
      ]
    where
      one : (c : List ℕ) (a b : ℕ) → a < length c → b < length c → at (map (renamed (at c b) (at c a)) c) a ≡ at (map (renamed (at c b) (at c a)) c) b
      one c a b ha hb =
          get_or-map (renamed (at c b) (at c a)) c a 0 0 ha ∙ left ∙ sym (get_or-map (renamed (at c b) (at c a)) c b 0 0 hb ∙ renamed_same (at c b) (at c a) (at c b) refl)
        where
          left : renamed (at c b) (at c a) (at c a) ≡ at c a
          left = elim (cases_eq (at c a) (at c b)) [ inl e ↦ renamed_same (at c b) (at c a) (at c a) e | inr d ↦ renamed_other (at c b) (at c a) (at c a) d ]

-- One at a label, else none
abbrev mark : List ℕ → ℕ → ℕ
mark c k = cond (eqb (at c k) k) 1 0

mark_le : (c d : List ℕ) (k : ℕ) → (at d k ≡ k → at c k ≡ k) → mark d k ≤ mark c k
mark_le c d k f = elim (cases_eq (at d k) k) [
  | inl e ↦ let x : mark c k ≡ 1 = cond-true (eqb (at c k) k) 1 0 (eq-eqb (at c k) k (f e)) in let y : mark d k ≡ 1 = cond-true (eqb (at d k) k) 1 0 (eq-eqb (at d k) k e) in omega arith
  | inr e ↦ let y : mark d k ≡ 0 = cond-false (eqb (at d k) k) 1 0 (ne_eqb (at d k) k e) in omega arith
]

mark_lt : (c d : List ℕ) (k : ℕ) → at c k ≡ k → (at d k ≡ k → ⊥) → mark d k < mark c k
mark_lt c d k e f = let x : mark c k ≡ 1 = cond-true (eqb (at c k) k) 1 0 (eq-eqb (at c k) k e) in let y : mark d k ≡ 0 = cond-false (eqb (at d k) k) 1 0 (ne_eqb (at d k) k f) in omega arith

labels_le : (c d : List ℕ) (n : ℕ) → ((k : ℕ) → k < n → at d k ≡ k → at c k ≡ k) → labels d n ≤ labels c n
unfolding labels
labels_le c d zero f = omega arith
labels_le c d (suc n) f = let x = mark_le c d n (f n (omega arith)) in let y = labels_le c d n (λ k h. f k (omega arith)) in omega arith

-- Fewer rows are labels, where none more is and one is no more
pub labels_fall : (c d : List ℕ) (n j : ℕ) → j < n → ((k : ℕ) → k < n → at d k ≡ k → at c k ≡ k) → at c j ≡ j → (at d j ≡ j → ⊥) → labels d n < labels c n
unfolding labels
labels_fall c d zero j h f e g = absurd (omega arith)
labels_fall c d (suc n) j h f e g = elim (cases_eq j n) [
  | inl s ↦ let x = mark_lt c d n (subst (λ z. at c z ≡ z) s e) (subst (λ z. at d z ≡ z → ⊥) s g) in let y = labels_le c d n (λ k l. f k (omega arith)) in omega arith
  | inr s ↦ let x = mark_le c d n (f n (omega arith)) in let y = labels_fall c d n j (omega arith) (λ k l. f k (omega arith)) e g in omega arith
]

module _ (sheet : Sheet) (n : ℕ) where
  renamed_falls : (c : List ℕ) (gone keep : ℕ) → n ≤ length c → keep < n → gone < n → at c keep ≡ keep → at c gone ≡ gone → (gone ≡ keep → ⊥) → labels (map (renamed gone keep) c) n < labels c n
  renamed_falls c gone keep len kn gn kk gg d =
      labels_fall c (map (renamed gone keep) c) n gone gn
      (λ k h e. elim (at_renamed c gone keep k (omega arith)) [
        | inl s ↦ let z : k ≡ keep = sym e ∙ s.1 in subst (λ w. at c w ≡ w) (sym z) kk
        | inr s ↦ sym s.1 ∙ e
      ])
      gg
      (λ e. elim (at_renamed c gone keep gone (omega arith)) [ inl s ↦ d (sym e ∙ s.1) | inr s ↦ s.0 gg ])

  -- With two labels there are fewer labels after
  pub merged_falls : (c : List ℕ) (a b : ℕ) → n ≤ length c → Sound sheet n c → a < n → b < n → (at c a ≡ at c b → ⊥) → labels (merged sheet.rows c a b) n < labels c n
  merged_falls c a b len s ha hb d =
      elim (cases_Bool (keeps_left sheet.rows c a b)) [
        | inl t ↦ subst (λ z. labels z n < labels c n) (sym (cond-true (keeps_left sheet.rows c a b) _ _ t)) (renamed_falls c (at c b) (at c a) len (s.within a ha) (s.within b hb) (s.fixed a ha) (s.fixed b hb) (λ e. d (sym e)))
        | inr t ↦ subst (λ z. labels z n < labels c n) (sym (cond-false (keeps_left sheet.rows c a b) _ _ t)) (renamed_falls c (at c a) (at c b) len (s.within b hb) (s.within a ha) (s.fixed b hb) (s.fixed a ha) d)
      ]

-- A row with an argument is composed, and so is one of the first kind.
pub composed_with : (o : Option Row) (i : ℕ) → i < length (args_of o) → (f : ℕ) × (o ≡ some (composed f (args_of o)))
composed_with none i h = absurd (omega arith)
composed_with (some (variable x)) i h = absurd (omega arith)
composed_with (some (composed f xs)) i h = (f, refl)

pub composed_kind : (o : Option Row) → kind o ≡ 0 → (f : ℕ) × (o ≡ some (composed f (args_of o)))
composed_kind none h = absurd (omega arith)
composed_kind (some (variable x)) h = absurd (omega arith)
composed_kind (some (composed f xs)) h = (f, refl)

module _ (sheet : Sheet) (n : ℕ) where
  -- The arguments in one place of rows in the closure, with equally many, are in the closure.
  pub args_together : (p q i : ℕ) → ∥ Closure sheet p q ∥₁ → length (args_at sheet.rows p) ≡ length (args_at sheet.rows q) → i < length (args_at sheet.rows p) → ∥ Closure sheet (get_or (args_at sheet.rows p) i 0) (get_or (args_at sheet.rows q) i 0) ∥₁
  args_together p q i t l h =
      let xs = args_at sheet.rows p in
      let ys = args_at sheet.rows q in
      let a = composed_with (get_elem? sheet.rows p) i h in
      let b = composed_with (get_elem? sheet.rows q) i (subst (λ (z : ℕ). i < z) l h) in
      ∥∥₁_map t (λ k. passed a.0 b.0 xs ys i k a.1 b.1 l h)

  -- What is found apart is in the closure, and rows.
  pub apart_together : (c : List ℕ) (x y : ℕ) → Sound sheet n c → Apart sheet.rows n c x y → ∥ Closure sheet x y ∥₁
  apart_together c x y s o =
      subst (λ (z : ℕ). ∥ Closure sheet z y ∥₁) (sym o.left)
      (subst (λ (z : ℕ). ∥ Closure sheet (get_or (args_at sheet.rows o.row) o.place 0) z ∥₁) (sym o.right)
      (args_together o.row (at c o.row) o.place (s.together o.row o.row_in) o.arities o.place_in))

  pub sides_merged : IsCoherent sheet → (c : List ℕ) (a b : ℕ) → length sheet.rows ≤ length c → Sides sheet c → Sides sheet (merged sheet.rows c a b)
  sides_merged I c a b len k e m =
      let w = I.within e m in
      merged_keeps sheet n c a b e.left e.right (let x = w.0 in omega arith) (let x = w.1 in omega arith) (k e m)

  -- One more joining, of rows in the closure that have two numbers.
  pub joined_more : IsCoherent sheet → n ≡ length sheet.rows → (c : List ℕ) (a b : ℕ) → n ≤ length c → Sound sheet n c × Sides sheet c → a < n → b < n → ∥ Closure sheet a b ∥₁ → (at c a ≡ at c b → ⊥) → Sound sheet n (merged sheet.rows c a b) × Sides sheet (merged sheet.rows c a b) × (labels (merged sheet.rows c a b) n < labels c n)
  joined_more I e c a b len s ha hb t d = (
    sound_merged sheet n c a b len s.0 ha hb t,
    sides_merged I c a b (omega arith) s.1,
    merged_falls sheet n c a b len s.0 ha hb d,
  )

  -- Two rows of a class with different numbers of arguments.
  pub differ_unlike : IsCoherent sheet → (c : List ℕ) (p q : ℕ) → Sound sheet n c → Differ sheet.rows n c p q → Unlike sheet p q
  differ_unlike I c p q s d =
      let a = composed_kind (get_elem? sheet.rows p) d.left in
      let b = composed_kind (get_elem? sheet.rows q) d.right in
      record {
        left = a.0;
        right = b.0;
        lefts = args_at sheet.rows p;
        rights = args_at sheet.rows q;
        together = at_hand I (subst (λ (z : ℕ). ∥ Closure sheet p z ∥₁) (sym d.class) (s.together p d.row));
        first = a.1;
        second = b.1;
        unequal = d.unequal;
      }

  -- Numbers that agree everywhere give the representatives.
  pub represents_joined : IsCoherent sheet → n ≡ length sheet.rows → n ≤ most_rows → (c : List ℕ) → Sound sheet n c → Sides sheet c → Below n (Agrees sheet.rows c) → Uniform sheet.rows n c → Represents sheet (at c)
  represents_joined I e b c s k A U =
      represents_from I (star_closed star) (λ p h. s.together p (omega arith))
      (λ p h. let f = s.first p (omega arith) in let w = s.within p (omega arith) in omega arith)
      (λ p h l. let f = s.first p (omega arith) in omega arith)
    where
      star : IsStar sheet (at c) (args_at sheet.rows)
      star =
          record {
            sides = k;
            args = λ p f xs h i hi.
                let l = at_within sheet.rows p (composed f xs) h in
                let m : p < n = omega arith in
                let x : args_at sheet.rows p ≡ xs = ap args_of h in
                let v = A p m (U p m (ap kind h)) i (subst (λ (z : List ℕ). i < length z) (sym x) hi) in
                subst (λ (z : List ℕ). at c (get_or z i 0) ≡ at c (get_or (args_at sheet.rows (at c p)) i 0)) x v;
          }

-- The classes of a sheet are sound for the sheet with one more equation.
module _ {s : Sheet} (I : IsCoherent s) (c : List ℕ) (R : Represents s (at c)) (e : Equation) (b : length s.rows ≤ most_rows) where
  pub sound_equated : Sound (equated s e) (length s.rows) c
  sound_equated =
      record {
        within = inside;
        fixed = λ p h. sym (same_class R h (inside p h) (R p h).together);
        first = λ p h. least p h (cases_eq (kind (get_elem? s.rows (at c p))) (kind (get_elem? s.rows p)));
        together = λ p h. ∣ closure_equated s e (R p h).together ∣₁;
      }
    where
      inside : Below (length s.rows) (λ p. at c p < length s.rows)
      inside p h = (closure_rows I (R p h).together).0 h

      least : (p : ℕ) → p < length s.rows → (kind (get_elem? s.rows (at c p)) ≡ kind (get_elem? s.rows p)) ⊎ (kind (get_elem? s.rows (at c p)) ≡ kind (get_elem? s.rows p) → ⊥) → rank s.rows (at c p) ≤ rank s.rows p
      least p h (inl k) = let l = (R p h).lowest p (same p) k in omega arith
      least p h (inr d) = let l = (R p h).kindest p (same p) in let w = inside p h in omega arith

  -- Joined by the new equation, they are equal on both sides of every equation.
  pub sides_equated : length s.rows ≤ length c → e.left < length s.rows → e.right < length s.rows → Sides (equated s e) (merged s.rows c e.left e.right)
  sides_equated len hl hr d m =
      elim (Memᴰ.append_cases s.equations m) [
        | inl a ↦
            let w = I.within d a in
            let x = w.0 in
            let y = w.1 in
            merged_keeps s (length s.rows) c e.left e.right d.left d.right (omega arith) (omega arith) (same_class R x y (stated d a))
        | inr a ↦
            let q = Memᴰ.eq_of_singleton a in
            rw q (merged_joins s (length s.rows) c e.left e.right (omega arith) (omega arith))
      ]

  pub sound_joined : length s.rows ≤ length c → e.left < length s.rows → e.right < length s.rows → Sound (equated s e) (length s.rows) (merged s.rows c e.left e.right)
  sound_joined len hl hr =
      sound_merged (equated s e) (length s.rows) c e.left e.right len sound_equated hl hr
      ∣ stated e (Memᴰ.append_right s.equations (Memᴰ.head refl)) ∣₁
