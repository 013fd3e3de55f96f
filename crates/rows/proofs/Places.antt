-- What stands at a place of a sheet that is stored.
use Rattle.std.proofs.Common.{◌≡◌, ℕ, zero, suc, ◌<◌, ◌≤◌, ◌⊎◌, List, [], ◌∷◌, ◌++◌, map, length, get_or, take, Some, sym, refl, ap, ◌∙◌, subst, inl, inr, arith, length-take}
use mathlib.Core.Option.{Option, none, some}
use lib.ListN.{get_elem?}
use Rattle.std.proofs.lemmas.List.{get_or-map, get_or_default, length-map}
use Rattle.lists.specs.Entries.{entries}
use Rattle.rows.specs.Limits.{most_rows}
use Rattle.rows.specs.Stored.{InSlots, Lower, Slots, args_at, args_of, row_of, rows_of, word_of}
use Rattle.rows.specs.declared.numbers.Numbers.{Numbers}
use Rattle.rows.specs.declared.row.Row.{Row}
use Rattle.rows.specs.declared.rows.Rows.{Rows}
use Rattle.unification.proofs.Reading.{at_get_d, at_within}
use Rattle.unification.specs.Sheets as theory

-- What stands at a place of the images of a list.
pub mapped_at : {A B : Type 0} (f : A → B) (items : List A) (p : ℕ) (d : A) → p < length (map f items) → get_elem? (map f items) p ≡ some (f (get_or items p d))
mapped_at f items p d h =
    let l = length-map items f in
    at_get_d (map f items) p (f d) h ∙ ap some (get_or-map f items p d (f d) (omega arith))

-- There are no more rows than numbers for them.
pub few : (rows : Rows) → length (rows_of rows.items) ≤ most_rows
few rows =
    let a = length-map (entries rows.items) row_of in
    let b = length-take rows.items.len rows.items.items in
    let w = rows.items.within in
    omega arith

pub long : (rows : Rows) (classes : Numbers) → length (rows_of rows.items) ≤ length classes.of
long rows classes = let a = few rows in let b = classes.size in omega arith

-- A number that is read from a list at a place, by another name for the list.
pub read_at : (xs ys : List ℕ) → xs ≡ ys → (k x : ℕ) → k < length xs → x ≡ get_or xs k x → x ≡ get_or ys k 0
read_at xs ys e k x h i = i ∙ get_or_default xs k x 0 h ∙ ap (λ (z : List ℕ). get_or z k 0) e

-- An argument of a row is a row before it, and has a number.
pub arg_below : (rows : Rows) (p : ℕ) (xs : List ℕ) → xs ≡ args_at (rows_of rows.items) p → (k x : ℕ) → k < length xs → x ≡ get_or xs k x → x < p
arg_below rows p xs e k x h i =
    subst (λ (z : ℕ). z < p) (sym (read_at xs (args_at (rows_of rows.items) p) e k x h i)) (rows.lower p k (subst (λ (z : List ℕ). k < length z) e h))

pub arg_few : (rows : Rows) (p : ℕ) → p < length (rows_of rows.items) → (xs : List ℕ) → xs ≡ args_at (rows_of rows.items) p → (k x : ℕ) → k < length xs → x ≡ get_or xs k x → x < most_rows
arg_few rows p hp xs e k x h i = let a = arg_below rows p xs e k x h i in let b = few rows in omega arith

-- Among the rows and one more, a row is an old one, the new one, or none.
pub appended_at : (rows : List theory.Row) (r : theory.Row) (p : ℕ) → (get_elem? (rows ++ (r ∷ [])) p ≡ get_elem? rows p) ⊎ ((p ≡ length rows) × (get_elem? (rows ++ (r ∷ [])) p ≡ some r))
appended_at [] r zero = inr (refl, refl)
appended_at [] r (suc p) = inl refl
appended_at (x ∷ rows) r zero = inl refl
appended_at (x ∷ rows) r (suc p) = elim (appended_at rows r p) [ inl a ↦ inl a | inr b ↦ inr (ap suc b.0, b.1) ]

pub last_at : (rows : List theory.Row) (r : theory.Row) → get_elem? (rows ++ (r ∷ [])) (length rows) ≡ some r
last_at [] r = refl
last_at (x ∷ rows) r = last_at rows r

pub lower_pushed : (rows : List theory.Row) (r : theory.Row) → Lower rows → ((i : ℕ) → i < length (args_of (some r)) → get_or (args_of (some r)) i 0 < length rows) → Lower (rows ++ (r ∷ []))
lower_pushed rows r l k p i =
    elim (appended_at rows r p) [
      | inl e ↦ subst (λ (z : Option theory.Row). i < length (args_of z) → get_or (args_of z) i 0 < p) (sym e) (l p i)
      | inr b ↦ subst (λ (z : Option theory.Row). i < length (args_of z) → get_or (args_of z) i 0 < p) (sym b.1) (λ h. let e = b.0 in let m = k i h in omega arith)
    ]

-- Slots of one row more, and of the first rows.
pub slots_pushed : (rows : List Row) (r : Row) → Slots rows → InSlots r → Slots (rows ++ (r ∷ []))
slots_pushed [] r s k zero h = k
slots_pushed [] r s k (suc p) h = absurd (omega arith)
slots_pushed (x ∷ rows) r s k zero h = s zero (omega arith)
slots_pushed (x ∷ rows) r s k (suc p) h = slots_pushed rows r (λ q l. s (suc q) (omega arith)) k p (omega arith)

pub slots_cut : (rows : List Row) (n : ℕ) → Slots rows → Slots (take n rows)
slots_cut rows zero s p h = absurd (omega arith)
slots_cut [] (suc n) s p h = absurd (omega arith)
slots_cut (x ∷ rows) (suc n) s zero h = s zero (omega arith)
slots_cut (x ∷ rows) (suc n) s (suc p) h = slots_cut rows n (λ q l. s (suc q) (omega arith)) p (omega arith)

-- The first of the rows.
taken_at : (rows : List theory.Row) (k p : ℕ) → (get_elem? (take k rows) p ≡ get_elem? rows p) ⊎ (get_elem? (take k rows) p ≡ none)
taken_at rows zero p = inr refl
taken_at [] (suc k) p = inr refl
taken_at (x ∷ rows) (suc k) zero = inl refl
taken_at (x ∷ rows) (suc k) (suc p) = taken_at rows k p

pub lower_cut : (rows : List theory.Row) (k : ℕ) → Lower rows → Lower (take k rows)
lower_cut rows k l p i =
    elim (taken_at rows k p) [
      | inl e ↦ subst (λ (z : Option theory.Row). i < length (args_of z) → get_or (args_of z) i 0 < p) (sym e) (l p i)
      | inr e ↦ subst (λ (z : Option theory.Row). i < length (args_of z) → get_or (args_of z) i 0 < p) (sym e) (λ h. absurd (omega arith))
    ]

-- Past the last row there is none, and where there is a word there is a row.
pub past_at : (rows : List theory.Row) (p : ℕ) → length rows ≤ p → get_elem? rows p ≡ none
past_at [] p h = refl
past_at (x ∷ rows) zero h = absurd (omega arith)
past_at (x ∷ rows) (suc p) h = past_at rows p (omega arith)

word_in : (o : Option theory.Row) (f : ℕ) → word_of o ≡ Some f → (r : theory.Row) × (o ≡ some r)
word_in none f h = let z : ◌≡◌ {A = ℕ} 0 1 = cc in absurd (omega arith)
word_in (some r) f h = (r, refl)

pub word_within : (rows : List theory.Row) (p f : ℕ) → word_of (get_elem? rows p) ≡ Some f → p < length rows
word_within rows p f h = let w = word_in (get_elem? rows p) f h in at_within rows p w.0 w.1
