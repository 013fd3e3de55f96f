-- Every term can be put onto every sheet: where its rows come to stand is computed.
use Rattle.std.proofs.Common.{◌≡◌, ℕ, zero, suc, Bool, true, false, eqb, List, [], ◌∷◌, length, refl, ap, ◌∙◌, subst, arith}
use mathlib.Core.Option.{Option, none, some}
use lib.ListN.{get_elem?}
use Rattle.std.proofs.lemmas.Bool.{eqb-true, eq-eqb, both_ways}
use Rattle.unification.specs.Putting.{Put, PutAll, met, new, built, none as nothing, each}
use Rattle.unification.specs.Sheets.{Row, variable, composed, Sheet, appended}
use Rattle.unification.specs.Terms.{Term, Terms, var, app, nil, cons}

-- Whether a row is the variable x.
abbrev is_label : ℕ → Row → Bool
is_label x (variable y) = eqb y x
is_label x (composed f ps) = false

label_is : (x : ℕ) (r : Row) → is_label x r ≡ true → r ≡ variable x
label_is x (variable y) h = ap variable (eqb-true y x h)
label_is x (composed f ps) h = absurd (both_ways false refl h)

is_label_lem : (x : ℕ) (r : Row) → r ≡ variable x → is_label x r ≡ true
is_label_lem x r e = ap (is_label x) e ∙ eq-eqb x x refl

abbrev one_on : Bool → Option ℕ → Option ℕ
one_on true o = some 0
one_on false none = none
one_on false (some p) = some (suc p)

-- The first row of the variable x, if it has one.
abbrev row_of : ℕ → List Row → Option ℕ
row_of x [] = none
row_of x (r ∷ rs) = one_on (is_label x r) (row_of x rs)

found : (x : ℕ) (rs : List Row) (p : ℕ) → row_of x rs ≡ some p → get_elem? rs p ≡ some (variable x)
found x [] p e = let z : ◌≡◌ {A = ℕ} 0 1 = cc in absurd (omega arith)
found x (r ∷ rs) p e = go (is_label x r) refl (row_of x rs) (found x rs) e
  where
    go : (b : Bool) → is_label x r ≡ b → (o : Option ℕ) → ((q : ℕ) → o ≡ some q → get_elem? rs q ≡ some (variable x)) → one_on b o ≡ some p → get_elem? (r ∷ rs) p ≡ some (variable x)
    go true h o k e = let z : 0 ≡ p = cc in subst (λ (i : ℕ). get_elem? (r ∷ rs) i ≡ some (variable x)) z (ap some (label_is x r h))
    go false h none k e = let z : ◌≡◌ {A = ℕ} 0 1 = cc in absurd (omega arith)
    go false h (some q) k e = let z : suc q ≡ p = cc in subst (λ (i : ℕ). get_elem? (r ∷ rs) i ≡ some (variable x)) z (k q refl)

lost : (x : ℕ) (rs : List Row) → row_of x rs ≡ none → (p : ℕ) → get_elem? rs p ≡ some (variable x) → ⊥
lost x [] e p h = let z : ◌≡◌ {A = ℕ} 0 1 = cc in omega arith
lost x (r ∷ rs) e p h = go (is_label x r) refl (row_of x rs) (lost x rs) e p h
  where
    go : (b : Bool) → is_label x r ≡ b → (o : Option ℕ) → (o ≡ none → (q : ℕ) → get_elem? rs q ≡ some (variable x) → ⊥) → one_on b o ≡ none → (q : ℕ) → get_elem? (r ∷ rs) q ≡ some (variable x) → ⊥
    go true h o k e q a = let z : ◌≡◌ {A = ℕ} 0 1 = cc in omega arith
    go false h (some i) k e q a = let z : ◌≡◌ {A = ℕ} 0 1 = cc in omega arith
    go false h none k e zero a = let s : r ≡ variable x = cc in both_ways (is_label x r) h (is_label_lem x r s)
    go false h none k e (suc q) a = k refl q a

-- The row of a term, and the sheet that it stands on.
pub record Placed : Type 0 where
  pub row : ℕ
  pub sheet : Sheet

pub record AllPlaced : Type 0 where
  pub rows : List ℕ
  pub sheet : Sheet

abbrev placed_label : Sheet → ℕ → Option ℕ → Placed
placed_label s x none = record { row = length s.rows; sheet = appended s (variable x) }
placed_label s x (some p) = record { row = p; sheet = s }

abbrev mutual
  pub placed : Sheet → Term → Placed
  placed s (var x) = placed_label s x (row_of x s.rows)
  placed s (app f ts) =
      record { row = length (all_placed s ts).sheet.rows; sheet = appended (all_placed s ts).sheet (composed f (all_placed s ts).rows) }

  pub all_placed : Sheet → Terms → AllPlaced
  all_placed s nil = record { rows = []; sheet = s }
  all_placed s (cons t ts) =
      record { rows = (placed s t).row ∷ (all_placed (placed s t).sheet ts).rows; sheet = (all_placed (placed s t).sheet ts).sheet }

put_label : (s : Sheet) (x : ℕ) (o : Option ℕ) → row_of x s.rows ≡ o → Put s (var x) (placed_label s x o).row (placed_label s x o).sheet
put_label s x none e = new (lost x s.rows e)
put_label s x (some p) e = met (found x s.rows p e)

mutual
  pub put : (s : Sheet) (t : Term) → Put s t (placed s t).row (placed s t).sheet
  put s (var x) = put_label s x (row_of x s.rows) refl
  put s (app f ts) = built (put_all s ts)

  pub put_all : (s : Sheet) (ts : Terms) → PutAll s ts (all_placed s ts).rows (all_placed s ts).sheet
  put_all s nil = nothing
  put_all s (cons t ts) = each (put s t) (put_all (placed s t).sheet ts)
