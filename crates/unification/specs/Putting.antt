use Rattle.std.specs.Prelude.{◌≡◌, ℕ, ◌<◌, List, [], ◌∷◌, ◌++◌, length}
use Rattle.unification.specs.Sheets.{Row, Sheet, IsCoherent, IsSheet, At, variable, composed, appended, term}
use Rattle.unification.specs.Terms.{Term, Terms, var, app, nil, cons, Formed}

-- No row has the label.
abbrev pub Unlabelled : Sheet → ℕ → Type 0
Unlabelled s x = (p : ℕ) → At s p (variable x) → ⊥

mutual
  -- Putting the term t onto the sheet s gives row p of the sheet u. A variable has the row of its label, which is new when the label is
  -- first met. An applied word gets a row of its own after its arguments, which are put left to right.
  pub data Put : Sheet → Term → ℕ → Sheet → Type 0 where
    met : {s : Sheet} {x p : ℕ} → At s p (variable x) → Put s (var x) p s
    new : {s : Sheet} {x : ℕ} → Unlabelled s x → Put s (var x) (length s.rows) (appended s (variable x))
    built : {s u : Sheet} {f : ℕ} {ts : Terms} {ps : List ℕ} → PutAll s ts ps u → Put s (app f ts) (length u.rows) (appended u (composed f ps))

  -- The same of a list of terms, left to right, and the list of their rows.
  pub data PutAll : Sheet → Terms → List ℕ → Sheet → Type 0 where
    none : {s : Sheet} → PutAll s nil [] s
    each : {s u v : Sheet} {t : Term} {ts : Terms} {p : ℕ} {ps : List ℕ} → Put s t p u → PutAll u ts ps v → PutAll s (cons t ts) (p ∷ ps) v

-- The sheet u is s with some rows more, after the last.
pub record Extends (s u : Sheet) : Type 0 where
  pub more : List Row
  pub rows : u.rows ≡ s.rows ++ more
  pub equations : u.equations ≡ s.equations

-- What is so of putting terms onto sheets.
pub record PuttingSettled : Type 0 where
  -- every term can be put onto every sheet
  pub total : (s : Sheet) (t : Term) → (p : ℕ) × (u : Sheet) × Put s t p u
  -- in one way
  pub single : (s : Sheet) → IsCoherent s → (t : Term) (p q : ℕ) (u v : Sheet) → Put s t p u → Put s t q v → (p ≡ q) × (u ≡ v)
  -- what was there stays, with the rows of the term after it
  pub extends : (s : Sheet) (t : Term) (p : ℕ) (u : Sheet) → Put s t p u → Extends s u × (p < length u.rows)
  -- a sheet stays well formed
  pub coherent : (count : ℕ) (arity : ℕ → ℕ) (s : Sheet) → IsCoherent s → (t : Term) (p : ℕ) (u : Sheet) → Formed count arity t → Put s t p u → IsCoherent u
  pub sheet : (count : ℕ) (arity : ℕ → ℕ) (s : Sheet) → IsSheet count arity s → (t : Term) (p : ℕ) (u : Sheet) → Formed count arity t → Put s t p u → IsSheet count arity u
  -- the row stands for the term
  pub reads : (count : ℕ) (arity : ℕ → ℕ) (s : Sheet) → IsCoherent s → (t : Term) (p : ℕ) (u : Sheet) → Formed count arity t → Put s t p u → term u p ≡ t
  -- and each row that was there for what it stood for
  pub keeps : (count : ℕ) (arity : ℕ → ℕ) (s : Sheet) → IsCoherent s → (t : Term) (p : ℕ) (u : Sheet) → Formed count arity t → Put s t p u → (q : ℕ) → q < length s.rows → term u q ≡ term s q
