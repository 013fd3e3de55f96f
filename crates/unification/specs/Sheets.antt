use Rattle.std.specs.Prelude.{◌≡◌, ℕ, zero, suc, ◌<◌, List, [], ◌∷◌, ◌++◌, length, take, slice_index}
use Rattle.std.proofs.Math.Option.{Option, none, some}
use Rattle.std.proofs.Math.ListN.{get_elem?}
use Rattle.fault.specs.Firsts.{Below}
use Rattle.scale.specs.Scales.{Operations}
use Rattle.vocabulary.specs.Words.{Words}
use Rattle.unification.specs.Classes.{Member}
use Rattle.unification.specs.Similarity.{alike}
use Rattle.unification.specs.Substitutions.{apply}
use Rattle.unification.specs.Terms.{Term, Terms, var, app, nil, cons}

-- A row: a variable by its label, or a word with the rows of its arguments.
pub data Row : Type 0 where
  variable : ℕ → Row
  composed : ℕ → List ℕ → Row

-- An equation between two rows, by their numbers.
pub record Equation : Type 0 where
  pub left : ℕ
  pub right : ℕ

-- A sheet: rows, numbered from 0, and equations between them.
pub record Sheet : Type 0 where
  pub rows : List Row
  pub equations : List Equation

-- Row p of the sheet is r.
abbrev pub At : Sheet → ℕ → Row → Type 0
At s p r = get_elem? s.rows p ≡ some r

-- e is one of the sheet's equations, whichever its position.
abbrev pub Holds : Sheet → Equation → Type 0
Holds s e = Member e s.equations

-- A fresh sheet: no rows and no equations.
abbrev pub fresh : Sheet
fresh = record { rows = []; equations = [] }

-- The sheet with one more row, after the last.
abbrev pub appended : Sheet → Row → Sheet
appended s r = record { rows = s.rows ++ (r ∷ []); equations = s.equations }

-- The sheet with one more equation, at the end.
abbrev pub equated : Sheet → Equation → Sheet
equated s e = record { rows = s.rows; equations = s.equations ++ (e ∷ []) }

-- The first r rows and the first m equations of a sheet.
abbrev pub kept : ℕ → ℕ → Sheet → Sheet
kept r m s = record { rows = take r s.rows; equations = take m s.equations }

-- A sheet whose rows and equations fit together, whatever its words.
pub record IsCoherent (s : Sheet) : Type 0 where
  -- a label is 0 to 99, and has one row
  pub label : (p x : ℕ) → At s p (variable x) → x < 100
  pub once : (p q x : ℕ) → At s p (variable x) → At s q (variable x) → p ≡ q
  -- each argument of a composed row is a lower row
  pub lower : (p f : ℕ) (xs : List ℕ) → At s p (composed f xs) → Below (length xs) (λ i. slice_index xs i < p)
  -- both sides of an equation are rows
  pub within : (e : Equation) → Holds s e → (e.left < length s.rows) × (e.right < length s.rows)

-- A row over `count` words with their arities: its word is one of them, and has as many arguments as its arity.
abbrev pub IsTyped : ℕ → (ℕ → ℕ) → Row → Type 0
IsTyped count arity (variable x) = Unit {0}
IsTyped count arity (composed f xs) = (f < count) × (length xs ≡ arity f)

-- A well-formed sheet over `count` words with their arities.
pub record IsSheet (count : ℕ) (arity : ℕ → ℕ) (s : Sheet) : Type 0 where
  pub coherent : IsCoherent s
  pub typed : (p : ℕ) (r : Row) → At s p r → IsTyped count arity r

-- A row that a coherent sheet may get: a label of 0 to 99 that has no row yet, or a word with some of the rows.
abbrev pub Fits : Sheet → Row → Type 0
Fits s (variable x) = (x < 100) × ((p : ℕ) → At s p (variable x) → ⊥)
Fits s (composed f xs) = Below (length xs) (λ i. slice_index xs i < length s.rows)

-- The terms of some rows, where `of` gives the term of each.
abbrev pub terms_of : (ℕ → Term) → List ℕ → Terms
terms_of of [] = nil
terms_of of (p ∷ ps) = cons (of p) (terms_of of ps)

-- The term of a row's own shape, where `of` gives the terms of its arguments; variable 0 where there is no row.
abbrev pub shape : (ℕ → Term) → Option Row → Term
shape of none = var 0
shape of (some (variable x)) = var x
shape of (some (composed f ps)) = app f (terms_of of ps)

-- The term of row p, followed down through k rows: enough for the rows below k, since arguments are lower rows.
unfoldable pub term_to : Sheet → ℕ → ℕ → Term
term_to s zero p = var 0
term_to s (suc k) p = shape (term_to s k) (get_elem? s.rows p)

-- The term that a row stands for: its variable, or its word applied to the terms of its argument rows.
unfoldable pub term : Sheet → ℕ → Term
term s p = term_to s (suc p) p

-- What pins the terms of a sheet's rows.
pub record TermsRead (s : Sheet) : Type 0 where
  pub variables : (p x : ℕ) → At s p (variable x) → term s p ≡ var x
  pub words : (p f : ℕ) (xs : List ℕ) → At s p (composed f xs) → term s p ≡ app f (terms_of (term s) xs)

module _ {D : Type 0} (S : Operations D) (V : Words D) where
  -- At what degree σ suits some equations between rows: the meet over them of the likeness of both sides after substitution; top for none.
  abbrev pub suits_all : Sheet → (ℕ → Term) → List Equation → D
  suits_all s σ [] = S.top
  suits_all s σ (e ∷ es) = S.meet (alike S V (apply σ (term s e.left)) (apply σ (term s e.right))) (suits_all s σ es)

  -- At what degree σ suits the sheet's equations.
  abbrev pub suits : Sheet → (ℕ → Term) → D
  suits s σ = suits_all s σ s.equations

-- σ makes the two sides of every equation equal.
abbrev pub Unifies : Sheet → (ℕ → Term) → Type 0
Unifies s σ = (e : Equation) → Holds s e → apply σ (term s e.left) ≡ apply σ (term s e.right)
