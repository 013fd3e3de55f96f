use Rattle.std.specs.Prelude.{◌≡◌, ℕ, ◌<◌, ◌≤◌, List, length, slice_index}
use Rattle.std.proofs.Math.Option.{Option, none, some}
use Rattle.std.proofs.Math.ListN.{get_elem?}
use Rattle.scale.specs.Scales.{Operations, AtMost}
use Rattle.vocabulary.specs.Words.{Words}
use Rattle.unification.specs.Sheets.{Row, variable, composed, Equation, Sheet, At, Holds, equated}

-- The unification closure: the rows that the equations put together. It is the smallest equivalence that holds for both sides of each
-- equation and passes from two composed rows with equally many arguments to their arguments, place by place.
-- The words of the two composed rows are of no account here: how much they are alike is the degree's part.
pub data Closure (s : Sheet) : ℕ → ℕ → Type 0 where
  stated : (e : Equation) → Holds s e → Closure s e.left e.right
  same : (p : ℕ) → Closure s p p
  turned : {p q : ℕ} → Closure s p q → Closure s q p
  joined : {p q r : ℕ} → Closure s p q → Closure s q r → Closure s p r
  passed : {p q : ℕ} (f g : ℕ) (xs ys : List ℕ) (i : ℕ) → Closure s p q → At s p (composed f xs) → At s q (composed g ys) → length xs ≡ length ys → i < length xs → Closure s (slice_index xs i) (slice_index ys i)

-- Row p is above q: a composed row in the closure with p has an argument in the closure with q.
pub record Above (s : Sheet) (p q : ℕ) : Type 0 where
  pub row : ℕ
  pub word : ℕ
  pub args : List ℕ
  pub place : ℕ
  pub together : Closure s p row
  pub is : At s row (composed word args)
  pub in_args : place < length args
  pub below : Closure s (slice_index args place) q

-- Row p is above q through one or more steps.
pub data Descent (s : Sheet) : ℕ → ℕ → Type 0 where
  step : {p q : ℕ} → Above s p q → Descent s p q
  more : {p q r : ℕ} → Above s p q → Descent s q r → Descent s p r

-- A cycle: a row above itself through one or more steps. No finite term can stand for such a row.
abbrev pub Cycle : Sheet → Type 0
Cycle s = (p : ℕ) × Descent s p p

-- A depth of each row that falls with every step from a row to one that it is above.
abbrev pub IsDepth : Sheet → (ℕ → ℕ) → Type 0
IsDepth s depth = (p q : ℕ) → Above s p q → depth q < depth p

-- Composed rows come before variable rows.
abbrev pub kind : Option Row → ℕ
kind (some (composed f xs)) = 0
kind (some (variable x)) = 1
kind none = 2

-- q is the representative of row p: of the rows in the closure with p the lowest composed one, else the lowest variable.
pub record Representative (s : Sheet) (q p : ℕ) : Type 0 where
  pub together : Closure s p q
  pub kindest : (r : ℕ) → Closure s p r → kind (get_elem? s.rows q) ≤ kind (get_elem? s.rows r)
  pub lowest : (r : ℕ) → Closure s p r → kind (get_elem? s.rows q) ≡ kind (get_elem? s.rows r) → q ≤ r

module _ {D : Type 0} (S : Operations D) (V : Words D) where
  -- The words of every two composed rows in the closure are alike at d or more.
  abbrev pub Bound : Sheet → D → Type 0
  Bound s d = (p q f g : ℕ) (xs ys : List ℕ) → Closure s p q → At s p (composed f xs) → At s q (composed g ys) → AtMost S d (V.likeness f g)

  -- d is the sheet's degree: the meet of the likenesses of the words of every two composed rows in the closure, top for none.
  -- A meet of many is the greatest degree that is at most each of them.
  pub record IsDegree (s : Sheet) (d : D) : Type 0 where
    pub bound : Bound s d
    pub greatest : (c : D) → Bound s c → AtMost S c d

  -- A clash: with the new equation the sheet's degree would be bottom.
  abbrev pub Clash : Sheet → Equation → Type 0
  Clash s e = IsDegree (equated s e) S.bottom

  -- Occurs: no clash, but with the new equation there would be a cycle.
  abbrev pub Occurs : Sheet → Equation → Type 0
  Occurs s e = (Clash s e → ⊥) × Cycle (equated s e)
