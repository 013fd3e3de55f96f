use Rattle.std.specs.Prelude.{◌≡◌, ℕ, zero, suc, ◌<◌, List, length, slice_index}
use Rattle.std.proofs.Math.Option.{Option, none, some}
use Rattle.std.proofs.Math.ListN.{get_elem?}
use Rattle.fault.specs.Firsts.{Below}
use Rattle.scale.specs.Scales.{Operations}
use Rattle.vocabulary.specs.Words.{Words}
use Rattle.unification.specs.Closures.{Representative}
use Rattle.unification.specs.Sheets.{Row, variable, composed, Equation, Sheet, At, Holds, shape}
use Rattle.unification.specs.Terms.{Term, var}

-- What a table kept beside a sheet may hold: for each row the number of its class, its representative, its solved value.

-- A numbering of classes that is closed: equal on both sides of each equation, and on the arguments, place by place, of two
-- composed rows of one class with equally many arguments.
pub record IsClosed (s : Sheet) (class : ℕ → ℕ) : Type 0 where
  pub sides : (e : Equation) → Holds s e → class e.left ≡ class e.right
  pub args : (p q f g : ℕ) (xs ys : List ℕ) → class p ≡ class q → At s p (composed f xs) → At s q (composed g ys) → length xs ≡ length ys → Below (length xs) (λ i. class (slice_index xs i) ≡ class (slice_index ys i))

-- The same where each class has one list of arguments that those of its composed rows agree with.
pub record IsStar (s : Sheet) (class : ℕ → ℕ) (chief : ℕ → List ℕ) : Type 0 where
  pub sides : (e : Equation) → Holds s e → class e.left ≡ class e.right
  pub args : (p f : ℕ) (xs : List ℕ) → At s p (composed f xs) → Below (length xs) (λ i. class (slice_index xs i) ≡ class (slice_index (chief (class p)) i))

-- `of` gives each row its representative.
abbrev pub Represents : Sheet → (ℕ → ℕ) → Type 0
Represents s of = Below (length s.rows) (λ p. Representative s (of p) p)

-- `value` gives each row the shape of its representative, over the values of the representative's arguments.
pub record IsSolvedBy (s : Sheet) (of : ℕ → ℕ) (value : ℕ → Term) : Type 0 where
  pub represents : Represents s of
  pub solved : Below (length s.rows) (λ p. value p ≡ shape value (get_elem? s.rows (of p)))

-- σ gives each variable of the sheet its row's value, and a label without a row itself.
pub record IsSolutionBy (s : Sheet) (value σ : ℕ → Term) : Type 0 where
  pub labelled : (p x : ℕ) → At s p (variable x) → σ x ≡ value p
  pub other : (x : ℕ) → x < 100 → ((p : ℕ) → At s p (variable x) → ⊥) → σ x ≡ var x

module _ {D : Type 0} (S : Operations D) (V : Words D) where
  -- How much the words of two rows are alike; top where one is not composed.
  abbrev pub rows_alike : Option Row → Option Row → D
  rows_alike none q = S.top
  rows_alike (some (variable x)) q = S.top
  rows_alike (some (composed f xs)) none = S.top
  rows_alike (some (composed f xs)) (some (variable x)) = S.top
  rows_alike (some (composed f xs)) (some (composed g ys)) = V.likeness f g

  -- The meet over the first k rows of how much each is alike to its representative.
  abbrev pub gathered : Sheet → (ℕ → ℕ) → ℕ → D
  gathered s of zero = S.top
  gathered s of (suc k) = S.meet (rows_alike (get_elem? s.rows k) (get_elem? s.rows (of k))) (gathered s of k)
