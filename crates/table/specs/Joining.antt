use Rattle.std.specs.Prelude.{◌≡◌, ℕ, zero, suc, ◌+◌, ◌<◌, ◌≤◌, Bool, cond, List, map, length, ◌==◌, nat_le, slice_index}
use Rattle.std.proofs.Math.ListN.{get_elem?}
use Rattle.fault.specs.Firsts.{Below}
use Rattle.rows.specs.Labels.{renamed}
use Rattle.rows.specs.Stored.{args_at, at, rank}
use Rattle.unification.specs.Closures.{Closure, kind}
use Rattle.unification.specs.Sheets.{Row, Equation, Sheet, At, Holds, composed}

-- How classes are joined until they are closed. A class is numbered by one of its rows.

-- The numbers c put together no more than the closure does: each is a row of the class that it numbers, and of least rank there.
pub record Sound (s : Sheet) (n : ℕ) (c : List ℕ) : Type 0 where
  pub within : Below n (λ p. at c p < n)
  pub fixed : Below n (λ p. at c (at c p) ≡ at c p)
  pub first : Below n (λ p. rank s.rows (at c p) ≤ rank s.rows p)
  pub together : Below n (λ p. ∥ Closure s p (at c p) ∥₁)

-- Both sides of each equation have one number.
abbrev pub Sides : Sheet → List ℕ → Type 0
Sides s c = (e : Equation) → Holds s e → at c e.left ≡ at c e.right

-- The arguments of row p have the numbers of those of its class's row, place by place, where there are equally many.
abbrev pub Agrees : List Row → List ℕ → ℕ → Type 0
Agrees rows c p = length (args_at rows p) ≡ length (args_at rows (at c p)) → Below (length (args_at rows p)) (λ i. at c (slice_index (args_at rows p) i) ≡ at c (slice_index (args_at rows (at c p)) i))

-- x and y are arguments in one place, of a row and of its class's row with equally many, and have two numbers.
pub record Apart (rows : List Row) (n : ℕ) (c : List ℕ) (x y : ℕ) : Type 0 where
  pub row : ℕ
  pub place : ℕ
  pub row_in : row < n
  pub arities : length (args_at rows row) ≡ length (args_at rows (at c row))
  pub place_in : place < length (args_at rows row)
  pub left : x ≡ slice_index (args_at rows row) place
  pub right : y ≡ slice_index (args_at rows (at c row)) place
  pub apart : at c x ≡ at c y → ⊥

-- The numbers after the classes of rows a and b are joined, under the number of lesser rank.
abbrev pub keeps_left : List Row → List ℕ → ℕ → ℕ → Bool
keeps_left rows c a b = nat_le (rank rows (at c a)) (rank rows (at c b))

abbrev pub merged : List Row → List ℕ → ℕ → ℕ → List ℕ
merged rows c a b = cond (keeps_left rows c a b) (map (renamed (at c b) (at c a)) c) (map (renamed (at c a) (at c b)) c)

-- How many of the first n rows number a class.
unfoldable pub labels : List ℕ → ℕ → ℕ
labels c zero = 0
labels c (suc n) = cond (at c n == n) 1 0 + labels c n

-- A composed row has as many arguments as its class's row.
abbrev pub Uniform : List Row → ℕ → List ℕ → Type 0
Uniform rows n c = Below n (λ p. kind (get_elem? rows p) ≡ 0 → length (args_at rows p) ≡ length (args_at rows (at c p)))

-- Rows p and its class's row q are composed and have different numbers of arguments.
pub record Differ (rows : List Row) (n : ℕ) (c : List ℕ) (p q : ℕ) : Type 0 where
  pub row : p < n
  pub class : q ≡ at c p
  pub left : kind (get_elem? rows p) ≡ 0
  pub right : kind (get_elem? rows q) ≡ 0
  pub unequal : length (args_at rows p) ≡ length (args_at rows q) → ⊥

-- Two composed rows in the closure with different numbers of arguments.
pub record Unlike (s : Sheet) (p q : ℕ) : Type 0 where
  pub left : ℕ
  pub right : ℕ
  pub lefts : List ℕ
  pub rights : List ℕ
  pub together : Closure s p q
  pub first : At s p (composed left lefts)
  pub second : At s q (composed right rights)
  pub unequal : length lefts ≡ length rights → ⊥
