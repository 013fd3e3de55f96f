use Rattle.std.specs.Prelude.{◌≡◌, ℕ, zero, suc, ◌+◌, ◌<◌, ◌≤◌, cond, List, length, ◌==◌, slice_index}
use Rattle.fault.specs.Firsts.{Below}
use Rattle.rows.specs.Stored.{args_at, at, depth_at}
use Rattle.unification.specs.Sheets.{Row}

-- How rows are given depths, one after the other. A depth of 0 is none yet.

-- The classes of all arguments of row p have a depth.
abbrev pub Ready : List Row → List ℕ → List ℕ → ℕ → Type 0
Ready rows c d p = Below (length (args_at rows p)) (λ k. 0 < depth_at c d (slice_index (args_at rows p) k))

-- How many of the first n rows have no depth.
unfoldable pub missing : List ℕ → ℕ → ℕ
missing d zero = 0
missing d (suc n) = cond (at d n == 0) 1 0 + missing d n

-- The depths given so far are below `next`, which is within the number of rows, and fall from each row to the classes of its arguments.
pub record Heights (rows : List Row) (n : ℕ) (c d : List ℕ) (next : ℕ) : Type 0 where
  pub positive : 1 ≤ next
  pub below : Below n (λ p. at d p < next)
  pub left : next + missing d n ≤ n + 1
  pub ready : Below n (λ p. 0 < at d p → Ready rows c d p)
  pub falls : Below n (λ p. 0 < at d p → Below (length (args_at rows p)) (λ k. depth_at c d (slice_index (args_at rows p) k) < at d p))

-- No row without a depth is ready for one.
abbrev pub Still : List Row → ℕ → List ℕ → List ℕ → Type 0
Still rows n c d = Below n (λ p. at d p ≡ 0 → Ready rows c d p → ⊥)

-- Each row has a depth, at most n, that falls from it to the classes of its arguments.
pub record Settled (rows : List Row) (n : ℕ) (c d : List ℕ) : Type 0 where
  pub bound : Below n (λ p. at d p ≤ n)
  pub falls : Below n (λ p. Below (length (args_at rows p)) (λ k. depth_at c d (slice_index (args_at rows p) k) < at d p))

-- Row p gets no depth.
pub record Stuck (rows : List Row) (n : ℕ) (c : List ℕ) (p : ℕ) : Type 0 where
  pub depths : List ℕ
  pub row : p < n
  pub none : at depths p ≡ 0
  pub still : Still rows n c depths
