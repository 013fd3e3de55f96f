use Rattle.std.specs.Prelude.{◌≡◌, ℕ, ◌<◌, ◌≤◌, ◌⊎◌, List, length, Some, None, Ok, Err, Option, Result}
use Rattle.fault.specs.Firsts.{Below}
use Rattle.table.specs.Joining.{Uniform, Unlike}
use Rattle.rows.specs.Limits.{most_equations}
use Rattle.rows.specs.Stored.{at, depth_at}
use Rattle.table.specs.declared.causes.JoinFault.{JoinFault}
use Rattle.table.specs.declared.causes.JoinFault.TheVariants.{Missing, Full, Unequal}
use Rattle.rows.specs.declared.numbers.Numbers.{Numbers}
use Rattle.unification.specs.Closures.{Cycle, IsDepth}
use Rattle.unification.specs.Sheets.{Equation, Sheet, equated}
use Rattle.unification.specs.Tables.{Represents}

-- Both sides of the equation are rows.
abbrev pub Between : Sheet → Equation → Type 0
Between s e = (e.left < length s.rows) × (e.right < length s.rows)

-- The side at position i is no row, and is the first such.
abbrev pub MissingSide : Sheet → Equation → ℕ → Type 0
MissingSide s e i =
    ((i ≡ 0) × (length s.rows ≤ e.left)) ⊎ ((i ≡ 1) × (e.left < length s.rows) × (length s.rows ≤ e.right))

-- What joining the sides of one more equation e answers, on the sheet s: the representatives of the sheet with that equation, where each
-- composed row has as many arguments as its representative. A side that is no row is refused first, then an equation where there are as
-- many as there can be, then two composed rows in the closure with different numbers of arguments.
abbrev pub JoinAnswers : Sheet → Equation → Result Numbers JoinFault → Type 0
JoinAnswers s e (Ok c) =
    Between s e
    × (length s.equations < most_equations)
    × Represents (equated s e) (at c.of)
    × Uniform s.rows (length s.rows) c.of
JoinAnswers s e (Err (Missing i)) = MissingSide s e i
JoinAnswers s e (Err Full) = Between s e × (length s.equations ≡ most_equations)
JoinAnswers s e (Err (Unequal u)) = Between s e × (length s.equations < most_equations) × Unlike (equated s e) u.left u.right

-- Depths of the classes c that fall with each step from a row to one that it is above, and are at most the number of rows.
pub record Deep (s : Sheet) (c d : List ℕ) : Type 0 where
  pub falls : IsDepth s (depth_at c d)
  pub bound : Below (length s.rows) (λ p. depth_at c d p ≤ length s.rows)

-- What asking for the depths of a sheet with the classes c answers: depths, or nothing where there is a cycle.
abbrev pub DeepenAnswers : Sheet → List ℕ → Option Numbers → Type 0
DeepenAnswers s c (Some d) = Deep s c d.of
DeepenAnswers s c None = Cycle s
