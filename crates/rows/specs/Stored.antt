use Rattle.std.specs.Prelude.{◌≡◌, ℕ, ◌+◌, ◌*◌, ◌<◌, ◌≤◌, ◌⊎◌, List, [], map, length, take, Some, None, slice_index, slice_index_or}
use Rattle.std.proofs.Math.Option.{Option, none, some}
use Rattle.std.proofs.Math.ListN.{get_elem?}
use Rattle.std.specs.declared.option.Option as answer
use Rattle.lists.specs.Entries.{entries}
use Rattle.lists.specs.declared.list.List as fixed
use Rattle.rows.specs.Limits.{most_arguments, most_equations, most_rows}
use Rattle.rows.specs.declared.equations.Equation.{Equation}
use Rattle.rows.specs.declared.row.Row.{Row}
use Rattle.rows.specs.declared.row.Row.TheVariants.{Variable, Composed}
use Rattle.unification.specs.Closures.{kind}
use Rattle.unification.specs.Sheets as theory
use Rattle.unification.specs.Sheets.{variable, composed}

-- How rows and equations are stored.

-- How many arguments a stored row has, and the slots of which the first so many hold them.
abbrev pub count_of : Row → ℕ
count_of (Variable x) = 0
count_of (Composed f k xs) = k

abbrev pub slots_of : Row → List ℕ
slots_of (Variable x) = []
slots_of (Composed f k xs) = xs

-- The arguments are in the slots, and no more than a row can have.
abbrev pub InSlots : Row → Type 0
InSlots r = (count_of r ≤ most_arguments) × (count_of r ≤ length (slots_of r))

-- This holds of each row.
abbrev pub Slots : List Row → Type 0
Slots rows = (p : ℕ) → p < length rows → InSlots (slice_index_or rows p (Variable 0))

-- The row that is stored so.
abbrev pub row_of : Row → theory.Row
row_of (Variable x) = variable x
row_of (Composed f k xs) = composed f (take k xs)

-- The rows of a list.
abbrev pub rows_of : {n : ℕ} → fixed.List Row n → List theory.Row
rows_of items = map row_of (entries items)

-- The equation that is stored so.
abbrev pub equation_of : Equation → theory.Equation
equation_of e = record { left = e.left; right = e.right }

-- Equations in fixed memory.
abbrev pub Equations : Type 0
Equations = fixed.List Equation most_equations

-- The equations of a list.
abbrev pub equations_of : {n : ℕ} → fixed.List Equation n → List theory.Equation
equations_of items = map equation_of (entries items)

-- The equation at position i is between numbers below n; or it is not.
abbrev pub Inside : List theory.Equation → ℕ → ℕ → Type 0
Inside equations n i = (e : theory.Equation) → get_elem? equations i ≡ some e → (e.left < n) × (e.right < n)

abbrev pub Outside : List theory.Equation → ℕ → ℕ → Type 0
Outside equations n i = (e : theory.Equation) × (get_elem? equations i ≡ some e) × ((n ≤ e.left) ⊎ (n ≤ e.right))

-- The arguments of a row: none of a variable, or where there is no row.
abbrev pub args_of : Option theory.Row → List ℕ
args_of none = []
args_of (some (variable x)) = []
args_of (some (composed f xs)) = xs

-- The arguments of the row at a place.
abbrev pub args_at : List theory.Row → ℕ → List ℕ
args_at rows p = args_of (get_elem? rows p)

-- The word of a row: none of a variable, or where there is no row.
abbrev pub word_of : Option theory.Row → answer.Option ℕ
word_of none = None
word_of (some (variable x)) = None
word_of (some (composed f xs)) = Some f

-- The words of two rows, where both have one.
abbrev pub pair_of : Option theory.Row → Option theory.Row → answer.Option (ℕ × ℕ)
pair_of none q = None
pair_of (some (variable x)) q = None
pair_of (some (composed f xs)) none = None
pair_of (some (composed f xs)) (some (variable x)) = None
pair_of (some (composed f xs)) (some (composed g ys)) = Some (f, g)

-- Each argument of a row is a lower row.
abbrev pub Lower : List theory.Row → Type 0
Lower rows = (p i : ℕ) → i < length (args_at rows p) → slice_index (args_at rows p) i < p

-- Composed rows rank before variables, and then lower rows before higher ones.
abbrev pub rank : List theory.Row → ℕ → ℕ
rank rows p = kind (get_elem? rows p) * most_rows + p

-- The number that a list has for a row.
abbrev pub at : List ℕ → ℕ → ℕ
at xs p = slice_index xs p

-- The depth of a row: the number kept for its class.
abbrev pub depth_at : List ℕ → List ℕ → ℕ → ℕ
depth_at classes depths p = at depths (at classes p)
