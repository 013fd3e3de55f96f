use Rattle.std.specs.Prelude.{◌≡◌, ℕ, ◌<◌, ◌≤◌, ◌⊎◌, List, length, Ok, Err, Result, slice_index}
use Rattle.fault.specs.Firsts.{Below, First1}
use Rattle.rows.specs.Limits.{label_count, most_arguments, most_rows}
use Rattle.table.specs.declared.causes.BackFault.{BackFault}
use Rattle.table.specs.declared.causes.BackFault.TheVariants.{Rows, Equations, Dropped}
use Rattle.table.specs.declared.causes.RowFault.{RowFault}
use Rattle.table.specs.declared.causes.RowFault.TheVariants.{TooMany, Missing, Label, Full}
use Rattle.unification.specs.Putting.{Unlabelled}
use Rattle.unification.specs.Sheets.{Equation, Sheet, At, Holds, variable, composed, appended, kept}

-- A refusal changes nothing.
abbrev pub KeptOnErr : {A T E : Type 0} → Result T E → A → A → Type 0
KeptOnErr (Ok x) before after = Unit {0}
KeptOnErr (Err e) before after = after ≡ before

-- What asking the sheet s for the row of a label answers, and the sheet t that is left: the row that has it, else a new one.
-- A number that is no label is refused first, then a new row where there are as many as there can be.
abbrev pub VariableGives : Sheet → ℕ → Result ℕ RowFault → Sheet → Type 0
VariableGives s x (Ok p) t =
    (x < label_count)
    × ((At s p (variable x) × (t ≡ s)) ⊎ (Unlabelled s x × (length s.rows < most_rows) × (p ≡ length s.rows) × (t ≡ appended s (variable x))))
VariableGives s x (Err Label) t = (label_count ≤ x) × (t ≡ s)
VariableGives s x (Err Full) t = (x < label_count) × Unlabelled s x × (length s.rows ≡ most_rows) × (t ≡ s)
VariableGives s x (Err TooMany) t = ⊥
VariableGives s x (Err (Missing i)) t = ⊥

-- Each of the numbers is a row of the sheet.
abbrev pub AreRows : Sheet → List ℕ → Type 0
AreRows s xs = Below (length xs) (λ i. slice_index xs i < length s.rows)

-- What composing a row of a word and the rows xs answers, and the sheet t that is left: the new row. More arguments than a row can have are
-- refused first, then the first number that is no row, then a new row where there are as many as there can be.
abbrev pub ComposeGives : Sheet → ℕ → List ℕ → Result ℕ RowFault → Sheet → Type 0
ComposeGives s f xs (Ok p) t =
    (length xs ≤ most_arguments) × AreRows s xs × (length s.rows < most_rows) × (p ≡ length s.rows) × (t ≡ appended s (composed f xs))
ComposeGives s f xs (Err TooMany) t = (most_arguments < length xs) × (t ≡ s)
ComposeGives s f xs (Err (Missing i)) t = (length xs ≤ most_arguments) × First1 (length xs) (λ k. slice_index xs k < length s.rows) i × (t ≡ s)
ComposeGives s f xs (Err Full) t = (length xs ≤ most_arguments) × AreRows s xs × (length s.rows ≡ most_rows) × (t ≡ s)
ComposeGives s f xs (Err Label) t = ⊥

-- The first m equations are between the first r rows; or one of them is about another row.
abbrev pub KeptAmong : Sheet → ℕ → ℕ → Type 0
KeptAmong s r m = (e : Equation) → Holds (kept r m s) e → (e.left < r) × (e.right < r)

abbrev pub NamesDropped : Sheet → ℕ → ℕ → Type 0
NamesDropped s r m = (e : Equation) × Holds (kept r m s) e × ((r ≤ e.left) ⊎ (r ≤ e.right))

-- What going back to the first r rows and the first m equations answers, and the sheet t that is left. More rows than there are are refused
-- first, then more equations than there are, then an equation that would be kept and is about a row that would not.
abbrev pub BackGives : Sheet → ℕ → ℕ → Result (Unit {0}) BackFault → Sheet → Type 0
BackGives s r m (Ok x) t = (r ≤ length s.rows) × (m ≤ length s.equations) × KeptAmong s r m × (t ≡ kept r m s)
BackGives s r m (Err Rows) t = (length s.rows < r) × (t ≡ s)
BackGives s r m (Err Equations) t = (r ≤ length s.rows) × (length s.equations < m) × (t ≡ s)
BackGives s r m (Err Dropped) t = (r ≤ length s.rows) × (m ≤ length s.equations) × NamesDropped s r m × (t ≡ s)
