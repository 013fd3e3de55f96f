use Rattle.std.specs.Prelude.{◌≡◌, ℕ, ◌<◌, ◌≤◌, ◌⊎◌, List, length, Ok, Err, Result, ◌≢◌, slice_index}
use Rattle.fault.specs.Firsts.{First1}
use Rattle.scale.specs.Scales.{Operations}
use Rattle.sheet.specs.declared.causes.ComposeFault.{ComposeFault}
use Rattle.sheet.specs.declared.causes.ComposeFault.TheVariants as composing
use Rattle.sheet.specs.declared.causes.EquateFault.{EquateFault}
use Rattle.sheet.specs.declared.causes.EquateFault.TheVariants as equating
use Rattle.sheet.specs.declared.causes.NoRow.{NoRow}
use Rattle.sheet.specs.declared.causes.VariableFault.{VariableFault}
use Rattle.sheet.specs.declared.causes.VariableFault.TheVariants as asking
use Rattle.table.specs.Calls.{AreRows}
use Rattle.table.specs.Equating.{Between, MissingSide}
use Rattle.unification.specs.Closures.{Clash, Cycle, Occurs, Representative}
use Rattle.unification.specs.Putting.{Unlabelled}
use Rattle.unification.specs.Sheets.{Sheet, Equation, At, variable, composed, appended, equated}
use Rattle.unification.specs.Solutions.{Possible}
use Rattle.vocabulary.specs.Words.{Words}

-- What each call on a sheet s answers, and the sheet t that it leaves. A refusal leaves s.

-- Asking for the label x answers its row, which is new where it had none, unless x is no label, or there are 512 rows.
abbrev pub VariableGives : Sheet → ℕ → Result ℕ VariableFault → Sheet → Type 0
VariableGives s x (Ok p) t =
    (x < 100)
    × ((At s p (variable x) × (t ≡ s)) ⊎ (Unlabelled s x × (length s.rows < 512) × (p ≡ length s.rows) × (t ≡ appended s (variable x))))
VariableGives s x (Err asking.Label) t = (100 ≤ x) × (t ≡ s)
VariableGives s x (Err asking.Full) t = (x < 100) × Unlabelled s x × (length s.rows ≡ 512) × (t ≡ s)

-- Composing a row of the word f and the rows xs adds a row, unless f is no word, takes another number of arguments, one of xs is no row
-- (the first is told by its position), or there are 512 rows.
abbrev pub ComposeGives : {D : Type 0} → Words D → Sheet → ℕ → List ℕ → Result ℕ ComposeFault → Sheet → Type 0
ComposeGives V s f xs (Ok p) t =
    (f < V.count)
    × (length xs ≡ V.arity f)
    × AreRows s xs
    × (length s.rows < 512)
    × (p ≡ length s.rows)
    × (t ≡ appended s (composed f xs))
ComposeGives V s f xs (Err composing.NoWord) t = (V.count ≤ f) × (t ≡ s)
ComposeGives V s f xs (Err composing.WrongArguments) t = (f < V.count) × (length xs ≢ V.arity f) × (t ≡ s)
ComposeGives V s f xs (Err (composing.NoRow i)) t =
    (f < V.count) × (length xs ≡ V.arity f) × First1 (length xs) (λ k. slice_index xs k < length s.rows) i × (t ≡ s)
ComposeGives V s f xs (Err composing.Full) t =
    (f < V.count) × (length xs ≡ V.arity f) × AreRows s xs × (length s.rows ≡ 512) × (t ≡ s)

-- The equation between the rows p and q.
abbrev pub equation : ℕ → ℕ → Equation
equation p q = record { left = p; right = q }

-- Equating puts an equation at the end, unless a side is no row, there are 128 equations, it makes a clash, or else a cycle.
abbrev pub EquateGives : {D : Type 0} → Operations D → Words D → Sheet → Equation → Result (Unit {0}) EquateFault → Sheet → Type 0
EquateGives S V s e (Ok done) t =
    Between s e × (length s.equations < 128) × (Clash S V s e → ⊥) × (Cycle (equated s e) → ⊥) × (t ≡ equated s e)
EquateGives S V s e (Err (equating.NoRow i)) t = MissingSide s e i × (t ≡ s)
EquateGives S V s e (Err equating.Full) t = Between s e × (length s.equations ≡ 128) × (t ≡ s)
EquateGives S V s e (Err equating.Clash) t = Between s e × (length s.equations < 128) × Clash S V s e × (t ≡ s)
EquateGives S V s e (Err equating.Occurs) t = Between s e × (length s.equations < 128) × Occurs S V s e × (t ≡ s)

-- An equation is refused exactly when no substitution suits those in force and the new one above bottom.
abbrev pub PossibleOrRefused : {D : Type 0} → Operations D → Words D → Sheet → Equation → Result (Unit {0}) EquateFault → Type 0
PossibleOrRefused S V s e (Ok done) = Possible S V (equated s e)
PossibleOrRefused S V s e (Err fault) = Possible S V (equated s e) → ⊥

-- Resolving answers the representative of row p, unless there is no such row.
abbrev pub ResolveGives : Sheet → ℕ → Result ℕ NoRow → Type 0
ResolveGives s p (Ok q) = (p < length s.rows) × Representative s q p
ResolveGives s p (Err fault) = length s.rows ≤ p

-- The mark of a sheet: how many rows and how many equations there are.
abbrev pub mark_of : Sheet → ℕ × ℕ
mark_of s = (length s.rows, length s.equations)
