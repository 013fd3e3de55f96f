use Rattle.std.specs.Prelude.{◌≡◌, ℕ, List, [], ◌∷◌, Ok, Err, Option, Result}
use Rattle.reading.specs.Reads.{ReadGives}
use Rattle.reading.specs.declared.causes.ReadFault.{ReadFault}
use Rattle.scale.specs.Scales.{Operations}
use Rattle.sheet.specs.Arities.{arities_of}
use Rattle.sheet.specs.Calls.{VariableGives, ComposeGives, EquateGives, ResolveGives, equation, mark_of}
use Rattle.sheet.specs.declared.calls.Answer.{Answer}
use Rattle.sheet.specs.declared.calls.Answer.TheVariants as answer
use Rattle.sheet.specs.declared.calls.Call.{Call}
use Rattle.sheet.specs.declared.calls.Call.TheVariants as call
use Rattle.sheet.specs.declared.causes.ComposeFault.{ComposeFault}
use Rattle.sheet.specs.declared.causes.EquateFault.{EquateFault}
use Rattle.sheet.specs.declared.causes.NoRow.{NoRow}
use Rattle.sheet.specs.declared.causes.VariableFault.{VariableFault}
use Rattle.sheet.specs.declared.causes.SheetFault.{SheetFault}
use Rattle.sheet.specs.declared.causes.SheetFault.TheVariants as fault
use Rattle.table.specs.Calls.{BackGives}
use Rattle.table.specs.declared.causes.BackFault.{BackFault}
use Rattle.unification.specs.Closures.{IsDegree}
use Rattle.unification.specs.Sheets.{Sheet, fresh}
use Rattle.vocabulary.specs.Words.{Words}

-- What came of a call: its answer, or why it was refused.
abbrev pub Outcome : Type 0 → Type 0
Outcome D = Result (Answer D) SheetFault

abbrev pub outcome : {A F D : Type 0} → (A → Answer D) → (F → SheetFault) → Result A F → Outcome D
outcome answered refused (Ok x) = Ok (answered x)
outcome answered refused (Err f) = Err (refused f)

-- Over a vocabulary V, where `spellings` is what a lexicon says:
module _ {L D : Type 0} (spellings : L → ℕ → Option (List ℕ)) (S : Operations D) (V : Words D) where
  -- On the sheet s the call has this outcome, and leaves the sheet t.
  abbrev pub Step : Sheet → Call L → Outcome D → Sheet → Type 0
  Step s (call.Variable x) o t = (r : Result ℕ VariableFault) × VariableGives s x r t × (o ≡ outcome answer.Row fault.Variable r)
  Step s (call.Compose f xs) o t =
      (r : Result ℕ ComposeFault) × ComposeGives V s f xs.now r t × (o ≡ outcome answer.Row fault.Compose r)
  Step s (call.Read text lexicon) o t =
      (r : Result ℕ ReadFault)
      × ReadGives (spellings lexicon.now) (arities_of V) s text.now r t
      × (o ≡ outcome answer.Row fault.Read r)
  Step s (call.Equate p q) o t =
      (r : Result (Unit {0}) EquateFault) × EquateGives S V s (equation p q) r t × (o ≡ outcome (λ _. answer.Done) fault.Equate r)
  Step s (call.Back n m) o t = (r : Result (Unit {0}) BackFault) × BackGives s n m r t × (o ≡ outcome (λ _. answer.Done) fault.Back r)
  Step s call.Mark o t = (o ≡ Ok (answer.Marked (mark_of s).0 (mark_of s).1)) × (t ≡ s)
  Step s call.Degree o t = (d : D) × IsDegree S V s d × (o ≡ Ok (answer.Degree d)) × (t ≡ s)
  Step s (call.Resolve p) o t = (r : Result ℕ NoRow) × ResolveGives s p r × (o ≡ outcome answer.Row fault.Resolve r) × (t ≡ s)

  -- The calls, taken in order from the sheet s on, have these outcomes, one each, and leave the sheet t.
  pub data Run : Sheet → List (Call L) → List (Outcome D) → Sheet → Type 0 where
    done : {s : Sheet} → Run s [] [] s
    next : {s t u : Sheet} {c : Call L} {o : Outcome D} {cs : List (Call L)} {os : List (Outcome D)} → Step s c o t → Run t cs os u → Run s (c ∷ cs) (o ∷ os) u

  -- The calls on a fresh sheet have these outcomes and leave the sheet s, and nothing else could have come of them.
  pub record Replayed (cs : List (Call L)) (os : List (Outcome D)) (s : Sheet) : Type 0 where
    pub run : Run fresh cs os s
    pub only : (vs : List (Outcome D)) (u : Sheet) → Run fresh cs vs u → (vs ≡ os) × (u ≡ s)
