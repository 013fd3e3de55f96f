use Rattle.std.specs.Prelude.{◌≡◌, ℕ, List, Result}
use Rattle.table.specs.Calls.{BackGives, ComposeGives, VariableGives}
use Rattle.table.specs.declared.causes.BackFault.{BackFault}
use Rattle.table.specs.declared.causes.RowFault.{RowFault}
use Rattle.unification.specs.Sheets.{Sheet, IsCoherent}

-- What a call answers, and the sheet that it leaves, is settled by the sheet and what is asked.
pub record CallsSettled : Type 0 where
  pub variable : (s : Sheet) → IsCoherent s → (x : ℕ) (r q : Result ℕ RowFault) (t u : Sheet) → VariableGives s x r t → VariableGives s x q u → (r ≡ q) × (t ≡ u)
  pub compose : (s : Sheet) (f : ℕ) (xs : List ℕ) (r q : Result ℕ RowFault) (t u : Sheet) → ComposeGives s f xs r t → ComposeGives s f xs q u → (r ≡ q) × (t ≡ u)
  pub back : (s : Sheet) (n m : ℕ) (r q : Result (Unit {0}) BackFault) (t u : Sheet) → BackGives s n m r t → BackGives s n m q u → (r ≡ q) × (t ≡ u)
