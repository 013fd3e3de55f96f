use Rattle.std.specs.Prelude.{◌≡◌, ℕ, ◌≤◌, List, length, Ok, Err, Option, Result, slice_index}
use Rattle.fault.specs.Firsts.{Below}
use Rattle.rows.specs.Limits.{most_arguments, most_rows}
use Rattle.text.specs.Verdicts.{Accepted, Refused}
use Rattle.unification.specs.Putting.{Put}
use Rattle.unification.specs.Sheets.{Sheet}
use Rattle.unification.specs.Terms.{Term}
use Rattle.reading.specs.Steps.{Overfull}
use Rattle.reading.specs.declared.causes.ReadFault.{ReadFault}
use Rattle.reading.specs.declared.causes.NoRoom.{NoRoom}
use Rattle.reading.specs.declared.causes.ReadFault.TheVariants.{Text, Full}

-- No word takes more arguments than a row has.
abbrev pub FewEach : List ℕ → Type 0
FewEach arities = Below (length arities) (λ w. slice_index arities w ≤ most_arguments)

-- What putting the term t onto the sheet s answers, and the sheet u that is left where there is room.
abbrev pub RowsGive : Sheet → Term → Result ℕ NoRoom → Sheet → Type 0
RowsGive s t (Ok p) u = Put s t p u
RowsGive s t (Err e) u = Overfull s t

module _ (spellings : ℕ → Option (List ℕ)) (arities : List ℕ) where
  -- What reading the text onto the sheet s answers, and the sheet u that is left: the row of the term that the text is read as, which was
  -- put onto s. A text that is none is refused first, then one whose term would make more rows than there can be; both leave the sheet as it was.
  abbrev pub ReadGives : Sheet → List ℕ → Result ℕ ReadFault → Sheet → Type 0
  ReadGives s text (Ok p) u = (a : Accepted spellings arities text) × Put s a.term p u × (length u.rows ≤ most_rows)
  ReadGives s text (Err (Text f)) u = Refused spellings arities text f × (u ≡ s)
  ReadGives s text (Err Full) u = (a : Accepted spellings arities text) × Overfull s a.term × (u ≡ s)
