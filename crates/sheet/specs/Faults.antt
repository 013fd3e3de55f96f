use Rattle.std.specs.Prelude.{ℕ}
use Rattle.fault.specs.declared.fault.Fault.{Fault}
use Rattle.fault.specs.declared.layer.Layer.TheVariants as layer
use Rattle.reading.specs.Faults.{read_refusal}
use Rattle.sheet.specs.declared.causes.ComposeFault.{ComposeFault}
use Rattle.sheet.specs.declared.causes.ComposeFault.TheVariants as composing
use Rattle.sheet.specs.declared.causes.EquateFault.{EquateFault}
use Rattle.sheet.specs.declared.causes.EquateFault.TheVariants as equating
use Rattle.sheet.specs.declared.causes.SheetFault.{SheetFault}
use Rattle.sheet.specs.declared.causes.SheetFault.TheVariants as sheet
use Rattle.table.specs.declared.causes.JoinFault.{JoinFault}
use Rattle.table.specs.declared.causes.JoinFault.TheVariants as joining
use Rattle.table.specs.declared.causes.RowFault.{RowFault}
use Rattle.table.specs.declared.causes.RowFault.TheVariants as row
use Rattle.sheet.specs.declared.causes.VariableFault.{VariableFault}
use Rattle.sheet.specs.declared.causes.VariableFault.TheVariants as variable

-- Why two rows are not equated whose classes are not joined: words with different numbers of arguments are not alike at all.
abbrev pub join_refusal : JoinFault → EquateFault
join_refusal (joining.Missing i) = equating.NoRow i
join_refusal joining.Full = equating.Full
join_refusal (joining.Unequal u) = equating.Clash

-- Why there is no row of a label. A table that is asked for a label refuses it, or has no room: the other two do not come up.
abbrev pub label_refusal : RowFault → VariableFault
label_refusal row.TooMany = variable.Full
label_refusal (row.Missing i) = variable.Full
label_refusal row.Label = variable.Label
label_refusal row.Full = variable.Full

-- Why a row is not composed that the table does not take: no word takes more arguments than a row has slots. That a label is refused does
-- not come up.
abbrev pub row_refusal : RowFault → ComposeFault
row_refusal row.TooMany = composing.WrongArguments
row_refusal (row.Missing i) = composing.NoRow i
row_refusal row.Label = composing.Full
row_refusal row.Full = composing.Full

-- A refusal of a call on a sheet, by its number and place.
abbrev pub on_sheet : ℕ → ℕ → Fault
on_sheet number place = record { layer = layer.Sheet; number = number; place = place }

-- What each refusal of a call is told as. A text is told as one that is read alone.
abbrev pub variable_refusal : VariableFault → Fault
variable_refusal variable.Label = on_sheet 19 0
variable_refusal variable.Full = on_sheet 24 0

abbrev pub compose_refusal : ComposeFault → Fault
compose_refusal composing.NoWord = on_sheet 16 0
compose_refusal composing.WrongArguments = on_sheet 17 0
compose_refusal (composing.NoRow i) = on_sheet 18 i
compose_refusal composing.Full = on_sheet 24 0

abbrev pub equate_refusal : EquateFault → Fault
equate_refusal (equating.NoRow i) = on_sheet 18 i
equate_refusal equating.Full = on_sheet 25 0
equate_refusal equating.Clash = on_sheet 22 0
equate_refusal equating.Occurs = on_sheet 23 0

abbrev pub sheet_refusal : SheetFault → Fault
sheet_refusal (sheet.Variable fault) = variable_refusal fault
sheet_refusal (sheet.Compose fault) = compose_refusal fault
sheet_refusal (sheet.Read fault) = read_refusal layer.Sentence fault
sheet_refusal (sheet.Equate fault) = equate_refusal fault
sheet_refusal (sheet.Back fault) = on_sheet 20 0
sheet_refusal (sheet.Resolve fault) = on_sheet 18 0
