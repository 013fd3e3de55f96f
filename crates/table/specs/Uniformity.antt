use Rattle.std.specs.Prelude.{length}
use Rattle.rows.specs.Stored.{Equations}
use Rattle.rows.specs.declared.numbers.Numbers.{Numbers}
use Rattle.rows.specs.declared.rows.Rows.{Rows}
use Rattle.table.specs.Joining.{Uniform}
use Rattle.table.specs.Sheets.{sheet_of}

-- Each composed row has as many arguments as the row that numbers its class.
abbrev pub IsUniform : Rows → Equations → Numbers → Type 0
IsUniform rows equations classes = Uniform (sheet_of rows equations).rows (length (sheet_of rows equations).rows) classes.of
