use Rattle.rows.specs.Stored.{Equations, equations_of, rows_of}
use Rattle.rows.specs.declared.rows.Rows.{Rows}
use Rattle.unification.specs.Sheets.{Sheet}

-- The sheet that rows and equations make.
abbrev pub sheet_of : Rows → Equations → Sheet
sheet_of rows equations = record { rows = rows_of rows.items; equations = equations_of equations }
