-- What holds of the sheet of rows and equations, by other names for them.
use Rattle.std.proofs.Common.{◌≡◌, subst}
use denote.Bor.{Bor}
use Rattle.rows.specs.Stored.{Equations}
use Rattle.rows.specs.declared.rows.Rows.{Rows}
use Rattle.table.specs.Sheets.{sheet_of}
use Rattle.table.specs.declared.closing.Closing.{Closing}
use Rattle.unification.specs.Sheets.{Sheet}

-- The sheet that is being closed.
abbrev pub sheet_in : Closing → Sheet
sheet_in k = sheet_of k.classing.rows.now k.equations.now

pub sheet_moved : (k t : Closing) → k.classing.rows ≡ t.classing.rows → k.equations ≡ t.equations → (P : Sheet → Type 0) → P (sheet_in k) → P (sheet_in t)
sheet_moved k t i j P h =
    subst (λ (z : Bor Rows). P (sheet_of z.now t.equations.now)) i (subst (λ (z : Bor Equations). P (sheet_of k.classing.rows.now z.now)) j h)
