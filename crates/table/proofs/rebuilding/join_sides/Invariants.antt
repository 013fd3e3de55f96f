use Rattle.std.proofs.Common.{◌≡◌, length}
use Rattle.rows.specs.Stored.{rows_of}
use Rattle.table.proofs.Rebuilt.{SidesTo}
use Rattle.table.proofs.rebuilding.join_sides.Given as goal
use Rattle.table.specs.Joining.{Sound}
use Rattle.table.specs.Sheets.{sheet_of}

abbrev pub invariant-loop-e : goal.invariant-loop-e
invariant-loop-e l =
    record {
      rows : l.classing.rows.now ≡ l.rows;
      sound : Sound (sheet_of l.rows l.equations) (length (rows_of l.rows.items)) l.classing.classes.of;
      sides : SidesTo (sheet_of l.rows l.equations) l.e-index l.classing.classes.of;
    }
