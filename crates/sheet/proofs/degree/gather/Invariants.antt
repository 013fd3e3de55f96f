use Rattle.std.proofs.Common.{◌≡◌}
use Rattle.sheet.proofs.degree.gather.Given as goal
use Rattle.table.specs.Sheets.{sheet_of}
use Rattle.rows.specs.Stored.{at}
use Rattle.unification.specs.Tables.{gathered}

abbrev pub invariant-loop-p : goal.invariant-loop-p
invariant-loop-p g l =
    l.degree ≡ gathered g.V.Degree.Scale.operations (g.V.Vocabulary.model l.vocabulary) (sheet_of l.table.rows l.table.equations) (at l.classes.of) l.p
