use Rattle.std.proofs.Common.{◌-◌, ◌≤◌, length}
use Rattle.table.specs.Sheets.{sheet_of}
use Rattle.table.specs.Uniformity.{IsUniform}
use Rattle.text.specs.Verdicts.{Accepted}
use Rattle.reading.specs.Stacks.{innermost}
use Rattle.reading.proofs.Progress.{Progress}
use Rattle.reading.proofs.read.read_rows.Given as goal

-- the items that are left are those of what is still to be put
abbrev pub invariant-loop-next : goal.invariant-loop-next
invariant-loop-next g l = record {
  within : l.at ≤ length l.source.bytes.now;
  progress : (a : Accepted (g.L.Lexicon.spellings l.lexicon) l.arities l.source.bytes.now) →
      Progress (g.L.Lexicon.spellings l.lexicon) l.arities l.source.bytes.now (sheet_of l.initial.table.rows l.initial.table.equations) a.term l.at (innermost l.opened) (sheet_of l.table.rows l.table.equations);
  uniform : IsUniform l.initial.table.rows l.initial.table.equations l.initial.table.classes → IsUniform l.table.rows l.table.equations l.table.classes;
}

abbrev pub decreases-loop-next : goal.decreases-loop-next
decreases-loop-next g l = length l.source.bytes.now - l.at
