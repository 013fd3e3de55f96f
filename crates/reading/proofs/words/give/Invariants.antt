use Rattle.std.proofs.Common.{ℕ, List, length}
use Rattle.table.specs.Sheets.{sheet_of}
use Rattle.table.specs.Uniformity.{IsUniform}
use Rattle.text.specs.Items.{Entry}
use Rattle.unification.specs.Sheets.{Sheet}
use Rattle.unification.specs.Terms.{Term}
use Rattle.reading.specs.Stacks.{innermost}
use Rattle.reading.specs.Steps.{Made}
use Rattle.reading.proofs.words.give.Given as goal

-- what is put is put still, and a row is to be given; composed rows have as many arguments as their representatives still
abbrev pub invariant-loop-word : goal.invariant-loop-word
invariant-loop-word l = record {
  made : (arities : List ℕ) (start : Sheet) (t : Term) (es : List Entry) →
      Made arities start t (innermost l.initial.opened) l.row (sheet_of l.initial.table.rows l.initial.table.equations) es →
      Made arities start t (innermost l.opened) l.made (sheet_of l.table.rows l.table.equations) es;
  uniform : IsUniform l.initial.table.rows l.initial.table.equations l.initial.table.classes → IsUniform l.table.rows l.table.equations l.table.classes;
}

abbrev pub decreases-loop-word : goal.decreases-loop-word
decreases-loop-word l = length (innermost l.opened)
