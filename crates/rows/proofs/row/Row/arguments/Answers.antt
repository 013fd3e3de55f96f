use Rattle.std.proofs.Common.{ap, sym, ◌∙◌, take}
use mathlib.Core.Option.{some}
use Rattle.std.proofs.lemmas.List.{take_min}
use Rattle.rows.proofs.row.Row.arguments.Goals as goal
use Rattle.rows.specs.Stored.{args_of, row_of}
use Rattle.rows.specs.declared.row.Row.{Row}

pub returns-in-Composed : goal.returns-in-Composed
returns-in-Composed c =
    ap (λ n. take n c.in-Composed.slots) c.min-len.ensures
    ∙ take_min c.in-Composed.count c.in-Composed.slots
    ∙ sym (ap (λ (r : Row). args_of (some (row_of r))) c.in-Composed.is)
