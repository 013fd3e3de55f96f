use Rattle.std.proofs.lemmas.List.{get_or-replicate}
use Rattle.rows.proofs.numbers.Numbers.zeros.Goals as goal
use Rattle.rows.specs.Limits.{most_rows}

pub returns : goal.returns
returns c p h = get_or-replicate most_rows p 0 0 h
