use Rattle.std.proofs.Common.{rules}
use Rattle.script.proofs.Splits.{solid_within}
use Rattle.script.proofs.field.first_blank.Goals as goal

pub returns-clause-solid : goal.returns-clause-solid
returns-clause-solid c = solid_within c.args.bytes.now c.unwrap_or.result (search rules)
