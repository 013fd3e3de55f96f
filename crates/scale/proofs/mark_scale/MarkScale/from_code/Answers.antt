use Rattle.std.proofs.Common.{sym}
use Rattle.scale.specs.DegreesLemmas.{coded_above, coded_within}
use Rattle.scale.proofs.mark_scale.MarkScale.from_code.Goals as goal

pub returns-then-code-gt1000 : goal.returns-then-code-gt1000
returns-then-code-gt1000 c = sym (coded_above 1000 _ c.args.code c.if-code-gt1000.true)

pub returns : goal.returns
returns c = sym (coded_within 1000 _ c.args.code _)
