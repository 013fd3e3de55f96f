use Rattle.std.proofs.Common.{sym}
use Rattle.scale.specs.DegreesLemmas.{coded_within}
use Rattle.scale.proofs.lines_scale.LinesScale.from_code.Goals as goal

pub returns : goal.returns
returns c = sym (coded_within 65535 _ c.args.code _)
