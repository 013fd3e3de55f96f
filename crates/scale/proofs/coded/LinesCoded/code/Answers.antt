use Rattle.std.proofs.Common.{refl}
use Rattle.scale.specs.DegreesLemmas.{lines_code}
use Rattle.scale.proofs.coded.LinesCoded.code.Goals as goal

pub returns : goal.returns
returns c = record { value = refl; laws = lines_code }
