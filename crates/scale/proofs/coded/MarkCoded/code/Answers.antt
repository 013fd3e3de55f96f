use Rattle.std.proofs.Common.{refl}
use Rattle.scale.specs.DegreesLemmas.{mark_code}
use Rattle.scale.proofs.coded.MarkCoded.code.Goals as goal

pub returns : goal.returns
returns c = record { value = refl; laws = mark_code }
