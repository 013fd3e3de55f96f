use Rattle.std.proofs.Common.{rules}
use Rattle.book.specs.Likeness.{likeness_of}
use Rattle.book.proofs.degrees.likeness.Goals as goal

pub returns : goal.returns
unfolding likeness_of
returns g c = search rules
