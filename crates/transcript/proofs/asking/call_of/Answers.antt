use Rattle.std.proofs.Common.{refl}
use Rattle.transcript.proofs.asking.call_of.Goals as goal

pub returns-in-Read : goal.returns-in-Read
returns-in-Read g c = rw (c.in-Some.is, c.in-Read.is) (c.in-Read.text, c.args.book, refl, refl, refl)
