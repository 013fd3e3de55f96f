use Rattle.std.proofs.Common.{rules}
use Rattle.rows.proofs.numbers.Numbers.own.Goals as goal

pub returns : goal.returns
returns c p h = let k = (c.from_fn.ensures.items.at p 0 h).2 in search rules
