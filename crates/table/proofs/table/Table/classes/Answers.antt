use Rattle.table.proofs.Hands.{coherent_at_hand, represents_at_hand}
use Rattle.table.proofs.table.Table.classes.Goals as goal

pub returns-clause-represents : goal.returns-clause-represents
returns-clause-represents c = let t = c.args.self.now in represents_at_hand (coherent_at_hand t.coherent) t.represents
