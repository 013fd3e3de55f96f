use Rattle.std.proofs.Common.{◌-◌, ◌≤◌, List, length, drop}
use Rattle.text.specs.Items.{ItemsLeft, Standing}
use Rattle.text.proofs.source.Source.next_item.Given as goal

-- the items that were left are left still
abbrev pub invariant-loop-token : goal.invariant-loop-token
invariant-loop-token g l = record {
  past : l.from ≤ l.at;
  within : l.at ≤ length l.self.bytes.now;
  left : (ss : List Standing) → ItemsLeft (g.L.Lexicon.spellings l.lexicon) (drop l.from l.self.bytes.now) l.from ss → ItemsLeft (g.L.Lexicon.spellings l.lexicon) (drop l.at l.self.bytes.now) l.at ss;
}

abbrev pub decreases-loop-token : goal.decreases-loop-token
decreases-loop-token g l = length l.self.bytes.now - l.at
