use Rattle.std.proofs.Common.{◌≡◌, ◌≤◌, take}
use Rattle.fault.specs.Firsts.{Below}
use Rattle.text.specs.Brackets.{often, Shallow}
use Rattle.text.proofs.source.Source.too_deep.Given as goal

abbrev pub invariant-loop-i : goal.invariant-loop-i
invariant-loop-i l = record {
  few_opened : l.opened ≤ l.i;
  few_closed : l.closed ≤ l.i;
  opened : l.opened ≡ often 40 (take l.i l.self.bytes.now);
  closed : l.closed ≡ often 41 (take l.i l.self.bytes.now);
  shallow : Below l.i (Shallow l.self.bytes.now);
}
