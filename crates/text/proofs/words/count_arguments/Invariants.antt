use Rattle.std.proofs.Common.{◌≡◌, ◌+◌, ◌≤◌, drop}
use Rattle.text.proofs.Tally.{tally}
use Rattle.text.proofs.words.count_arguments.Given as goal

-- what is counted, and what will be, is what is counted of all
abbrev pub invariant-loop-byte : goal.invariant-loop-byte
invariant-loop-byte l = record {
  few : l.arguments ≤ l.byte-index + 1;
  inside : l.open ≤ l.byte-index;
  counts : tally l.open l.arguments (drop l.byte-index l.inside) ≡ tally 0 1 l.inside;
}
