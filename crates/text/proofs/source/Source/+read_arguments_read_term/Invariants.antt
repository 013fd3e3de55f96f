use Rattle.std.proofs.Common.{◌-◌, length}
use Rattle.text.proofs.Reading.{SoFar}
use Rattle.text.proofs.source.Source.+read_arguments_read_term.Given as goal

-- what is unread
abbrev pub decreases-read_arguments : goal.decreases-read_arguments
decreases-read_arguments l = length l.self.now.bytes.now - l.at

abbrev pub decreases-read_term : goal.decreases-read_term
decreases-read_term l = length l.self.now.bytes.now - l.at

abbrev pub invariant-read_arguments-loop-end : goal.invariant-read_arguments-loop-end
invariant-read_arguments-loop-end l = SoFar l.self.bytes.now l.at l.mark

abbrev pub decreases-read_arguments-loop-end : goal.decreases-read_arguments-loop-end
decreases-read_arguments-loop-end l = length l.self.bytes.now - l.mark
