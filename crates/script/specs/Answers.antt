use Rattle.std.specs.Prelude.{ℕ, List, ◌++◌, codes, decimal}
use Rattle.fault.specs.Lines.{fault_line}
use Rattle.script.specs.declared.answer.Answer.{Answer}
use Rattle.script.specs.declared.answer.Answer.TheVariants.{Row, Done, Mark, Degree, Refused, Unknown}

-- The line that answers a line.
abbrev pub answer_line : Answer → List ℕ
answer_line (Row n) = codes "row " ++ decimal n
answer_line Done = codes "ok"
answer_line (Mark rows equations) = codes "mark " ++ (decimal rows ++ (codes " " ++ decimal equations))
answer_line (Degree code) = codes "degree " ++ decimal code
answer_line (Refused fault) = fault_line fault
answer_line Unknown = codes "unknown line"
