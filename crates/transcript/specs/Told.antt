use Rattle.std.specs.Prelude.{ℕ, Ok, Err}
use Rattle.script.specs.declared.answer.Answer as script
use Rattle.script.specs.declared.answer.Answer.TheVariants as line
use Rattle.sheet.specs.Faults.{sheet_refusal}
use Rattle.sheet.specs.declared.calls.Answer.TheVariants as call
use Rattle.sheet.specs.Runs.{Outcome}

-- What is answered to a line whose call had this outcome, where `number` gives each degree its code.
abbrev pub answer_of : {D : Type 0} → (D → ℕ) → Outcome D → script.Answer
answer_of number (Ok (call.Row p)) = line.Row p
answer_of number (Ok call.Done) = line.Done
answer_of number (Ok (call.Marked n m)) = line.Mark n m
answer_of number (Ok (call.Degree d)) = line.Degree (number d)
answer_of number (Err fault) = line.Refused (sheet_refusal fault)
