use Rattle.std.specs.Prelude.{ℕ}
use Rattle.fault.specs.Places.{at_words}
use Rattle.fault.specs.declared.fault.Fault.{Fault}
use Rattle.layout.specs.declared.causes.EntryFault.{EntryFault}
use Rattle.layout.specs.declared.causes.EntryFault.TheVariants.{Cut, Arity, Length as SpellingLength, Spelling, Repeated}
use Rattle.layout.specs.declared.causes.FormFault.{FormFault}
use Rattle.layout.specs.declared.causes.FormFault.TheVariants.{Short, Length, Version, Kind, Count, Entry, TableCut, LeftOver}

-- Number 1 is what is missing or left over, 2 the header, 3 the entry of word i.
abbrev pub entry_refusal : ℕ → EntryFault → Fault
entry_refusal i Cut = at_words 1 0 0 0
entry_refusal i Arity = at_words 3 i 0 0
entry_refusal i SpellingLength = at_words 3 i 0 0
entry_refusal i Spelling = at_words 3 i 0 0
entry_refusal i (Repeated j) = at_words 3 i 0 0

abbrev pub form_refusal : FormFault → Fault
form_refusal Short = at_words 1 0 0 0
form_refusal Length = at_words 1 0 0 0
form_refusal (Version v) = at_words 2 0 0 0
form_refusal (Kind k) = at_words 2 0 0 0
form_refusal (Count n) = at_words 2 0 0 0
form_refusal (Entry i fault) = entry_refusal i fault
form_refusal TableCut = at_words 1 0 0 0
form_refusal LeftOver = at_words 1 0 0 0
