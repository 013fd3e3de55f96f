use Rattle.std.specs.Prelude.{◌≡◌, ℕ, ◌<◌, List, length, Ok, Err, Result, slice_index}
use Rattle.fault.specs.Firsts.{First1}
use Rattle.fault.specs.Places.{at_words}
use Rattle.fault.specs.declared.fault.Fault.{Fault}
use Rattle.lists.specs.Counts.{Counted}
use Rattle.layers.specs.Dialects.{IsDialect}
use Rattle.layers.specs.declared.causes.DialectFault.{DialectFault}
use Rattle.layers.specs.declared.causes.DialectFault.TheVariants.{Count, Entry}

-- Why a list is no dialect over `count` words: how many entries it has, before the lowest entry that is no word below.
abbrev pub Refused : ℕ → List ℕ → DialectFault → Type 0
Refused count list (Count n) = (n ≡ length list) × (Counted n → ⊥)
Refused count list (Entry i) = Counted (length list) × First1 (length list) (λ k. slice_index list k < count) i

-- The verdict on a list of entries over `count` words.
abbrev pub Verdict : ℕ → List ℕ → Result (Unit {0}) DialectFault → Type 0
Verdict count list (Ok done) = IsDialect count list
Verdict count list (Err fault) = Refused count list fault

-- Every refusal of a dialect is layer 1, number 10, at the entry, or at none where it is about the whole list.
abbrev pub dialect_refusal : DialectFault → Fault
dialect_refusal (Count n) = at_words 10 0 0 0
dialect_refusal (Entry i) = at_words 10 i 0 0
