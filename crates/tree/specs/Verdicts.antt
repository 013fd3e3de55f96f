use Rattle.std.specs.Prelude.{◌≡◌, ℕ, ◌≤◌, true, List, length, is_some, Ok, Err, Result, ◌≢◌}
use Rattle.fault.specs.Firsts.{First1}
use Rattle.fault.specs.Places.{at_words}
use Rattle.fault.specs.declared.fault.Fault.{Fault}
use Rattle.lists.specs.Counts.{Counted}
use Rattle.scale.specs.Scales.{Operations}
use Rattle.tree.specs.Families.{Family, family, Even, Descends, Fit, IsTree}
use Rattle.tree.specs.declared.causes.Flaw.{Flaw}
use Rattle.tree.specs.declared.causes.Flaw.TheVariants.{Arity, Parent, Code}
use Rattle.tree.specs.declared.causes.TreeFault.{TreeFault}
use Rattle.tree.specs.declared.causes.TreeFault.TheVariants.{Lengths, Count, Word}

-- What is wrong with word i, the arity before the parent before the code.
abbrev pub Unfit : {D : Type 0} → Operations D → Family → ℕ → Flaw → Type 0
Unfit S F i Arity = F.arity i ≤ 6 → ⊥
Unfit S F i Parent = (F.arity i ≤ 6) × (Descends F i → ⊥)
Unfit S F i Code = (F.arity i ≤ 6) × Descends F i × (is_some (S.decoded (F.code i)) ≢ true)

-- Why three lists are no family tree: their lengths before the count, that before the words, and of these the lowest.
abbrev pub Refused : {D : Type 0} → Operations D → List ℕ → List ℕ → List ℕ → TreeFault → Type 0
Refused S arities parents codes Lengths = Even arities parents codes → ⊥
Refused S arities parents codes (Count n) = Even arities parents codes × (n ≡ length arities) × (Counted n → ⊥)
Refused S arities parents codes (Word i flaw) =
    Even arities parents codes × Counted (length arities)
    × First1 (length arities) (Fit S (family arities parents codes)) i
    × Unfit S (family arities parents codes) i flaw

-- The verdict on three lists.
abbrev pub Verdict : {D : Type 0} → Operations D → List ℕ → List ℕ → List ℕ → Result (Unit {0}) TreeFault → Type 0
Verdict S arities parents codes (Ok done) = IsTree S arities parents codes
Verdict S arities parents codes (Err fault) = Refused S arities parents codes fault

-- Every refusal of a family tree is layer 1, number 9, at the word, or at none where it is about the whole lists.
abbrev pub tree_refusal : TreeFault → Fault
tree_refusal Lengths = at_words 9 0 0 0
tree_refusal (Count n) = at_words 9 0 0 0
tree_refusal (Word i flaw) = at_words 9 i 0 0
