-- The next entry begins where this one ends.
use Rattle.std.proofs.Common.{◌≡◌, ℕ, zero, suc, ◌+◌, ◌-◌, ◌≤◌, leb, List, length, None, sym, ap, ◌∙◌, suc-add, zero-add, add-one, arith}
use Rattle.std.proofs.lemmas.Bool.{cond-false, lt-leb}
use Rattle.layout.specs.Places.{entry_end, entry_start, spelling_in}

pub start_more : (B : List ℕ) (i : ℕ) → entry_start B (i + 1) ≡ entry_end B (entry_start B i)
start_more B i = ap (entry_start B) (add-one i)

-- A step of the walk over the entries: from where word i begins to where the next does.
pub walked : (B : List ℕ) (i at end : ℕ) → at ≡ entry_start B i → end ≡ entry_end B at → end ≡ entry_start B (i + 1)
walked B i at end here ends = ends ∙ ap (entry_end B) here ∙ sym (start_more B i)

-- Later entries begin later.
start_later : (B : List ℕ) (i k : ℕ) → entry_start B i ≤ entry_start B (k + i)
start_later B i zero = omega (arith, ap (entry_start B) (zero-add i))
start_later B i (suc k) = omega (arith, start_later B i k, ap (entry_start B) (suc-add k i))

-- Where the bytes end before the length of an entry is read, no later entry is there to its end.
pub cut_before : (B : List ℕ) (i k : ℕ) → k ≤ i → length B ≤ entry_start B k + 1 → None ≡ spelling_in B i
cut_before B i k le cut =
    let m : ((i - k) + k) ≡ i = omega arith in
    let later = start_later B k (i - k) in
    let same = ap (entry_start B) m in
    sym (cond-false (leb (entry_end B (entry_start B i)) (length B)) _ _ (lt-leb _ _ (omega arith)))
