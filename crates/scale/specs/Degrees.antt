use Rattle.std.proofs.Common.{⊎_elim, arith, le_trans}
use Rattle.std.specs.Prelude.{ℕ, ◌≤◌, min, Some, None, Option, ◌==◌, bit_and}
use Rattle.std.proofs.Math.Nat.{min-le_left}
use Rattle.std.proofs.lemmas.Nat.{and_le_l}
use Rattle.std.proofs.lemmas.Bool.{cases_lt}
use Rattle.scale.specs.Scales.{Operations}
use Rattle.scale.specs.declared.lines.Lines.{Lines}
use Rattle.scale.specs.declared.mark.Mark.{Mark}

-- Where the codes are the numbers up to k: the degree made of n, where n is one of them.
unfoldable pub coded_up_to : {D : Type 0} (k : ℕ) → ((n : ℕ) → n ≤ k → D) → ℕ → Option D
coded_up_to k make n = ⊎_elim (λ above. None) (λ within. Some (make n within)) (cases_lt k n)

-- The mark that a number is, where it is at most 1,000.
abbrev pub mark_of : ℕ → Option Mark
mark_of = coded_up_to 1000 (λ n within. record { value = n; ok = within })

-- The set of lines that a number is, where it has at most 16 bits.
abbrev pub lines_of : ℕ → Option Lines
lines_of = coded_up_to 65535 (λ n within. record { set = n; ok = within })

-- Marks: 1,000 and 0, and the smaller of two; a mark is its own code.
abbrev pub mark_operations : Operations Mark
mark_operations =
    record {
      top = record { value = 1000; ok = omega arith };
      bottom = record { value = 0; ok = omega arith };
      meet = λ a b. record { value = min a.value b.value; ok = le_trans (min-le_left a.value b.value) a.ok };
      same = λ a b. (a.value == b.value);
      decoded = mark_of;
    }

-- Sets of lines: all sixteen and none, and the common part of two; a set is its own code.
abbrev pub line_operations : Operations Lines
line_operations =
    record {
      top = record { set = 65535; ok = omega arith };
      bottom = record { set = 0; ok = omega arith };
      meet = λ a b. record { set = bit_and a.set b.set; ok = le_trans (and_le_l a.set b.set) a.ok };
      same = λ a b. (a.set == b.set);
      decoded = lines_of;
    }
