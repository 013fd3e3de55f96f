-- Marks and sets of lines keep the laws of a scale.
use Rattle.std.specs.Prelude.{◌≡◌, ℕ, zero, suc, ◌/◌, ◌%◌, ◌^◌, ◌<◌, min, bit_and}
use Rattle.std.proofs.Common.{ap, ◌∙◌, mod-eq_of_lt, pow-suc, arith}
use Rattle.std.proofs.Math.Nat.{min_comm, min-eq_left, min-eq_right, zero-min}
use Rattle.std.proofs.lemmas.Nat.{and_comm, and_mask}
use Rattle.std.specs.Int.Bits.{and_self, and_zero_l, and_step}
use Rattle.std.proofs.lemmas.Bool.{eq-eqb, eqb-true}
use Rattle.scale.specs.Degrees.{mark_operations, line_operations}
use Rattle.scale.specs.Scales.{IsScale}
use Rattle.scale.specs.declared.lines.Lines.{Lines}
use Rattle.scale.specs.declared.mark.Mark.{Mark}
use Rattle.scale.specs.DegreesLemmas.{same_mark, same_lines}

min_assoc : (a b c : ℕ) → min (min a b) c ≡ min a (min b c)
min_assoc a b c = omega arith

halves : (a b : ℕ) → (bit_and a b / 2 ≡ bit_and (a / 2) (b / 2)) × (bit_and a b % 2 ≡ min (a % 2) (b % 2))
halves a b = let s = and_step a b in (omega arith, omega arith)

-- By halving: k is enough bits for the first number.
and_assoc : (k a b c : ℕ) → a < 2 ^ k → bit_and (bit_and a b) c ≡ bit_and a (bit_and b c)
and_assoc zero a b c h =
    let z : a ≡ 0 = omega arith in
    let p = and_zero_l b in let q = and_zero_l c in let r = and_zero_l (bit_and b c) in cc
and_assoc (suc k) a b c h =
    let p = and_step (bit_and a b) c in
    let q = halves a b in
    let r = and_step a (bit_and b c) in
    let s = halves b c in
    let t = and_assoc k (a / 2) (b / 2) (c / 2) (omega (arith, pow-suc 2 k)) in
    let m = min_assoc (a % 2) (b % 2) (c % 2) in
    cc

pub mark_laws : IsScale mark_operations
mark_laws =
    record {
      comm = λ a b. same_mark _ _ (min_comm a.value b.value);
      assoc = λ a b c. same_mark _ _ (min_assoc a.value b.value c.value);
      idem = λ a. same_mark _ _ (min-eq_left (omega arith));
      unit = λ a. same_mark _ _ (min-eq_right a.ok);
      zero = λ a. same_mark _ _ (zero-min a.value);
      apart = λ e. let f = ap (λ (m : Mark). m.value) e in omega arith;
      exact = λ a b. (λ e. same_mark a b (eqb-true _ _ e), λ e. eq-eqb _ _ (ap (λ (m : Mark). m.value) e));
    }

pub line_laws : IsScale line_operations
line_laws =
    record {
      comm = λ a b. same_lines _ _ (and_comm a.set b.set);
      assoc = λ a b c. same_lines _ _ (and_assoc 16 a.set b.set c.set (omega (arith, a.ok)));
      idem = λ a. same_lines _ _ (and_self a.set);
      unit = λ a. same_lines _ _ (and_comm 65535 a.set ∙ (and_mask a.set 16 ∙ mod-eq_of_lt (omega (arith, a.ok))));
      zero = λ a. same_lines _ _ (and_zero_l a.set);
      apart = λ e. let f = ap (λ (l : Lines). l.set) e in omega arith;
      exact = λ a b. (λ e. same_lines a b (eqb-true _ _ e), λ e. eq-eqb _ _ (ap (λ (l : Lines). l.set) e));
    }
