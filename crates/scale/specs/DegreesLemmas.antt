-- Marks and sets of lines are equal where their numbers are, and each is the one of its code.
use mathlib.Core.HLevel.{is_prop→PathP, Stable-paths→set}
use Rattle.std.specs.Prelude.{◌≡◌, ℕ, ◌<◌, ◌≤◌, Some, None, Option}
use Rattle.std.proofs.Math.Logic.{inl, inr, ⊎_elim}
use Rattle.std.proofs.Math.Path.{refl, ap}
use Rattle.std.proofs.Common.{sym, ◌∙◌, arith}
use Rattle.std.proofs.Math.Bridge.{le_prop}
use Rattle.std.proofs.lemmas.Bool.{cases_eq, cases_lt}
use Rattle.scale.specs.Degrees.{coded_up_to, mark_operations, line_operations}
use Rattle.scale.specs.Scales.{IsCode}
use Rattle.scale.specs.declared.lines.Lines.{Lines}
use Rattle.scale.specs.declared.mark.Mark.{Mark}

pub same_mark : (a b : Mark) → a.value ≡ b.value → a ≡ b
same_mark a b e =
    λ i. record { value = e i; ok = is_prop→PathP (λ j. e j ≤ 1000) (λ j. le_prop {n = e j} {m = 1000}) a.ok b.ok i }

pub same_lines : (a b : Lines) → a.set ≡ b.set → a ≡ b
same_lines a b e =
    λ i. record { set = e i; ok = is_prop→PathP (λ j. e j ≤ 65535) (λ j. le_prop {n = e j} {m = 65535}) a.ok b.ok i }

module _ {D : Type 0} (k : ℕ) (make : (n : ℕ) → n ≤ k → D) where
  pub coded_within : (n : ℕ) (h : n ≤ k) → coded_up_to k make n ≡ Some (make n h)
  unfolding coded_up_to
  coded_within n h =
      elim (cases_lt k n) as (λ s. ⊎_elim (λ above. None) (λ within. Some (make n within)) s ≡ Some (make n h)) [
        | inl above ↦ absurd (omega arith)
        | inr within ↦ ap (λ w. Some (make n w)) (le_prop within h)
      ]

  pub coded_above : (n : ℕ) → k < n → coded_up_to k make n ≡ None
  unfolding coded_up_to
  coded_above n h =
      elim (cases_lt k n) as (λ s. ◌≡◌ {A = Option D} (⊎_elim (λ above. None) (λ within. Some (make n within)) s) None) [
        | inl above ↦ refl
        | inr within ↦ absurd (omega arith)
      ]

  -- No other number is the code of a degree than the one it is made of.
  coded_only : (number : D → ℕ) → ((n : ℕ) (h : n ≤ k) → number (make n h) ≡ n) → (n : ℕ) (d : D) → coded_up_to k make n ≡ Some d → n ≡ number d
  coded_only number made n d e =
      elim (cases_lt k n) [
        | inl above ↦ let z = coded_above n above in let y : ◌≡◌ {A = ℕ} 0 1 = cc in absurd (omega arith)
        | inr within ↦ let f = coded_within n within in let g : make n within ≡ d = cc in sym (made n within) ∙ ap number g
      ]

pub mark_code : (m : Mark) → IsCode mark_operations m m.value
mark_code m =
    record {
      decodes = coded_within 1000 _ m.value m.ok;
      only = λ n e. coded_only 1000 _ (λ m. m.value) (λ n h. refl) n m e;
    }

pub lines_code : (l : Lines) → IsCode line_operations l l.set
lines_code l =
    record {
      decodes = coded_within 65535 _ l.set l.ok;
      only = λ n e. coded_only 65535 _ (λ l. l.set) (λ n h. refl) n l e;
    }

-- Degrees that are told apart by a number are a set.
numbered_set : {D : Type 0} (number : D → ℕ) → ((a b : D) → number a ≡ number b → a ≡ b) → IsSet D
numbered_set number same =
    Stable-paths→set
    (λ a b twice.
    ⊎_elim (same a b) (λ differ. absurd (twice (λ e. differ (ap number e)))) (cases_eq (number a) (number b)))

pub mark_set : IsSet Mark
mark_set = numbered_set (λ m. m.value) same_mark

pub lines_set : IsSet Lines
lines_set = numbered_set (λ l. l.set) same_lines
