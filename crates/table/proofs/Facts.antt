-- What a table keeps of its sheet, together, and for a sheet with one more row.
use Rattle.std.proofs.Common.{◌≡◌, ℕ, ◌+◌, ◌<◌, ◌≤◌, List, [], ◌∷◌, length, get_or, set, sym, subst, arith, length-append}
use mathlib.Core.Option.{some}
use Rattle.fault.specs.Firsts.{Below}
use Rattle.table.proofs.Growing.{depth_grown, represents_grown, shallow_grown, within_grown}
use Rattle.table.proofs.Hands.{coherent_at_hand, represents_at_hand}
use Rattle.rows.specs.Stored.{args_of, at, depth_at}
use Rattle.unification.proofs.Bridges.{appended_coherent}
use Rattle.unification.specs.Closures.{IsDepth}
use Rattle.unification.specs.Sheets.{Row, Sheet, Fits, IsCoherent, appended}
use Rattle.unification.specs.Tables.{Represents}

-- A coherent sheet, its representatives, and depths that fall and are no more than there are rows.
pub record Facts (s : Sheet) (c d : List ℕ) : Type 0 where
  pub coherent : ∥ IsCoherent s ∥₁
  pub represents : ∥ Represents s (at c) ∥₁
  pub falls : IsDepth s (depth_at c d)
  pub within : Below (length s.rows) (λ p. at c p < length s.rows)
  pub shallow : Below (length s.rows) (λ p. depth_at c d p ≤ length s.rows)

pub facts_moved : (s t : Sheet) (c e d f : List ℕ) → t ≡ s → e ≡ c → f ≡ d → Facts s c d → Facts t e f
facts_moved s t c e d f i j k h =
    subst (λ (z : Sheet). Facts z e f) (sym i)
    (subst (λ (z : List ℕ). Facts s z f) (sym j) (subst (λ (z : List ℕ). Facts s c z) (sym k) h))

pub facts_grown : (s : Sheet) (c d : List ℕ) → Facts s c d → (r : Row) → Fits s r → length s.rows < length c → length s.rows < length d → (x : ℕ) → Below (length (args_of (some r))) (λ i. depth_at c d (get_or (args_of (some r)) i 0) < x) → x ≤ length s.rows + 1 → Facts (appended s r) (set c (length s.rows) (length s.rows)) (set d (length s.rows) x)
facts_grown s c d h r F hc hd x X b =
    let I = coherent_at_hand h.coherent in
    let R = represents_at_hand I h.represents in
    let n = length-append s.rows (r ∷ []) in
    record {
      coherent = ∣ appended_coherent I r F ∣₁;
      represents = ∣ represents_grown I c R r F hc ∣₁;
      falls = depth_grown I c R r F hc d hd h.falls x X;
      within = λ p k. let w = within_grown I c R r F hc p (omega arith) in omega arith;
      shallow = λ p k. let w = shallow_grown I c R r F hc d hd h.falls x X h.shallow b p (omega arith) in omega arith;
    }
