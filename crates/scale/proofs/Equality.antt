-- What `==` tells of two degrees: it is the scale's exact test.
use Rattle.std.proofs.Common.{◌≡◌, Bool, true, false, sym, ◌∙◌}
use Rattle.std.proofs.lemmas.Bool.{both_ways}
use Rattle.scale.specs.Scales.{Operations, IsScale}

module _ {D : Type 0} {S : Operations D} {eq : D → D → Bool} (L : IsScale S) (exactly : (d e : D) → eq d e ≡ S.same d e) where
  pub equal_by : {d e : D} {b : Bool} → b ≡ eq d e → b ≡ true → d ≡ e
  equal_by {d} {e} told holds = (L.exact d e).0 (sym (exactly d e) ∙ sym told ∙ holds)

  pub apart_by : {d e : D} {b : Bool} → b ≡ eq d e → b ≡ false → d ≡ e → ⊥
  apart_by {d} {e} {b} told fails same = both_ways b fails (told ∙ exactly d e ∙ (L.exact d e).1 same)
