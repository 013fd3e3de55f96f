-- The order of degrees: a is at most b where their meet is a.
use Rattle.std.proofs.Common.{◌≡◌, sym, ap, ◌∙◌}
use Rattle.scale.specs.Scales.{Operations, IsScale, AtMost}

module _ {D : Type 0} {S : Operations D} (L : IsScale S) where
  pub le_refl : (a : D) → AtMost S a a
  le_refl a = L.idem a

  pub le_trans : {a b c : D} → AtMost S a b → AtMost S b c → AtMost S a c
  le_trans {a} {b} {c} p q = ap (λ x. S.meet x c) (sym p) ∙ L.assoc a b c ∙ ap (S.meet a) q ∙ p

  pub le_anti : {a b : D} → AtMost S a b → AtMost S b a → a ≡ b
  le_anti {a} {b} p q = sym p ∙ L.comm a b ∙ q

  pub le_top : (a : D) → AtMost S a S.top
  le_top a = L.comm a S.top ∙ L.unit a

  pub bottom_le : (a : D) → AtMost S S.bottom a
  bottom_le a = L.zero a

  pub meet_left : (a b : D) → AtMost S (S.meet a b) a
  meet_left a b = L.comm (S.meet a b) a ∙ sym (L.assoc a a b) ∙ ap (λ x. S.meet x b) (L.idem a)

  pub meet_right : (a b : D) → AtMost S (S.meet a b) b
  meet_right a b = L.assoc a b b ∙ ap (S.meet a) (L.idem b)

  pub meet_glb : {d a b : D} → AtMost S d a → AtMost S d b → AtMost S d (S.meet a b)
  meet_glb {d} {a} {b} p q = sym (L.assoc d a b) ∙ ap (λ x. S.meet x b) p ∙ q

  pub meet_mono : {a b c d : D} → AtMost S a c → AtMost S b d → AtMost S (S.meet a b) (S.meet c d)
  meet_mono {a} {b} p q = meet_glb (le_trans (meet_left a b) p) (le_trans (meet_right a b) q)

  pub le_of_eq : {a b : D} → a ≡ b → AtMost S a b
  le_of_eq {a} e = ap (S.meet a) (sym e) ∙ L.idem a

  pub le_bottom : {a : D} → AtMost S a S.bottom → a ≡ S.bottom
  le_bottom {a} p = sym p ∙ L.comm a S.bottom ∙ L.zero a

  pub meet_bottom : (a : D) → S.meet a S.bottom ≡ S.bottom
  meet_bottom a = L.comm a S.bottom ∙ L.zero a
