-- Likeness of terms is a similarity.
use Rattle.std.proofs.Common.{◌≡◌, ℕ, cond, eqb, sym, refl, ap, ◌∙◌, ap₂, inl, inr}
use Rattle.std.proofs.lemmas.Bool.{cases_eq, eq-eqb, ne_eqb}
use Rattle.scale.specs.Scales.{Operations, IsScale, AtMost}
use Rattle.vocabulary.specs.Words.{Words, IsVocabulary}
use Rattle.unification.specs.Similarity.{alike, all_alike, IsSimilarity}
use Rattle.unification.specs.Terms.{Term, Terms, var, app, nil, cons, Formed, AllFormed}
use Rattle.scale.proofs.Orders.{le_trans, meet_left, meet_right, meet_glb, meet_mono, bottom_le, le_top, le_of_eq}

eqb_sym : (x y : ℕ) → eqb x y ≡ eqb y x
eqb_sym x y =
    elim (cases_eq x y) [
      | inl e ↦ eq-eqb x y e ∙ sym (eq-eqb y x (sym e))
      | inr n ↦ ne_eqb x y n ∙ sym (ne_eqb y x (λ e. n (sym e)))
    ]

module _ {D : Type 0} {S : Operations D} (L : IsScale S) {V : Words D} (W : IsVocabulary S V) where
  mutual
    pub alike_refl : (t : Term) → Formed V.count V.arity t → alike S V t t ≡ S.top
    alike_refl (var x) w = ap (λ b. cond b S.top S.bottom) (eq-eqb x x refl)
    alike_refl (app f ts) w = ap₂ S.meet (W.same f w.0) (all_refl ts w.2) ∙ L.unit S.top

    pub all_refl : (ts : Terms) → AllFormed V.count V.arity ts → all_alike S V ts ts ≡ S.top
    all_refl nil w = refl
    all_refl (cons t ts) w = ap₂ S.meet (alike_refl t w.0) (all_refl ts w.1) ∙ L.unit S.top

  mutual
    pub alike_sym : (t u : Term) → alike S V t u ≡ alike S V u t
    alike_sym (var x) (var y) = ap (λ b. cond b S.top S.bottom) (eqb_sym x y)
    alike_sym (var x) (app g us) = refl
    alike_sym (app f ts) (var y) = refl
    alike_sym (app f ts) (app g us) = ap₂ S.meet (W.symmetric f g) (all_sym ts us)

    pub all_sym : (ts us : Terms) → all_alike S V ts us ≡ all_alike S V us ts
    all_sym nil nil = refl
    all_sym nil (cons u us) = refl
    all_sym (cons t ts) nil = refl
    all_sym (cons t ts) (cons u us) = ap₂ S.meet (alike_sym t u) (all_sym ts us)

  -- two meets, crossed
  cross : {a b c d x y : D} → AtMost S (S.meet a c) x → AtMost S (S.meet b d) y → AtMost S (S.meet (S.meet a b) (S.meet c d)) (S.meet x y)
  cross {a} {b} {c} {d} p q =
      meet_glb L
      (le_trans L (meet_mono L (meet_left L a b) (meet_left L c d)) p)
      (le_trans L (meet_mono L (meet_right L a b) (meet_right L c d)) q)

  from_bottom_left : {a b : D} → AtMost S (S.meet S.bottom a) b
  from_bottom_left {a} {b} = le_trans L (meet_left L S.bottom a) (bottom_le L b)

  from_bottom_right : {a b : D} → AtMost S (S.meet a S.bottom) b
  from_bottom_right {a} {b} = le_trans L (meet_right L a S.bottom) (bottom_le L b)

  var_chain : (x y z : ℕ) → AtMost S (S.meet (alike S V (var x) (var y)) (alike S V (var y) (var z))) (alike S V (var x) (var z))
  var_chain x y z =
      elim (cases_eq x y) [
        | inl e ↦ rw e (meet_right L (alike S V (var y) (var y)) (alike S V (var y) (var z)))
        | inr n ↦ rw (ne_eqb x y n) from_bottom_left
      ]

  mutual
    pub alike_chain : (t u v : Term) → AtMost S (S.meet (alike S V t u) (alike S V u v)) (alike S V t v)
    alike_chain (var x) (var y) (var z) = var_chain x y z
    alike_chain (var x) (var y) (app h vs) = from_bottom_right
    alike_chain (var x) (app g us) v = from_bottom_left
    alike_chain (app f ts) (var y) v = from_bottom_left
    alike_chain (app f ts) (app g us) (var z) = from_bottom_right
    alike_chain (app f ts) (app g us) (app h vs) = cross (W.transitive f g h) (all_chain ts us vs)

    pub all_chain : (ts us vs : Terms) → AtMost S (S.meet (all_alike S V ts us) (all_alike S V us vs)) (all_alike S V ts vs)
    all_chain nil nil vs = meet_right L S.top (all_alike S V nil vs)
    all_chain nil (cons u us) vs = from_bottom_left
    all_chain (cons t ts) nil vs = from_bottom_left
    all_chain (cons t ts) (cons u us) nil = from_bottom_right
    all_chain (cons t ts) (cons u us) (cons v vs) = cross (alike_chain t u v) (all_chain ts us vs)

  pub similarity : IsSimilarity S V
  similarity = record { reflexive = alike_refl; symmetric = alike_sym; transitive = alike_chain }

  -- the same, as steps below a degree
  pub same_le : (d : D) (t : Term) → Formed V.count V.arity t → AtMost S d (alike S V t t)
  same_le d t w = le_trans L (le_top L d) (le_of_eq L (sym (alike_refl t w)))

  pub turn_le : {d : D} (t u : Term) → AtMost S d (alike S V t u) → AtMost S d (alike S V u t)
  turn_le t u h = le_trans L h (le_of_eq L (alike_sym t u))

  pub chain_le : {d : D} (t u v : Term) → AtMost S d (alike S V t u) → AtMost S d (alike S V u v) → AtMost S d (alike S V t v)
  chain_le t u v h k = le_trans L (meet_glb L h k) (alike_chain t u v)
