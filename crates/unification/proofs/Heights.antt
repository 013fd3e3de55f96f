-- The height of a term: terms of different heights are not alike at all.
use Rattle.std.proofs.Common.{◌≡◌, ℕ, zero, suc, ◌<◌, ◌≤◌, max, ◌≢◌, List, [], ◌∷◌, length, get_or, refl, ap, ◌∙◌, ap₂, inl, inr, arith}
use Rattle.std.proofs.lemmas.Bool.{cases_eq}
use Rattle.scale.specs.Scales.{Operations, IsScale}
use Rattle.vocabulary.specs.Words.{Words}
use Rattle.unification.specs.Sheets.{terms_of}
use Rattle.unification.specs.Similarity.{alike, all_alike}
use Rattle.unification.specs.Terms.{Term, Terms, var, app, nil, cons}
use Rattle.scale.proofs.Orders.{meet_bottom}

abbrev mutual
  pub height : Term → ℕ
  height (var x) = 0
  height (app f ts) = suc (heights ts)

  pub heights : Terms → ℕ
  heights nil = 0
  heights (cons t ts) = max (height t) (heights ts)

pub height_place : (v : ℕ → Term) (xs : List ℕ) (i : ℕ) → i < length xs → height (v (get_or xs i 0)) ≤ heights (terms_of v xs)
height_place v [] i h = absurd (omega arith)
height_place v (x ∷ xs) zero h = omega arith
height_place v (x ∷ xs) (suc i) h = let k = height_place v xs i (omega arith) in omega arith

module _ {D : Type 0} {S : Operations D} (L : IsScale S) (V : Words D) where
  mutual
    pub unlike_height : (t u : Term) → height t ≢ height u → alike S V t u ≡ S.bottom
    unlike_height (var x) (var y) n = absurd (n refl)
    unlike_height (var x) (app g us) n = refl
    unlike_height (app f ts) (var y) n = refl
    unlike_height (app f ts) (app g us) n = ap (S.meet (V.likeness f g)) (unlike_heights ts us (λ e. n (ap suc e))) ∙ meet_bottom L (V.likeness f g)

    pub unlike_heights : (ts us : Terms) → heights ts ≢ heights us → all_alike S V ts us ≡ S.bottom
    unlike_heights nil nil n = absurd (n refl)
    unlike_heights nil (cons u us) n = refl
    unlike_heights (cons t ts) nil n = refl
    unlike_heights (cons t ts) (cons u us) n =
        elim (cases_eq (height t) (height u)) [
          | inl e ↦ ap (S.meet (alike S V t u)) (unlike_heights ts us (λ k. n (ap₂ max e k))) ∙ meet_bottom L (alike S V t u)
          | inr m ↦ ap (λ x. S.meet x (all_alike S V ts us)) (unlike_height t u m) ∙ L.zero (all_alike S V ts us)
        ]
