-- Where only equal words are alike, what suits unifies, and a best match is a most general unifier.
use Rattle.std.proofs.Common.{◌≡◌, ℕ, ◌≢◌, sym, refl, ap, ◌∙◌, subst, ap₂, inl, inr}
use Rattle.std.proofs.lemmas.Bool.{cases_eq, ne_eqb}
use Rattle.scale.specs.Scales.{Operations, IsScale, AtMost}
use Rattle.vocabulary.specs.Words.{Words, IsVocabulary}
use Rattle.unification.specs.Sheets.{Sheet, IsSheet, term, suits, Unifies}
use Rattle.unification.specs.Similarity.{alike, all_alike, Crisp}
use Rattle.unification.specs.Solutions.{IsBest, IsMostGeneral}
use Rattle.unification.specs.Substitutions.{apply, IsSubstitution}
use Rattle.unification.specs.Terms.{Term, Terms, var, app, nil, cons}
use Rattle.scale.proofs.Orders.{le_trans, le_anti, le_bottom, le_top, meet_left, meet_right}
use Rattle.unification.proofs.Reading.{formed_apply, formed_term}
use Rattle.unification.proofs.Similarity.{same_le}
use Rattle.unification.proofs.Unifiers.{suits_one, suits_each}

module _ {D : Type 0} {S : Operations D} (L : IsScale S) {V : Words D} (W : IsVocabulary S V) (C : Crisp S V) where
  -- above bottom, words and variables that are alike are equal
  same_word : {d : D} → d ≢ S.bottom → (f g : ℕ) → AtMost S d (V.likeness f g) → f ≡ g
  same_word n f g h = elim (cases_eq f g) [ inl e ↦ e | inr m ↦ absurd (n (le_bottom L (rw (C f g m) at h))) ]

  same_variable : {d : D} → d ≢ S.bottom → (x y : ℕ) → AtMost S d (alike S V (var x) (var y)) → x ≡ y
  same_variable n x y h = elim (cases_eq x y) [ inl e ↦ e | inr m ↦ absurd (n (le_bottom L (rw (ne_eqb x y m) at h))) ]

  mutual
    crisp_equal : {d : D} → d ≢ S.bottom → (t u : Term) → AtMost S d (alike S V t u) → t ≡ u
    crisp_equal n (var x) (var y) h = ap var (same_variable n x y h)
    crisp_equal n (var x) (app g us) h = absurd (n (le_bottom L h))
    crisp_equal n (app f ts) (var y) h = absurd (n (le_bottom L h))
    crisp_equal n (app f ts) (app g us) h =
        ap₂ app (same_word n f g (le_trans L h (meet_left L (V.likeness f g) (all_alike S V ts us))))
        (crisp_all n ts us (le_trans L h (meet_right L (V.likeness f g) (all_alike S V ts us))))

    crisp_all : {d : D} → d ≢ S.bottom → (ts us : Terms) → AtMost S d (all_alike S V ts us) → ts ≡ us
    crisp_all n nil nil h = refl
    crisp_all n nil (cons u us) h = absurd (n (le_bottom L h))
    crisp_all n (cons t ts) nil h = absurd (n (le_bottom L h))
    crisp_all n (cons t ts) (cons u us) h =
        ap₂ cons (crisp_equal n t u (le_trans L h (meet_left L (alike S V t u) (all_alike S V ts us))))
        (crisp_all n ts us (le_trans L h (meet_right L (alike S V t u) (all_alike S V ts us))))

  suits_unifies : (s : Sheet) (θ : ℕ → Term) → suits S V s θ ≢ S.bottom → Unifies s θ
  suits_unifies s θ n e h =
      crisp_equal n (apply θ (term s e.left)) (apply θ (term s e.right)) (suits_one L V s θ s.equations e h)

  pub unifies_suits : {s : Sheet} (I : IsSheet V.count V.arity s) (θ : ℕ → Term) → IsSubstitution V θ → Unifies s θ → suits S V s θ ≡ S.top
  unifies_suits {s} I θ w u =
      le_anti L (le_top L (suits S V s θ))
      (suits_each L V s θ s.equations
      (λ e h.
      subst (λ (t : Term). AtMost S S.top (alike S V (apply θ (term s e.left)) t)) (u e h)
      (same_le L W S.top (apply θ (term s e.left)) (formed_apply V.count V.arity θ w (term s e.left) (formed_term V.count V.arity I e.left)))))

  pub best_most_general : {s : Sheet} (I : IsSheet V.count V.arity s) {d : D} → d ≢ S.bottom → {σ : ℕ → Term} → IsBest S V s d σ → IsMostGeneral V s σ
  best_most_general {s} I n {σ = σ} B =
      record {
        unifies = suits_unifies s σ (λ e. n (sym B.attained ∙ e));
        instance = λ θ w u x hx.
            crisp_equal (λ e. L.apart (sym e ∙ unifies_suits I θ w u)) (θ x) (apply θ (σ x)) (B.general θ w x hx);
      }
