-- What a substitution that suits a sheet's equations forces.
use Rattle.std.proofs.Common.{ℕ, List, [], ◌∷◌, refl, subst₂}
use mathlib.Core.List.Memᴰ
use Rattle.scale.specs.Scales.{Operations, IsScale, AtMost}
use Rattle.vocabulary.specs.Words.{Words, IsVocabulary}
use Rattle.unification.specs.Classes.{Member}
use Rattle.unification.specs.Closures.{Closure, stated, same, turned, joined, passed, Bound, IsDegree}
use Rattle.unification.specs.Sheets.{Equation, Sheet, IsSheet, term, suits_all, suits}
use Rattle.unification.specs.Similarity.{alike}
use Rattle.unification.specs.Substitutions.{apply, IsSubstitution}
use Rattle.unification.specs.Terms.{Term}
use Rattle.scale.proofs.Orders.{le_trans, meet_left, meet_right, meet_glb, le_top}
use Rattle.unification.proofs.Reading.{apply_composed, formed_apply, formed_term, place_of}
use Rattle.unification.proofs.Similarity.{same_le, turn_le, chain_le}

module _ {D : Type 0} {S : Operations D} (L : IsScale S) (V : Words D) where
  pub suits_one : (s : Sheet) (θ : ℕ → Term) (es : List Equation) (e : Equation) → Member e es → AtMost S (suits_all S V s θ es) (alike S V (apply θ (term s e.left)) (apply θ (term s e.right)))
  suits_one s θ [] e m = elim m [ ]
  suits_one s θ (c ∷ es) e (Memᴰ.head h) = rw h (meet_left L _ (suits_all S V s θ es))
  suits_one s θ (c ∷ es) e (Memᴰ.tail m) = le_trans L (meet_right L _ (suits_all S V s θ es)) (suits_one s θ es e m)

  pub suits_each : (s : Sheet) (θ : ℕ → Term) {d : D} (es : List Equation) → ((e : Equation) → Member e es → AtMost S d (alike S V (apply θ (term s e.left)) (apply θ (term s e.right)))) → AtMost S d (suits_all S V s θ es)
  suits_each s θ {d} [] h = le_top L d
  suits_each s θ (e ∷ es) h = meet_glb L (h e (Memᴰ.head refl)) (suits_each s θ es (λ c m. h c (Memᴰ.tail m)))

module _ {D : Type 0} {S : Operations D} (L : IsScale S) {V : Words D} (W : IsVocabulary S V) {s : Sheet} (I : IsSheet V.count V.arity s) (θ : ℕ → Term) (w : IsSubstitution V θ) where
  -- Rows in the closure have terms alike, at the degree of the substitution or more.
  pub closure_alike : {p q : ℕ} → Closure s p q → AtMost S (suits S V s θ) (alike S V (apply θ (term s p)) (apply θ (term s q)))
  closure_alike (stated e h) = suits_one L V s θ s.equations e h
  closure_alike (same p) = same_le L W (suits S V s θ) (apply θ (term s p)) (formed_apply V.count V.arity θ w (term s p) (formed_term V.count V.arity I p))
  closure_alike (turned {p = a} {q = b} c) = turn_le L W (apply θ (term s a)) (apply θ (term s b)) (closure_alike c)
  closure_alike (joined {p = a} {q = b} {r = r} c k) =
      chain_le L W (apply θ (term s a)) (apply θ (term s b)) (apply θ (term s r)) (closure_alike c) (closure_alike k)
  closure_alike (passed {p = a} {q = b} f g xs ys i c hp hq hl hi) =
      place_of L V (suits S V s θ) (λ r. apply θ (term s r)) (λ r. apply θ (term s r)) xs ys hl i hi
      (le_trans L
      (subst₂ (λ (t u : Term). AtMost S (suits S V s θ) (alike S V t u)) (apply_composed I.coherent θ a f xs hp) (apply_composed I.coherent θ b g ys hq) (closure_alike c))
      (meet_right L (V.likeness f g) _))

  -- Hence the degree of a substitution bounds the words that are put together.
  pub suits_bound : Bound S V s (suits S V s θ)
  suits_bound p q f g xs ys c hp hq =
      le_trans L
      (subst₂ (λ (t u : Term). AtMost S (suits S V s θ) (alike S V t u)) (apply_composed I.coherent θ p f xs hp) (apply_composed I.coherent θ q g ys hq) (closure_alike c))
      (meet_left L (V.likeness f g) _)

  pub suits_degree : (d : D) → IsDegree S V s d → AtMost S (suits S V s θ) d
  suits_degree d g = g.greatest (suits S V s θ) suits_bound
