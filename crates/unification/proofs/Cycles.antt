-- On a sheet with a cycle nothing suits above bottom, and a depth excludes cycles.
use Rattle.std.proofs.Common.{◌≡◌, ℕ, ◌<◌, ◌≢◌, ◌⊎◌, get_or, ap, inl, inr, arith}
use Rattle.std.proofs.lemmas.Bool.{cases_eq}
use Rattle.scale.specs.Scales.{Operations, IsScale}
use Rattle.vocabulary.specs.Words.{Words, IsVocabulary}
use Rattle.unification.specs.Closures.{Closure, Above, Descent, step, more, Cycle, IsDepth, IsDegree}
use Rattle.unification.specs.Sheets.{Sheet, IsSheet, term, suits}
use Rattle.unification.specs.Substitutions.{apply, IsSubstitution}
use Rattle.unification.specs.Terms.{Term}
use Rattle.unification.proofs.Heights.{height, height_place, unlike_height}
use Rattle.scale.proofs.Orders.{le_trans, le_of_eq, le_bottom}
use Rattle.unification.proofs.Reading.{apply_composed}
use Rattle.unification.proofs.Unifiers.{closure_alike, suits_degree}

module _ {D : Type 0} {S : Operations D} (L : IsScale S) {V : Words D} (W : IsVocabulary S V) {s : Sheet} (I : IsSheet V.count V.arity s) (θ : ℕ → Term) (w : IsSubstitution V θ) where
  -- The height of a row's term after substitution.
  abbrev high : ℕ → ℕ
  high p = height (apply θ (term s p))

  -- Unless θ suits at bottom, rows in the closure have terms of one height, and a step to a row below lowers it.
  closure_height : {p q : ℕ} → Closure s p q → (suits S V s θ ≡ S.bottom) ⊎ (high p ≡ high q)
  closure_height {p} {q} c =
      elim (cases_eq (high p) (high q)) [
        | inl e ↦ inr e
        | inr n ↦ inl (le_bottom L (le_trans L (closure_alike L W I θ w c) (le_of_eq L (unlike_height L V (apply θ (term s p)) (apply θ (term s q)) n))))
      ]

  above_lower : {p q : ℕ} → Above s p q → (suits S V s θ ≡ S.bottom) ⊎ (high q < high p)
  above_lower {p} {q} a = go (closure_height a.together) (closure_height a.below)
    where
      go : (suits S V s θ ≡ S.bottom) ⊎ (high p ≡ high a.row) → (suits S V s θ ≡ S.bottom) ⊎ (high (get_or a.args a.place 0) ≡ high q) → (suits S V s θ ≡ S.bottom) ⊎ (high q < high p)
      go (inl e) k = inl e
      go (inr h) (inl e) = inl e
      go (inr h) (inr k) =
          let shaped = ap height (apply_composed I.coherent θ a.row a.word a.args a.is) in
          let inner = height_place (λ r. apply θ (term s r)) a.args a.place a.in_args in
          inr (omega arith)

  descent_lower : {p q : ℕ} → Descent s p q → (suits S V s θ ≡ S.bottom) ⊎ (high q < high p)
  descent_lower (step a) = above_lower a
  descent_lower (more {p = p} {q = q} {r = r} a c) = go (above_lower a) (descent_lower c)
    where
      go : (suits S V s θ ≡ S.bottom) ⊎ (high q < high p) → (suits S V s θ ≡ S.bottom) ⊎ (high r < high q) → (suits S V s θ ≡ S.bottom) ⊎ (high r < high p)
      go (inl e) k = inl e
      go (inr h) (inl e) = inl e
      go (inr h) (inr k) = inr (omega arith)

  pub cycle_bottom : Cycle s → suits S V s θ ≡ S.bottom
  cycle_bottom k = go (descent_lower k.1)
    where
      go : (suits S V s θ ≡ S.bottom) ⊎ (high k.0 < high k.0) → suits S V s θ ≡ S.bottom
      go (inl e) = e
      go (inr h) = absurd (omega arith)

  pub no_cycle : suits S V s θ ≢ S.bottom → ¬ Cycle s
  no_cycle n k = n (cycle_bottom k)

  pub degree_above : suits S V s θ ≢ S.bottom → (d : D) → IsDegree S V s d → d ≢ S.bottom
  degree_above n d g e = n (le_bottom L (le_trans L (suits_degree L W I θ w d g) (le_of_eq L e)))

module _ {s : Sheet} {depth : ℕ → ℕ} (R : IsDepth s depth) where
  descent_depth : {p q : ℕ} → Descent s p q → depth q < depth p
  descent_depth (step {p = p} {q = q} a) = R p q a
  descent_depth (more {p = p} {q = q} a c) = let h = R p q a in let k = descent_depth c in omega arith

  pub depth_no_cycle : ¬ Cycle s
  depth_no_cycle k = let h = descent_depth k.1 in omega arith
