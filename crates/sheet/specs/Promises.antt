use Rattle.std.specs.Prelude.{◌≡◌, ℕ, ◌<◌, length, Result, ◌≢◌}
use Rattle.fault.specs.Firsts.{Below}
use Rattle.scale.specs.Scales.{Operations, AtMost}
use Rattle.sheet.specs.Calls.{EquateGives, PossibleOrRefused, equation}
use Rattle.sheet.specs.declared.causes.EquateFault.{EquateFault}
use Rattle.unification.specs.Closures.{Cycle, IsDegree}
use Rattle.unification.specs.Sheets.{Sheet, IsSheet, suits}
use Rattle.unification.specs.Similarity.{alike, Crisp}
use Rattle.unification.specs.Solutions.{IsSolution, IsMostGeneral}
use Rattle.unification.specs.Substitutions.{IsSubstitution, apply}
use Rattle.unification.specs.Terms.{Term}
use Rattle.vocabulary.specs.Words.{Words}

module _ {D : Type 0} (S : Operations D) (V : Words D) where
  -- A sheet that was made by calls: its rows are over the vocabulary's words, and its degree is not bottom.
  pub record Consistent (s : Sheet) : Type 0 where
    pub formed : IsSheet V.count V.arity s
    pub above : IsDegree S V s S.bottom → ⊥

  -- What the solved substitution σ of a sheet of degree d is, beside any other substitution.
  pub record Solves (s : Sheet) (d : D) (σ : ℕ → Term) : Type 0 where
    pub formed : IsSubstitution V σ
    -- it suits the equations in force at exactly the sheet's degree
    pub attained : suits S V s σ ≡ d
    -- whatever suits them at e has e at most that degree
    pub best : (θ : ℕ → Term) → IsSubstitution V θ → (e : D) → suits S V s θ ≡ e → AtMost S e d
    -- and turns each variable, and the term that σ gives it, into terms alike at e or more
    pub general : (θ : ℕ → Term) → IsSubstitution V θ → (e : D) → suits S V s θ ≡ e → Below 100 (λ x. AtMost S e (alike S V (θ x) (apply θ (σ x))))
    -- where only equal words are alike, it is a most general unifier
    pub crisp : Crisp S V → IsMostGeneral V s σ

  -- The whole promise about a sheet.
  pub record Promised (s : Sheet) : Type 0 where
    pub formed : IsSheet V.count V.arity s
    -- it has exactly one degree, which is not bottom
    pub degree : (d : D) × IsDegree S V s d × ((e : D) → IsDegree S V s e → e ≡ d)
    pub above : (d : D) → IsDegree S V s d → d ≢ S.bottom
    pub acyclic : Cycle s → ⊥
    -- it has exactly one solved substitution
    pub solution : (σ : ℕ → Term) × IsSolution s σ × ((τ : ℕ → Term) → IsSolution s τ → Below 100 (λ x. τ x ≡ σ x))
    pub solves : (σ : ℕ → Term) → IsSolution s σ → (d : D) → IsDegree S V s d → Solves s d σ
    -- two rows are refused to be equated exactly when no substitution suits the equations in force and the new one above bottom
    pub equate : (p q : ℕ) → p < length s.rows → q < length s.rows → length s.equations < 128 → (r : Result (Unit {0}) EquateFault) (t : Sheet) → EquateGives S V s (equation p q) r t → PossibleOrRefused S V s (equation p q) r
