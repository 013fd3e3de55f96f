use Rattle.std.specs.Prelude.{◌≡◌, ℕ, ◌⊎◌, length, ◌≢◌}
use Rattle.fault.specs.Firsts.{Below}
use Rattle.scale.specs.Scales.{Operations}
use Rattle.vocabulary.specs.Words.{Words}
use Rattle.unification.specs.Classes.{ClassDegrees}
use Rattle.unification.specs.Closures.{Cycle, IsDepth, Representative, IsDegree, Clash, Occurs}
use Rattle.unification.specs.Sheets.{Equation, Sheet, IsSheet, TermsRead, Holds, equated, suits, Unifies}
use Rattle.unification.specs.Similarity.{IsSimilarity, Crisp}
use Rattle.unification.specs.Solutions.{Solved, IsSolution, IsBest, Possible, IsMostGeneral}
use Rattle.unification.specs.Substitutions.{IsSubstitution}
use Rattle.unification.specs.Terms.{Term}

module _ {D : Type 0} (S : Operations D) (V : Words D) where
  -- What every well-formed sheet has: the term of each row, for each row one representative, one degree, and either a depth for every
  -- row or a cycle, not both.
  pub record SheetHas (s : Sheet) : Type 0 where
    pub terms : TermsRead s
    pub representative : Below (length s.rows) (λ p. (q : ℕ) × Representative s q p × ((r : ℕ) → Representative s r p → r ≡ q))
    pub degree : (d : D) × IsDegree S V s d × ((e : D) → IsDegree S V s e → e ≡ d)
    pub descent : ((depth : ℕ → ℕ) × IsDepth s depth) ⊎ Cycle s
    pub not_both : (depth : ℕ → ℕ) → IsDepth s depth → Cycle s → ⊥

  abbrev pub SheetsHave : Type 0
  SheetsHave = (s : Sheet) → IsSheet V.count V.arity s → SheetHas s

  -- The solved substitution of a sheet with degree d: there is one, no two differ, and it is a best match at d.
  pub record SolvedBest (s : Sheet) (d : D) : Type 0 where
    pub exists : (σ : ℕ → Term) × IsSolution s σ
    pub only : (σ τ : ℕ → Term) → IsSolution s σ → IsSolution s τ → Below 100 (λ x. σ x ≡ τ x)
    pub best : (σ : ℕ → Term) → IsSolution s σ → IsBest S V s d σ

  -- Without a cycle the solved substitution is there, and is the best match at the sheet's degree.
  abbrev pub SolutionsAreBest : Type 0
  SolutionsAreBest = (s : Sheet) → IsSheet V.count V.arity s → (Cycle s → ⊥) → (d : D) → IsDegree S V s d → SolvedBest s d

  -- When a sheet of degree d can be solved at all.
  pub record PossibleWhen (s : Sheet) (d : D) : Type 0 where
    -- where something suits above bottom, the degree is not bottom and there is no cycle
    pub needs : Possible S V s → (d ≢ S.bottom) × (Cycle s → ⊥)
    -- and that is enough
    pub enough : (d ≢ S.bottom) → (Cycle s → ⊥) → Possible S V s
    -- with the degree bottom, or a cycle, every substitution suits at exactly bottom
    pub else : (d ≡ S.bottom) ⊎ Cycle s → (θ : ℕ → Term) → IsSubstitution V θ → suits S V s θ ≡ S.bottom

  abbrev pub PossibleExactly : Type 0
  PossibleExactly = (s : Sheet) → IsSheet V.count V.arity s → (d : D) → IsDegree S V s d → PossibleWhen s d

  -- A new equation is possible exactly when it makes neither a clash nor an occurs.
  pub record EquationPossible (s : Sheet) (e : Equation) : Type 0 where
    pub needs : Possible S V (equated s e) → (Clash S V s e → ⊥) × (Occurs S V s e → ⊥)
    pub enough : (Clash S V s e → ⊥) → (Occurs S V s e → ⊥) → Possible S V (equated s e)

  abbrev pub EquationsPossible : Type 0
  EquationsPossible = (s : Sheet) (e : Equation) → IsSheet V.count V.arity (equated s e) → EquationPossible s e

  -- Where only equal words are alike: a sheet has a unifier exactly when the degree is not bottom and there is no cycle, and then the
  -- solved substitution is a most general one.
  pub record UnifiedWhen (s : Sheet) (d : D) : Type 0 where
    pub needs : (θ : ℕ → Term) → IsSubstitution V θ → Unifies s θ → (d ≢ S.bottom) × (Cycle s → ⊥)
    pub enough : (d ≢ S.bottom) → (Cycle s → ⊥) → (σ : ℕ → Term) → IsSolution s σ → IsMostGeneral V s σ

  abbrev pub CrispUnifies : Type 0
  CrispUnifies = Crisp S V → (s : Sheet) → IsSheet V.count V.arity s → (d : D) → IsDegree S V s d → UnifiedWhen s d

  -- The order of the equations, and how often each stands, is of no account: over the same rows the same equations give the same degree,
  -- representatives, solved values and solved substitution.
  pub record SameMatch (s t : Sheet) : Type 0 where
    pub degree : (d : D) → IsDegree S V s d → IsDegree S V t d
    pub representative : (p q : ℕ) → Representative s q p → Representative t q p
    pub value : (p : ℕ) (u : Term) → Solved s p u → Solved t p u
    pub solution : (σ : ℕ → Term) → IsSolution s σ → IsSolution t σ
    pub cycle : Cycle s → Cycle t

  abbrev pub OrderFree : Type 0
  OrderFree = (s t : Sheet) → s.rows ≡ t.rows → ((e : Equation) → Holds s e → Holds t e) → ((e : Equation) → Holds t e → Holds s e) → SameMatch s t

  -- All of it.
  pub record WeakUnification : Type 0 where
    pub similar : IsSimilarity S V
    pub classes : ClassDegrees S V
    pub sheets : SheetsHave
    pub best : SolutionsAreBest
    pub possible : PossibleExactly
    pub equations : EquationsPossible
    pub crisp : CrispUnifies
    pub order : OrderFree
