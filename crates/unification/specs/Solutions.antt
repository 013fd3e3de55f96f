use Rattle.std.specs.Prelude.{◌≡◌, ℕ, ◌<◌, List, [], ◌∷◌, ◌≢◌}
use Rattle.fault.specs.Firsts.{Below}
use Rattle.scale.specs.Scales.{Operations, AtMost}
use Rattle.vocabulary.specs.Words.{Words}
use Rattle.unification.specs.Closures.{Representative}
use Rattle.unification.specs.Sheets.{variable, composed, Sheet, At, suits, Unifies}
use Rattle.unification.specs.Similarity.{alike}
use Rattle.unification.specs.Substitutions.{apply, IsSubstitution}
use Rattle.unification.specs.Terms.{Term, Terms, var, app, nil, cons}

mutual
  -- t is the solved value of row p: its representative's variable, or its representative's word applied to the solved values of
  -- the representative's arguments.
  pub data Solved (s : Sheet) : ℕ → Term → Type 0 where
    free : {p q x : ℕ} → Representative s q p → At s q (variable x) → Solved s p (var x)
    built : {p q f : ℕ} {xs : List ℕ} {ts : Terms} → Representative s q p → At s q (composed f xs) → AllSolved s xs ts → Solved s p (app f ts)

  -- The terms are the solved values of the rows, place by place.
  pub data AllSolved (s : Sheet) : List ℕ → Terms → Type 0 where
    none : AllSolved s [] nil
    each : {p : ℕ} {ps : List ℕ} {t : Term} {ts : Terms} → Solved s p t → AllSolved s ps ts → AllSolved s (p ∷ ps) (cons t ts)

-- σ is the solved substitution: it gives each variable of the sheet its row's solved value, and a label without a row itself.
pub record IsSolution (s : Sheet) (σ : ℕ → Term) : Type 0 where
  pub labelled : (p x : ℕ) → At s p (variable x) → Solved s p (σ x)
  pub other : (x : ℕ) → x < 100 → ((p : ℕ) → At s p (variable x) → ⊥) → σ x ≡ var x

module _ {D : Type 0} (S : Operations D) (V : Words D) where
  -- σ is a best match at degree d.
  pub record IsBest (s : Sheet) (d : D) (σ : ℕ → Term) : Type 0 where
    pub formed : IsSubstitution V σ
    -- it suits the equations at exactly d
    pub attained : suits S V s σ ≡ d
    -- no substitution suits them at more
    pub best : (θ : ℕ → Term) → IsSubstitution V θ → AtMost S (suits S V s θ) d
    -- and one that suits them turns each variable, and the term that σ gives it, into terms alike at that degree or more
    pub general : (θ : ℕ → Term) → IsSubstitution V θ → Below 100 (λ x. AtMost S (suits S V s θ) (alike S V (θ x) (apply θ (σ x))))
    -- what σ gives, it leaves as it is
    pub stable : Below 100 (λ x. apply σ (σ x) ≡ σ x)

  -- Some substitution suits the sheet's equations above bottom.
  abbrev pub Possible : Sheet → Type 0
  Possible s = (σ : ℕ → Term) × IsSubstitution V σ × (suits S V s σ ≢ S.bottom)

-- σ is a most general unifier: it makes both sides of each equation equal, and every θ that does is an instance of it, since θ gives each
-- variable what it makes of σ's term.
pub record IsMostGeneral {D : Type 0} (V : Words D) (s : Sheet) (σ : ℕ → Term) : Type 0 where
  pub unifies : Unifies s σ
  pub instance : (θ : ℕ → Term) → IsSubstitution V θ → Unifies s θ → Below 100 (λ x. θ x ≡ apply θ (σ x))
