use Rattle.std.specs.Prelude.{ℕ}
use Rattle.fault.specs.Firsts.{Below}
use Rattle.vocabulary.specs.Words.{Words}
use Rattle.unification.specs.Terms.{Term, Terms, var, app, nil, cons, Formed}

-- What a substitution makes of a term: each variable gives way to the term that it is given.
abbrev mutual
  pub apply : (ℕ → Term) → Term → Term
  apply σ (var x) = σ x
  apply σ (app f ts) = app f (apply_all σ ts)

  pub apply_all : (ℕ → Term) → Terms → Terms
  apply_all σ nil = nil
  apply_all σ (cons t ts) = cons (apply σ t) (apply_all σ ts)

-- A substitution over the words of V: it gives each label from 0 to 99 a well-formed term, of any size.
-- What it gives a greater number is of no account, since no well-formed term holds such a variable.
abbrev pub IsSubstitution : {D : Type 0} → Words D → (ℕ → Term) → Type 0
IsSubstitution V σ = Below 100 (λ x. Formed V.count V.arity (σ x))
