use Rattle.std.specs.Prelude.{◌≡◌, ℕ, cond, ◌==◌, ◌≢◌}
use Rattle.scale.specs.Scales.{Operations, AtMost}
use Rattle.vocabulary.specs.Words.{Words}
use Rattle.unification.specs.Terms.{Term, Terms, var, app, nil, cons, Formed}

module _ {D : Type 0} (S : Operations D) (V : Words D) where
  abbrev mutual
    -- At what degree two terms are alike. A variable is wholly alike to itself. Two applied words are alike at the meet of the words'
    -- likeness and the likenesses of their arguments, place by place. Any other two terms are not alike at all.
    pub alike : Term → Term → D
    alike (var x) (var y) = cond (x == y) S.top S.bottom
    alike (var x) (app g us) = S.bottom
    alike (app f ts) (var y) = S.bottom
    alike (app f ts) (app g us) = S.meet (V.likeness f g) (all_alike ts us)

    -- The same of two lists of terms, place by place; lists of different length are not alike at all.
    pub all_alike : Terms → Terms → D
    all_alike nil nil = S.top
    all_alike nil (cons u us) = S.bottom
    all_alike (cons t ts) nil = S.bottom
    all_alike (cons t ts) (cons u us) = S.meet (alike t u) (all_alike ts us)

  -- Likeness of terms is a similarity: a well-formed term is wholly alike to itself, the order of two terms is of no account,
  -- and t and v are alike at least as much as t and u, and u and v, are together.
  pub record IsSimilarity : Type 0 where
    pub reflexive : (t : Term) → Formed V.count V.arity t → alike t t ≡ S.top
    pub symmetric : (t u : Term) → alike t u ≡ alike u t
    pub transitive : (t u v : Term) → AtMost S (S.meet (alike t u) (alike u v)) (alike t v)

-- Words are alike only where they are the same word.
abbrev pub Crisp : {D : Type 0} → Operations D → Words D → Type 0
Crisp S V = (f g : ℕ) → (f ≢ g) → V.likeness f g ≡ S.bottom
