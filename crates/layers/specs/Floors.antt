use Rattle.std.specs.Prelude.{◌≡◌, cond}
use Rattle.scale.specs.Scales.{Operations, AtMost}
use Rattle.vocabulary.specs.Words.{Words}

-- What the floor d leaves of a degree: one that is at least d stays, any other becomes bottom.
abbrev pub left_of : {D : Type 0} → Operations D → D → D → D
left_of S d x = cond (S.same (S.meet d x) d) x S.bottom

-- What a vocabulary says over a floor of degree d.
abbrev pub floored : {D : Type 0} → Operations D → D → Words D → Words D
floored S d V = record { count = V.count; arity = V.arity; likeness = λ f g. left_of S d (V.likeness f g) }

-- The same in words: what the floor d leaves of a likeness.
pub record Cut {D : Type 0} (S : Operations D) (d likeness left : D) : Type 0 where
  pub stays : AtMost S d likeness → left ≡ likeness
  pub falls : (AtMost S d likeness → ⊥) → left ≡ S.bottom
