use Rattle.std.specs.Prelude.{◌≡◌, ℕ, List, [], ◌∷◌, ◌++◌}
use mathlib.Core.List.{Memᴰ}
use Rattle.scale.specs.Scales.{Operations, AtMost}
use Rattle.vocabulary.specs.Words.{Words}

-- x is one of the list.
abbrev pub Member : {A : Type 0} → A → List A → Type 0
Member x xs = Memᴰ x xs

module _ {D : Type 0} (S : Operations D) (V : Words D) where
  -- The meet of the likenesses of f to each of some words; top for none.
  abbrev pub likeness_to : ℕ → List ℕ → D
  likeness_to f [] = S.top
  likeness_to f (g ∷ gs) = S.meet (V.likeness f g) (likeness_to f gs)

  -- The meet of the likenesses of each of some words to each of others; top for none.
  abbrev pub likeness_between : List ℕ → List ℕ → D
  likeness_between [] gs = S.top
  likeness_between (f ∷ fs) gs = S.meet (likeness_to f gs) (likeness_between fs gs)

  -- The degree of a class of words: the meet of the likenesses of every two of its members; top for the empty class.
  abbrev pub class_degree : List ℕ → D
  class_degree fs = likeness_between fs fs

  -- Every two words of the class are alike at d or more.
  abbrev pub InPairs : List ℕ → D → Type 0
  InPairs fs d = (f g : ℕ) → Member f fs → Member g fs → AtMost S d (V.likeness f g)

  -- What is known of the degrees of classes of words.
  pub record ClassDegrees : Type 0 where
    -- it is the greatest degree at which the members are alike in pairs
    pub pairs : (fs : List ℕ) → InPairs fs (class_degree fs)
    pub greatest : (fs : List ℕ) (d : D) → InPairs fs d → AtMost S d (class_degree fs)
    -- to know it, one member is enough, whichever: it is the meet of the likenesses to that one
    pub any : (fs : List ℕ) (f : ℕ) → Member f fs → class_degree fs ≡ likeness_to f fs
    pub none : class_degree [] ≡ S.top
    -- classes with a common member have, united, the meet of their degrees
    pub united : (fs gs : List ℕ) (f : ℕ) → Member f fs → Member f gs → class_degree (fs ++ gs) ≡ S.meet (class_degree fs) (class_degree gs)
