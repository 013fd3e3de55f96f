use Rattle.std.specs.Prelude.{◌≡◌, ℕ, zero, suc, ◌<◌, cond, ◌⊎◌, ◌==◌, ◌≢◌}
use Rattle.scale.specs.Scales.{Operations, degree_of}
use Rattle.vocabulary.specs.Words.{Words}
use Rattle.tree.specs.Families.{Family}

-- The degree of word i: how much it is alike to its parent.
abbrev pub degree : {D : Type 0} → Operations D → Family → ℕ → D
degree S F i = degree_of S (F.code i)

-- From word f one comes up to a, from parent to parent; d is the meet of the degrees of the words left on the way.
pub data Climb {D : Type 0} (S : Operations D) (F : Family) : ℕ → ℕ → D → Type 0 where
  stay : {f : ℕ} → f < F.count → Climb S F f f S.top
  rise : {f a : ℕ} {d : D} → f < F.count → (F.parent f ≢ f) → Climb S F (F.parent f) a d → Climb S F f a (S.meet (degree S F f) d)

-- The path between f and g, and the meet d of the degrees on it: up from both to the lowest word that both come to.
pub record Path {D : Type 0} (S : Operations D) (F : Family) (f g : ℕ) (d : D) : Type 0 where
  pub summit : ℕ
  pub left : D
  pub right : D
  pub from_left : Climb S F f summit left
  pub from_right : Climb S F g summit right
  -- every other word that both come to lies above it
  pub lowest : (a : ℕ) (x y : D) → Climb S F f a x → Climb S F g a y → (z : D) × Climb S F summit a z
  pub is : d ≡ S.meet left right

-- There is no path: no word is above both.
abbrev pub Apart : {D : Type 0} → Operations D → Family → ℕ → ℕ → Type 0
Apart {D} S F f g = (a : ℕ) (x y : D) → Climb S F f a x → Climb S F g a y → ⊥

-- The likeness d of f and g: the meet of the degrees on the path between them, and bottom where there is none.
abbrev pub IsLikeness : {D : Type 0} → Operations D → Family → ℕ → ℕ → D → Type 0
IsLikeness S F f g d = Path S F f g d ⊎ (Apart S F f g × (d ≡ S.bottom))

-- The same as a function: how much f and g are alike among the words below n, which come one after another.
-- The newest word k is wholly alike to itself, and to an earlier word as much as its parent is and as its own degree says.
-- A root is its own parent, no earlier word: so it is alike to no earlier word at all.
unfoldable pub like_below : {D : Type 0} → Operations D → Family → ℕ → ℕ → ℕ → D
like_below S F zero f g = S.bottom
like_below S F (suc k) f g =
    cond (f == k) (cond (g == k) S.top (S.meet (degree S F k) (like_below S F k (F.parent k) g)))
    (cond (g == k) (S.meet (degree S F k) (like_below S F k (F.parent k) f)) (like_below S F k f g))

-- What a family tree says of its words.
abbrev pub tree_words : {D : Type 0} → Operations D → Family → Words D
tree_words S F = record { count = F.count; arity = F.arity; likeness = like_below S F F.count }
