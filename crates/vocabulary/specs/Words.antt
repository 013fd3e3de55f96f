use Rattle.std.specs.Prelude.{◌≡◌, ℕ, ◌≤◌, cond, Some, None, Option, ◌≢◌, nat_lt}
use Rattle.fault.specs.Firsts.{Below}
use Rattle.scale.specs.Scales.{Operations, AtMost}

-- What a vocabulary says: its words are the numbers below `count`; of each how many arguments it takes, of two how much they are alike.
pub record Words (D : Type 0) : Type 0 where
  pub count : ℕ
  pub arity : ℕ → ℕ
  pub likeness : ℕ → ℕ → D

-- The laws of a vocabulary over a scale.
pub record IsVocabulary {D : Type 0} (S : Operations D) (V : Words D) : Type 0 where
  pub some : 1 ≤ V.count
  pub few : V.count ≤ 128
  pub small : Below V.count (λ f. V.arity f ≤ 6)
  -- a word is wholly alike to itself
  pub same : Below V.count (λ f. V.likeness f f ≡ S.top)
  pub symmetric : (f g : ℕ) → V.likeness f g ≡ V.likeness g f
  -- f and h are alike at least as much as f and g, and g and h, are together
  pub transitive : (f g h : ℕ) → AtMost S (S.meet (V.likeness f g) (V.likeness g h)) (V.likeness f h)
  -- words of different arity are not alike at all
  pub typed : Below V.count (λ f. Below V.count (λ g. (V.arity f ≢ V.arity g) → V.likeness f g ≡ S.bottom))
  -- a number that is no word is alike to nothing
  pub outside : (f g : ℕ) → V.count ≤ f → V.likeness f g ≡ S.bottom

-- What is known of a number f, of which only those below n are words.
abbrev pub known : {X : Type 0} → ℕ → (ℕ → X) → ℕ → Option X
known n of f = cond (nat_lt f n) (Some (of f)) None
