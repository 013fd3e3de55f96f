use Rattle.std.specs.Prelude.{◌≡◌, ℕ, Bool, Some, Decides, Option}
use Rattle.std.specs.Option.{unwrap_or}

-- What a scale is made of: its greatest degree, its least, the meet of two, whether two are equal, and the degree that a number is the code of.
pub record Operations (D : Type 0) : Type 0 where
  pub top : D
  pub bottom : D
  pub meet : D → D → D
  pub same : D → D → Bool
  pub decoded : ℕ → Option D

-- The laws of a scale: a meet-semilattice with a top and a bottom that differ, and an exact test of equality. There is no other.
pub record IsScale {D : Type 0} (S : Operations D) : Type 0 where
  pub comm : (a b : D) → S.meet a b ≡ S.meet b a
  pub assoc : (a b c : D) → S.meet (S.meet a b) c ≡ S.meet a (S.meet b c)
  pub idem : (a : D) → S.meet a a ≡ a
  pub unit : (a : D) → S.meet S.top a ≡ a
  pub zero : (a : D) → S.meet S.bottom a ≡ S.bottom
  pub apart : S.bottom ≡ S.top → ⊥
  pub exact : (a b : D) → Decides (S.same a b) (a ≡ b)

-- Degree d is at most e: their meet is d.
abbrev pub AtMost : {D : Type 0} → Operations D → D → D → Type 0
AtMost S d e = S.meet d e ≡ d

-- The degree that a number is read as: the one it is the code of, and bottom where it is no code.
abbrev pub degree_of : {D : Type 0} → Operations D → ℕ → D
degree_of S n = unwrap_or (S.decoded n) S.bottom

-- n is the one code of d.
pub record IsCode {D : Type 0} (S : Operations D) (d : D) (n : ℕ) : Type 0 where
  pub decodes : S.decoded n ≡ Some d
  pub only : (m : ℕ) → S.decoded m ≡ Some d → m ≡ n
