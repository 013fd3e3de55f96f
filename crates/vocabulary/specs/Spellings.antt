use Rattle.std.specs.Prelude.{◌≡◌, ℕ, ◌≤◌, Bool, true, ◌&&◌, ◌||◌, List, length, Some, Option, ◌==◌, nat_le, nat_lt, slice_index}
use Rattle.fault.specs.Firsts.{Below}

-- Whether the character c may stand at place k of a spelling: a small letter, or after the first place a digit or a hyphen.
abbrev pub fits : ℕ → ℕ → Bool
fits k c = (nat_le 97 c && nat_le c 122) || (nat_lt 0 k && ((nat_le 48 c && nat_le c 57) || c == 45))

-- Each character may stand at its place.
abbrev pub Signs : List ℕ → Type 0
Signs s = Below (length s) (λ k. fits k (slice_index s k) ≡ true)

-- A spelling: 1 to 16 characters, each of which may stand at its place.
pub record IsSpelling (s : List ℕ) : Type 0 where
  pub some : 1 ≤ length s
  pub short : length s ≤ 16
  pub signs : Signs s

-- When two spellings are the same.
abbrev pub SameSpelling : List ℕ → List ℕ → Type 0
SameSpelling s t = s ≡ t

-- The word w is spelled s.
pub record Spells (spellings : ℕ → Option (List ℕ)) (w : ℕ) (s : List ℕ) : Type 0 where
  pub written : List ℕ
  pub has : spellings w ≡ Some written
  pub same : SameSpelling written s

-- The laws of a lexicon: what it says is a spelling, and no two words have the same.
pub record IsLexicon (spellings : ℕ → Option (List ℕ)) : Type 0 where
  pub formed : (w : ℕ) (s : List ℕ) → spellings w ≡ Some s → IsSpelling s
  pub single : (v w : ℕ) (s : List ℕ) → Spells spellings v s → Spells spellings w s → v ≡ w
