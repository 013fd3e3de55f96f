use Rattle.std.specs.Prelude.{◌≡◌, ℕ, ◌+◌, ◌<◌, ◌≤◌, ◌⊎◌, List, length}
use Rattle.fault.specs.Firsts.{Below}
use Rattle.vocabulary.specs.Spellings.{Signs, SameSpelling}
use Rattle.layout.specs.Places.{arity_at, entry_end, entry_start, size_at, spelling_at}
use Rattle.layout.specs.declared.causes.EntryFault.{EntryFault}
use Rattle.layout.specs.declared.causes.EntryFault.TheVariants.{Cut, Arity, Length, Spelling, Repeated}

-- Word k is spelled otherwise than s.
abbrev pub Differs : List ℕ → List ℕ → ℕ → Type 0
Differs B s k = SameSpelling (spelling_at B k) s → ⊥

-- Word j is the first of n words that is spelled s.
pub record FirstSpelled (B : List ℕ) (n : ℕ) (s : List ℕ) (j : ℕ) : Type 0 where
  pub within : j < n
  pub same : SameSpelling (spelling_at B j) s
  pub before : Below j (Differs B s)

-- The entry of word i is there to its end.
abbrev pub Present : List ℕ → ℕ → Type 0
Present B i = entry_end B (entry_start B i) ≤ length B

-- The entry of word i is there, and right.
pub record GoodEntry (B : List ℕ) (i : ℕ) : Type 0 where
  pub arity : arity_at B i ≤ 6
  pub some : 1 ≤ size_at B i
  pub short : size_at B i ≤ 16
  pub present : Present B i
  pub signs : Signs (spelling_at B i)
  pub fresh : Below i (Differs B (spelling_at B i))

-- The spelling of word i has 1 to 16 characters.
abbrev pub Sized : List ℕ → ℕ → Type 0
Sized B i = (1 ≤ size_at B i) × (size_at B i ≤ 16)

-- What is wrong first with the entry of word i, from its front: each part has to be there before it can be right.
abbrev pub BadEntry : List ℕ → ℕ → EntryFault → Type 0
BadEntry B i Cut =
    (length B ≤ entry_start B i) ⊎
    (((length B ≡ entry_start B i + 1) × (arity_at B i ≤ 6)) ⊎
    ((entry_start B i + 1 < length B) × (arity_at B i ≤ 6) × Sized B i × (length B < entry_end B (entry_start B i))))
BadEntry B i Arity = (entry_start B i < length B) × (6 < arity_at B i)
BadEntry B i Length = (entry_start B i + 1 < length B) × (arity_at B i ≤ 6) × (Sized B i → ⊥)
BadEntry B i Spelling = Present B i × (arity_at B i ≤ 6) × Sized B i × (Signs (spelling_at B i) → ⊥)
BadEntry B i (Repeated j) =
    Present B i × (arity_at B i ≤ 6) × Sized B i × Signs (spelling_at B i) × FirstSpelled B i (spelling_at B i) j
