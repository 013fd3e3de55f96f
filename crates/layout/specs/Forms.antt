use Rattle.std.specs.Prelude.{◌≡◌, ℕ, ◌+◌, ◌*◌, ◌<◌, ◌≤◌, ◌⊎◌, List, length, ◌≢◌}
use Rattle.fault.specs.Firsts.{Below}
use Rattle.layout.specs.Entries.{BadEntry, GoodEntry}
use Rattle.layout.specs.Places.{count_of, kind_of, pair, table_start, version_of}
use Rattle.layout.specs.declared.causes.FormFault.{FormFault}
use Rattle.layout.specs.declared.causes.FormFault.TheVariants.{Short, Length, Version, Kind, Count, Entry, TableCut, LeftOver}

-- There are five bytes, and the first two say how many come after them.
abbrev pub Framed : List ℕ → Type 0
Framed B = (5 ≤ length B) × (pair B 0 + 2 ≡ length B)

-- Kind 1 is marks, kind 2 is lines.
abbrev pub KnownKind : List ℕ → Type 0
KnownKind B = (kind_of B ≡ 1) ⊎ (kind_of B ≡ 2)

-- Where the table ends: the book's words are compared each with each, two bytes a pair.
abbrev pub table_end : List ℕ → ℕ
table_end B = table_start B + 2 * (count_of B * count_of B)

-- The bytes have the form of a book, whatever its table says.
pub record GoodForm (B : List ℕ) : Type 0 where
  pub framed : Framed B
  pub version : version_of B ≡ 1
  pub kind : KnownKind B
  pub some : 1 ≤ count_of B
  pub few : count_of B ≤ 128
  pub entries : Below (count_of B) (GoodEntry B)
  pub filled : table_end B ≡ length B

-- The header is right.
abbrev pub Headed : List ℕ → Type 0
Headed B = Framed B × (version_of B ≡ 1) × KnownKind B × (1 ≤ count_of B) × (count_of B ≤ 128)

-- What is wrong first with the form of a book, from its front: each field has to be there before it can be right.
abbrev pub BadForm : List ℕ → FormFault → Type 0
BadForm B Short = length B < 5
BadForm B Length = (5 ≤ length B) × (pair B 0 + 2 ≢ length B)
BadForm B (Version v) = Framed B × (v ≡ version_of B) × (v ≢ 1)
BadForm B (Kind k) = Framed B × (version_of B ≡ 1) × (k ≡ kind_of B) × (KnownKind B → ⊥)
BadForm B (Count n) =
    Framed B × (version_of B ≡ 1) × KnownKind B × (n ≡ count_of B) × ((1 ≤ n) × (n ≤ 128) → ⊥)
BadForm B (Entry i fault) = Headed B × (i < count_of B) × Below i (GoodEntry B) × BadEntry B i fault
BadForm B TableCut = Headed B × Below (count_of B) (GoodEntry B) × (length B < table_end B)
BadForm B LeftOver = Headed B × Below (count_of B) (GoodEntry B) × (table_end B < length B)
