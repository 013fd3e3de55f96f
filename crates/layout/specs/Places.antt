use Rattle.std.specs.Prelude.{ℕ, zero, suc, ◌+◌, ◌*◌, cond, ◌&&◌, List, length, Some, None, Option, nat_le, nat_lt, slice_index}
use Rattle.std.specs.List.{between}
use Rattle.vocabulary.specs.Words.{known}

-- The number that two bytes write, the higher first.
abbrev pub pair : List ℕ → ℕ → ℕ
pair B at = 256 * slice_index B at + slice_index B (at + 1)

-- The header: the length (bytes 0 and 1), then one byte each for the version, the kind and the count of words.
abbrev pub version_of : List ℕ → ℕ
version_of B = slice_index B 2

abbrev pub kind_of : List ℕ → ℕ
kind_of B = slice_index B 3

abbrev pub count_of : List ℕ → ℕ
count_of B = slice_index B 4

-- Where the entry that begins at `at` ends: one byte of arity, one of spelling length, the spelling.
abbrev pub entry_end : List ℕ → ℕ → ℕ
entry_end B at = at + 2 + slice_index B (at + 1)

-- Where the entry of word i begins: the first behind the header, each other where the one before it ends.
abbrev pub entry_start : List ℕ → ℕ → ℕ
entry_start B zero = 5
entry_start B (suc i) = entry_end B (entry_start B i)

-- The arity of word i.
abbrev pub arity_at : List ℕ → ℕ → ℕ
arity_at B i = slice_index B (entry_start B i)

-- How long the spelling of word i is.
abbrev pub size_at : List ℕ → ℕ → ℕ
size_at B i = slice_index B (entry_start B i + 1)

-- The spelling of word i.
abbrev pub spelling_at : List ℕ → ℕ → List ℕ
spelling_at B i = between (entry_start B i + 2) (entry_end B (entry_start B i)) B

-- Where the table begins: behind the last entry.
abbrev pub table_start : List ℕ → ℕ
table_start B = entry_start B (count_of B)

-- The number that the table has for the words i and j: row by row, two bytes each.
unfoldable pub code_at : List ℕ → ℕ → ℕ → ℕ
code_at B i j = pair B (table_start B + 2 * (i * count_of B + j))

-- What the table has for two numbers; nothing where one of them is no word.
abbrev pub code_of : List ℕ → ℕ → ℕ → Option ℕ
code_of B i j = cond (nat_lt i (count_of B) && nat_lt j (count_of B)) (Some (code_at B i j)) None

-- The spelling of a number; nothing where it is no word.
abbrev pub spelling_of : List ℕ → ℕ → Option (List ℕ)
spelling_of B = known (count_of B) (spelling_at B)

-- The spelling in the entry of word i, where the bytes hold that entry to its end.
abbrev pub spelling_in : List ℕ → ℕ → Option (List ℕ)
spelling_in B i = cond (nat_le (entry_end B (entry_start B i)) (length B)) (Some (spelling_at B i)) None
