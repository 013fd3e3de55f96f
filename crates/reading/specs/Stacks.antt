use Rattle.std.specs.Prelude.{ℕ, List as Values, reverse}
use Rattle.lists.specs.Entries.{entries}
use Rattle.lists.specs.declared.list.List.{List}
use Rattle.reading.specs.declared.words.OpenWord.{OpenWord}

-- The open words, the innermost first.
abbrev pub innermost : {n : ℕ} → List OpenWord n → Values OpenWord
innermost words = reverse (entries words)

-- The rows of the arguments that an open word has.
abbrev pub given_to : OpenWord → Values ℕ
given_to w = entries w.rows
