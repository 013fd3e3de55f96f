use Rattle.std.specs.Prelude.{ℕ, List, ◌++◌, codes, decimal}
use Rattle.layout.specs.Places.{spelling_at}
use Rattle.layout.specs.declared.causes.EntryFault.{EntryFault}
use Rattle.layout.specs.declared.causes.EntryFault.TheVariants.{Cut, Arity, Length as SpellingLength, Spelling, Repeated}
use Rattle.layout.specs.declared.causes.FormFault.{FormFault}
use Rattle.layout.specs.declared.causes.FormFault.TheVariants.{Short, Length, Version, Kind, Count, Entry, TableCut, LeftOver}

-- What is told where word i is spelled s, as word j before it is.
abbrev pub repeated_sentence : ℕ → ℕ → List ℕ → List ℕ
repeated_sentence i j s =
    codes "Word " ++ (decimal i ++ (codes " is spelled " ++ (s ++ (codes ", as word " ++ (decimal j ++ codes " is.")))))

-- What is told of a fault in the entry of word i.
abbrev pub entry_sentence : List ℕ → ℕ → EntryFault → List ℕ
entry_sentence B i Cut = codes "The book ends within the entry of word " ++ (decimal i ++ codes ".")
entry_sentence B i Arity = codes "Word " ++ (decimal i ++ codes " takes more than 6 arguments.")
entry_sentence B i SpellingLength = codes "The spelling of word " ++ (decimal i ++ codes " has no character, or more than 16.")
entry_sentence B i Spelling =
    codes "The spelling of word " ++ (decimal i ++ codes " is no small letter followed by small letters, digits and hyphens.")
entry_sentence B i (Repeated j) = repeated_sentence i j (spelling_at B j)

-- What is told of a fault in the form of a book.
abbrev pub form_sentence : List ℕ → FormFault → List ℕ
form_sentence B Short = codes "A book has at least 5 bytes."
form_sentence B Length = codes "The first two bytes do not say how many bytes come after them."
form_sentence B (Version v) = codes "Version " ++ (decimal v ++ codes " is unknown; version 1 is known.")
form_sentence B (Kind k) = codes "Kind " ++ (decimal k ++ codes " is unknown; 1 is marks, 2 is lines.")
form_sentence B (Count n) = codes "A book has 1 to 128 words, not " ++ (decimal n ++ codes ".")
form_sentence B (Entry i fault) = entry_sentence B i fault
form_sentence B TableCut = codes "The book ends before its table of likenesses does."
form_sentence B LeftOver = codes "Bytes are left over behind the table of likenesses."
