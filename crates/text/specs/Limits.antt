use Rattle.std.specs.Prelude.{ℕ}

-- The most bytes of a text.
abbrev pub longest_text : ℕ
longest_text = 4096

-- The most brackets that may be open at once.
abbrev pub deepest : ℕ
deepest = 31

-- The most characters of a word.
abbrev pub longest_word : ℕ
longest_word = 16

-- How many labels there are: 0 to 99.
abbrev pub labels : ℕ
labels = 100
