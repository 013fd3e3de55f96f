use Rattle.std.specs.Prelude.{ℕ}

-- The most rows of a sheet.
abbrev pub most_rows : ℕ
most_rows = 512

-- The most equations of a sheet.
abbrev pub most_equations : ℕ
most_equations = 128

-- The number of labels: a label is 0 or more, and below this.
abbrev pub label_count : ℕ
label_count = 100

-- The most arguments of a row.
abbrev pub most_arguments : ℕ
most_arguments = 6
