use Rattle.std.specs.Prelude.{ℕ, zero, suc, ◌/◌, ◌%◌, ◌^◌, cond, List, [], ◌++◌, codes, decimal, ◌==◌}

-- What f says of 0, 1 and so on up to n - 1, in a row.
unfoldable pub listing : ℕ → (ℕ → List ℕ) → List ℕ
listing zero f = []
listing (suc n) f = listing n f ++ f n

-- A mark is told by its number.
abbrev pub mark_text : ℕ → List ℕ
mark_text m = decimal m

-- What is told of line i of a set: its number where it is in the set, that is, where bit i is set.
abbrev pub line_text : ℕ → ℕ → List ℕ
line_text set i = cond ((set / 2 ^ i % 2) == 1) (codes " " ++ decimal i) []

-- A set of lines is told by its lines.
abbrev pub lines_text : ℕ → List ℕ
lines_text set = codes "lines" ++ listing 16 (line_text set)
