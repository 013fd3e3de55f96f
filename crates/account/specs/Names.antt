use Rattle.std.specs.Prelude.{ℕ, List, ◌++◌, codes, decimal, Option}
use Rattle.std.specs.Option.{unwrap_or}

-- How a word is named: by its spelling, and where it has none by its number.
abbrev pub name_of : (ℕ → Option (List ℕ)) → ℕ → List ℕ
name_of spellings w = unwrap_or (spellings w) (codes "word " ++ decimal w)
