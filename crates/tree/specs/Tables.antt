use Rattle.lists.specs.Entries.{entries}
use Rattle.tree.specs.Families.{Family}
use Rattle.tree.specs.Words.{words_family}
use Rattle.tree.specs.declared.table.Table.{Table}

-- The family that a table holds.
abbrev pub tabled : Table → Family
tabled t = words_family (entries t.words)
