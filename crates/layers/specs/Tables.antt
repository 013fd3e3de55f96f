use Rattle.layers.specs.Dialects.{Entries, listed}
use Rattle.layers.specs.declared.table.Table.{Table}
use Rattle.lists.specs.Entries.{entries}

-- The words that a table holds.
abbrev pub tabled : Table → Entries
tabled t = listed (entries t.entries)
