use Rattle.std.specs.Prelude.{length, Ok, Err, Result}
use Rattle.table.specs.Joining.{Uniform, Unlike}
use Rattle.rows.specs.Stored.{at}
use Rattle.table.specs.declared.causes.Unequal.{Unequal}
use Rattle.rows.specs.declared.numbers.Numbers.{Numbers}
use Rattle.unification.specs.Sheets.{Sheet}
use Rattle.unification.specs.Tables.{Represents}

-- What joining answers about the sheet s: the representative of each row, where each composed row has as many arguments as its
-- representative; or two composed rows in the closure with different numbers of arguments.
abbrev pub JoinGives : Sheet → Result Numbers Unequal → Type 0
JoinGives s (Ok c) = Represents s (at c.of) × Uniform s.rows (length s.rows) c.of
JoinGives s (Err u) = Unlike s u.left u.right
