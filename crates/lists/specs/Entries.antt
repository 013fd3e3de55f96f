use Rattle.std.specs.Prelude.{ℕ, List as Values, take}
use Rattle.lists.specs.declared.list.List.{List}

-- What a list holds: its first items, as many as its length says.
abbrev pub entries : {T : Type 0} {n : ℕ} → List T n → Values T
entries l = take l.len l.items
