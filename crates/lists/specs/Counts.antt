use Rattle.std.specs.Prelude.{ℕ, ◌≤◌}

-- A number of words that may be: 1 to 128.
abbrev pub Counted : ℕ → Type 0
Counted n = (1 ≤ n) × (n ≤ 128)
