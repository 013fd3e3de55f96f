use Rattle.std.specs.Prelude.{ℕ, cond, ◌==◌}

-- x, but `keep` in the place of `gone`.
abbrev pub renamed : ℕ → ℕ → ℕ → ℕ
renamed gone keep x = cond (x == gone) keep x
