use Rattle.std.specs.Prelude.{ℕ, ◌+◌, cond, List, [], ◌∷◌, Some, None, Option, nat_lt}

-- Words 0 to 5 are spelled a to f.
abbrev pub letters : ℕ → Option (List ℕ)
letters w = cond (nat_lt w 6) (Some ((97 + w) ∷ [])) None
