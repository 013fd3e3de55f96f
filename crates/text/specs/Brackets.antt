use Rattle.std.specs.Prelude.{◌≡◌, ℕ, ◌+◌, ◌≤◌, List, take, count_by, nat_eq, slice_index}
use Rattle.text.specs.Limits.{deepest}

-- How often the byte b stands in the bytes.
abbrev pub often : ℕ → List ℕ → ℕ
often b xs = count_by (λ x. nat_eq x b) xs

-- If `(` stands at place i, at most 31 brackets are open with it: `(` less `)`, which may be more.
abbrev pub Shallow : List ℕ → ℕ → Type 0
Shallow text i = slice_index text i ≡ 40 → often 40 (take (i + 1) text) ≤ often 41 (take (i + 1) text) + deepest
