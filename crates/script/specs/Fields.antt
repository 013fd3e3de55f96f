use Rattle.std.specs.Prelude.{◌≡◌, ℕ, ◌<◌, ◌≤◌, List, [], ◌∷◌, ◌++◌, length, decimal, ◌≢◌, slice_index}

-- The numbers that a script can name.
abbrev pub IsNumber : ℕ → Type 0
IsNumber n = n ≤ 65535

abbrev pub AllNumbers : List ℕ → Type 0
AllNumbers [] = Unit {0}
AllNumbers (n ∷ ns) = IsNumber n × AllNumbers ns

-- Numbers as fields of a line: each in decimal behind one blank, with no leading zero.
abbrev pub fields : List ℕ → List ℕ
fields [] = []
fields (n ∷ ns) = 32 ∷ (decimal n ++ fields ns)

-- The bytes hold no blank.
abbrev pub Solid : List ℕ → Type 0
Solid [] = Unit {0}
Solid (b ∷ bs) = (b ≢ 32) × Solid bs

-- The bytes are none, or begin with a blank.
abbrev pub Parted : List ℕ → Type 0
Parted [] = Unit {0}
Parted (b ∷ bs) = b ≡ 32

-- The bytes are a front without a blank, and a rest that is parted from it.
pub record Split (bytes front rest : List ℕ) : Type 0 where
  pub whole : bytes ≡ front ++ rest
  pub solid : Solid front
  pub parted : Parted rest

-- There are bytes, and no sign and no needless zero stands in front.
abbrev pub Plain : List ℕ → Type 0
Plain ds = (0 < length ds) × (slice_index ds 0 ≢ 43) × (slice_index ds 0 ≡ 48 → length ds ≡ 1)

-- The bytes begin with a field that holds the number n, and the rest stands behind it.
pub record Field (bytes : List ℕ) (n : ℕ) (rest : List ℕ) : Type 0 where
  pub number : IsNumber n
  pub first : bytes ≡ 32 ∷ (decimal n ++ rest)
  pub parted : Parted rest

-- The bytes are fields of numbers.
abbrev pub Rows : List ℕ → Type 0
Rows bytes = (ns : List ℕ) × AllNumbers ns × (bytes ≡ fields ns)
