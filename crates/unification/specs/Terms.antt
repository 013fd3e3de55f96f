use Rattle.std.specs.Prelude.{◌≡◌, ℕ, suc, ◌<◌}

-- A first-order term: a variable by its label, or a word applied to a list of terms, its arguments.
mutual
  pub data Term : Type 0 where
    var : ℕ → Term
    app : ℕ → Terms → Term

  pub data Terms : Type 0 where
    nil : Terms
    cons : Term → Terms → Terms

-- How many terms a list has.
abbrev pub size : Terms → ℕ
size nil = 0
size (cons t ts) = suc (size ts)

-- A term over `count` words with their arities: its labels are 0 to 99, and each word has as many arguments as its arity.
module _ (count : ℕ) (arity : ℕ → ℕ) where
  abbrev mutual
    pub Formed : Term → Type 0
    Formed (var x) = x < 100
    Formed (app f ts) = (f < count) × (size ts ≡ arity f) × AllFormed ts

    pub AllFormed : Terms → Type 0
    AllFormed nil = Unit {0}
    AllFormed (cons t ts) = Formed t × AllFormed ts
