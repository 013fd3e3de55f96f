-- Checks made in an order: which of them fails first, and that at most one fault can be told of it.
use Rattle.std.proofs.Common.{◌≡◌, ◌⊎◌, inl, inr}

-- A list of checks: what each asks, and what the fault is where it is the first to fail.
pub data Checks (F : Type 0) : Type 1 where
  done : Checks F
  check : (P : Type 0) → (F → Type 0) → Checks F → Checks F

module _ {F : Type 0} where
  -- All checks pass.
  abbrev pub Passes : Checks F → Type 0
  Passes done = Unit {0}
  Passes (check P E rest) = P × Passes rest

  -- f is the fault of the first check that fails.
  abbrev pub Fails : Checks F → F → Type 0
  Fails done f = ⊥
  Fails (check P E rest) f = ((P → ⊥) × E f) ⊎ (P × Fails rest f)

  -- No check has two faults.
  abbrev pub Single : Checks F → Type 0
  Single done = Unit {0}
  Single (check P E rest) = ((f g : F) → E f → E g → f ≡ g) × Single rest

  pub fails_once : (c : Checks F) → Single c → (f g : F) → Fails c f → Fails c g → f ≡ g
  fails_once done s f g a b = absurd a
  fails_once (check P E rest) s f g (inl a) (inl b) = s.0 f g a.1 b.1
  fails_once (check P E rest) s f g (inl a) (inr b) = absurd (a.0 b.0)
  fails_once (check P E rest) s f g (inr a) (inl b) = absurd (b.0 a.0)
  fails_once (check P E rest) s f g (inr a) (inr b) = fails_once rest s.1 f g a.1 b.1

  pub passes_none : (c : Checks F) (f : F) → Passes c → Fails c f → ⊥
  passes_none done f p a = a
  passes_none (check P E rest) f p (inl a) = a.0 p.0
  passes_none (check P E rest) f p (inr a) = passes_none rest f p.1 a.1
