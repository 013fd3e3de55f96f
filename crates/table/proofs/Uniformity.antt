-- Each composed row has as many arguments as the row that numbers its class: by other names for the same rows and classes.
use Rattle.std.proofs.Common.{◌≡◌, ℕ, List, sym, subst}
use Rattle.table.specs.Joining.{Uniform}
use Rattle.unification.specs.Sheets.{Row}

pub uniform_moved : {rows after : List Row} {n m : ℕ} {c d : List ℕ} → after ≡ rows → m ≡ n → d ≡ c → Uniform rows n c → Uniform after m d
uniform_moved {rows} {after} {n} {m} {c} {d} i j k h =
    subst (λ (z : List Row). Uniform z m d) (sym i) (subst (λ (z : ℕ). Uniform rows z d) (sym j) (subst (λ (z : List ℕ). Uniform rows n z) (sym k) h))
