-- A fresh sheet.
use Rattle.std.proofs.Common.{◌≡◌, ℕ, arith}
use Rattle.unification.specs.Closures.{IsDepth}
use Rattle.unification.specs.Sheets.{fresh}
use Rattle.unification.specs.Tables.{Represents}

pub fresh_represents : (of : ℕ → ℕ) → Represents fresh of
fresh_represents of p h = absurd (omega arith)

pub fresh_depth : (depth : ℕ → ℕ) → IsDepth fresh depth
fresh_depth depth p q a = let h = a.is in let z : ◌≡◌ {A = ℕ} 0 1 = cc in absurd (omega arith)
