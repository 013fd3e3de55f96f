use Rattle.std.proofs.Common.{ℕ, sym, subst, arith}
use Rattle.table.proofs.Hands.{coherent_at_hand, represents_at_hand}
use Rattle.table.proofs.table.Table.representative.Goals as goal
use Rattle.table.specs.Sheets.{sheet_of}
use Rattle.unification.specs.Closures.{Representative}

pub returns : goal.returns
returns c =
    let t = c.args.self.now in
    let p = c.args.p in (
      omega arith,
      subst (λ (z : ℕ). Representative (sheet_of t.rows t.equations) z p) (sym c.of.ensures) (represents_at_hand (coherent_at_hand t.coherent) t.represents p (omega arith)),
    )
