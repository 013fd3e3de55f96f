use Rattle.std.proofs.Common.{ℕ, List, length, subst, rules, tests}
use Rattle.rows.specs.declared.numbers.Numbers.{Numbers}
use Rattle.std.specs.Prelude.{Ok, Err, Result, MatchResult}
use Rattle.std.specs.Result.{result_ok}
use Rattle.table.proofs.Equated.{after, cycle_after, deep_after, within_after}
use Rattle.table.proofs.table.Table.deepen.Goals as goal
use Rattle.table.specs.Deepening.{Settled, Stuck}
use Rattle.table.specs.Equating.{Deep, DeepenAnswers}
use Rattle.unification.specs.Closures.{Cycle}
use Rattle.unification.specs.Sheets.{Sheet}

-- Settled depths are depths of the sheet, and a row that gets none is on a cycle.
answered : (s : Sheet) (k : List ℕ) → ((d : List ℕ) → Settled s.rows (length s.rows) k d → Deep s k d) → ((p : ℕ) → Stuck s.rows (length s.rows) k p → Cycle s) → (r : Result Numbers ℕ) → MatchResult r (λ d. Settled s.rows (length s.rows) k d.of) (Stuck s.rows (length s.rows) k) → DeepenAnswers s k (result_ok r)
answered s k deep cycle (Ok d) h = deep d.of h
answered s k deep cycle (Err p) h = cycle p h

pub invariant_of-classing : goal.invariant_of-classing
invariant_of-classing c = record { within = within_after c.args.self.now c.args.e c.requires.between c.args.classes.now.of c.requires.represents }

pub returns : goal.returns
returns c =
    let t = c.args.self.now in
    let k = c.args.classes.now.of in
    subst (DeepenAnswers (after t c.args.e c.requires.between) k) (search (rules, tests))
    (answered (after t c.args.e c.requires.between) k (λ d. deep_after t c.args.e c.requires.between k c.requires.represents d c.requires.uniform) (cycle_after t c.args.e c.requires.between k c.requires.represents) c.deepen.result c.deepen.ensures)
