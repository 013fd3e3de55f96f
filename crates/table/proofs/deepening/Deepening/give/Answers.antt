use Rattle.std.proofs.Common.{◌≡◌, ℕ, ◌+◌, List, length, sym, subst}
use Rattle.rows.proofs.Places.{long}
use Rattle.rows.specs.Stored.{rows_of}
use Rattle.table.proofs.Deeps.{heights_more, missing_falls}
use Rattle.table.proofs.deepening.Deepening.give.Goals as goal
use Rattle.table.specs.Deepening.{Heights, missing}

pub invariant_of-self : goal.invariant_of-self
invariant_of-self c =
    let t = c.args.self.now in
    let k = t.classing in
    let rows = rows_of k.rows.now.items in
    record {
      heights =
          subst (λ (z : List ℕ). Heights rows (length rows) k.classes.of z (t.next + 1)) (sym c.put.ensures)
          (heights_more rows (length rows) k.classes.of k.rows.now.lower k.within t.depths.of t.next c.args.p (long k.rows.now t.depths) t.heights c.requires.row c.requires.none c.requires.ready);
    }

pub returns-clause-missing : goal.returns-clause-missing
returns-clause-missing c =
    let t = c.args.self.now in
    let n = length (rows_of t.classing.rows.now.items) in
    subst (λ (z : List ℕ). missing z n + 1 ≡ missing t.depths.of n) (sym c.put.ensures)
    (missing_falls t.depths.of c.args.p t.next n c.requires.row (long t.classing.rows.now t.depths) c.requires.none t.heights.positive)
