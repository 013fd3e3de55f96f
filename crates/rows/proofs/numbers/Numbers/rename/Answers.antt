use Rattle.std.proofs.Common.{ℕ, get_or, ◌∙◌, arith}
use Rattle.rows.specs.Labels.{renamed}
use Rattle.rows.proofs.Renaming.{map_step, renamed_same, renamed_other}
use Rattle.rows.proofs.numbers.Numbers.rename.Goals as goal
use Rattle.rows.proofs.numbers.Numbers.rename.Goals.{then-x-gone, else-x-gone}

pub loop-x-preserved : goal.loop-x-preserved
loop-x-preserved c =
    let f : ℕ → ℕ = renamed c.args.gone c.args.keep in
    let x : ℕ = get_or c.loop-x.x-items c.loop-x.x-index 0 in
    elim c.if-x-gone.branch [
      | then-x-gone w ↦ w.x-items-is ∙ map_step f c.args.self.now.of c.loop-x.x-items c.loop-x.x-index _ (omega arith) (omega arith) c.loop-x.invariant (renamed_same c.args.gone c.args.keep x w.if-x-gone.true)
      | else-x-gone w ↦ w.x-items-is ∙ map_step f c.args.self.now.of c.loop-x.x-items c.loop-x.x-index _ (omega arith) (omega arith) c.loop-x.invariant (renamed_other c.args.gone c.args.keep x w.if-x-gone.false)
    ]
