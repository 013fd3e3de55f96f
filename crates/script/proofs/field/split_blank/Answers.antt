use Rattle.std.proofs.Common.{sym, subst}
use Rattle.script.specs.Fields.{Solid, Parted}
use Rattle.script.proofs.field.split_blank.Goals as goal

pub returns : goal.returns
returns c = record {
  whole = c.split_at.ensures.by_index.0;
  solid = subst Solid (sym c.split_at.ensures.front) c.first_blank.ensures.solid;
  parted = subst Parted (sym c.split_at.ensures.back) c.first_blank.ensures.parted;
}
