use Rattle.std.proofs.Common.{map, ap, sym, subst, ◌∙◌}
use Rattle.std.proofs.lemmas.List.{map_push}
use Rattle.lists.specs.Entries.{entries}
use Rattle.rows.proofs.Places.{lower_pushed, slots_pushed}
use Rattle.rows.proofs.rows.Rows.push.Goals as goal
use Rattle.rows.specs.Stored.{Lower, Slots, row_of, rows_of}

pub invariant_of-self : goal.invariant_of-self
invariant_of-self c =
    let t = c.args.self.now in
    let e = ap (map row_of) c.push.ensures ∙ map_push row_of (entries t.items) c.args.row in
    record {
      slots = subst Slots (sym c.push.ensures) (slots_pushed (entries t.items) c.args.row t.slots c.requires.slots);
      lower = subst Lower (sym e) (lower_pushed (rows_of t.items) (row_of c.args.row) t.lower c.requires.lower);
    }
