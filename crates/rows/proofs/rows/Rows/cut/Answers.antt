use Rattle.std.proofs.Common.{map, sym, ap, subst, ◌∙◌}
use Rattle.std.proofs.lemmas.List.{take-map}
use Rattle.lists.specs.Entries.{entries}
use Rattle.rows.proofs.Places.{lower_cut, slots_cut}
use Rattle.rows.proofs.rows.Rows.cut.Goals as goal
use Rattle.rows.specs.Stored.{Lower, Slots, row_of, rows_of}

pub returns : goal.returns
returns c = ap (map row_of) c.truncate.ensures ∙ sym (take-map row_of c.args.n (entries c.args.self.now.items))

pub invariant_of-self : goal.invariant_of-self
invariant_of-self c =
    let t = c.args.self.now in
    let e = ap (map row_of) c.truncate.ensures ∙ sym (take-map row_of c.args.n (entries t.items)) in
    record {
      slots = subst Slots (sym c.truncate.ensures) (slots_cut (entries t.items) c.args.n t.slots);
      lower = subst Lower (sym e) (lower_cut (rows_of t.items) c.args.n t.lower);
    }
