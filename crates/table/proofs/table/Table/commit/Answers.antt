use Rattle.std.proofs.Common.{refl}
use Rattle.table.proofs.Equated.{facts_after, put_down}
use Rattle.table.proofs.Facts.{facts_moved}
use Rattle.table.proofs.table.Table.commit.Goals as goal
use Rattle.table.specs.Sheets.{sheet_of}
use Rattle.rows.specs.Stored.{equation_of}
use Rattle.unification.specs.Sheets.{equated}

pub returns-clause-sheet : goal.returns-clause-sheet
returns-clause-sheet c = put_down c.args.self.now c.args.e c.push.new.self c.push.ensures

pub invariant_of-self : goal.invariant_of-self
invariant_of-self c =
    let t = c.args.self.now in
    let k = c.args.classes.now.of in
    let d = c.args.depths.now.of in
    let f =
    facts_moved (equated (sheet_of t.rows t.equations) (equation_of c.args.e)) (sheet_of t.rows c.push.new.self) k k d d
    (put_down t c.args.e c.push.new.self c.push.ensures) refl refl
    (facts_after t c.args.e c.requires.between k c.requires.represents d c.requires.deep) in
    record { coherent = f.coherent; represents = f.represents; falls = f.falls; within = f.within; shallow = f.shallow }
