use Rattle.std.proofs.Common.{sym, subst}
use Rattle.sheet.proofs.sheet.Sheet.degree.Goals as goal
use Rattle.table.specs.Sheets.{sheet_of}
use Rattle.unification.proofs.Tables.{gathered_degree}
use Rattle.unification.specs.Closures.{IsDegree}

pub returns : goal.returns
returns g c =
    let S = g.V.Degree.Scale.operations in
    let t = c.args.self.now.table in
    let V = g.V.Vocabulary.model c.args.self.now.vocabulary.now in
    subst (IsDegree S V (sheet_of t.rows t.equations)) (sym c.gather.ensures)
    (gathered_degree g.met.V.Degree.Scale.lawful (g.met.V.Vocabulary.lawful c.args.self.now.vocabulary.now) c.classes.ensures.represents)
