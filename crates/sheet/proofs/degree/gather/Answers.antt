use Rattle.std.proofs.Common.{Some, None, sym, ap, ◌∙◌}
use Rattle.sheet.proofs.degree.gather.Goals as goal
use Rattle.sheet.proofs.degree.gather.Goals.{in-Some, in_default}
use Rattle.sheet.proofs.Gathering.{gathered_more}
use Rattle.table.specs.Sheets.{sheet_of}
use Rattle.rows.specs.Stored.{at}

pub loop-p-preserved : goal.loop-p-preserved
loop-p-preserved g c =
    let S = g.V.Degree.Scale.operations in
    let V = g.V.Vocabulary.model c.args.vocabulary.now in
    let s = sheet_of c.args.table.now.rows c.args.table.now.equations in
    let more = gathered_more S V s (at c.args.classes.now.of) c.loop-p.p c.loop-p.degree in
    elim c.match-words_at.branch [
      | in-Some w ↦
          w.degree-is ∙ w.meet-degree.ensures
          ∙ ap (λ d. S.meet d c.loop-p.degree) w.likeness.ensures
          ∙ more (Some (w.in-Some.f, w.in-Some.g)) w.in-Some.ensures c.loop-p.invariant
      | in_default w ↦
          w.degree-is ∙ sym (g.met.V.Degree.Scale.lawful.unit c.loop-p.degree) ∙ more None w.in_default.ensures c.loop-p.invariant
    ]
