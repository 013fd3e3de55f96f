use Rattle.std.proofs.Common.{sym, refl, ◌∙◌}
use Rattle.sheet.proofs.Equated.{no_join, clash_answer, done_answer, occurs_answer}
use Rattle.sheet.proofs.sheet.Sheet.equate.Goals as goal
use Rattle.sheet.specs.Calls.{equation}
use Rattle.scale.proofs.Equality.{apart_by, equal_by}
use Rattle.std.proofs.lemmas.Result.{err_from_is_err_and}
use Rattle.table.specs.Sheets.{sheet_of}

pub returns-in_err-classes : goal.returns-in_err-classes
returns-in_err-classes g c =
    let t = c.args.self.now.table in
    let s = sheet_of t.rows t.equations in
    let e = equation c.args.p c.args.q in
    let p = err_from_is_err_and c.from_residual.result c.from_residual.ensures.1 in
    let a = no_join g.met.V.Degree.Scale.lawful (g.met.V.Vocabulary.lawful c.args.self.now.vocabulary.now) s e c.in_err-classes.field-0.0 c.in_err-classes.ensures in
    rw (p.1, p.2) (record { answer = a.0; possible = a.1; kept = refl; vocabulary = refl })

pub returns-then-eq : goal.returns-then-eq
returns-then-eq g c =
    let t = c.args.self.now.table in
    let s = sheet_of t.rows t.equations in
    let e = equation c.args.p c.args.q in
    let a =
    clash_answer g.met.V.Degree.Scale.lawful (g.met.V.Vocabulary.lawful c.args.self.now.vocabulary.now) s e c.in_ok-classes.classes c.in_ok-classes.ensures c.gather.result c.gather.ensures
    (equal_by g.met.V.Degree.Scale.lawful g.met.V.Degree.Scale.equal c.eq.ensures c.if-eq.true ∙ c.bottom.ensures) in
    record { answer = a.0; possible = a.1; kept = refl; vocabulary = refl }

pub returns : goal.returns
returns g c =
    let t = c.args.self.now.table in
    let s = sheet_of t.rows t.equations in
    let e = equation c.args.p c.args.q in
    let a =
    done_answer g.met.V.Degree.Scale.lawful (g.met.V.Vocabulary.lawful c.args.self.now.vocabulary.now) s e c.in_ok-classes.classes c.in_ok-classes.ensures c.gather.result c.gather.ensures
    (λ h. apart_by g.met.V.Degree.Scale.lawful g.met.V.Degree.Scale.equal c.eq.ensures c.if-eq.false (h ∙ sym c.bottom.ensures)) c.in-Some.ensures.falls (sheet_of c.commit.new.self.rows c.commit.new.self.equations) c.commit.ensures.sheet in
    record { answer = a.0; possible = a.1; kept = tt; vocabulary = refl }

pub returns-in_default : goal.returns-in_default
returns-in_default g c =
    let t = c.args.self.now.table in
    let s = sheet_of t.rows t.equations in
    let e = equation c.args.p c.args.q in
    let a =
    occurs_answer g.met.V.Degree.Scale.lawful (g.met.V.Vocabulary.lawful c.args.self.now.vocabulary.now) s e c.in_ok-classes.classes c.in_ok-classes.ensures c.gather.result c.gather.ensures
    (λ h. apart_by g.met.V.Degree.Scale.lawful g.met.V.Degree.Scale.equal c.eq.ensures c.if-eq.false (h ∙ sym c.bottom.ensures)) c.in_default.ensures in
    record { answer = a.0; possible = a.1; kept = refl; vocabulary = refl }
