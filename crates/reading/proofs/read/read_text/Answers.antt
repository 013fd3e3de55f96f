use Rattle.std.proofs.Common.{Ok, Err, refl}
use Rattle.std.proofs.lemmas.Result.{err_from_is_err_and}
use Rattle.table.specs.Sheets.{sheet_of}
use Rattle.reading.specs.Reads.{ReadGives}
use Rattle.reading.specs.declared.causes.ReadFault.TheVariants.{Text}
use Rattle.reading.proofs.Settled.{table_coherent, table_short, read_settled, refused_as}
use Rattle.reading.proofs.read.read_text.Goals as goal

pub returns-in_err-check_text-clause-only : goal.returns-in_err-check_text-clause-only
returns-in_err-check_text-clause-only g c q v k =
    let t = c.args.table.now in
    let s = sheet_of t.rows t.equations in
    let p = err_from_is_err_and c.from_residual.result c.from_residual.ensures.1 in
    let h = refused_as (g.L.Lexicon.spellings c.args.lexicon.now) c.args.arities.now c.args.text.now s s _ p.0 (Text c.in_err-check_text.field-0.0) p.1 p.2 (c.in_err-check_text.ensures.verdict, refl) in
    read_settled _ _ _ s (table_coherent t) _ q s v h k

pub returns-in-Ok : goal.returns-in-Ok
returns-in-Ok g c =
    let t = c.args.table.now in
    let s = sheet_of t.rows t.equations in
    let w = c.read_rows.new.table in
    let u = sheet_of w.rows w.equations in
    let a = c.in_ok-check_text.ensures.verdict in
    let rows = rw c.new-source.ensures at c.in-Ok.ensures.rows in
    let h : ReadGives (g.L.Lexicon.spellings c.args.lexicon.now) c.args.arities.now s c.args.text.now (Ok c.in-Ok.row) u = (a, rows a, table_short w) in
    record { answer = h; kept = tt; only = λ q v k. read_settled _ _ _ s (table_coherent t) (Ok c.in-Ok.row) q u v h k; uniform = c.in-Ok.ensures.uniform }

pub returns-in-Err : goal.returns-in-Err
returns-in-Err g c =
    let t = c.args.table.now in
    let s = sheet_of t.rows t.equations in
    let a = c.in_ok-check_text.ensures.verdict in
    let rows = rw c.new-source.ensures at c.in-Err.ensures.rows in
    let h : ReadGives (g.L.Lexicon.spellings c.args.lexicon.now) c.args.arities.now s c.args.text.now (Err c.into.result) s = rw c.into.ensures (a, rows a, refl) in
    record { answer = h; kept = refl; only = λ q v k. read_settled _ _ _ s (table_coherent t) (Err c.into.result) q s v h k; uniform = λ u. u }
