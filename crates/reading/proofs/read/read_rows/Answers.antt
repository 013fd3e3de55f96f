use Rattle.std.proofs.Common.{arith, rules, tests}
use Rattle.std.proofs.lemmas.Result.{err_from_is_err_and}
use Rattle.table.specs.Sheets.{sheet_of}
use Rattle.reading.proofs.Progress.{progress_due, progress_more, progress_some, progress_none, rows_refused}
use Rattle.reading.proofs.Steps.{comes_whole, comes_due}
use Rattle.reading.proofs.read.read_rows.Goals as goal

pub loop-next-init : goal.loop-next-init
loop-next-init g c = record { within = omega arith; progress = λ a. progress_none _ _ _ _ a _ (search (rules, tests)); uniform = λ u. u }

pub take-requires-clause-due : goal.take-requires-clause-due
take-requires-clause-due g c =
    let a = c.requires.accepted in
    let p = c.loop-next.invariant.progress a in
    let n = c.in-Some.ensures.finds p.standings p.left in
    record { start = sheet_of c.args.table.now.rows c.args.table.now.equations; whole = a.term; others = _; due = progress_due _ _ _ _ _ _ _ _ c.in-Some.next p n }

pub returns-in_err-row-clause-rows : goal.returns-in_err-row-clause-rows
returns-in_err-row-clause-rows g c a =
    let e = err_from_is_err_and c.from_residual.result c.from_residual.ensures.1 in
    let p = c.loop-next.invariant.progress a in
    let n = c.in-Some.ensures.finds p.standings p.left in
    let s = sheet_of c.args.table.now.rows c.args.table.now.equations in
    rows_refused s a.term _ e.0 _ e.1 (c.in_err-row.ensures.comes s a.term _ (progress_due _ _ _ _ _ _ _ _ c.in-Some.next p n))

pub returns-in-Some-2-clause-rows : goal.returns-in-Some-2-clause-rows
returns-in-Some-2-clause-rows g c a =
    let p = c.loop-next.invariant.progress a in
    let n = c.in-Some.ensures.finds p.standings p.left in
    let s = sheet_of c.args.table.now.rows c.args.table.now.equations in
    let h = c.take.ensures.comes s a.term _ (progress_due _ _ _ _ _ _ _ _ c.in-Some.next p n) in
    comes_whole _ s a.term _ _ c.in-Some-2.row _ _ _ c.in_ok-row.was c.in-Some-2.is h

pub loop-next-preserved : goal.loop-next-preserved
loop-next-preserved g c = record {
  within = c.in-Some.ensures.moves.2;
  progress = λ a.
      let p = c.loop-next.invariant.progress a in
      let n = c.in-Some.ensures.finds p.standings p.left in
      let s = sheet_of c.args.table.now.rows c.args.table.now.equations in
      let h = c.take.ensures.comes s a.term _ (progress_due _ _ _ _ _ _ _ _ c.in-Some.next p n) in
      progress_more _ _ _ _ _ _ _ _ _ _ c.in-Some.next p n (comes_due _ s a.term _ _ _ _ _ c.in_ok-row.was c.in_default-2.is h);
  uniform = λ u. c.take.ensures.uniform (c.loop-next.invariant.uniform u);
}

pub returns-clause-rows : goal.returns-clause-rows
returns-clause-rows g c a =
    let p = c.loop-next.invariant.progress a in
    absurd (progress_some _ _ _ _ _ _ _ _ p (c.in_default.ensures.finds p.standings p.left))
