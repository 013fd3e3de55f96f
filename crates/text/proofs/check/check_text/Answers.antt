use Rattle.std.proofs.Common.{sym, arith, eqb-true}
use borrow.Author.Tests.{eqb-false}
use Rattle.std.proofs.lemmas.Result.{err_from_is_err_and, MatchResult-weaker}
use Rattle.text.specs.Verdicts.{Sized}
use Rattle.text.proofs.Judging.{judged, judged_fault, accepted_by, grammar_fault, words_fault}
use Rattle.text.proofs.check.check_text.Goals as goal

pub returns-then-is_empty : goal.returns-then-is_empty
returns-then-is_empty g c = judged _ _ _ _ (eqb-true _ 0 (sym c.if-is_empty.ensures))

pub returns-then-text-gt-LONGEST_TEXT : goal.returns-then-text-gt-LONGEST_TEXT
returns-then-text-gt-LONGEST_TEXT g c = judged _ _ _ _ c.if-text-gt-LONGEST_TEXT.true

pub returns-in-Some : goal.returns-in-Some
returns-in-Some g c =
    let some = eqb-false _ 0 (sym c.if-is_empty.ensures) in
    judged _ _ _ _ ((omega (arith, some), c.if-text-gt-LONGEST_TEXT.false), c.in-Some.ensures)

pub returns-in_err-check_grammar : goal.returns-in_err-check_grammar
returns-in_err-check_grammar g c =
    let some = eqb-false _ 0 (sym c.if-is_empty.ensures) in
    let p = err_from_is_err_and c.from_residual.result c.from_residual.ensures.1 in
    judged_fault _ _ _ _ _ p.1 (grammar_fault _ _ _ _ _ p.2 (omega (arith, some), c.if-text-gt-LONGEST_TEXT.false) c.in_default.ensures c.in_err-check_grammar.ensures)

pub returns : goal.returns
returns g c =
    let some = eqb-false _ 0 (sym c.if-is_empty.ensures) in
    let i = c.in_ok-check_grammar.ensures in
    let sized : Sized c.args.text.now = (omega (arith, some), c.if-text-gt-LONGEST_TEXT.false) in
    judged _ _ _ _ (MatchResult-weaker c.check_words.result (c.check_words.ensures i.phrase i.sound i.written)
    (λ _ sure. accepted_by _ _ _ sized c.in_default.ensures i.phrase i.sound i.written sure)
    (λ f told. words_fault _ _ _ i f sized c.in_default.ensures told))
