use Rattle.std.proofs.Common.{sym, subst, rules, tests}
use Rattle.std.proofs.lemmas.Result.{err_from_is_err_and, MatchResult-weaker}
use Rattle.text.specs.Course.{PhraseStops, ArgumentsStop}
use Rattle.text.proofs.Reading.{word_to, lexed_parts, lexed_opens, none_parts, none_opens, phrase_none, phrase_other, phrase_variable, phrase_plain, phrase_applied, phrase_applied_stops, arguments_first, arguments_unended, arguments_last, one_further}
use Rattle.text.proofs.source.Source.+read_arguments_read_term.Goals as goal
use Rattle.text.proofs.source.Source.+read_arguments_read_term.Goals.{read_arguments-in_default-via-in-Ok+in_default, read_arguments-in_default-via-in_default}

pub read_arguments-returns-in_err-end : goal.read_arguments-returns-in_err-end
read_arguments-returns-in_err-end t c =
    let p = err_from_is_err_and c.from_residual.result c.from_residual.ensures.1 in
    rw (p.1, p.2) (c.loop-end.invariant.stops _ (arguments_first c.args.self.now.bytes.now _ _ c.in_err-end.ensures))

pub read_arguments-loop-end-preserved : goal.read_arguments-loop-end-preserved
read_arguments-loop-end-preserved t c = one_further c.args.self.now.bytes.now c.args.at _ _ _ c.loop-end.invariant c.in_ok-end.ensures c.in-Ok-Comma-default.ensures (search rules)

pub read_arguments-returns-in-Ok-Close-default : goal.read_arguments-returns-in-Ok-Close-default
read_arguments-returns-in-Ok-Close-default t c = c.loop-end.invariant.to _ (arguments_last c.args.self.now.bytes.now _ _ c.in_ok-end.ensures _ c.in-Ok-Close-default.ensures (search rules))

pub read_arguments-returns-in_default : goal.read_arguments-returns-in_default
read_arguments-returns-in_default t c =
    let text = c.args.self.now.bytes.now in
    subst (ArgumentsStop text c.args.at) (search (rules, tests)) (c.loop-end.invariant.stops c.in_ok-end.end (arguments_unended text _ _ c.in_ok-end.ensures (elim c.in_default.branch [
      | read_arguments-in_default-via-in-Ok+in_default w ↦ lexed_parts text _ w.in_default.field-0 (search rules) (search rules) (search rules)
      | read_arguments-in_default-via-in_default w ↦ none_parts text _ w.in_default.field-0 (search rules)
    ])))

pub read_term-returns-in_err-token : goal.read_term-returns-in_err-token
read_term-returns-in_err-token t c =
    let p = err_from_is_err_and c.from_residual.result c.from_residual.ensures.1 in
    rw (p.1, p.2) (phrase_none c.args.self.now.bytes.now c.args.at _ c.in_err-token.ensures)

pub read_term-returns-in-Variable : goal.read_term-returns-in-Variable
read_term-returns-in-Variable t c =
    phrase_variable c.args.self.now.bytes.now c.args.at _ _ c.in_ok-token.ensures c.in-Variable.is

pub read_term-returns-in-Ok-Open-default : goal.read_term-returns-in-Ok-Open-default
read_term-returns-in-Ok-Open-default t c =
    let text = c.args.self.now.bytes.now in
    let at = c.args.at in
    let w = word_to text at _ c.in-Word.field-0 c.in_ok-token.ensures c.in-Word.is in
    let l = c.in-Ok-Open-default.ensures in
    MatchResult-weaker c.read_arguments.result c.read_arguments.ensures (phrase_applied text at _ _ w _ l (search rules)) (phrase_applied_stops text at _ _ w _ l (search rules))

pub read_term-returns-in_default-lex : goal.read_term-returns-in_default-lex
read_term-returns-in_default-lex t c =
    let text = c.args.self.now.bytes.now in
    let at = c.args.at in
    let w = word_to text at _ c.in-Word.field-0 c.in_ok-token.ensures c.in-Word.is in
    phrase_plain text at _ _ w (lexed_opens text _ c.in_default-lex.field-0 (search rules) (search rules))

pub read_term-returns-in_default-lex-2 : goal.read_term-returns-in_default-lex-2
read_term-returns-in_default-lex-2 t c =
    let text = c.args.self.now.bytes.now in
    let at = c.args.at in
    let w = word_to text at _ c.in-Word.field-0 c.in_ok-token.ensures c.in-Word.is in
    phrase_plain text at _ _ w (none_opens text _ c.in_default-lex.field-0 (search rules))

pub read_term-returns-in_default : goal.read_term-returns-in_default
read_term-returns-in_default t c =
    let text = c.args.self.now.bytes.now in
    let at = c.args.at in
    subst (PhraseStops text at) (sym c.stray.ensures) (phrase_other text at _ c.in_ok-token.ensures c.in_default.not-Word c.in_default.not-Variable)
