use Rattle.std.proofs.Common.{sym, ◌∙◌, arith, rules}
use Rattle.std.proofs.lemmas.List.{at_drop_all}
use Rattle.text.proofs.Going.{opens}
use Rattle.text.proofs.Spelling.{stop_at, stop_end}
use Rattle.text.proofs.Tally.{tally, none_given, given_inside, closes, unopened}
use Rattle.text.proofs.words.count_arguments.Goals as goal

pub returns-in_default : goal.returns-in_default
returns-in_default c ps behind sound ended read =
    none_given ps behind c.args.bytes.now (stop_end opens c.args.bytes.now 0 (omega (arith, c.in_default.len_below))) read

pub returns-in_default-2 : goal.returns-in_default-2
returns-in_default-2 c ps behind sound ended read =
    none_given ps behind c.args.bytes.now (stop_at opens c.args.bytes.now 0 (unopened _ (search rules))) read

pub returns-in-41 : goal.returns-in-41
returns-in-41 c ps behind sound ended read =
    sym (closes _ _ _ _ c.loop-byte-test.true c.in-41.is c.if-open-eq0.true) ∙ c.loop-byte.invariant.counts ∙
    given_inside ps behind c.args.bytes.now sound ended (omega (arith, c.in-40.len_at_least)) (search rules) read

pub returns : goal.returns
returns c ps behind sound ended read =
    sym (at_drop_all (tally c.loop-byte.open c.loop-byte.arguments) _ c.loop-byte.byte-index c.loop-byte-test.false) ∙ c.loop-byte.invariant.counts ∙
    given_inside ps behind c.args.bytes.now sound ended (omega (arith, c.in-40.len_at_least)) (search rules) read
