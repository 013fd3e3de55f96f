use Rattle.std.proofs.Common.{◌≡◌, ◌<◌, get_or, arith}
use Rattle.std.proofs.lemmas.Result.{err_from_is_err_and}
use lib.ListN.{length-reverse}
use Rattle.lists.specs.Entries.{entries}
use Rattle.reading.proofs.Steps.{variable_made, variable_refused, word_known, word_room, word_opened, bare_made, bare_refused, comes_refused, due_pushed}
use Rattle.reading.proofs.words.take.Goals as goal

pub returns-in_err-row-in-Variable-clause-comes : goal.returns-in_err-row-in-Variable-clause-comes
returns-in_err-row-in-Variable-clause-comes c start t es d =
    let p = err_from_is_err_and c.from_residual.result c.from_residual.ensures.1 in
    let h = rw c.in-Variable.is at d in
    comes_refused _ start t _ p.0 _ _ es p.1 (variable_refused _ start t _ _ es _ _ _ h c.in_err-row-in-Variable.ensures.answer)

pub bounds-arities-from : goal.bounds-arities-from
bounds-arities-from c =
    let d = c.requires.due in
    let h = rw c.in-Word.is at d.due in
    rw c.from.ensures (word_known _ d.start d.whole _ _ d.others c.in-Word.word h)

pub push-requires : goal.push-requires
push-requires c =
    let d = c.requires.due in
    let h = rw c.in-Word.is at d.due in
    let many : 0 < get_or c.args.arities.now c.in-Word.word 0 = rw (← c.from.ensures) c.if-takes-gt0.true in
    (omega arith, omega (arith, length-reverse (entries c.args.opened.now), word_room _ d.start d.whole _ _ d.others _ h many))

pub returns-then-takes-gt0-clause-comes : goal.returns-then-takes-gt0-clause-comes
returns-then-takes-gt0-clause-comes c start t es d =
    let h = rw c.in-Word.is at d in
    let n = c.new.ensures in
    let many : 0 < get_or c.args.arities.now c.in-Word.word 0 = rw (← c.from.ensures) c.if-takes-gt0.true in
    let takes : c.new.result.takes ≡ get_or c.args.arities.now c.in-Word.word 0 = rw (← c.from.ensures) n.takes in
    let few = c.requires.few c.in-Word.word (word_known _ start t _ _ es _ h) in
    due_pushed _ start t _ _ _ _ es c.push.ensures (word_opened _ start t _ _ es _ c.new.result h n.word takes n.rows (omega (arith, few)) many)

pub returns-in_err-row-in-Word-clause-comes : goal.returns-in_err-row-in-Word-clause-comes
returns-in_err-row-in-Word-clause-comes c start t es d =
    let p = err_from_is_err_and c.from_residual-in_err-row-in-Word.result c.from_residual-in_err-row-in-Word.ensures.1 in
    let h = rw c.in-Word.is at d in
    let none : get_or c.args.arities.now c.in-Word.word 0 ≡ 0 = rw (← c.from.ensures) (omega (arith, c.if-takes-gt0.false)) in
    comes_refused _ start t _ p.0 _ _ es p.1 (bare_refused _ start t _ _ es _ _ _ h none c.in_err-row-in-Word.ensures.answer)

pub give-requires : goal.give-requires
give-requires c =
    let d = c.requires.due in
    let h = rw c.in-Variable.is at d.due in
    record { arities = c.args.arities.now; start = d.start; whole = d.whole; others = d.others; made = variable_made _ d.start d.whole _ _ d.others _ _ _ h c.in_ok-row-in-Variable.ensures.answer }

pub returns-in_ok-row-in-Variable-clause-comes : goal.returns-in_ok-row-in-Variable-clause-comes
returns-in_ok-row-in-Variable-clause-comes c start t es d =
    let h = rw c.in-Variable.is at d in
    c.give.ensures.comes c.args.arities.now start t es (variable_made _ start t _ _ es _ _ _ h c.in_ok-row-in-Variable.ensures.answer)

pub give-requires-in-Word : goal.give-requires-in-Word
give-requires-in-Word c =
    let d = c.requires.due in
    let h = rw c.in-Word.is at d.due in
    let none : get_or c.args.arities.now c.in-Word.word 0 ≡ 0 = rw (← c.from.ensures) (omega (arith, c.if-takes-gt0.false)) in
    record { arities = c.args.arities.now; start = d.start; whole = d.whole; others = d.others; made = bare_made _ d.start d.whole _ _ d.others _ _ _ h none c.in_ok-row-in-Word.ensures.answer }

pub returns-in_ok-row-in-Word-clause-comes : goal.returns-in_ok-row-in-Word-clause-comes
returns-in_ok-row-in-Word-clause-comes c start t es d =
    let h = rw c.in-Word.is at d in
    let none : get_or c.args.arities.now c.in-Word.word 0 ≡ 0 = rw (← c.from.ensures) (omega (arith, c.if-takes-gt0.false)) in
    c.give-in-Word.ensures.comes c.args.arities.now start t es (bare_made _ start t _ _ es _ _ _ h none c.in_ok-row-in-Word.ensures.answer)
