use Rattle.std.proofs.Common.{ℕ, List, Ok, Err, refl, subst, arith, rules, tests}
use Rattle.std.proofs.lemmas.Result.{err_from_is_err_and}
use Rattle.table.specs.Calls.{ComposeGives}
use Rattle.table.specs.Sheets.{sheet_of}
use Rattle.reading.specs.Stacks.{innermost}
use Rattle.reading.specs.declared.words.OpenWord.{OpenWord}
use Rattle.reading.proofs.Steps.{OneMore, made_popped, due_pushed, made_room, given_due, given_made, given_refused, made_whole, comes_refused}
use Rattle.reading.proofs.words.give.Goals as goal

pub push-requires : goal.push-requires
push-requires c =
    let i = c.requires in
    let m = made_popped i.arities i.start i.whole _ _ c.in-Some.word _ _ i.others c.in-Some.ensures (c.loop-word.invariant.made i.arities i.start i.whole i.others i.made) in
    (omega arith, made_room i.arities i.start i.whole c.in-Some.word _ _ _ i.others m)

pub returns-then-len-from-clause-comes : goal.returns-then-len-from-clause-comes
returns-then-len-from-clause-comes c arities start t es h =
    let w = c.in-Some.word in
    let m = made_popped arities start t _ _ w _ _ es c.in-Some.ensures (c.loop-word.invariant.made arities start t es h) in
    due_pushed arities start t _ _ _ _ es c.push-then-len-from.ensures (given_due arities start t w _ _ _ es _ (record { word = refl; takes = refl; rows = search (rules, tests) }) m (omega arith))

pub loop-word-preserved : goal.loop-word-preserved
loop-word-preserved c = record {
  made = λ arities start t es h.
      let w = c.in-Some.word in
      let v : OpenWord = record { word = w.word; takes = w.takes; rows = c.push.new.self } in
      let g : OneMore w c.loop-word.made v = record { word = refl; takes = refl; rows = c.push.ensures } in
      let m = made_popped arities start t _ _ w _ _ es c.in-Some.ensures (c.loop-word.invariant.made arities start t es h) in
      let s = sheet_of c.loop-word.table.rows c.loop-word.table.equations in
      let u = sheet_of c.compose.new.self.rows c.compose.new.self.equations in
      let a = subst (λ (xs : List ℕ). ComposeGives s w.word xs (Ok c.in_ok-made.made) u) (search (rules, tests)) c.in_ok-made.ensures.answer in
      given_made arities start t w (innermost c.pop.new.self) _ s es v g m (omega arith) c.in_ok-made.made u a;
  uniform = λ u. c.in_ok-made.ensures.uniform (c.loop-word.invariant.uniform u);
}

pub returns-in_err-made-clause-comes : goal.returns-in_err-made-clause-comes
returns-in_err-made-clause-comes c arities start t es h =
    let p = err_from_is_err_and c.from_residual.result c.from_residual.ensures.1 in
    let w = c.in-Some.word in
    let v : OpenWord = record { word = w.word; takes = w.takes; rows = c.push.new.self } in
    let g : OneMore w c.loop-word.made v = record { word = refl; takes = refl; rows = c.push.ensures } in
    let m = made_popped arities start t _ _ w _ _ es c.in-Some.ensures (c.loop-word.invariant.made arities start t es h) in
    let s = sheet_of c.loop-word.table.rows c.loop-word.table.equations in
    let u = sheet_of c.compose.new.self.rows c.compose.new.self.equations in
    let a = subst (λ (xs : List ℕ). ComposeGives s w.word xs (Err c.in_err-made.field-0.0) u) (search (rules, tests)) c.in_err-made.ensures.answer in
    comes_refused arities start t _ p.0 _ _ es p.1 (given_refused arities start t w (innermost c.pop.new.self) _ s es v g m (omega arith) c.in_err-made.field-0.0 u a)

pub returns-clause-comes : goal.returns-clause-comes
returns-clause-comes c arities start t es h =
    let m = c.loop-word.invariant.made arities start t es h in
    made_whole arities start t _ _ es (rw c.in_default.ensures at m)
