use Rattle.std.proofs.Common.{sym, refl, arith}
use Rattle.text.specs.Occurrences.{words}
use Rattle.text.proofs.Passing.{walked_none, walked_past, unknown_first, walked_refused, walked_fitting, walked_misfit, unknown_unfit, all_known, all_judged}
use Rattle.text.proofs.source.Source.judge_words.Goals as goal
use Rattle.text.proofs.source.Source.judge_words.Goals.{else-is_ok-via-then-is_ok+else-from-count_arguments, else-is_ok-via-else-is_ok}

pub loop-token-init : goal.loop-token-init
loop-token-init g c = record { within = omega arith; walked = λ p sound written. walked_none _ _ c.args.self.now.bytes.now p sound written }

pub returns-in_default-arity_of-clause-known : goal.returns-in_default-arity_of-clause-known
returns-in_default-arity_of-clause-known g c p sound written = (
  _,
  refl,
  unknown_first _ _ c.args.self.now.bytes.now _ (words 0 p) _ (c.loop-token.invariant.walked p sound written) _ _ c.in-Ok.ensures c.in-Word.is c.in_default-arity_of.ensures,
)

pub returns-in_default-arity_of-clause-fit : goal.returns-in_default-arity_of-clause-fit
returns-in_default-arity_of-clause-fit g c p sound written =
    rw c.and.ensures (unknown_unfit _ _ c.args.self.now.bytes.now _ (words 0 p) _ (c.loop-token.invariant.walked p sound written) _ _ c.in-Ok.ensures c.in-Word.is c.in_default-arity_of.ensures)

pub loop-token-preserved-then-from-count_arguments : goal.loop-token-preserved-then-from-count_arguments
loop-token-preserved-then-from-count_arguments g c =
    let l = c.in-Ok.ensures in
    record {
      within = l.within;
      walked = λ p sound written.
          walked_misfit _ _ c.args.self.now.bytes.now _ (words 0 p) _ (c.loop-token.invariant.walked p sound written) _ _ l c.in-Word.is _ c.in-Some.ensures (sym c.if-is_ok.ensures.value) _ c.count_arguments.ensures (λ e. omega (arith, c.from.ensures, c.if-from-count_arguments.true, e));
    }

pub loop-token-preserved-else-is_ok : goal.loop-token-preserved-else-is_ok
loop-token-preserved-else-is_ok g c =
    let l = c.in-Ok.ensures in
    record {
      within = l.within;
      walked = λ p sound written.
          let walked = c.loop-token.invariant.walked p sound written in
          elim c.else-is_ok.branch [
            | else-is_ok-via-then-is_ok+else-from-count_arguments w ↦ walked_fitting _ _ c.args.self.now.bytes.now _ (words 0 p) _ walked _ _ l c.in-Word.is _ c.in-Some.ensures _ w.count_arguments.ensures (omega (arith, w.from.ensures, w.if-from-count_arguments.false))
            | else-is_ok-via-else-is_ok w ↦ walked_refused _ _ c.args.self.now.bytes.now _ (words 0 p) _ walked _ _ l c.in-Word.is _ c.in-Some.ensures (λ h. cc (h, c.is_ok.ensures.value, w.if-is_ok.false))
          ];
    }

pub loop-token-preserved : goal.loop-token-preserved
loop-token-preserved g c =
    let l = c.in-Ok.ensures in
    record {
      within = l.within;
      walked = λ p sound written. walked_past _ _ c.args.self.now.bytes.now _ (words 0 p) _ (c.loop-token.invariant.walked p sound written) _ l c.in_default-token.not-Word;
    }

pub returns-clause-known : goal.returns-clause-known
returns-clause-known g c p sound written =
    all_known _ _ c.args.self.now.bytes.now _ (words 0 p) _ (c.loop-token.invariant.walked p sound written) _ c.in_default.ensures

pub returns-clause-fit : goal.returns-clause-fit
returns-clause-fit g c p sound written =
    all_judged _ _ c.args.self.now.bytes.now _ (words 0 p) _ (c.loop-token.invariant.walked p sound written) _ c.in_default.ensures
