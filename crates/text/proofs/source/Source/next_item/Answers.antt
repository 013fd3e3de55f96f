use Rattle.std.proofs.Common.{arith}
use Rattle.text.proofs.Itemizing.{item_passes, item_variable, item_word, no_items, no_word}
use Rattle.text.proofs.source.Source.next_item.Goals as goal

pub returns-in_err-word-in-Word-clause-finds : goal.returns-in_err-word-in-Word-clause-finds
returns-in_err-word-in-Word-clause-finds g c ss r =
    rw c.from_residual.ensures (no_word _ c.args.self.now.bytes.now _ _ _ ss c.in-Ok.ensures c.in-Word.is c.in_err-word-in-Word.ensures (c.loop-token.invariant.left ss r))

pub loop-token-preserved : goal.loop-token-preserved
loop-token-preserved g c =
    let l = c.in-Ok.ensures in
    record {
      past = omega (arith, c.loop-token.invariant.past, l.past);
      within = l.within;
      left = λ ss r. item_passes _ c.args.self.now.bytes.now _ _ ss l c.in_default-token.not-Word c.in_default-token.not-Variable (c.loop-token.invariant.left ss r);
    }

pub returns-in-Variable-clause-finds : goal.returns-in-Variable-clause-finds
returns-in-Variable-clause-finds g c ss r =
    rw c.into.ensures (item_variable _ c.args.self.now.bytes.now _ _ _ ss c.in-Ok.ensures c.in-Variable.is (c.loop-token.invariant.left ss r))

pub returns-in_ok-word-in-Word-clause-finds : goal.returns-in_ok-word-in-Word-clause-finds
returns-in_ok-word-in-Word-clause-finds g c ss r =
    let found = c.in_ok-word-in-Word.ensures in
    item_word _ (g.met.L.Lexicon.lawful c.args.lexicon.now) c.args.self.now.bytes.now _ _ _ _ ss c.in-Ok.ensures c.in-Word.is found (c.loop-token.invariant.left ss r)

pub returns-clause-finds : goal.returns-clause-finds
returns-clause-finds g c ss r = no_items _ c.args.self.now.bytes.now _ _ ss c.in_default.ensures (c.loop-token.invariant.left ss r)
