use Rattle.std.proofs.Common.{◌≡◌, ◌-◌, ◌≤◌, length}
use Rattle.text.specs.Occurrences.{words}
use Rattle.text.specs.Phrases.{Phrase, Sound, bytes}
use Rattle.text.proofs.Passing.{Walked}
use Rattle.text.proofs.source.Source.judge_words.Given as goal

abbrev pub invariant-loop-token : goal.invariant-loop-token
invariant-loop-token g l = record {
  within : l.at ≤ length l.self.bytes.now;
  walked : (p : Phrase) → Sound p → bytes p ≡ l.self.bytes.now → Walked (g.L.Lexicon.spellings l.signature.lexicon.now) l.signature.arities.now l.self.bytes.now l.at (words 0 p) l.fit;
}

abbrev pub decreases-loop-token : goal.decreases-loop-token
decreases-loop-token g l = length l.self.bytes.now - l.at
