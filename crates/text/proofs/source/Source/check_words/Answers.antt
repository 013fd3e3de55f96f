use Rattle.text.specs.Occurrences.{words}
use Rattle.text.proofs.Passing.{told_in_order}
use Rattle.text.proofs.source.Source.check_words.Goals as goal

pub returns : goal.returns
returns g c p sound written =
    rw c.and.ensures (told_in_order _ _ (words 0 p) _ _ (c.judge_words-known.ensures.known p sound written) (c.judge_words-known.ensures.fit p sound written))
