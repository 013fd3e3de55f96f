use Rattle.std.proofs.Common.{◌∙◌}
use Rattle.scale.proofs.Listings.{listing_more, listing_none}
use Rattle.account.proofs.words.Telling.word_lines.Goals as goal

pub loop-g-init : goal.loop-g-init
loop-g-init g c = c.in_ok-text.ensures ∙ listing_none _ _

pub loop-g-preserved : goal.loop-g-preserved
loop-g-preserved g c =
    c.in_ok-push_str.ensures.bytes ∙
    listing_more _ _ c.loop-g.g _ _ c.loop-g.invariant (c.as_str.ensures.value ∙ c.in_ok-more.ensures)
