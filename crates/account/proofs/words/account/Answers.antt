use Rattle.std.proofs.Common.{[], ◌∙◌}
use Rattle.scale.proofs.Listings.{listing_more, listing_none}
use Rattle.account.proofs.words.account.Goals as goal

pub loop-f-init : goal.loop-f-init
loop-f-init g c = c.new-text.ensures.bytes ∙ listing_none _ []

pub loop-f-preserved : goal.loop-f-preserved
loop-f-preserved g c =
    c.in_ok-push_str.ensures.bytes ∙
    listing_more _ [] c.loop-f.f _ _ c.loop-f.invariant (c.as_str.ensures.value ∙ c.in_ok-more.ensures)
