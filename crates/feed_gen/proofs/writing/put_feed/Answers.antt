use Rattle.text_out.proofs.Writes.{and_the_rest, from_nothing, gathered_short}
use Rattle.feed_gen.proofs.writing.put_feed.Goals as goal

pub returns-in_err-gather_feed : goal.returns-in_err-gather_feed
returns-in_err-gather_feed g c = gathered_short (from_nothing c.in_err-gather_feed.ensures c.new-held.ensures) _ c.from_residual.ensures.0

pub returns : goal.returns
returns g c = and_the_rest (from_nothing c.in_ok-gather_feed.ensures c.new-held.ensures) c.hand_on.ensures.written
