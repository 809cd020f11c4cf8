use Rattle.quote_board.proofs.Start.{AreSet}
use Rattle.quote_board.proofs.board.rules_by_feed.Given as goal

-- the rules of the feeds so far are set
abbrev pub invariant-loop-feed : goal.invariant-loop-feed
invariant-loop-feed l = AreSet l.rules l.slots l.feed
