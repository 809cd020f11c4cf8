-- While it waits, the pass has its ticket and knows what it knew.
use Rattle.std.proofs.Common.{◌≡◌}
use Rattle.turn_lock.proofs.Moves.{HasDrawn}
use Rattle.turn_lock.proofs.lock.TurnLock.wait_for_turn.Given as goal

abbrev pub invariant-loop : goal.invariant-loop
invariant-loop g l = (l.seat.table_id ≡ l.fn.seat.table_id) × HasDrawn l.fn.seat.me l.ticket l.seat.me
