-- The pass draws a ticket, and looks until it is served.
use Rattle.std.proofs.Common.{rules, ◌∙◌}
use Rattle.turn_lock.proofs.Keeps.{draws}
use Rattle.turn_lock.proofs.Moves.{looks_drawn, still_waits, now_enters}
use Rattle.turn_lock.proofs.lock.TurnLock.wait_for_turn.Goals as goal

pub fetch_add-ticket-requires : goal.fetch_add-ticket-requires
fetch_add-ticket-requires g c = (search rules, search rules, draws g.S.Kept.entries g.S.Kept.fixed g.S.Kept.caller _ _ _ _ _ c.requires.1)

pub loop-init : goal.loop-init
loop-init g c = (c.fetch_add-ticket.ensures.0, c.fetch_add-ticket.ensures.2)

pub load-requires : goal.load-requires
load-requires g c =
    (c.loop.invariant.0 ∙ c.requires.0, search rules, looks_drawn g.S.Kept.entries g.S.Kept.fixed g.S.Kept.caller _ _ _ c.args.seat.now.me _ _ c.loop.invariant.1)

pub loop-preserved : goal.loop-preserved
loop-preserved g c = (search rules, still_waits g.S.Kept.entries g.S.Kept.fixed g.S.Kept.caller c.args.seat.now.me _ _ _ _ c.loop.invariant.1 c.load.ensures.2 c.if-load-ticket.false)

pub returns-then-load-ticket-clause-turn : goal.returns-then-load-ticket-clause-turn
returns-then-load-ticket-clause-turn g c = now_enters g.S.Kept.entries g.S.Kept.fixed g.S.Kept.caller c.args.seat.now.me _ _ _ _ c.loop.invariant.1 c.load.ensures.2 c.if-load-ticket.true
