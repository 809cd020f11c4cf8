-- The root takes in the other pass, and then compares what the two had seen.
use Rattle.std.proofs.Common.{rules}
use Rattle.turn_lock.proofs.Keeps.{joins}
use Rattle.turn_lock.proofs.Moves.{compares_joined}
use Rattle.turn_lock.proofs.lock.TurnLock.join.Goals as goal

pub join_seat-requires : goal.join_seat-requires
join_seat-requires g c = let of = c.requires.of in
    (search rules, search rules, of.1.bare, search rules, joins g.S.Kept.entries g.S.Kept.fixed g.S.Kept.caller _ _ _ _ _ of.0.away c.requires.root of.1.away)

pub load-requires : goal.load-requires
load-requires g c = let of = c.requires.of in
    (search rules, search rules, compares_joined g.S.Kept.entries g.S.Kept.fixed g.S.Kept.caller _ _ _ c.args.root.now.seat.me _ c.args.other.seat.me.0 c.join_seat.ensures.2 of.0.away)
