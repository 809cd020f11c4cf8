-- With every pass joined, the state is at home.
use Rattle.turn_lock.proofs.Moves.{closes, closes_with}
use Rattle.turn_lock.proofs.lock.TurnLock.close.Goals as goal

pub unwrap-requires : goal.unwrap-requires
unwrap-requires g c =
    let all = c.requires in
    closes g.S.Kept.entries g.S.Kept.fixed g.S.Kept.caller _ 0 _ c.args.root.seat.me.0 _ _ _ all.of.away all.root all.joined c.close_with-closed.ensures.values.2 c.take-state.ensures.value

pub returns-clause-seen : goal.returns-clause-seen
returns-clause-seen g c =
    let all = c.requires in
    (closes_with g.S.Kept.entries g.S.Kept.fixed g.S.Kept.caller _ 0 _ c.args.root.seat.me.0 _ _ _ c.unwrap.result all.of.away all.root all.joined all.of.same_part c.close_with-closed.ensures.values.2 c.take-state.ensures.value c.unwrap.ensures).0

pub returns-clause-fixed : goal.returns-clause-fixed
returns-clause-fixed g c =
    let all = c.requires in
    (closes_with g.S.Kept.entries g.S.Kept.fixed g.S.Kept.caller _ 0 _ c.args.root.seat.me.0 _ _ _ c.unwrap.result all.of.away all.root all.joined all.of.same_part c.close_with-closed.ensures.values.2 c.take-state.ensures.value c.unwrap.ensures).1

pub returns-clause-calls : goal.returns-clause-calls
returns-clause-calls g c =
    let all = c.requires in
    (closes_with g.S.Kept.entries g.S.Kept.fixed g.S.Kept.caller _ 0 _ c.args.root.seat.me.0 _ _ _ c.unwrap.result all.of.away all.root all.joined all.of.same_part c.close_with-closed.ensures.values.2 c.take-state.ensures.value c.unwrap.ensures).2
