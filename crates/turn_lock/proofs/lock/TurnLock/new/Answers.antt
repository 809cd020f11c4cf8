-- The lock begins with an empty list.
use Rattle.std.proofs.Common.{rules}
use Rattle.turn_lock.proofs.Moves.{begins_with}
use Rattle.turn_lock.proofs.lock.TurnLock.new.Goals as goal

pub new-requires : goal.new-requires
new-requires g c = begins_with g.S.Kept.entries g.S.Kept.fixed g.S.Kept.caller c.of-about.result.value c.args.state _ c.of-about.ensures c.requires (search rules)
