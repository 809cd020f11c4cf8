-- The state goes home, and then the turn goes on.
use Rattle.std.proofs.Common.{rules}
use Rattle.turn_lock.proofs.Lists.{one_out}
use Rattle.turn_lock.proofs.Moves.{passes_home}
use Rattle.turn_lock.proofs.lock.TurnLock.put_home.Goals as goal

pub exchange-requires : goal.exchange-requires
exchange-requires g c = let held = c.requires.held in let out = one_out _ held.slot in (held.same_lock, (out.0, out.1))

pub fetch_add-requires : goal.fetch_add-requires
fetch_add-requires g c = let held = c.requires.held in
    (search rules, search rules, passes_home g.S.Kept.entries g.S.Kept.fixed g.S.Kept.caller _ _ _ c.args.pass.now.seat.me c.exchange.new.seat.me c.args.state c.exchange.ensures.3 held.slot held.inside c.requires.committed held.same_part c.requires.fixed)
