-- The state lies in the slot that is out.
use Rattle.std.specs.Prelude.{Some}
use Rattle.turn_lock.proofs.Lists.{first_out}
use Rattle.turn_lock.proofs.lock.TurnLock.pick_up.Goals as goal

pub exchange-requires : goal.exchange-requires
exchange-requires g c = let home = c.requires.home in (c.requires.same, (Some home.0, first_out _ _ home.1))
