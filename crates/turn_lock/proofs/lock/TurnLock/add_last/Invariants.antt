-- The step adds the last entry of the state in hand.
use Rattle.turn_lock.specs.Calls.{newest}
use Rattle.turn_lock.proofs.lock.TurnLock.add_last.Given as goal

abbrev pub ghosts-commit : goal.ghosts-commit
ghosts-commit g a = record { added = newest (g.S.Kept.entries a.state.now) }
