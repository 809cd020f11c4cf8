-- The pass stays one of this lock.
use Rattle.turn_lock.specs.Passes.{IsPassOf}
use Rattle.turn_lock.proofs.tests.calls.add_all.Given as goal

abbrev pub invariant-loop-number : goal.invariant-loop-number
invariant-loop-number g l = IsPassOf l.lock l.pass
