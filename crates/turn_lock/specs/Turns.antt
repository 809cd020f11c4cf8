-- What clauses say of a turn.
use Rattle.std.specs.Prelude.{ℕ, List}
use Rattle.turn_lock.specs.declared.kept.Kept.{Ghosts}
use Rattle.turn_lock.specs.declared.lock.TurnLock.{TurnLock}
use Rattle.turn_lock.specs.declared.turn.Turn.{Turn}
use Rattle.turn_lock.specs.Passes.{Known, known, IsHeldBy}

module _ {S E F : Type 0} {kept : Ghosts S E F} where
  -- what the pass knows that has the turn
  abbrev pub knows : Turn S E F kept → Known E
  knows t = known t.pass.now

  -- the state in hand
  abbrev pub state_of : Turn S E F kept → S
  state_of t = t.state

  -- the lock that the turn is of
  abbrev pub lock_of : Turn S E F kept → TurnLock S E F
  lock_of t = t.lock.now

  -- which reference to a pass the turn has
  abbrev pub pass_name : Turn S E F kept → ℕ
  pass_name t = t.pass.ghost_name

  -- the list that was committed last
  abbrev pub committed : Turn S E F kept → List E
  committed t = (knows t).seen

  -- the list of the state in hand
  abbrev pub in_hand : Turn S E F kept → List E
  in_hand t = kept.entries (state_of t)

  -- the pass has the turn at the lock
  abbrev pub IsTurn : Turn S E F kept → Type 0
  IsTurn t = IsHeldBy (lock_of t) t.pass.now

  -- the same turn, with this state in hand
  abbrev pub with_state : Turn S E F kept → S → Turn S E F kept
  with_state t x = record t { state = x }
