use Rattle.std.proofs.Common.{◌≡◌, ◌≤◌}
use Rattle.board_definitions.specs.declared.pin.Pin.{Pin}
use Rattle.board_definitions.specs.Pins.{IsLive}
use Rattle.quote_board.proofs.tests.looks.holds_no_pin.Given as goal

-- no pin of the caller before this version is live
abbrev pub invariant-loop-version : goal.invariant-loop-version
invariant-loop-version l = (pin : Pin) → pin.caller ≡ l.caller → IsLive l.history pin → l.version ≤ pin.version
