use Rattle.std.proofs.Common.{◌≡◌, ◌-◌, ◌≤◌, length, take}
use Rattle.board_definitions.specs.Sheets.{sheet}
use Rattle.turn_lock.specs.Passes.{known, IsPassOf}
use Rattle.quote_board.specs.Shared.{board_part}
use Rattle.solver_workers.specs.Turns.{StillHolds}
use Rattle.solver_workers.proofs.sheets.read_sheet.Given as goal

abbrev pub invariant-loop-offers : goal.invariant-loop-offers
invariant-loop-offers g l =
    let all = sheet (board_part l.lock).rules (known l.fn.pass).seen l.pin.version l.pin.match_name in
    record {
      of : IsPassOf l.lock l.pass;
      holds : StillHolds (known l.fn.pass) (known l.pass) l.pin;
      front : l.offers ≡ take (length l.offers) all;
      within : length l.offers ≤ length all;
      places : length l.part ≡ 32;
    }

abbrev pub decreases-loop-offers : goal.decreases-loop-offers
decreases-loop-offers g l = length (sheet (board_part l.lock).rules (known l.fn.pass).seen l.pin.version l.pin.match_name) - length l.offers
