use Rattle.std.proofs.Common.{◌≡◌, ◌-◌, ◌≤◌, length, take}
use Rattle.board_definitions.specs.Sheets.{sheet}
use Rattle.desk_judging.proofs.sheets.sheet_of.Given as goal

abbrev pub invariant-loop-part : goal.invariant-loop-part
invariant-loop-part l =
    let all = sheet l.board.fixed.rules l.board.history l.pin.version l.pin.match_name in
    record {
      front : l.offers ≡ take (length l.offers) all;
      within : length l.offers ≤ length all;
      places : length l.part ≡ 32;
    }

abbrev pub decreases-loop-part : goal.decreases-loop-part
decreases-loop-part l = length (sheet l.board.fixed.rules l.board.history l.pin.version l.pin.match_name) - length l.offers
