use Rattle.std.proofs.Common.{◌-◌, length}
use Rattle.scan_types.specs.declared.limits.TheConstants.{MOST_OFFERS}
use Rattle.board_definitions.specs.Sheets.{sheet}
use Rattle.desk_report.proofs.Copies.{IsFront}
use Rattle.desk_report.proofs.sheets.newest_sheet.Given as goal

-- a front of the sheet was copied
abbrev pub invariant-loop-part : goal.invariant-loop-part
invariant-loop-part g l = IsFront (sheet l.board.fixed.rules l.board.history (length l.board.history) l.match_name) l.copy l.part

abbrev pub decreases-loop-part : goal.decreases-loop-part
decreases-loop-part g l = MOST_OFFERS - length l.copy
