use Rattle.std.proofs.Common.{subst}
use Rattle.board_definitions.specs.Sheets.{sheet}
use Rattle.judging_definitions.specs.ExactFinding.{IsFindingOf}
use Rattle.desk_judging.proofs.due.judge_pinned.Goals as goal

pub file-requires-clause-allowed : goal.file-requires-clause-allowed
file-requires-clause-allowed c =
    let offers = sheet c.args.board.now.fixed.rules c.args.board.now.history c.args.pin.version c.args.pin.match_name in
    subst (λ budget. IsFindingOf offers budget c.in-Ok.finding) c.requires.budget c.in-Ok.ensures.finding
