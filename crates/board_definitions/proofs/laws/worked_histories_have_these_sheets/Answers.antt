use Rattle.board_definitions.proofs.WorkedSheets.{sheets_as_worked}
use Rattle.board_definitions.proofs.laws.worked_histories_have_these_sheets.Goals as goal

pub returns : goal.returns
returns c = sheets_as_worked
