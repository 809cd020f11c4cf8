use Rattle.board_definitions.proofs.Live.{sheet_stays}
use Rattle.board_definitions.proofs.laws.earlier_sheets_stay.Goals as goal

pub returns : goal.returns
returns c = λ rules history more version match_name within. sheet_stays rules history more version match_name within
