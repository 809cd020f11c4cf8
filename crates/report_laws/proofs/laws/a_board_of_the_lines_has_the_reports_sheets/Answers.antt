use Rattle.report_laws.proofs.Boards.{same_sheets, same_matches}
use Rattle.report_laws.proofs.laws.a_board_of_the_lines_has_the_reports_sheets.Goals as goal

pub returns : goal.returns
returns c = record { sheets = same_sheets; matches = same_matches }
