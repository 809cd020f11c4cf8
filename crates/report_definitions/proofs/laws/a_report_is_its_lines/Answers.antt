use Rattle.report_definitions.proofs.ReportLines.{report_is_its_lines}
use Rattle.report_definitions.proofs.laws.a_report_is_its_lines.Goals as goal

pub returns : goal.returns
returns c = report_is_its_lines
