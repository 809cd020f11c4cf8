use Rattle.report_laws.proofs.Matches.{all_right}
use Rattle.report_laws.proofs.laws.findings_of_a_report_are_right.Goals as goal

pub returns : goal.returns
returns c = all_right
