use Rattle.report_laws.proofs.Matches.{one_list, one_report}
use Rattle.report_laws.proofs.laws.feeds_have_one_report.Goals as goal

pub returns : goal.returns
returns c = record { matches = one_list; report = one_report }
