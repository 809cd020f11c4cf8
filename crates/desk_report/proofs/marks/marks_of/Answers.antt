use Rattle.std.proofs.Common.{◌∙◌}
use Rattle.desk_report.proofs.marks.marks_of.Goals as goal

pub returns-clause-marks : goal.returns-clause-marks
returns-clause-marks c = λ q. c.in_ok-sort_keys.ensures.reordered.2 q ∙ c.in_ok-marks.ensures q
