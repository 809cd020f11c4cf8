use Rattle.judging_laws.proofs.laws.findings_are_right.Goals as goal
use Rattle.judging_laws.proofs.RightFindings.{finding_right}

pub returns : goal.returns
returns c = finding_right
