use Rattle.judging_definitions.proofs.finding_law.Goals as goal
use Rattle.judging_definitions.proofs.OneCoarseVerdict.{finding_one}

pub returns : goal.returns
returns c = finding_one
