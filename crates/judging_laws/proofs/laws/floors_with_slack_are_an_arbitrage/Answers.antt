use Rattle.judging_laws.proofs.laws.floors_with_slack_are_an_arbitrage.Goals as goal
use Rattle.judging_laws.proofs.Parts.{slack_floors}

pub returns : goal.returns
returns c = λ offers tableau at. slack_floors offers tableau at.0 at.1
