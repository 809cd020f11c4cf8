use Rattle.settlement_definitions.proofs.DecidedLemmas.{decided_result-by_goals}
use Rattle.settlement_definitions.proofs.laws.goals_decide.Goals as goal

pub returns : goal.returns
returns c = decided_result-by_goals
