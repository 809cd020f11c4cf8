use Rattle.settlement_definitions.specs.Abandonment.{decision}
use Rattle.settlement_definitions.proofs.DecidedLemmas.{stands, pushes}
use Rattle.settlement_definitions.proofs.laws.decided_means_every_later_score.Goals as goal

pub returns-clause-stands : goal.returns-clause-stands
returns-clause-stands c selection leg h a r d = stands selection leg h a (decision selection leg h a) r d

pub returns-clause-pushes : goal.returns-clause-pushes
returns-clause-pushes c selection leg h a never = pushes selection leg h a (decision selection leg h a) never
