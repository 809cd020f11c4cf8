use Rattle.settlement_laws.proofs.AlikeSums.{equal_needs, equal_nets, equal_gains, equal_slacks}
use Rattle.settlement_laws.proofs.laws.alike_outcomes_have_equal_sums.Goals as goal

pub returns-clause-needs : goal.returns-clause-needs
returns-clause-needs c = equal_needs

pub returns-clause-nets : goal.returns-clause-nets
returns-clause-nets c = equal_nets

pub returns-clause-gains : goal.returns-clause-gains
returns-clause-gains c = equal_gains

pub returns-clause-slacks : goal.returns-clause-slacks
returns-clause-slacks c = equal_slacks
