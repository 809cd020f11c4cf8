use Rattle.finding_definitions.specs.Arbitrage.{total_net, total_gain}
use Rattle.settlement_laws.proofs.Sums.{need_at_each, total_net-stand_for, total_gain-stand_for}
use Rattle.settlement_laws.proofs.laws.stand_ins_suffice.Goals as goal

pub returns-clause-net : goal.returns-clause-net
returns-clause-net c offers stakes met = need_at_each (total_net offers stakes) (total_net-stand_for offers stakes) met

pub returns-clause-gain : goal.returns-clause-gain
returns-clause-gain c offers parts met = need_at_each (total_gain offers parts) (total_gain-stand_for offers parts) met
