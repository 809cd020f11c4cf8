use Rattle.std.proofs.Common.{pos, ◌*ℤ◌, ap}
use Rattle.finding_definitions.specs.Arbitrage.{need, total_net, total_gain}
use Rattle.finding_definitions.specs.Verdicts.{need_with_slack}
use Rattle.settlement_laws.proofs.AlikeSums.{equal_needs, equal_nets, equal_gains, equal_slacks, bound_from_classes}
use Rattle.settlement_laws.proofs.laws.classes_suffice.Goals as goal

pub returns-clause-net : goal.returns-clause-net
returns-clause-net c offers stakes =
    bound_from_classes offers need (total_net offers stakes) (equal_needs offers) (equal_nets offers stakes)

pub returns-clause-gain : goal.returns-clause-gain
returns-clause-gain c offers parts times =
    bound_from_classes offers (λ x. pos times *ℤ need x) (total_gain offers parts) (λ x y same. ap (λ z. pos times *ℤ z) (equal_needs offers x y same)) (equal_gains offers parts)

pub returns-clause-slack : goal.returns-clause-slack
returns-clause-slack c offers parts times =
    bound_from_classes offers (λ x. pos times *ℤ need_with_slack offers x) (total_gain offers parts) (λ x y same. ap (λ z. pos times *ℤ z) (equal_slacks offers x y same)) (equal_gains offers parts)
