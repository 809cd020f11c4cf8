use Rattle.finding_definitions.specs.Arbitrage.{total_net}
use Rattle.settlement_definitions.specs.StandIns.{stand_ins}
use Rattle.cert_checker.specs.Losses.{Meets}
use Rattle.cert_checker.proofs.Searches.{HoldBefore}
use Rattle.cert_checker.proofs.outcomes.loss_of_stakes.Given as goal

abbrev pub invariant-loop-k : goal.invariant-loop-k
invariant-loop-k l = HoldBefore (Meets (total_net l.offers l.stakes)) stand_ins l.k
