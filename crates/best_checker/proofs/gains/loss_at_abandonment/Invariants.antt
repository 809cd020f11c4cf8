use Rattle.finding_definitions.specs.Arbitrage.{total_gain}
use Rattle.settlement_definitions.specs.StandIns.{stand_ins}
use Rattle.cert_checker.proofs.Searches.{HoldBefore}
use Rattle.best_checker.specs.Abandonments.{KeepsAll}
use Rattle.best_checker.proofs.gains.loss_at_abandonment.Given as goal

abbrev pub invariant-loop-k : goal.invariant-loop-k
invariant-loop-k l = HoldBefore (KeepsAll (total_gain l.offers l.parts)) stand_ins l.k
