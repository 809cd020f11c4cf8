use Rattle.finding_definitions.specs.Arbitrage.{total_gain}
use Rattle.settlement_definitions.specs.StandIns.{stand_ins}
use Rattle.cert_checker.specs.Losses.{Meets}
use Rattle.cert_checker.proofs.Searches.{HoldBefore}
use Rattle.cert_checker.proofs.outcomes.loss_of_parts.Given as goal

abbrev pub invariant-loop-k : goal.invariant-loop-k
invariant-loop-k l = HoldBefore (Meets (total_gain l.offers l.parts)) stand_ins l.k
