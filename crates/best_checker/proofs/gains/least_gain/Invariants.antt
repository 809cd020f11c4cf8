use Rattle.std.proofs.Common.{ℕ, ◌≡◌}
use Rattle.scan_types.specs.declared.outcome.Outcome.TheVariants.{Full}
use Rattle.finding_definitions.specs.Arbitrage.{total_gain}
use Rattle.settlement_definitions.specs.StandIns.{stand_ins}
use Rattle.cert_checker.proofs.Searches.{HoldBefore}
use Rattle.best_checker.specs.Gains.{IsAtLeast}
use Rattle.best_checker.proofs.gains.least_gain.Given as goal

abbrev pub invariant-loop-k : goal.invariant-loop-k
invariant-loop-k l =
    HoldBefore (IsAtLeast (total_gain l.offers l.parts) l.least) stand_ins l.k × ((home : ℕ) × (away : ℕ) × (total_gain l.offers l.parts (Full home away) ≡ l.least))
