use Rattle.std.proofs.Common.{◌≡◌, ◌≤◌, ◌*◌, take}
use Rattle.std.specs.List.{sum_by}
use Rattle.settlement_definitions.specs.Gain.{slack}
use Rattle.coherence_lp.proofs.asked.total_slack.Given as goal

abbrev pub invariant-loop-i : goal.invariant-loop-i
invariant-loop-i l = record {
  sum : l.total ≡ sum_by (λ offer. slack offer l.outcome) (take l.i l.offers);
  small : l.total ≤ l.i * 1000000;
}
