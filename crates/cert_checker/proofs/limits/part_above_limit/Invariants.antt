use Rattle.std.proofs.Common.{◌≤◌, ◌*◌, get_or}
use Rattle.cert_checker.proofs.Searches.{HoldBefore}
use Rattle.cert_checker.proofs.limits.part_above_limit.Given as goal

abbrev pub invariant-loop-i : goal.invariant-loop-i
invariant-loop-i l = HoldBefore (λ i offer. get_or l.parts i 0 ≤ offer.limit * l.divisor) l.offers l.i
