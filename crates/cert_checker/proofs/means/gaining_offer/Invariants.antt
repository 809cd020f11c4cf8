use Rattle.cert_checker.specs.Gains.{GainsNothing}
use Rattle.cert_checker.proofs.Searches.{HoldBefore}
use Rattle.cert_checker.proofs.means.gaining_offer.Given as goal

abbrev pub invariant-loop-i : goal.invariant-loop-i
invariant-loop-i l = HoldBefore (GainsNothing l.entries) l.offers l.i
