use Rattle.cert_checker.specs.Shapes.{IsPart}
use Rattle.cert_checker.proofs.Searches.{HoldBefore}
use Rattle.cert_checker.proofs.shape.large_part.Given as goal

abbrev pub invariant-loop-k : goal.invariant-loop-k
invariant-loop-k l = HoldBefore IsPart l.parts l.k
