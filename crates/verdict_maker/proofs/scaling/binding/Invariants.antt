use Rattle.verdict_maker.proofs.ScaleFacts.{BoundSoFar}
use Rattle.verdict_maker.proofs.scaling.binding.Given as goal

abbrev pub invariant-loop-k : goal.invariant-loop-k
invariant-loop-k l = BoundSoFar l.offers l.items l.k l.limit l.item
