use Rattle.coherence_lp.proofs.Fitting.{IsFittingBefore}
use Rattle.coherence_lp.proofs.direction.fitting_divisor.Given as goal

abbrev pub invariant-loop-i : goal.invariant-loop-i
invariant-loop-i l = IsFittingBefore l.offers l.items l.i l.divisor
