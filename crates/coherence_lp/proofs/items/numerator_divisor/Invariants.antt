use Rattle.std.specs.Prelude.{slice_index_or}
use Rattle.coherence_lp.proofs.Divisors.{IsGcdBelow}
use Rattle.coherence_lp.proofs.StakeLists.{any_ratio}
use Rattle.coherence_lp.proofs.items.numerator_divisor.Given as goal

abbrev pub invariant-loop-i : goal.invariant-loop-i
invariant-loop-i l = IsGcdBelow (λ i. (slice_index_or l.ratios i any_ratio).numerator) l.i l.divisor
