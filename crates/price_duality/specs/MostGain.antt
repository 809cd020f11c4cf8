-- The most that can be won for sure within the limits.
use Rattle.std.specs.Prelude.{ℕ, List}
use Rattle.scan_types.specs.declared.offer.Offer.{Offer}
use Rattle.scan_types.specs.declared.outcome.Outcome.{Outcome}
use Rattle.finding_definitions.specs.Measure.{IsPriceMeasure}
use Rattle.finding_definitions.specs.Verdicts.{reach}
use Rattle.finding_definitions.specs.Best.{final_need, WinsMore, GainsMost, IsRightBest}

-- no stakes within the limits that lose at no abandonment, fractions included, win at every final score more than the
-- bound of a price measure
abbrev pub MeasureBoundsGain : Type 0
MeasureBoundsGain =
    (offers : List Offer) (measure : List (Outcome × ℕ)) (divisor : ℕ) (parts : List ℕ) → IsPriceMeasure measure → ¬ WinsMore offers (reach offers measure) (final_need measure) divisor parts

-- so under a right best none win at every final score more than its stakes win for sure
abbrev pub BestGainsMost : Type 0
BestGainsMost =
    (offers : List Offer) (divisor : ℕ) (parts : List ℕ) (measure : List (Outcome × ℕ)) → IsRightBest offers divisor parts measure → GainsMost offers divisor parts
