-- The best stakes of a sheet: the most that can be won for sure, with a measure that shows that it is the most.
use Rattle.std.specs.Prelude.{ℕ, ℤ, pos, ◌≡◌, ◌≤◌, ◌*◌, ◌*ℤ◌, ◌≤ℤ◌, ◌<ℤ◌, List, All}
use Rattle.std.specs.List.{AllZip}
use Rattle.scan_types.specs.declared.offer.Offer.{Offer}
use Rattle.scan_types.specs.declared.outcome.Outcome.{Outcome}
use Rattle.scan_types.specs.declared.outcome.Outcome.TheVariants.{Full, Abandoned}
use Rattle.scan_types.specs.declared.limits.TheConstants.{MOST_PART}
use Rattle.finding_definitions.specs.Arbitrage.{total_gain}
use Rattle.finding_definitions.specs.Measure.{final_weight, IsPriceMeasure}
use Rattle.finding_definitions.specs.Verdicts.{reach}

-- fractional stakes, the parts over the divisor, one per offer and within its limit, that lose nothing at any abandonment
pub record AreSafe (offers : List Offer) (divisor : ℕ) (parts : List ℕ) : Type 0 where
  pub divides : 1 ≤ divisor
  pub within_limits : AllZip (λ offer part. part ≤ offer.limit * divisor) offers parts
  pub loses_nothing : (home away : ℕ) → pos 0 ≤ℤ total_gain offers parts (Abandoned home away)

-- the least that the parts win at a final score: over 2000 times their divisor it is the sure gain in minor units
pub record IsLeastGain (offers : List Offer) (parts : List ℕ) (least : ℤ) : Type 0 where
  pub at_least : (home away : ℕ) → least ≤ℤ total_gain offers parts (Full home away)
  pub reached : (home : ℕ) × (away : ℕ) × (total_gain offers parts (Full home away) ≡ least)

-- 2000 times the weight of the final scores: the reach over it is the bound of a measure, in minor units
abbrev pub final_need : List (Outcome × ℕ) → ℤ
final_need measure = pos 2000 *ℤ final_weight measure

-- stakes that are safe and win more than a fraction of minor units, top over bottom, at every final score
pub record WinsMore (offers : List Offer) (top bottom : ℤ) (divisor : ℕ) (parts : List ℕ) : Type 0 where
  pub safe : AreSafe offers divisor parts
  pub more : (home away : ℕ) → (top *ℤ pos (2000 * divisor)) <ℤ (bottom *ℤ total_gain offers parts (Full home away))

-- no safe stakes, fractions included, win at every final score more than the sure gain of these
abbrev pub GainsMost : List Offer → ℕ → List ℕ → Type 0
GainsMost offers divisor parts =
    (least : ℤ) → IsLeastGain offers parts least → (other : ℕ) (others : List ℕ) → ¬ WinsMore offers least (pos (2000 * divisor)) other others

-- the sure gain of the parts and the bound of the measure are one fraction
pub record Ties (offers : List Offer) (divisor : ℕ) (parts : List ℕ) (measure : List (Outcome × ℕ)) : Type 0 where
  pub gain : ℤ
  pub least : IsLeastGain offers parts gain
  pub equal : gain *ℤ final_need measure ≡ reach offers measure *ℤ pos (2000 * divisor)

-- stakes in range that are safe, and a price measure whose bound is their sure gain
pub record IsRightBest (offers : List Offer) (divisor : ℕ) (parts : List ℕ) (measure : List (Outcome × ℕ)) : Type 0 where
  pub divisor_small : divisor ≤ MOST_PART
  pub parts_small : All (λ part. part ≤ MOST_PART) parts
  pub safe : AreSafe offers divisor parts
  pub price : IsPriceMeasure measure
  pub ties : Ties offers divisor parts measure
