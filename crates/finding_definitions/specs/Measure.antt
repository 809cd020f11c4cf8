use Rattle.std.specs.Prelude.{ℕ, ℤ, pos, ◌≢◌, ◌≤◌, ◌+ℤ◌, ◌*ℤ◌, List, [], ◌∷◌, length, All, Any, AllPairs}
use Rattle.scan_types.specs.declared.offer.Offer.{Offer}
use Rattle.scan_types.specs.declared.outcome.Outcome.{Outcome}
use Rattle.scan_types.specs.declared.outcome.Outcome.TheVariants.{Full, Abandoned}
use Rattle.scan_types.specs.declared.limits.TheConstants.{MOST_MEASURE_ENTRIES, MOST_PART}
use Rattle.settlement_definitions.specs.Gain.{gain}
use Rattle.settlement_definitions.specs.Scores.{HasScoresInRange}
use Rattle.finding_definitions.specs.Arbitrage.{need}

-- the sum over a measure, each outcome by its weight
abbrev pub weighted_sum : (Outcome → ℤ) → List (Outcome × ℕ) → ℤ
weighted_sum f [] = pos 0
weighted_sum f (entry ∷ entries) = pos entry.1 *ℤ f entry.0 +ℤ weighted_sum f entries

-- the mean of an offer's gain, not divided by the weight of the measure
abbrev pub mean : List (Outcome × ℕ) → Offer → ℤ
mean measure offer = weighted_sum (gain offer) measure

-- the weight of the final scores
abbrev pub final_weight : List (Outcome × ℕ) → ℤ
final_weight measure = weighted_sum need measure

-- the match was completed
abbrev pub IsFinal : Outcome → Type 0
IsFinal (Full h a) = Unit {0}
IsFinal (Abandoned h a) = ⊥

-- 1 to MOST_MEASURE_ENTRIES distinct outcomes with scores in range, each with a weight from 1 to MOST_PART
pub record IsMeasure (measure : List (Outcome × ℕ)) : Type 0 where
  pub some : 1 ≤ length measure
  pub few : length measure ≤ MOST_MEASURE_ENTRIES
  pub distinct : AllPairs (λ e f. e.0 ≢ f.0) measure
  pub scores : All (λ e. HasScoresInRange e.0) measure
  pub weights : All (λ e. (1 ≤ e.1) × (e.1 ≤ MOST_PART)) measure

-- a measure with weight on at least one final score
pub record IsPriceMeasure (measure : List (Outcome × ℕ)) : Type 0 where
  pub form : IsMeasure measure
  pub final : Any (λ e. IsFinal e.0) measure
