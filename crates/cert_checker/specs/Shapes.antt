-- What can stand in a certificate.
use Rattle.std.specs.Prelude.{ℕ, ◌≡◌, ◌≢◌, ◌<◌, ◌≤◌, ◌⊎◌, min, List, length, Any, take}
use Rattle.scan_types.specs.declared.outcome.Outcome.{Outcome}
use Rattle.scan_types.specs.declared.limits.TheConstants.{MOST_MEASURE_ENTRIES, MOST_PART}
use Rattle.settlement_definitions.specs.Scores.{HasScoresInRange}
use Rattle.finding_definitions.specs.Measure.{IsFinal}
use Rattle.finding_definitions.specs.Fractions.{Fractions}
use Rattle.cert_checker.specs.Places.{AllHold, IsFirstFailure}

-- the numbers are not one for each offer, and k is the smaller count
abbrev pub IsMiscount : ℕ → ℕ → ℕ → Type 0
IsMiscount numbers offers k = (numbers ≢ offers) × (k ≡ min numbers offers)

-- a divisor in range
abbrev pub IsDivisor : ℕ → Type 0
IsDivisor divisor = (1 ≤ divisor) × (divisor ≤ MOST_PART)

-- parts in range
abbrev pub IsPart : ℕ → ℕ → Type 0
IsPart _ part = part ≤ MOST_PART

-- fractional stakes in range, one for each of so many offers
pub record HasShape (offers : ℕ) (stakes : Fractions) : Type 0 where
  pub count : length stakes.parts ≡ offers
  pub divisor : IsDivisor stakes.divisor
  pub small : AllHold IsPart stakes.parts

-- what is wrong with fractional stakes: their count, else the divisor, else the first part out of range
abbrev pub IsShapeFault : ℕ → Fractions → ℕ → Type 0
IsShapeFault offers stakes k =
    IsMiscount (length stakes.parts) offers k ⊎ ((length stakes.parts ≡ offers) × (((IsDivisor stakes.divisor → ⊥) × (k ≡ offers)) ⊎ (IsDivisor stakes.divisor × IsFirstFailure IsPart stakes.parts k)))

-- an entry that can stand at this place of a measure
pub record IsEntry (measure : List (Outcome × ℕ)) (k : ℕ) (entry : Outcome × ℕ) : Type 0 where
  pub few : k < MOST_MEASURE_ENTRIES
  pub weight_at_least : 1 ≤ entry.1
  pub weight_at_most : entry.1 ≤ MOST_PART
  pub scores : HasScoresInRange entry.0
  pub new : Any (λ e. e.0 ≡ entry.0) (take k measure) → ⊥

-- what makes a measure none: the first entry that cannot stand there, else that none is a final score
abbrev pub IsMeasureFault : List (Outcome × ℕ) → ℕ → Type 0
IsMeasureFault measure k =
    IsFirstFailure (IsEntry measure) measure k ⊎ (AllHold (IsEntry measure) measure × (Any (λ e. IsFinal e.0) measure → ⊥) × (k ≡ length measure))
