use Rattle.std.specs.Prelude.{ℕ, ℤ, pos, ◌≤◌, ◌*◌, ◌/◌, ◌+ℤ◌, ◌*ℤ◌, ◌≤ℤ◌, ◌<ℤ◌, List, [], ◌∷◌, All, map, sum_by}
use Rattle.std.specs.List.{AllZip}
use Rattle.std.specs.Int.{int_max}
use Rattle.scan_types.specs.declared.offer.Offer.{Offer}
use Rattle.scan_types.specs.declared.outcome.Outcome.{Outcome}
use Rattle.scan_types.specs.declared.limits.TheConstants.{MOST_PART}
use Rattle.settlement_definitions.specs.Gain.{slack}
use Rattle.finding_definitions.specs.Arbitrage.{need, total_gain, IsArbitrage, ReachesUnit}
use Rattle.finding_definitions.specs.Measure.{weighted_sum, mean, final_weight, IsMeasure, IsPriceMeasure}

-- the most that stakes within the limits can win on average under a measure: the limits of the offers
-- with a gain on average, each times that gain
abbrev pub reach : List Offer → List (Outcome × ℕ) → ℤ
reach [] measure = pos 0
reach (offer ∷ offers) measure = pos offer.limit *ℤ int_max (pos 0) (mean measure offer) +ℤ reach offers measure

-- the stakes are an arbitrage
abbrev pub IsRightArb : List Offer → List ℕ → Type 0
IsRightArb offers stakes = IsArbitrage offers stakes

-- a price measure under which no offer gains on average
pub record IsRightCoherent (offers : List Offer) (measure : List (Outcome × ℕ)) : Type 0 where
  pub price : IsPriceMeasure measure
  pub no_gain : All (λ offer. mean measure offer ≤ℤ pos 0) offers

-- stakes in proportion to the parts gain at every final score and lose at no abandonment, but no
-- stakes within the limits win a whole minor unit: the measure weighs more than they can reach
pub record IsRightThin (offers : List Offer) (divisor : ℕ) (parts : List ℕ) (measure : List (Outcome × ℕ)) : Type 0 where
  pub divides : 1 ≤ divisor
  pub divisor_small : divisor ≤ MOST_PART
  pub parts_small : All (λ part. part ≤ MOST_PART) parts
  pub within_limits : AllZip (λ offer part. part ≤ offer.limit * divisor) offers parts
  pub gains : (x : Outcome) → need x ≤ℤ total_gain offers parts x
  pub price : IsPriceMeasure measure
  pub bound : reach offers measure <ℤ (pos 2000 *ℤ final_weight measure)

-- one unit at each final score, and what rounding may cost, in 1/1000 of a minor unit
abbrev pub need_with_slack : List Offer → Outcome → ℤ
need_with_slack offers x = pos 1000 *ℤ need x +ℤ pos (sum_by (λ offer. slack offer x) offers)

-- fractional stakes, the parts over the divisor, one per offer and within its limit, that win at every
-- outcome what is needed there and what rounding them down may cost
pub record ReachesSlack (offers : List Offer) (divisor : ℕ) (parts : List ℕ) : Type 0 where
  pub divides : 1 ≤ divisor
  pub within_limits : AllZip (λ offer part. part ≤ offer.limit * divisor) offers parts
  pub wins : (x : Outcome) → (pos (2 * divisor) *ℤ need_with_slack offers x) ≤ℤ total_gain offers parts x

-- fractional stakes win a whole unit, their floors do not, and no stakes within the limits win a unit
-- and what rounding may cost
pub record IsRightNarrow (offers : List Offer) (divisor : ℕ) (parts : List ℕ) (measure : List (Outcome × ℕ)) : Type 0 where
  pub divisor_small : divisor ≤ MOST_PART
  pub parts_small : All (λ part. part ≤ MOST_PART) parts
  pub reaches : ReachesUnit offers divisor parts
  pub floors_fail : IsArbitrage offers (map (λ part. part / divisor) parts) → ⊥
  pub measured : IsMeasure measure
  pub bound : reach offers measure <ℤ (pos 2 *ℤ weighted_sum (need_with_slack offers) measure)
