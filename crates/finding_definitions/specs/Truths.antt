-- What a verdict says of the offers, in the words of stakes.
use Rattle.std.specs.Prelude.{ℕ, pos, ◌≤◌, ◌*◌, ◌*ℤ◌, ◌≤ℤ◌, List}
use Rattle.scan_types.specs.declared.offer.Offer.{Offer}
use Rattle.scan_types.specs.declared.outcome.Outcome.{Outcome}
use Rattle.finding_definitions.specs.declared.finding.Finding.{Finding}
use Rattle.finding_definitions.specs.declared.finding.Finding.TheVariants.{Arb, Coherent, Thin, Narrow, Wide, OutOfPivots}
use Rattle.finding_definitions.specs.Arbitrage.{IsArbitrage, ReachesUnit, need, total_gain}
use Rattle.finding_definitions.specs.Findings.{IsRight}

-- stakes in fractions, the parts over the divisor, that win at least one minor unit at every final score and lose nothing at any
-- abandonment, whatever the limits are
pub record WinsUnit (offers : List Offer) (divisor : ℕ) (parts : List ℕ) : Type 0 where
  pub divides : 1 ≤ divisor
  pub wins : (x : Outcome) → (pos (2000 * divisor) *ℤ need x) ≤ℤ total_gain offers parts x

-- no stakes within the limits do what an arbitrage would: none in whole units, and none in fractions
pub record AdmitsNoArbitrage (offers : List Offer) : Type 0 where
  pub whole : (stakes : List ℕ) → IsArbitrage offers stakes → ⊥
  pub fractions : (divisor : ℕ) (parts : List ℕ) → ReachesUnit offers divisor parts → ⊥

-- what a finding rules out: `coherent` such stakes under any limits, `thin` those within the limits, and the others nothing
abbrev pub RulesOut : List Offer → Finding → Type 0
RulesOut offers (Arb stakes) = Unit {0}
RulesOut offers (Coherent measure) = AdmitsNoArbitrage offers × ((divisor : ℕ) (parts : List ℕ) → WinsUnit offers divisor parts → ⊥)
RulesOut offers (Thin parts measure) = AdmitsNoArbitrage offers
RulesOut offers (Narrow parts measure) = Unit {0}
RulesOut offers (Wide stage pivots place) = Unit {0}
RulesOut offers (OutOfPivots stage pivots) = Unit {0}

-- the finding is true of the offers: what it shows is so, and no stakes do what it rules out
pub record IsTrueOf (offers : List Offer) (finding : Finding) : Type 0 where
  pub right : IsRight offers finding
  pub rules_out : RulesOut offers finding
