-- What a right verdict without stakes rules out.
use Rattle.std.specs.Prelude.{ℕ, List}
use Rattle.scan_types.specs.declared.offer.Offer.{Offer}
use Rattle.finding_definitions.specs.declared.finding.Finding.{Finding}
use Rattle.finding_definitions.specs.declared.finding.Finding.TheVariants.{Arb, Coherent, Thin, Narrow, Wide, OutOfPivots}
use Rattle.finding_definitions.specs.Arbitrage.{IsArbitrage, ReachesUnit}

-- no stakes within the limits reach one unit, fractions included, and no whole stakes are an arbitrage
pub record AdmitsNone (offers : List Offer) : Type 0 where
  pub fractions : (divisor : ℕ) (parts : List ℕ) → ReachesUnit offers divisor parts → ⊥
  pub whole : (stakes : List ℕ) → IsArbitrage offers stakes → ⊥

-- `coherent` and `thin` say so of the offers
abbrev pub LeavesNoArbitrage : List Offer → Finding → Type 0
LeavesNoArbitrage offers (Arb stakes) = Unit {0}
LeavesNoArbitrage offers (Coherent measure) = AdmitsNone offers
LeavesNoArbitrage offers (Thin stakes measure) = AdmitsNone offers
LeavesNoArbitrage offers (Narrow stakes measure) = Unit {0}
LeavesNoArbitrage offers (Wide stage pivots place) = Unit {0}
LeavesNoArbitrage offers (OutOfPivots stage pivots) = Unit {0}
