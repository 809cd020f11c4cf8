-- What makes a finding right for a sheet.
use Rattle.std.specs.Prelude.{List}
use Rattle.scan_types.specs.declared.offer.Offer.{Offer}
use Rattle.finding_definitions.specs.declared.finding.Finding.{Finding}
use Rattle.finding_definitions.specs.declared.finding.Finding.TheVariants.{Arb, Coherent, Thin, Narrow, Wide, OutOfPivots}
use Rattle.finding_definitions.specs.Verdicts.{IsRightArb, IsRightCoherent, IsRightThin, IsRightNarrow}

-- the finding decides whether the offers admit arbitrage; the other findings leave it open
abbrev pub IsVerdict : Finding → Type 0
IsVerdict (Arb stakes) = Unit {0}
IsVerdict (Coherent measure) = Unit {0}
IsVerdict (Thin parts measure) = Unit {0}
IsVerdict (Narrow parts measure) = ⊥
IsVerdict (Wide stage pivots place) = ⊥
IsVerdict (OutOfPivots stage pivots) = ⊥

-- the finding is a verdict, and what it says of the offers is so
abbrev pub IsRightVerdict : List Offer → Finding → Type 0
IsRightVerdict offers (Arb stakes) = IsRightArb offers stakes
IsRightVerdict offers (Coherent measure) = IsRightCoherent offers measure
IsRightVerdict offers (Thin parts measure) = IsRightThin offers parts.divisor parts.parts measure
IsRightVerdict offers (Narrow parts measure) = ⊥
IsRightVerdict offers (Wide stage pivots place) = ⊥
IsRightVerdict offers (OutOfPivots stage pivots) = ⊥

-- what the finding says of the offers is so; the last two say only how far a run came
abbrev pub IsRight : List Offer → Finding → Type 0
IsRight offers (Arb stakes) = IsRightArb offers stakes
IsRight offers (Coherent measure) = IsRightCoherent offers measure
IsRight offers (Thin parts measure) = IsRightThin offers parts.divisor parts.parts measure
IsRight offers (Narrow parts measure) = IsRightNarrow offers parts.divisor parts.parts measure
IsRight offers (Wide stage pivots place) = Unit {0}
IsRight offers (OutOfPivots stage pivots) = Unit {0}
