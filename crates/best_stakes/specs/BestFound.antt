-- What comes of the run for the best stakes of a sheet with a budget of pivots.
use Rattle.std.specs.Prelude.{◌≡◌, ◌<◌, ℕ, ◌⊎◌, List}
use Rattle.pivot_definitions.specs.Tableaus.{SimplexTableau, built}
use Rattle.pivot_definitions.specs.Runs.{EndsBest, EndsWide, EndsOutOfPivots}
use Rattle.scan_types.specs.declared.offer.Offer.{Offer}
use Rattle.scan_types.specs.declared.outcome.Outcome.{Outcome}
use Rattle.settlement_definitions.specs.Classes.{classes_of}
use Rattle.finding_definitions.specs.Fractions.{Fractions}
use Rattle.finding_definitions.specs.Best.{GainsMost, IsRightBest}
use Rattle.finding_definitions.specs.declared.finding.WideAt.{WideAt}
use Rattle.finding_definitions.specs.declared.finding.WideAt.TheVariants.{Entry}
use Rattle.judging_definitions.specs.Readings.{Reads, ReadsWide, MeasureReads, PartsRead}
use Rattle.judging_laws.specs.Laws.{limited_stakes}
use Rattle.bland_laws.specs.Bases.{basis_count}
use Rattle.best_laws.specs.Laws.{most_program}
use Rattle.best_stakes.specs.declared.out.BestOut.{BestOut}
use Rattle.best_stakes.specs.declared.out.BestOut.TheVariants.{Best, Wide, OutOfPivots}

-- what the measure at the best end of the run makes of the parts: the two, or the place of a weight that is too wide
abbrev pub ReadWith : List Offer → SimplexTableau → ℕ → Fractions → BestOut → Type 0
ReadWith offers end pivots parts out =
    ((measure : List (Outcome × ℕ)) × MeasureReads (classes_of offers) end (Reads measure) × (out ≡ Best parts measure))
    ⊎ ((place : WideAt) × MeasureReads (classes_of offers) end (ReadsWide place) × (out ≡ Wide pivots place))

-- what is read at the best end of the run: the parts first, then the measure
abbrev pub ReadAs : List Offer → SimplexTableau → ℕ → BestOut → Type 0
ReadAs offers end pivots out =
    ((parts : Fractions) × PartsRead (limited_stakes offers end) (Reads parts) × ReadWith offers end pivots parts out)
    ⊎ ((place : WideAt) × PartsRead (limited_stakes offers end) (ReadsWide place) × (out ≡ Wide pivots place))

-- the run of the program for the best stakes passes 128 bits, uses up its budget, or is read at its best end
abbrev pub IsBestOf : List Offer → ℕ → BestOut → Type 0
IsBestOf offers budget out =
    ((pivots : ℕ) × (row : ℕ) × (column : ℕ) × (end : SimplexTableau) × EndsWide (built (most_program offers)) budget pivots row column end × (out ≡ Wide pivots (Entry row column)))
    ⊎ (((pivots : ℕ) × (end : SimplexTableau) × EndsOutOfPivots (built (most_program offers)) budget pivots end × (out ≡ OutOfPivots pivots))
    ⊎ ((pivots : ℕ) × (end : SimplexTableau) × EndsBest (built (most_program offers)) budget pivots end × ReadAs offers end pivots out))

-- stakes that come of it are the best, shown by the measure
abbrev pub IsRightOut : List Offer → BestOut → Type 0
IsRightOut offers (Best parts measure) = IsRightBest offers parts.divisor parts.parts measure
IsRightOut offers (Wide pivots place) = Unit {0}
IsRightOut offers (OutOfPivots pivots) = Unit {0}

-- and no others win more for sure
abbrev pub GainsMostOut : List Offer → BestOut → Type 0
GainsMostOut offers (Best parts measure) = GainsMost offers parts.divisor parts.parts
GainsMostOut offers (Wide pivots place) = Unit {0}
GainsMostOut offers (OutOfPivots pivots) = Unit {0}

-- where the run is out of pivots, it made fewer than its program has bases
abbrev pub MadeFewPivots : List Offer → BestOut → Type 0
MadeFewPivots offers (Best parts measure) = Unit {0}
MadeFewPivots offers (Wide pivots place) = Unit {0}
MadeFewPivots offers (OutOfPivots pivots) = pivots < basis_count (most_program offers)
