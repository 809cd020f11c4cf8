-- Laws of the programs of a sheet, of what is read at the best end of a run, of coarse odds, and of findings.
use Rattle.std.specs.Prelude.{◌≡◌, ◌↔◌, ℕ, Bool, List, length, map, filter, ℤ, ◌≤ℤ◌, ◌<ℤ◌}
use Rattle.std.specs.List.{enumerate_from}
use Rattle.scan_types.specs.declared.limits.TheConstants.{MOST_PART}
use Rattle.scan_types.specs.declared.offer.Offer.{Offer}
use Rattle.scan_types.specs.declared.outcome.Outcome.{Outcome}
use Rattle.settlement_definitions.specs.Classes.{classes_of}
use Rattle.pivot_definitions.specs.Programs.{LinearProgram, IsProgram, IsCapped}
use Rattle.pivot_definitions.specs.Tableaus.{SimplexTableau, kept}
use Rattle.pivot_definitions.specs.Runs.{IsBest}
use Rattle.pivot_definitions.specs.Duality.{IsReached}
use Rattle.finding_definitions.specs.Arbitrage.{need, total_gain, IsArbitrage, ReachesUnit}
use Rattle.finding_definitions.specs.Measure.{weighted_sum}
use Rattle.finding_definitions.specs.Verdicts.{reach, IsRightCoherent}
use Rattle.finding_definitions.specs.Findings.{IsRight}
use Rattle.finding_definitions.specs.Fractions.{Fractions}
use Rattle.finding_definitions.specs.declared.finding.Finding.{Finding}
use Rattle.judging_definitions.specs.JudgingPrograms.{homogeneous_program, limited_program, plain_need, slack_need}
use Rattle.judging_definitions.specs.Stakes.{Fraction, fractional_stakes, all_numbers, floors}
use Rattle.judging_definitions.specs.Readings.{HasLevelOne, NoneAbove, Reading, class_weights, weighted_classes, MeasureReads, IsDirection, DirectionReads, AreParts, PartsRead}
use Rattle.judging_definitions.specs.FirstRun.{first_program, first_stakes}
use Rattle.judging_definitions.specs.CoarseOdds.{raised_offers, kept_numbers, lowered_offers, with_zeros}
use Rattle.judging_definitions.specs.ExactFinding.{IsFindingOf}

-- the program without limits is one whose last row caps the level
abbrev pub HomogeneousIsCapped : Type 0
HomogeneousIsCapped = (classes : List Outcome) (offers : List Offer) → IsProgram (homogeneous_program classes offers) × IsCapped (homogeneous_program classes offers)

-- and so is a program with limits
abbrev pub LimitedIsCapped : Type 0
LimitedIsCapped = (classes : List Outcome) (offers : List Offer) (asked : Outcome → ℤ) → IsProgram (limited_program classes offers asked) × IsCapped (limited_program classes offers asked)

-- the fractional stakes of a tableau of a program with limits
abbrev pub limited_stakes : List Offer → SimplexTableau → List Fraction
limited_stakes offers tableau = fractional_stakes (classes_of offers) offers (all_numbers offers) tableau

-- the measure of a tableau
abbrev pub measure_of : List Offer → SimplexTableau → List (Outcome × ℕ)
measure_of offers tableau = weighted_classes (classes_of offers) (class_weights (classes_of offers) tableau)

-- a run of the program is at its best at this tableau
abbrev pub IsAtBest : LinearProgram → SimplexTableau → Type 0
IsAtBest program tableau = IsReached program tableau × IsBest tableau

-- at level 0 of the program without limits the measure is a price measure by which no offer of the sheet gains on average, leading or not
abbrev pub LevelZeroIsCoherent : Type 0
LevelZeroIsCoherent = (offers : List Offer) (tableau : SimplexTableau) → IsAtBest (first_program offers) tableau → (HasLevelOne tableau → ⊥) → NoneAbove MOST_PART (class_weights (classes_of offers) tableau) → IsRightCoherent offers (measure_of offers tableau)

-- at level 1 of it stakes in the direction gain at every final score and lose at no abandonment
abbrev pub LevelOneGains : Type 0
LevelOneGains = (offers : List Offer) (tableau : SimplexTableau) (direction : Fractions) → IsAtBest (first_program offers) tableau → HasLevelOne tableau → IsDirection offers (first_stakes offers tableau) direction → (x : Outcome) → need x ≤ℤ total_gain offers direction.parts x

-- below level 1 of a program with limits, stakes within the limits win less by the measure than it weighs what is asked for
abbrev pub BelowLevelOneMoreIsAsked : Type 0
BelowLevelOneMoreIsAsked = (offers : List Offer) (asked : Outcome → ℤ) (tableau : SimplexTableau) → IsAtBest (limited_program (classes_of offers) offers asked) tableau → (HasLevelOne tableau → ⊥) → reach offers (measure_of offers tableau) <ℤ weighted_sum asked (measure_of offers tableau)

-- at level 1 of the program with limits its parts are within the limits and reach one unit
abbrev pub PartsReachUnit : Type 0
PartsReachUnit = (offers : List Offer) (tableau : SimplexTableau) (parts : Fractions) → IsAtBest (limited_program (classes_of offers) offers plain_need) tableau → HasLevelOne tableau → AreParts (limited_stakes offers tableau) parts → ReachesUnit offers parts.divisor parts.parts

-- at level 1 of the program with limits and slack its stakes, rounded down, are an arbitrage
abbrev pub SlackFloorsAreArbitrage : Type 0
SlackFloorsAreArbitrage = (offers : List Offer) (tableau : SimplexTableau) → IsAtBest (limited_program (classes_of offers) offers (slack_need offers)) tableau → HasLevelOne tableau → IsArbitrage offers (floors (limited_stakes offers tableau))

-- the level of a plain tableau is 1 just where that of its kept form is
abbrev pub SameLevel : Type 0
SameLevel = (plain : SimplexTableau) → HasLevelOne plain ↔ HasLevelOne (kept plain)

-- both have one measure
abbrev pub SameMeasure : Type 0
SameMeasure = (classes : List Outcome) (plain : SimplexTableau) (reading : Reading (List (Outcome × ℕ))) → MeasureReads classes plain reading ↔ MeasureReads classes (kept plain) reading

-- one direction
abbrev pub SameDirection : Type 0
SameDirection = (classes : List Outcome) (offers : List Offer) (numbers : List ℕ) (plain : SimplexTableau) (reading : Reading Fractions) → DirectionReads offers (fractional_stakes classes offers numbers plain) reading ↔ DirectionReads offers (fractional_stakes classes offers numbers (kept plain)) reading

-- the same parts
abbrev pub SameParts : Type 0
SameParts = (classes : List Outcome) (offers : List Offer) (numbers : List ℕ) (plain : SimplexTableau) (reading : Reading Fractions) → PartsRead (fractional_stakes classes offers numbers plain) reading ↔ PartsRead (fractional_stakes classes offers numbers (kept plain)) reading

-- and the same stakes rounded down
abbrev pub SameFloors : Type 0
SameFloors = (classes : List Outcome) (offers : List Offer) (numbers : List ℕ) (plain : SimplexTableau) → floors (fractional_stakes classes offers numbers plain) ≡ floors (fractional_stakes classes offers numbers (kept plain))

-- a measure by which no offer gains on average at odds rounded up is one by which none gains at the odds of the sheet
abbrev pub RaisedMeasureIsRight : Type 0
RaisedMeasureIsRight = (offers : List Offer) (measure : List (Outcome × ℕ)) → IsRightCoherent (raised_offers offers) measure → IsRightCoherent offers measure

-- stakes on some of the offers of a sheet gain as much as the same stakes with 0 on each offer that is left out
abbrev pub LeftOutGainNothing : Type 0
LeftOutGainNothing =
    (keeps : ℕ × Offer → Bool) (offers : List Offer) (items : List ℕ) (x : Outcome)
    → let kept = filter keeps (enumerate_from 0 offers) in total_gain offers (with_zeros (map (λ offer. offer.0) kept) items (length offers)) x ≡ total_gain (map (λ offer. offer.1) kept) items x

-- stakes gain no less at the odds of the sheet than at odds rounded down
abbrev pub LoweredStakesGainNoLess : Type 0
LoweredStakesGainNoLess =
    (offers : List Offer) (items : List ℕ) (x : Outcome) → total_gain (lowered_offers offers) items x ≤ℤ total_gain offers (with_zeros (kept_numbers offers) items (length offers)) x

-- a verdict that is the finding of a sheet with a budget is right, and so is a narrow finding
abbrev pub FindingIsRight : Type 0
FindingIsRight = (offers : List Offer) (budget : ℕ) (finding : Finding) → IsFindingOf offers budget finding → IsRight offers finding
