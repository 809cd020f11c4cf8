-- The coarse verdict of a sheet: a measure found with its odds rounded up, or else stakes found with its odds rounded down. Either is one for the odds of the sheet itself.
use Rattle.std.specs.Prelude.{◌≡◌, ℕ, ◌⊎◌, List, length}
use Rattle.pivot_definitions.specs.Tableaus.{SimplexTableau}
use Rattle.scan_types.specs.declared.offer.Offer.{Offer}
use Rattle.scan_types.specs.declared.outcome.Outcome.{Outcome}
use Rattle.settlement_definitions.specs.Classes.{classes_of}
use Rattle.finding_definitions.specs.Arbitrage.{IsArbitrage}
use Rattle.finding_definitions.specs.Fractions.{Fractions}
use Rattle.finding_definitions.specs.declared.finding.Finding.{Finding}
use Rattle.finding_definitions.specs.declared.finding.Finding.TheVariants.{Arb, Coherent}
use Rattle.judging_definitions.specs.CoarseOdds.{raised_offers, kept_numbers, lowered_offers, with_zeros}
use Rattle.judging_definitions.specs.FirstRun.{FirstRunEndsBest, first_stakes}
use Rattle.judging_definitions.specs.Stakes.{AreScaledFloors}
use Rattle.judging_definitions.specs.Readings.{HasLevelOne, Reads, MeasureReads, DirectionReads}

-- the finding of the first of two tries, or of the second if the first has none
abbrev pub FirstOf : (Finding → Type 0) → (Finding → Type 0) → Finding → Type 0
FirstOf first second finding = first finding ⊎ (((other : Finding) → first other → ⊥) × second finding)

-- the measure of a best tableau of a sheet's first run, at level 0
pub record IsMeasureAt (offers : List Offer) (end : SimplexTableau) (finding : Finding) : Type 0 where
  pub level_zero : HasLevelOne end → ⊥
  pub measure : List (Outcome × ℕ)
  pub reads : MeasureReads (classes_of offers) end (Reads measure)
  pub is : finding ≡ Coherent measure

-- with odds rounded up, the first run ends at level 0, and this is its measure
abbrev pub IsCoarseMeasure : List Offer → ℕ → Finding → Type 0
IsCoarseMeasure offers budget finding = (end : SimplexTableau) × FirstRunEndsBest (raised_offers offers) budget end × IsMeasureAt (raised_offers offers) end finding

-- stakes in a direction, as large as the limits of a sheet let them be, that are an arbitrage on it
pub record AreStakesInDirection (offers : List Offer) (direction : List ℕ) (finding : Finding) : Type 0 where
  pub stakes : List ℕ
  pub are_scaled : AreScaledFloors offers direction stakes
  pub arbitrage : IsArbitrage offers stakes
  pub is : finding ≡ Arb stakes

-- the stakes of a best tableau of the first run with odds rounded down, at level 1: in its direction, with 0 for each offer that is left out, and an arbitrage at the odds of the sheet itself
pub record AreStakesAt (offers : List Offer) (end : SimplexTableau) (finding : Finding) : Type 0 where
  pub level_one : HasLevelOne end
  pub direction : Fractions
  pub reads : DirectionReads (lowered_offers offers) (first_stakes (lowered_offers offers) end) (Reads direction)
  pub stakes : AreStakesInDirection offers (with_zeros (kept_numbers offers) direction.parts (length offers)) finding

-- with odds rounded down, the first run ends at level 1, and these are its stakes
abbrev pub AreCoarseStakes : List Offer → ℕ → Finding → Type 0
AreCoarseStakes offers budget finding = (end : SimplexTableau) × FirstRunEndsBest (lowered_offers offers) budget end × AreStakesAt offers end finding

-- the coarse verdict of a sheet with a budget of pivots for each run
abbrev pub IsCoarseVerdict : List Offer → ℕ → Finding → Type 0
IsCoarseVerdict offers budget finding = FirstOf (IsCoarseMeasure offers budget) (AreCoarseStakes offers budget) finding
