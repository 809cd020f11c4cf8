-- What is read from the tableau at the best end of a run, and where a number is too wide for a finding.
use Rattle.std.specs.Prelude.{◌≡◌, ℕ, suc, ◌<◌, ◌≤◌, not, ◌==◌, ◌⊎◌, List, map, zip, filter, take, length, slice_index, unsigned_abs}
use Rattle.std.specs.List.{All, range_with_len}
use Rattle.row_definitions.specs.Rows.{primitive_row}
use Rattle.pivot_definitions.specs.Tableaus.{SimplexTableau, multiplier_of}
use Rattle.scan_types.specs.declared.limits.TheConstants.{MOST_PART}
use Rattle.scan_types.specs.declared.offer.Offer.{Offer}
use Rattle.scan_types.specs.declared.outcome.Outcome.{Outcome}
use Rattle.finding_definitions.specs.Fractions.{Fractions}
use Rattle.finding_definitions.specs.declared.finding.WideAt.{WideAt}
use Rattle.finding_definitions.specs.declared.finding.WideAt.TheVariants.{Weight, Stake}
use Rattle.judging_definitions.specs.declared.limits.TheConstants.{MOST_COMMON_DENOMINATOR}
use Rattle.judging_definitions.specs.Stakes.{Fraction, column_value, IsCommonDenominator, multiples, in_lowest_terms, IsFittingDivisor}

-- the level of the basic solution is 1
abbrev pub HasLevelOne : SimplexTableau → Type 0
HasLevelOne tableau = (column_value tableau 0).numerator ≡ (column_value tableau 0).denominator

-- the first number of a list that is above a bound stands at this place
pub record FirstAbove (most : ℕ) (numbers : List ℕ) (place : ℕ) : Type 0 where
  pub within : place < length numbers
  pub above : most < slice_index numbers place
  pub others : (before : ℕ) → before < place → slice_index numbers before ≤ most

-- no number of a list is above a bound
abbrev pub NoneAbove : ℕ → List ℕ → Type 0
NoneAbove most numbers = All (λ n. n ≤ most) numbers

-- what a reading gives: a value, or the place of a number that is too wide
pub data Reading (A : Type 0) : Type 0 where
  Reads : A → Reading A
  ReadsWide : WideAt → Reading A

-- the weights of the classes: the multipliers of their rows, divided by their greatest common divisor
abbrev pub class_weights : List Outcome → SimplexTableau → List ℕ
class_weights classes tableau = map unsigned_abs (primitive_row (map (multiplier_of tableau) (range_with_len 0 (length classes))))

-- the classes with weight, in class order
abbrev pub weighted_classes : List Outcome → List ℕ → List (Outcome × ℕ)
weighted_classes classes weights = filter (λ e. not (e.1 == 0)) (zip classes weights)

-- the measure of a tableau, or the first class whose weight is above MOST_PART
abbrev pub MeasureReads : List Outcome → SimplexTableau → Reading (List (Outcome × ℕ)) → Type 0
MeasureReads classes tableau (Reads measure) = NoneAbove MOST_PART (class_weights classes tableau) × (measure ≡ weighted_classes classes (class_weights classes tableau))
MeasureReads classes tableau (ReadsWide (Weight class)) = FirstAbove MOST_PART (class_weights classes tableau) class
MeasureReads classes tableau (ReadsWide _) = ⊥

-- the least common denominator of fractions is a number that is not above a bound
pub record IsSmallDenominator (most : ℕ) (fractions : List Fraction) (d : ℕ) : Type 0 where
  pub common : IsCommonDenominator fractions d
  pub small : d ≤ most

-- the least common denominator of the fractions up to this one is above a bound, and that of the fractions up to an earlier one is not
pub record FirstWideDenominator (most : ℕ) (fractions : List Fraction) (place : ℕ) : Type 0 where
  pub within : place < length fractions
  pub denominator : ℕ
  pub common : IsCommonDenominator (take (suc place) fractions) denominator
  pub above : most < denominator
  pub others : (before : ℕ) → before < place → (d : ℕ) × IsSmallDenominator most (take (suc before) fractions) d

-- some fraction makes the common denominator too wide, or this one is the first whose multiple by it, in some form, is
abbrev pub FirstWideStake : ℕ → (List ℕ → List ℕ) → List Fraction → ℕ → Type 0
FirstWideStake most form fractions place =
    FirstWideDenominator most fractions place ⊎ ((d : ℕ) × IsSmallDenominator most fractions d × FirstAbove MOST_PART (form (multiples d fractions)) place)

-- the direction: whole numbers in the proportion of the fractions, in lowest terms, with the divisor that fits them to the limits
pub record IsDirection (offers : List Offer) (fractions : List Fraction) (direction : Fractions) : Type 0 where
  pub denominator : ℕ
  pub common : IsSmallDenominator MOST_COMMON_DENOMINATOR fractions denominator
  pub parts : direction.parts ≡ in_lowest_terms (multiples denominator fractions)
  pub small : NoneAbove MOST_PART direction.parts
  pub fits : IsFittingDivisor offers direction.parts direction.divisor

-- the direction of fractional stakes, or the first stake that is too wide for it
abbrev pub DirectionReads : List Offer → List Fraction → Reading Fractions → Type 0
DirectionReads offers fractions (Reads direction) = IsDirection offers fractions direction
DirectionReads offers fractions (ReadsWide (Stake offer)) = FirstWideStake MOST_COMMON_DENOMINATOR in_lowest_terms fractions offer
DirectionReads offers fractions (ReadsWide _) = ⊥

-- the fractions over their least common denominator
pub record AreParts (fractions : List Fraction) (parts : Fractions) : Type 0 where
  pub common : IsSmallDenominator MOST_PART fractions parts.divisor
  pub are : parts.parts ≡ multiples parts.divisor fractions
  pub small : NoneAbove MOST_PART parts.parts

-- the parts of fractional stakes, or the first stake that is too wide for them
abbrev pub PartsRead : List Fraction → Reading Fractions → Type 0
PartsRead fractions (Reads parts) = AreParts fractions parts
PartsRead fractions (ReadsWide (Stake offer)) = FirstWideStake MOST_PART (λ items. items) fractions offer
PartsRead fractions (ReadsWide _) = ⊥
