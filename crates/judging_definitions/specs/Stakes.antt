-- The fractional stakes of a tableau's basic solution, and what is made of them.
use Rattle.std.specs.Prelude.{◌≡◌, ℕ, suc, ◌*◌, ◌/◌, ◌≤◌, ◌==◌, Option, None, Some, List, map, zip, length, Contains, pos, unsigned_abs}
use Rattle.std.specs.Int.{◌∣◌}
use Rattle.std.specs.List.{All, AllZip, enumerate_from, range_with_len, position}
use Rattle.row_definitions.specs.Rows.{primitive_row}
use Rattle.pivot_definitions.specs.Tableaus.{SimplexTableau, entry_at, right_side}
use Rattle.scan_types.specs.declared.offer.Offer.{Offer}
use Rattle.scan_types.specs.declared.outcome.Outcome.{Outcome}
use Rattle.judging_definitions.specs.Columns.{offer_divisor}

-- a fraction that is not negative
pub record Fraction : Type 0 where
  pub numerator : ℕ
  pub denominator : ℕ

-- the value of a column that is basic in a row, or in none: right side over entry, or 0
abbrev pub value_in_row : SimplexTableau → ℕ → Option ℕ → Fraction
value_in_row tableau column None = record { numerator = 0; denominator = 1 }
value_in_row tableau column (Some row) = record { numerator = unsigned_abs (right_side tableau row); denominator = unsigned_abs (entry_at tableau row column) }

-- the value of a column in the basic solution
abbrev pub column_value : SimplexTableau → ℕ → Fraction
column_value tableau column = value_in_row tableau column (position (λ basic. basic == column) tableau.basis)

-- the stake of an offer that has a column, or none: the column's value by the offer's divisor, or 0
abbrev pub stake_in_column : SimplexTableau → ℕ → Option ℕ → Fraction
stake_in_column tableau divisor None = record { numerator = 0; denominator = 1 }
stake_in_column tableau divisor (Some place) =
    let value = column_value tableau (suc place) in
    record { numerator = value.numerator; denominator = value.denominator * divisor }

-- the fractional stake of each offer of a sheet, where the columns from 1 on are those of the offers with these numbers
abbrev pub fractional_stakes : List Outcome → List Offer → List ℕ → SimplexTableau → List Fraction
fractional_stakes classes offers numbers tableau =
    map (λ offer. stake_in_column tableau (offer_divisor classes offer.1) (position (λ number. number == offer.0) numbers)) (enumerate_from 0 offers)

-- the numbers of all offers, for a program in which each has a column
abbrev pub all_numbers : List Offer → List ℕ
all_numbers offers = range_with_len 0 (length offers)

-- so many times each fraction is whole
abbrev pub MakesWhole : ℕ → List Fraction → Type 0
MakesWhole d fractions = All (λ fraction. fraction.denominator ∣ d * fraction.numerator) fractions

-- the least number above 0 that makes each fraction whole
pub record IsCommonDenominator (fractions : List Fraction) (d : ℕ) : Type 0 where
  pub above_zero : 1 ≤ d
  pub whole : MakesWhole d fractions
  pub least : (other : ℕ) → 1 ≤ other → MakesWhole other fractions → d ≤ other

-- so many times each fraction, where that is whole
abbrev pub multiples : ℕ → List Fraction → List ℕ
multiples d fractions = map (λ fraction. d * fraction.numerator / fraction.denominator) fractions

-- each fraction rounded down
abbrev pub floors : List Fraction → List ℕ
floors fractions = map (λ fraction. fraction.numerator / fraction.denominator) fractions

-- the list divided by the greatest common divisor of its items
abbrev pub in_lowest_terms : List ℕ → List ℕ
in_lowest_terms items = map unsigned_abs (primitive_row (map pos items))

-- the least divisor, from 1 on, by which the parts are within the limits
pub record IsFittingDivisor (offers : List Offer) (parts : List ℕ) (divisor : ℕ) : Type 0 where
  pub above_zero : 1 ≤ divisor
  pub within_limits : AllZip (λ offer part. part ≤ offer.limit * divisor) offers parts
  pub least : (other : ℕ) → 1 ≤ other → AllZip (λ offer part. part ≤ offer.limit * other) offers parts → divisor ≤ other

-- stakes in proportion to a direction, as large as the limits let them be, rounded down: the offer that binds is one whose limit is the fewest times its item
pub record AreScaledFloors (offers : List Offer) (direction stakes : List ℕ) : Type 0 where
  pub limit : ℕ
  pub item : ℕ
  pub above_zero : 1 ≤ item
  pub stands : Contains (zip (map (λ offer. offer.limit) offers) direction) (limit, item)
  pub binds : AllZip (λ offer other. 1 ≤ other → limit * other ≤ offer.limit * item) offers direction
  pub are : stakes ≡ map (λ other. limit * other / item) direction
