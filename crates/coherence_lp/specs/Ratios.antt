-- Fractions as the code has them, in lowest terms and over a common denominator.
use Rattle.std.specs.Prelude.{◌≡◌, ℕ, ◌*◌, ◌/◌, ◌≤◌, List, map}
use Rattle.std.specs.Int.{◌∣◌, IsGcd}
use Rattle.std.specs.List.{AllZip}
use Rattle.finding_definitions.specs.declared.finding.WideAt.{WideAt}
use Rattle.finding_definitions.specs.declared.finding.WideAt.TheVariants.{Entry, Weight, Stake}
use Rattle.judging_definitions.specs.Stakes.{Fraction, MakesWhole}
use Rattle.coherence_lp.specs.declared.ratio.Ratio.{Ratio}

-- the fraction
abbrev pub fraction_of : Ratio → Fraction
fraction_of ratio = record { numerator = ratio.numerator; denominator = ratio.denominator }

-- the fraction by a number
abbrev pub by_divisor : Fraction → ℕ → Fraction
by_divisor fraction divisor = record { numerator = fraction.numerator; denominator = fraction.denominator * divisor }

-- the other fraction is this one in lowest terms
pub record IsLowestForm (fraction lowest : Fraction) : Type 0 where
  pub factor : ℕ
  pub above_zero : 1 ≤ factor
  pub numerator : fraction.numerator ≡ factor * lowest.numerator
  pub denominator : fraction.denominator ≡ factor * lowest.denominator
  pub stands : 1 ≤ lowest.denominator
  pub apart : IsGcd lowest.numerator lowest.denominator 1

-- the least common multiple of two numbers
pub record IsLeastCommonMultiple (a b multiple : ℕ) : Type 0 where
  pub above_zero : 1 ≤ multiple
  pub first : a ∣ multiple
  pub second : b ∣ multiple
  pub least : (other : ℕ) → a ∣ other → b ∣ other → multiple ∣ other

-- a number above 0 makes each fraction whole, and divides each other number that does
pub record IsWholeBy (fractions : List Fraction) (d : ℕ) : Type 0 where
  pub above_zero : 1 ≤ d
  pub whole : MakesWhole d fractions
  pub divides : (other : ℕ) → MakesWhole other fractions → d ∣ other

-- the fractions in lowest terms, and their least common denominator, which is not above a bound
pub record AreCommonStakes (fractions : List Fraction) (most : ℕ) (ratios : List Ratio) (denominator : ℕ) : Type 0 where
  pub lowest : AllZip IsLowestForm fractions (map fraction_of ratios)
  pub common : IsWholeBy fractions denominator
  pub small : denominator ≤ most

-- a stake over a common denominator, and by a number
abbrev pub item_of : ℕ → ℕ → Ratio → ℕ
item_of denominator divisor ratio = denominator / ratio.denominator * (ratio.numerator / divisor)

-- a stake is too wide, and this holds of its place
abbrev pub IsWideStake : (ℕ → Type 0) → WideAt → Type 0
IsWideStake fact (Stake offer) = fact offer
IsWideStake fact (Entry row column) = ⊥
IsWideStake fact (Weight class) = ⊥
