-- The form of a printed number, said of a text by itself.
use Rattle.std.specs.Prelude.{ℕ, ◌≡◌, ◌≢◌, ◌≤◌, ◌⊎◌, Bool, true, List, [], ◌∷◌, ◌++◌, length, slice_index, codes}
use Rattle.std.specs.Str.{all_ascii_digits}

-- digits, and so many of them
pub record IsDigits (count : ℕ) (text : List ℕ) : Type 0 where
  pub digits : all_ascii_digits text ≡ true
  pub counted : length text ≡ count

-- one digit or more, without a leading zero
pub record IsNumeralText (text : List ℕ) : Type 0 where
  pub digits : all_ascii_digits text ≡ true
  pub some : 1 ≤ length text
  pub no_leading_zero : slice_index text 0 ≡ 48 → length text ≡ 1

-- such a numeral, a point, and exactly so many digits
pub record IsPrintedDecimal (count : ℕ) (text : List ℕ) : Type 0 where
  pub whole : List ℕ
  pub decimals : List ℕ
  pub parts : text ≡ whole ++ 46 ∷ decimals
  pub numeral : IsNumeralText whole
  pub exact : IsDigits count decimals

-- odds: exactly three decimals
abbrev pub IsPrintedOdds : List ℕ → Type 0
IsPrintedOdds text = IsPrintedDecimal 3 text

-- a total line: exactly two decimals
abbrev pub IsPrintedTotal : List ℕ → Type 0
IsPrintedTotal text = IsPrintedDecimal 2 text

-- the same behind a minus sign, but for the number 0
pub record IsPrintedBelow (form : List ℕ → Type 0) (no_number : List ℕ) (text : List ℕ) : Type 0 where
  pub size : List ℕ
  pub signed : text ≡ 45 ∷ size
  pub printed : form size
  pub not_zero : size ≢ no_number

-- a handicap line: exactly two decimals, and a minus sign only below zero
abbrev pub IsPrintedHandicap : List ℕ → Type 0
IsPrintedHandicap text = IsPrintedTotal text ⊎ IsPrintedBelow IsPrintedTotal (codes "0.00") text

-- a whole number: no leading zero, and a minus sign only below zero
abbrev pub IsPrintedNumber : List ℕ → Type 0
IsPrintedNumber text = IsNumeralText text ⊎ IsPrintedBelow IsNumeralText (codes "0") text
