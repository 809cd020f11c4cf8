-- Each value has one spelling: it has the printed form, it reads as the value, and no other text does both.
use Rattle.std.specs.Prelude.{ℕ, ◌≡◌, ◌≤◌, ◌^◌, ℤ, pos, List, Some, Ok, nat_abs}
use Rattle.std.specs.Str.Parse.{signed_digits_value}
use Rattle.scan_types.specs.declared.odds.Odds.{Odds}
use Rattle.scan_types.specs.declared.line.HandicapLine.{HandicapLine}
use Rattle.scan_types.specs.declared.line.TotalLine.{TotalLine}
use Rattle.number_definitions.specs.Readings.{quarters_of}
use Rattle.number_definitions.specs.Printed.{IsPrintedOdds, IsPrintedHandicap, IsPrintedTotal, IsPrintedNumber}
use Rattle.number_definitions.specs.Spellings.{odds_text, quarters_text, handicap_text, number_text}
use Rattle.odds_fixed.specs.Faults.{odds_or_fault}

-- the text has the form, reads as the value, and is the only one that does both
pub record IsTheOneSpelling {A : Type 0} (form : List ℕ → Type 0) (read : List ℕ → A) (value : A) (text : List ℕ) : Type 0 where
  pub printed : form text
  pub reads : read text ≡ value
  pub only : (other : List ℕ) → form other → read other ≡ value → other ≡ text

abbrev pub OddsHaveOneSpelling : Type 0
OddsHaveOneSpelling = (odds : Odds) → IsTheOneSpelling IsPrintedOdds odds_or_fault (Ok odds) (odds_text odds.thousandths)

abbrev pub HandicapsHaveOneSpelling : Type 0
HandicapsHaveOneSpelling = (line : HandicapLine) → IsTheOneSpelling IsPrintedHandicap quarters_of (Some line.quarters) (handicap_text line.quarters)

abbrev pub TotalsHaveOneSpelling : Type 0
TotalsHaveOneSpelling = (line : TotalLine) → IsTheOneSpelling IsPrintedTotal quarters_of (Some (pos line.quarters)) (quarters_text line.quarters)

-- whole numbers of 128 bits
abbrev pub NumbersHaveOneSpelling : Type 0
NumbersHaveOneSpelling = (z : ℤ) → nat_abs z ≤ 2 ^ 127 → IsTheOneSpelling IsPrintedNumber (signed_digits_value 10) z (number_text z)
