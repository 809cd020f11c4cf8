-- Odds have one spelling.
use Rattle.std.proofs.Common.{◌≡◌, ℕ, ◌+◌, ◌-◌, ◌*◌, ◌/◌, ◌%◌, ◌^◌, ◌<◌, Bool, true, false, List, [], ◌∷◌, ◌++◌, length, Option, Some, None, Ok, option_and_then, refl, sym, ap, ◌∙◌, arith, decimal}
use Rattle.std.specs.Str.{all_ascii_digits}
use Rattle.std.specs.Str.Parse.{digits_value}
use Rattle.scan_types.specs.declared.odds.Odds.{Odds}
use Rattle.number_definitions.specs.Printed.{IsDigits, IsPrintedOdds}
use Rattle.number_definitions.specs.Readings.{number_of, thousandths_of, thousandths_of_parts}
use Rattle.number_definitions.specs.Spellings.{last_digit, odds_text}
use Rattle.number_definitions.specs.Values.{odds_with, odds_if, is_within, in_range, or_cause}
use Rattle.number_definitions.proofs.Made.{odds_with_odds}
use Rattle.odds_fixed.specs.declared.faults.OddsFault.TheVariants.{BadOdds, OddsRange}
use Rattle.odds_fixed.specs.Faults.{odds_or_fault}
use Rattle.odds_fixed.specs.Laws.{IsTheOneSpelling}
use Rattle.odds_fixed.proofs.Numbers.{digits_by_value}
use Rattle.odds_fixed.proofs.Numerals.{numeral_text, decimal_of_value, number_of_digits, number_of_value, number_of_decimal, split_decimal, digit_is, digit_value_is, digit_byte}

abbrev joined : Option ℕ → Option ℕ → ℕ → Option ℕ
joined whole fraction count = option_and_then (λ units. option_and_then (λ parts. Some (1000 * units + parts * 10 ^ (3 - count))) fraction) whole

-- a printed text in its two parts
thousandths_printed : (whole decimals : List ℕ) → all_ascii_digits whole ≡ true → all_ascii_digits decimals ≡ true →
    thousandths_of (whole ++ 46 ∷ decimals) ≡ joined (number_of 4 whole) (number_of 3 decimals) (length decimals)
unfolding thousandths_of_parts
thousandths_printed whole decimals all also = ap thousandths_of_parts (split_decimal whole decimals all also)

-- the three decimals of a number
abbrev three : ℕ → List ℕ
three n = last_digit (n / 100) ∷ last_digit (n / 10) ∷ last_digit n ∷ []

three_digits : (n : ℕ) → IsDigits 3 (three n)
three_digits n = record {
  digits = rw (digit_is (n / 100 % 10) (omega arith), digit_is (n / 10 % 10) (omega arith), digit_is (n % 10) (omega arith)) refl;
  counted = refl;
}

three_value : (n : ℕ) → digits_value 10 (three n) ≡ n % 1000
three_value n = omega (arith, digit_value_is (n / 100 % 10) (omega arith), digit_value_is (n / 10 % 10) (omega arith), digit_value_is (n % 10) (omega arith))

odds_printed : (n : ℕ) → n < 10 ^ 7 → IsPrintedOdds (odds_text n)
odds_printed n small = record { whole = decimal (n / 1000); decimals = three n; parts = refl; numeral = numeral_text (n / 1000) (omega arith); exact = three_digits n }

thousandths_read : (n : ℕ) → n < 10 ^ 7 → thousandths_of (odds_text n) ≡ Some n
thousandths_read n small =
    let whole = numeral_text (n / 1000) (omega arith) in
    let behind = three_digits n in
    let same : 1000 * (n / 1000) + (n % 1000) * 10 ^ (3 - 3) ≡ n = omega arith in
    thousandths_printed (decimal (n / 1000)) (three n) whole.digits behind.digits
    ∙ ap (λ o. joined o (number_of 3 (three n)) 3) (number_of_decimal 4 (n / 1000) (omega arith) (omega arith) (omega arith))
    ∙ ap (λ o. joined (Some (n / 1000)) o 3) (number_of_digits 3 (three n) (omega arith) (omega arith) behind.digits ∙ ap Some (three_value n))
    ∙ ap Some same

-- the parts of a printed text that reads as a number
record Read (whole decimals : List ℕ) (n : ℕ) : Type 0 where
  units : ℕ
  parts : ℕ
  units_read : number_of 4 whole ≡ Some units
  parts_read : number_of 3 decimals ≡ Some parts
  sum : 1000 * units + parts * 10 ^ (3 - length decimals) ≡ n

parts_of : (whole decimals : List ℕ) (n : ℕ) (o p : Option ℕ) → number_of 4 whole ≡ o → number_of 3 decimals ≡ p →
    joined o p (length decimals) ≡ Some n → Read whole decimals n
parts_of whole decimals n None p is also h = absurd (cc)
parts_of whole decimals n (Some u) None is also h = absurd (cc)
parts_of whole decimals n (Some u) (Some q) is also h = record { units = u; parts = q; units_read = is; parts_read = also; sum = cc }

three_same : (n u q : ℕ) (decimals : List ℕ) → IsDigits 3 decimals → digits_value 10 decimals ≡ q → 1000 * u + q ≡ n → (u ≡ n / 1000) × (decimals ≡ three n)
three_same n u q [] d v s = absurd (omega (arith, d.counted))
three_same n u q (a ∷ []) d v s = absurd (omega (arith, d.counted))
three_same n u q (a ∷ b ∷ []) d v s = absurd (omega (arith, d.counted))
three_same n u q (a ∷ b ∷ c ∷ []) d v s =
    let each = digits_by_value.to (a ∷ b ∷ c ∷ []) d.digits in
    let x = digit_byte a each.0 in
    let y = digit_byte b each.1.0 in
    let z = digit_byte c each.1.1.0 in
    let first : a ≡ last_digit (n / 100) = omega arith in
    let second : b ≡ last_digit (n / 10) = omega arith in
    let third : c ≡ last_digit n = omega arith in
    (omega arith, (λ i. first i ∷ second i ∷ third i ∷ []))
three_same n u q (a ∷ b ∷ c ∷ e ∷ more) d v s = absurd (omega (arith, d.counted))

thousandths_only : (text : List ℕ) (n : ℕ) → n < 10 ^ 7 → IsPrintedOdds text → thousandths_of text ≡ Some n → text ≡ odds_text n
thousandths_only text n small printed h =
    let split = sym (thousandths_printed printed.whole printed.decimals printed.numeral.digits printed.exact.digits) ∙ ap thousandths_of (sym printed.parts) ∙ h in
    let r = parts_of printed.whole printed.decimals n (number_of 4 printed.whole) (number_of 3 printed.decimals) refl refl split in
    let even : r.parts * 10 ^ (3 - length printed.decimals) ≡ r.parts = ap (λ k. r.parts * 10 ^ (3 - k)) printed.exact.counted ∙ omega arith in
    let same = three_same n r.units r.parts printed.decimals printed.exact (number_of_value 3 printed.decimals r.parts r.parts_read) (omega (arith, r.sum, even)) in
    let whole = decimal_of_value printed.whole (n / 1000) printed.numeral (number_of_value 4 printed.whole r.units r.units_read ∙ same.0) (omega arith) in
    printed.parts ∙ (λ i. whole i ++ 46 ∷ same.1 i)

-- the odds of a number
made_is : (n : ℕ) (odds : Odds) (b : Bool) (is : is_within 1001 1000000 n ≡ b) → odds_if n b is ≡ Some odds → n ≡ odds.thousandths
made_is n odds true is h = ap thousandths_or h
  where
    thousandths_or : Option Odds → ℕ
    thousandths_or None = 0
    thousandths_or (Some made) = made.thousandths
made_is n odds false is h = absurd (cc)

with_is : (n : ℕ) (odds : Odds) → odds_with n ≡ Some odds → n ≡ odds.thousandths
unfolding odds_with
with_is n odds h = made_is n odds (is_within 1001 1000000 n) refl h

value_read : (odds : Odds) (o : Option ℕ) → in_range BadOdds OddsRange o odds_with ≡ Ok odds → o ≡ Some odds.thousandths
value_read odds None h = absurd (cc)
value_read odds (Some n) h = ap Some (with_is n odds (found (odds_with n) h))
  where
    found : (made : Option Odds) → or_cause OddsRange made ≡ Ok odds → made ≡ Some odds
    found None h = absurd (cc)
    found (Some made) h = cc

pub odds_spelling : (odds : Odds) → IsTheOneSpelling IsPrintedOdds odds_or_fault (Ok odds) (odds_text odds.thousandths)
odds_spelling odds =
    let small : odds.thousandths < 10 ^ 7 = omega (arith, odds.at_most) in
    record {
      printed = odds_printed odds.thousandths small;
      reads = ap (λ o. in_range BadOdds OddsRange o odds_with) (thousandths_read odds.thousandths small) ∙ ap (or_cause OddsRange) (odds_with_odds odds);
      only = λ other printed h. thousandths_only other odds.thousandths small printed (value_read odds (thousandths_of other) h);
    }
