-- Digits read one after another.
use Rattle.std.proofs.Common.{◌≡◌, ℕ, suc, zero, ◌+◌, ◌*◌, ◌^◌, ◌-◌, ◌<◌, ◌≤◌, Bool, true, false, cond, leb, ◌&&◌, List, [], ◌∷◌, length, take, drop, get_or, Option, Some, None, option_map, option_and_then, ◌≢◌, refl, sym, ap, ◌∙◌, arith}
use Rattle.std.proofs.lemmas.Bool.{leb-true, eqb-true}
use Rattle.std.proofs.lemmas.Int.Digits.{digits_value_more}
use Rattle.std.proofs.lemmas.List.{length-take-le}
use Rattle.std.proofs.lemmas.List.Sums.{passes_at_first}
use Rattle.std.proofs.lemmas.List.Splits.{length-slice_split}
use Rattle.std.proofs.lemmas.Str.{digit_value_digit}
use Rattle.std.proofs.lemmas.Str.Parse.{IsNumeralModel, numerals_by_value, tells_all_ascii_digits, digits_value_short}
use Rattle.std.specs.Char.{is_ascii_digit, digit_value}
use Rattle.std.specs.List.{slice_split, position, position_or_len}
use Rattle.odds_fixed.proofs.Splits.{Found, found, split_found, split_none}
use Rattle.std.specs.Str.{all_ascii_digits}
use Rattle.std.specs.Str.Parse.{digits_value}
use Rattle.number_definitions.specs.Readings.{number_of, thousandths_of_parts, is_point}

-- a byte that is no digit
pub not_all_digits : (xs : List ℕ) (i : ℕ) → i < length xs → is_ascii_digit (get_or xs i 0) ≡ false → all_ascii_digits xs ≡ false
not_all_digits [] i within h = absurd (omega (arith, within))
not_all_digits (x ∷ xs) zero within h = ap (λ b. b && all_ascii_digits xs) h
not_all_digits (x ∷ xs) (suc i) within h =
    elim (is_ascii_digit x) as (λ b. (b && all_ascii_digits xs) ≡ false) [
      | true ↦ not_all_digits xs i (omega (arith, within)) h
      | false ↦ refl
    ]

and_false : (b : Bool) → (b && false) ≡ false
and_false true = refl
and_false false = refl

pub number_not_digits : (most : ℕ) (text : List ℕ) → all_ascii_digits text ≡ false → None ≡ number_of most text
number_not_digits most text h =
    sym (ap (λ b. cond ((leb 1 (length text) && leb (length text) most) && b) (Some (digits_value 10 text)) None) h
    ∙ ap (λ b. cond b (Some (digits_value 10 text)) None) (and_false (leb 1 (length text) && leb (length text) most)))

pub digits_by_value : IsNumeralModel (λ ds. all_ascii_digits ds ≡ true) (digits_value 10)
digits_by_value = numerals_by_value (λ ds. all_ascii_digits ds ≡ true) tells_all_ascii_digits

-- so many digits write a number below that power of ten
pub digits_below : (text : List ℕ) (i most : ℕ) → i ≤ most → i ≤ length text → all_ascii_digits (take i text) ≡ true → digits_value 10 (take i text) < 10 ^ most
digits_below text i most few within all =
    digits_value_short digits_by_value (take i text) most all (omega (arith, few, length-take-le i text within))

both_parts : (a b : Bool) → (a && b) ≡ true → (a ≡ true) × (b ≡ true)
both_parts true b h = (refl, h)
both_parts false b h = absurd (cc)

pub digits_more : (xs : List ℕ) (i : ℕ) → i < length xs → all_ascii_digits (take i xs) ≡ true → is_ascii_digit (get_or xs i 0) ≡ true → all_ascii_digits (take (suc i) xs) ≡ true
digits_more [] i within all digit = absurd (omega (arith, within))
digits_more (x ∷ xs) zero within all digit = ap (λ b. b && true) digit
digits_more (x ∷ xs) (suc i) within all digit =
    let parts = both_parts (is_ascii_digit x) (all_ascii_digits (take i xs)) all in
    ap (λ b. b && all_ascii_digits (take (suc i) xs)) parts.0 ∙ digits_more xs i (omega (arith, within)) parts.1 digit

is_digit_value : (c : ℕ) → is_ascii_digit c ≡ true → digit_value c ≡ c - 48
is_digit_value c h =
    let parts = both_parts (leb 48 c) (leb c 57) h in
    let low : 48 ≤ c = leb-true 48 c parts.0 in
    let high : c ≤ 57 = leb-true c 57 parts.1 in
    omega (arith, digit_value_digit c (low, high))

pub digit_after : (text : List ℕ) (i number digit : ℕ) → i < length text → number ≡ digits_value 10 (take i text) →
    digit ≡ get_or text i 0 - 48 → is_ascii_digit (get_or text i 0) ≡ true → number * 10 + digit ≡ digits_value 10 (take (i + 1) text)
digit_after text i number digit within is digit_is ascii =
    ap (λ n. n * 10 + digit) is
    ∙ ap (λ d. digits_value 10 (take i text) * 10 + d) (digit_is ∙ sym (is_digit_value (get_or text i 0) ascii))
    ∙ sym (digits_value_more 10 text i within)

-- the thousandths of odds without a point
pub whole_none : (text : List ℕ) → slice_split is_point text ≡ text ∷ [] → None ≡ number_of 4 text → None ≡ thousandths_of_parts (slice_split is_point text)
unfolding thousandths_of_parts
whole_none text one h = ap (option_and_then (λ units. Some (1000 * units))) h ∙ sym (ap thousandths_of_parts one)

pub whole_some : (text : List ℕ) (n : ℕ) → slice_split is_point text ≡ text ∷ [] → Some n ≡ number_of 4 text → Some (1000 * n) ≡ thousandths_of_parts (slice_split is_point text)
unfolding thousandths_of_parts
whole_some text n one h = ap (option_and_then (λ units. Some (1000 * units))) h ∙ sym (ap thousandths_of_parts one)

thousandths_of_many : (parts : List (List ℕ)) → length parts ≢ 1 → length parts ≢ 2 → None ≡ thousandths_of_parts parts
unfolding thousandths_of_parts
thousandths_of_many [] h k = refl
thousandths_of_many (a ∷ []) h k = absurd (h refl)
thousandths_of_many (a ∷ b ∷ []) h k = absurd (k refl)
thousandths_of_many (a ∷ b ∷ c ∷ parts) h k = refl

-- and of odds with a point
regroup : (units : ℕ) (g : ℕ → ℕ) (o : Option ℕ) → option_map (λ q. 1000 * units + q) (option_map g o) ≡ option_and_then (λ p. Some (1000 * units + g p)) o
regroup units g None = refl
regroup units g (Some p) = refl

none_after : (o : Option ℕ) → option_and_then {U = ℕ} (λ units. None) o ≡ None
none_after None = refl
none_after (Some units) = refl

-- the thousandths of what stands before the first point and what follows it
abbrev joined : ℕ → Option ℕ → Option ℕ → Option ℕ
joined count o read = option_and_then (λ units. option_and_then (λ parts. Some (1000 * units + parts * 10 ^ (3 - count))) read) o

-- what follows the first point is one part, or no number
module _ (whole fraction : List ℕ) (at : ℕ) (is : position is_point fraction ≡ Some at) where
  f : Found is_point fraction at
  f = found is_point fraction at is

  point : get_or fraction at 0 ≡ 46
  point = ap (λ k. get_or fraction k 0) (sym f.is)
      ∙ eqb-true (get_or fraction (position_or_len is_point fraction) 0) 46
      (passes_at_first is_point fraction 0 (omega (arith, f.within, f.is)))

  no_number : None ≡ number_of 3 fraction
  no_number = number_not_digits 3 fraction (not_all_digits fraction at f.within (ap is_ascii_digit point))

  further_point : thousandths_of_parts (whole ∷ slice_split is_point fraction) ≡ joined (length fraction) (number_of 4 whole) (number_of 3 fraction)
  further_point =
      sym (thousandths_of_many (whole ∷ slice_split is_point fraction)
      (λ one. omega (arith, one, ap length (split_found is_point fraction at is), length-slice_split is_point (drop (at + 1) fraction)))
      (λ two. omega (arith, two, ap length (split_found is_point fraction at is), length-slice_split is_point (drop (at + 1) fraction))))
      ∙ sym (none_after (number_of 4 whole))
      ∙ ap (joined (length fraction) (number_of 4 whole)) no_number

fraction_parts : (whole fraction : List ℕ) → thousandths_of_parts (whole ∷ slice_split is_point fraction) ≡ joined (length fraction) (number_of 4 whole) (number_of 3 fraction)
unfolding thousandths_of_parts
fraction_parts whole fraction = elim (position is_point fraction) as (λ o. position is_point fraction ≡ o →
    thousandths_of_parts (whole ∷ slice_split is_point fraction) ≡ joined (length fraction) (number_of 4 whole) (number_of 3 fraction)) [
      | None ↦ λ is. ap (λ rest. thousandths_of_parts (whole ∷ rest)) (split_none is_point fraction is)
      | Some at ↦ λ is. further_point whole fraction at is
    ] refl

module _ (text whole fraction : List ℕ) (cut : slice_split is_point text ≡ whole ∷ slice_split is_point fraction) where
  pub units_none : None ≡ number_of 4 whole → None ≡ thousandths_of_parts (slice_split is_point text)
  units_none h = ap (λ o. joined (length fraction) o (number_of 3 fraction)) h ∙ sym (ap thousandths_of_parts cut ∙ fraction_parts whole fraction)

  pub with_fraction : (units : ℕ) (read : Option ℕ) → Some units ≡ number_of 4 whole →
      read ≡ option_map (λ parts. parts * 10 ^ (3 - length fraction)) (number_of 3 fraction) →
      option_map (λ q. 1000 * units + q) read ≡ thousandths_of_parts (slice_split is_point text)
  with_fraction units read h is =
      ap (option_map (λ q. 1000 * units + q)) is
      ∙ regroup units (λ parts. parts * 10 ^ (3 - length fraction)) (number_of 3 fraction)
      ∙ ap (λ o. joined (length fraction) o (number_of 3 fraction)) h
      ∙ sym (ap thousandths_of_parts cut ∙ fraction_parts whole fraction)
