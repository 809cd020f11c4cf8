-- Numerals without a leading zero: what `decimal` writes, and no other text of that value.
use Rattle.std.proofs.Common.{◌≡◌, ℕ, suc, zero, ◌+◌, ◌*◌, ◌/◌, ◌%◌, ◌^◌, ◌<◌, ◌≤◌, true, false, leb, ◌&&◌, List, [], ◌∷◌, ◌++◌, length, get_or, Some, refl, sym, ap, ◌∙◌, arith, decimal, append_assoc, append-nil, length-append}
use Rattle.std.specs.Str.{all_ascii_digits}
use Rattle.std.specs.Char.{digit_value, is_ascii_digit}
use Rattle.std.specs.List.{slice_split, All}
use Rattle.std.specs.Str.Parse.{AllDigits, digits_value, digits_value_after}
use Rattle.std.proofs.lemmas.Bool.{le-leb, ne_eqb}
use Rattle.std.proofs.lemmas.Fmt.{decimal_is_IsNumeral_wide, decimal_step_wide, decimal_by_steps_wide, decimal_digit, length-decimal-le_wide}
use Rattle.std.proofs.lemmas.List.{get_or_default}
use Rattle.std.proofs.Math.ListN.{get_or-append}
use Rattle.std.proofs.lemmas.List.Splits.{slice_split_at, slice_split_none}
use Rattle.std.proofs.lemmas.Option.{cond_some}
use Rattle.std.proofs.lemmas.Str.{digit_value_digit}
use Rattle.std.proofs.lemmas.Str.Parse.{digit_from_value, digit_at}
use Rattle.number_definitions.specs.Printed.{IsNumeralText}
use Rattle.number_definitions.specs.Readings.{number_of, is_point}
use Rattle.odds_fixed.proofs.Numbers.{digits_by_value}

-- a number of up to 64 digits as a numeral
leading : (n : ℕ) → n < 10 ^ 64 → (0 < length (decimal n)) × (0 < n → 48 < get_or (decimal n) 0 0)
leading = decimal_by_steps_wide (λ m ds. (0 < length ds) × (0 < m → 48 < get_or ds 0 0)) (λ m l. (omega arith, λ a. omega arith))
    (λ m ds l h. (omega (arith, length-append ds ((48 + m % 10) ∷ [])), λ a. omega (arith, get_or-append ds ((48 + m % 10) ∷ []) 0 0 h.0, h.1 (omega arith))))

leads : (n : ℕ) → n < 10 ^ 64 → get_or (decimal n) 0 0 ≡ 48 → length (decimal n) ≡ 1
leads zero small e = ap length (decimal_digit 0 (omega arith))
leads (suc n) small e = absurd (omega (arith, (leading (suc n) small).1 (omega arith)))

pub numeral_text : (n : ℕ) → n < 10 ^ 64 → IsNumeralText (decimal n)
numeral_text n small =
    let k = decimal_is_IsNumeral_wide n small in
    record { digits = digits_by_value.from (decimal n) k.0.1; some = k.0.0; no_leading_zero = leads n small }

pub value_of_decimal : (n : ℕ) → n < 10 ^ 64 → digits_value 10 (decimal n) ≡ n
value_of_decimal n small = (decimal_is_IsNumeral_wide n small).1

-- digits behind a number
grows : (n : ℕ) (ds : List ℕ) → n ≤ digits_value_after 10 n ds
grows n [] = omega arith
grows n (c ∷ cs) = omega (arith, grows (n * 10 + digit_value c) cs)

behind : (n : ℕ) (ds : List ℕ) → 0 < n → AllDigits 10 ds → digits_value_after 10 n ds < 10 ^ 64 → decimal (digits_value_after 10 n ds) ≡ decimal n ++ ds
behind n [] some d small = sym (append-nil (decimal n))
behind n (c ∷ cs) some d small =
    let m : ℕ = n * 10 + digit_value c in
    let k = digit_value_digit c (digit_from_value c d.0) in
    let front : m / 10 ≡ n = omega (arith, d.0) in
    let end : 48 + m % 10 ≡ c = omega (arith, d.0) in
    behind m cs (omega arith) d.1 small
    ∙ ap (λ x. x ++ cs) (decimal_step_wide m (omega arith) (omega (arith, grows m cs)) ∙ (λ i. decimal (front i) ++ (end i ∷ [])))
    ∙ append_assoc (decimal n) (c ∷ []) cs

written : (ds : List ℕ) → AllDigits 10 ds → 0 < length ds → (get_or ds 0 0 ≡ 48 → length ds ≡ 1) → digits_value 10 ds < 10 ^ 64 → decimal (digits_value 10 ds) ≡ ds
written [] d some lead small = absurd (omega arith)
written (c ∷ []) d some lead small =
    let k = digit_value_digit c (digit_from_value c d.0) in
    decimal_digit (0 * 10 + digit_value c) (omega (arith, d.0)) ∙ ap (λ x. x ∷ []) (omega arith)
written (c ∷ e ∷ cs) d some lead small =
    let k = digit_value_digit c (digit_from_value c d.0) in
    let no : c ≡ 48 → ⊥ = λ z. omega (arith, lead z) in
    let is : 48 + (0 * 10 + digit_value c) ≡ c = omega arith in
    behind (0 * 10 + digit_value c) (e ∷ cs) (omega arith) d.1 small
    ∙ ap (λ x. x ++ (e ∷ cs)) (decimal_digit (0 * 10 + digit_value c) (omega (arith, d.0)) ∙ ap (λ x. x ∷ []) is)

pub decimal_of_value : (text : List ℕ) (n : ℕ) → IsNumeralText text → digits_value 10 text ≡ n → n < 10 ^ 64 → text ≡ decimal n
decimal_of_value text n numeral is small =
    sym (written text (digits_by_value.to text numeral.digits) numeral.some numeral.no_leading_zero (omega arith)) ∙ ap decimal is

-- a number of so many digits
pub number_of_digits : (most : ℕ) (text : List ℕ) → 1 ≤ length text → length text ≤ most → all_ascii_digits text ≡ true → number_of most text ≡ Some (digits_value 10 text)
number_of_digits most text some few digits = rw (le-leb 1 (length text) some, le-leb (length text) most few, digits) refl

pub number_of_value : (most : ℕ) (text : List ℕ) (n : ℕ) → number_of most text ≡ Some n → digits_value 10 text ≡ n
number_of_value most text n h = (cond_some (leb 1 (length text) && leb (length text) most && all_ascii_digits text) (digits_value 10 text) n h).1

pub number_of_decimal : (most n : ℕ) → 0 < most → n < 10 ^ most → n < 10 ^ 64 → number_of most (decimal n) ≡ Some n
number_of_decimal most n some few small =
    let k = numeral_text n small in
    number_of_digits most (decimal n) k.some (length-decimal-le_wide most n some few small) k.digits ∙ ap Some (value_of_decimal n small)

-- digits have no point
no_point : (text : List ℕ) → all_ascii_digits text ≡ true → All (λ b. is_point b ≡ false) text
no_point text digits k d within =
    let range = digit_at text k (digits_by_value.to text digits) within in
    ne_eqb (get_or text k d) 46 (λ e. omega (arith, range, get_or_default text k d 0 within))

pub split_decimal : (whole decimals : List ℕ) → all_ascii_digits whole ≡ true → all_ascii_digits decimals ≡ true →
    slice_split is_point (whole ++ 46 ∷ decimals) ≡ whole ∷ decimals ∷ []
split_decimal whole decimals all also =
    slice_split_at is_point whole 46 decimals (no_point whole all) refl ∙ ap (λ rest. whole ∷ rest) (slice_split_none is_point decimals (no_point decimals also))

-- a digit
pub digit_is : (n : ℕ) → n < 10 → is_ascii_digit (48 + n) ≡ true
digit_is n small = rw (le-leb 48 (48 + n) (omega arith), le-leb (48 + n) 57 (omega arith)) refl

pub digit_value_is : (n : ℕ) → n < 10 → digit_value (48 + n) ≡ n
digit_value_is n small = omega (arith, digit_value_digit (48 + n) (omega arith, omega arith))

-- a byte of a text of digits
pub record DigitByte (byte : ℕ) : Type 0 where
  pub low : 48 ≤ byte
  pub high : byte ≤ 57
  pub value : digit_value byte + 48 ≡ byte

pub digit_byte : (byte : ℕ) → digit_value byte < 10 → DigitByte byte
digit_byte byte small =
    let range = digit_from_value byte small in
    record { low = range.0; high = range.1; value = digit_value_digit byte range }
