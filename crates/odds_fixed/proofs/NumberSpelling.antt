-- Whole numbers have one spelling.
use Rattle.std.proofs.Common.{◌≡◌, ℕ, zero, suc, ◌+◌, ◌^◌, ◌<◌, ◌≤◌, false, eqb, inl, inr, List, [], ◌∷◌, refl, sym, ap, ◌∙◌, subst, arith, decimal}
use Rattle.std.specs.Prelude.{ℤ, pos, negsuc, neg_ℤ, nat_abs, codes}
use Rattle.std.proofs.lemmas.Bool.{ne_eqb}
use Rattle.std.proofs.lemmas.Fmt.{decimal_digit}
use Rattle.std.specs.Str.Parse.{digits_value, signed_digits_value}
use Rattle.number_definitions.specs.Printed.{IsNumeralText, IsPrintedNumber}
use Rattle.number_definitions.specs.Spellings.{number_text}
use Rattle.odds_fixed.specs.Laws.{IsTheOneSpelling}
use Rattle.odds_fixed.proofs.Numbers.{digits_by_value}
use Rattle.odds_fixed.proofs.Numerals.{numeral_text, value_of_decimal, decimal_of_value, digit_byte}

-- a numeral without a sign, and behind a minus sign
plain : (text : List ℕ) → IsNumeralText text → signed_digits_value 10 text ≡ pos (digits_value 10 text)
plain [] numeral = absurd (omega (arith, numeral.some))
plain (byte ∷ bytes) numeral =
    let digit = digit_byte byte (digits_by_value.to (byte ∷ bytes) numeral.digits).0 in
    let no_minus : eqb byte 45 ≡ false = ne_eqb byte 45 (λ e. omega (arith, e, digit.low)) in
    let no_plus : eqb byte 43 ≡ false = ne_eqb byte 43 (λ e. omega (arith, e, digit.low)) in
    rw (no_minus, no_plus) refl

minus : (size : List ℕ) → signed_digits_value 10 (45 ∷ size) ≡ neg_ℤ (pos (digits_value 10 size))
minus size = refl

negated : (n : ℕ) → neg_ℤ (pos (1 + n)) ≡ negsuc n
negated n = let e : suc n ≡ 1 + n = omega arith in let P : ℕ → Type 0 = λ m. neg_ℤ (pos m) ≡ negsuc n in subst P e refl

negative : (m n : ℕ) → neg_ℤ (pos m) ≡ negsuc n → m ≡ 1 + n
negative zero n h = absurd (cc)
negative (suc m) n h = let same : m ≡ n = cc in omega (arith, same)

zero_only : (m n : ℕ) → neg_ℤ (pos m) ≡ pos n → m ≡ 0
zero_only zero n h = refl
zero_only (suc m) n h = absurd (cc)

-- only 0 is spelled as 0 is
not_zero_text : (n : ℕ) → n < 10 ^ 64 → decimal n ≡ codes "0" → n ≡ 0
not_zero_text n small e = sym (value_of_decimal n small) ∙ ap (digits_value 10) e

printed : (z : ℤ) → nat_abs z ≤ 2 ^ 127 → IsPrintedNumber (number_text z)
printed (pos n) small = inl (numeral_text n (omega arith))
printed (negsuc n) small =
    inr (record { size = decimal (1 + n); signed = refl; printed = numeral_text (1 + n) (omega arith); not_zero = λ e. omega (arith, not_zero_text (1 + n) (omega arith) e) })

reads : (z : ℤ) → nat_abs z ≤ 2 ^ 127 → signed_digits_value 10 (number_text z) ≡ z
reads (pos n) small = plain (decimal n) (numeral_text n (omega arith)) ∙ ap pos (value_of_decimal n (omega arith))
reads (negsuc n) small = minus (decimal (1 + n)) ∙ ap (λ m. neg_ℤ (pos m)) (value_of_decimal (1 + n) (omega arith)) ∙ negated n

only : (z : ℤ) (other : List ℕ) → nat_abs z ≤ 2 ^ 127 → IsPrintedNumber other → signed_digits_value 10 other ≡ z → other ≡ number_text z
only (pos n) other small (inl numeral) h =
    let same : digits_value 10 other ≡ n = let e = sym (plain other numeral) ∙ h in cc in
    decimal_of_value other n numeral same (omega arith)
only (negsuc n) other small (inl numeral) h = absurd (let e = sym (plain other numeral) ∙ h in cc)
only (pos n) other small (inr b) h =
    let none = zero_only (digits_value 10 b.size) n (ap (signed_digits_value 10) (sym b.signed) ∙ h) in
    absurd (b.not_zero (decimal_of_value b.size 0 b.printed none (omega arith) ∙ decimal_digit 0 (omega arith)))
only (negsuc n) other small (inr b) h =
    b.signed ∙ ap (λ t. 45 ∷ t) (decimal_of_value b.size (1 + n) b.printed (negative (digits_value 10 b.size) n (ap (signed_digits_value 10) (sym b.signed) ∙ h)) (omega arith))

pub number_spelling : (z : ℤ) → nat_abs z ≤ 2 ^ 127 → IsTheOneSpelling IsPrintedNumber (signed_digits_value 10) z (number_text z)
number_spelling z small = record { printed = printed z small; reads = reads z small; only = λ other form h. only z other small form h }
