-- Lines have one spelling.
use Rattle.std.proofs.Common.{◌≡◌, ℕ, zero, suc, ◌+◌, ◌*◌, ◌/◌, ◌%◌, ◌<◌, Bool, true, false, cond, inl, inr, List, [], ◌∷◌, ◌++◌, length, Option, Some, None, option_map, option_and_then, refl, sym, ap, ◌∙◌, subst, arith, decimal}
use Rattle.std.specs.Prelude.{ℤ, pos, negsuc, neg_ℤ, ◌≤ℤ◌, codes}
use Rattle.std.proofs.lemmas.Fmt.{decimal_digit}
use Rattle.std.proofs.lemmas.Int.{ints}
use Rattle.std.proofs.lemmas.Slice.Eq.{bytes_eq-Decides}
use Rattle.std.specs.Str.{all_ascii_digits, bytes_eq}
use Rattle.scan_types.specs.declared.line.HandicapLine.{HandicapLine}
use Rattle.scan_types.specs.declared.line.TotalLine.{TotalLine}
use Rattle.number_definitions.specs.Printed.{IsDigits, IsNumeralText, IsPrintedTotal, IsPrintedHandicap}
use Rattle.number_definitions.specs.Readings.{number_of, fraction_of, quarters_of, plain_quarters_of, quarters_of_parts}
use Rattle.number_definitions.specs.Spellings.{last_digit, quarters_text, handicap_text}
use Rattle.odds_fixed.specs.Laws.{IsTheOneSpelling}
use Rattle.odds_fixed.proofs.GoalParts.{no_sign}
use Rattle.odds_fixed.proofs.Numbers.{digits_by_value}
use Rattle.odds_fixed.proofs.Numerals.{numeral_text, decimal_of_value, number_of_value, number_of_decimal, split_decimal, digit_is, digit_byte}

abbrev joined : Option ℕ → Option ℕ → Option ℕ
joined whole fraction = option_and_then (λ goals. option_and_then (λ quarters. Some (4 * goals + quarters)) fraction) whole

-- a printed text in its two parts
goals_printed : (whole decimals : List ℕ) → all_ascii_digits whole ≡ true → all_ascii_digits decimals ≡ true →
    plain_quarters_of (whole ++ 46 ∷ decimals) ≡ joined (number_of 2 whole) (fraction_of decimals)
unfolding quarters_of_parts
goals_printed whole decimals all also = ap quarters_of_parts (split_decimal whole decimals all also)

-- the two decimals of a number of quarters below a goal
abbrev two : ℕ → List ℕ
two r = last_digit (25 * r / 10) ∷ last_digit (25 * r) ∷ []

record EachQuarter (P : ℕ → Type 0) : Type 0 where
  none : P 0
  one : P 1
  half : P 2
  three : P 3

by_quarter : (P : ℕ → Type 0) → EachQuarter P → (r : ℕ) → r < 4 → P r
by_quarter P each zero small = each.none
by_quarter P each (suc zero) small = each.one
by_quarter P each (suc (suc zero)) small = each.half
by_quarter P each (suc (suc (suc zero))) small = each.three
by_quarter P each (suc (suc (suc (suc r)))) small = absurd (omega (arith, small))

two_read : (r : ℕ) → r < 4 → fraction_of (two r) ≡ Some r
two_read r small = by_quarter (λ q. fraction_of (two q) ≡ Some q) (record { none = refl; one = refl; half = refl; three = refl }) r small

two_digits : (r : ℕ) → r < 4 → IsDigits 2 (two r)
two_digits r small = record { digits = rw (digit_is (25 * r / 10 % 10) (omega arith), digit_is (25 * r % 10) (omega arith)) refl; counted = refl }

quarters_printed : (n : ℕ) → n < 400 → IsPrintedTotal (quarters_text n)
quarters_printed n small = record { whole = decimal (n / 4); decimals = two (n % 4); parts = refl; numeral = numeral_text (n / 4) (omega arith); exact = two_digits (n % 4) (omega arith) }

quarters_read : (n : ℕ) → n < 400 → plain_quarters_of (quarters_text n) ≡ Some n
quarters_read n small =
    let whole = numeral_text (n / 4) (omega arith) in
    let behind = two_digits (n % 4) (omega arith) in
    let same : 4 * (n / 4) + n % 4 ≡ n = omega arith in
    goals_printed (decimal (n / 4)) (two (n % 4)) whole.digits behind.digits
    ∙ ap (λ o. joined o (fraction_of (two (n % 4)))) (number_of_decimal 2 (n / 4) (omega arith) (omega arith) (omega arith))
    ∙ ap (joined (Some (n / 4))) (two_read (n % 4) (omega arith))
    ∙ ap Some same

-- two digits that are a fraction of a goal
shorter : (text word : List ℕ) → length text ≡ 2 → length word ≡ 1 → bytes_eq text word ≡ false
shorter text word long short = elim (bytes_eq text word) as (λ b. bytes_eq text word ≡ b → b ≡ false) [
  | true ↦ λ e. absurd (omega (arith, long, short, ap length ((bytes_eq-Decides text word).0 e)))
  | false ↦ λ e. refl
] refl

record Quarter (text : List ℕ) (q : ℕ) : Type 0 where
  below : q < 4
  is : text ≡ two q

abbrev two_fraction : Bool → Bool → Bool → Bool → Option ℕ
two_fraction a b c d = cond a (Some 0) (cond b (Some 1) (cond c (Some 2) (cond d (Some 3) None)))

fraction_by : (text : List ℕ) → length text ≡ 2 →
    fraction_of text ≡ two_fraction (bytes_eq text (codes "00")) (bytes_eq text (codes "25")) (bytes_eq text (codes "50")) (bytes_eq text (codes "75"))
fraction_by text long = rw (shorter text (codes "0") long refl, shorter text (codes "5") long refl) refl

quarter_by : (text : List ℕ) (q : ℕ) (a b c d : Bool) → bytes_eq text (codes "00") ≡ a → bytes_eq text (codes "25") ≡ b → bytes_eq text (codes "50") ≡ c → bytes_eq text (codes "75") ≡ d →
    two_fraction a b c d ≡ Some q → Quarter text q
quarter_by text q true b c d ea eb ec ed h = let e : 0 ≡ q = cc in subst (Quarter text) e (record { below = omega arith; is = (bytes_eq-Decides text (codes "00")).0 ea })
quarter_by text q false true c d ea eb ec ed h = let e : 1 ≡ q = cc in subst (Quarter text) e (record { below = omega arith; is = (bytes_eq-Decides text (codes "25")).0 eb })
quarter_by text q false false true d ea eb ec ed h = let e : 2 ≡ q = cc in subst (Quarter text) e (record { below = omega arith; is = (bytes_eq-Decides text (codes "50")).0 ec })
quarter_by text q false false false true ea eb ec ed h = let e : 3 ≡ q = cc in subst (Quarter text) e (record { below = omega arith; is = (bytes_eq-Decides text (codes "75")).0 ed })
quarter_by text q false false false false ea eb ec ed h = absurd (cc)

quarter_of : (text : List ℕ) (q : ℕ) → length text ≡ 2 → fraction_of text ≡ Some q → Quarter text q
quarter_of text q long h = quarter_by text q (bytes_eq text (codes "00")) (bytes_eq text (codes "25")) (bytes_eq text (codes "50")) (bytes_eq text (codes "75")) refl refl refl refl (sym (fraction_by text long) ∙ h)

-- the parts of a printed text that reads as a number of quarters
record Read (whole decimals : List ℕ) (n : ℕ) : Type 0 where
  goals : ℕ
  rest : ℕ
  goals_read : number_of 2 whole ≡ Some goals
  rest_read : fraction_of decimals ≡ Some rest
  sum : 4 * goals + rest ≡ n

parts_of : (whole decimals : List ℕ) (n : ℕ) (o p : Option ℕ) → number_of 2 whole ≡ o → fraction_of decimals ≡ p → joined o p ≡ Some n → Read whole decimals n
parts_of whole decimals n None p is also h = absurd (cc)
parts_of whole decimals n (Some u) None is also h = absurd (cc)
parts_of whole decimals n (Some u) (Some q) is also h = record { goals = u; rest = q; goals_read = is; rest_read = also; sum = cc }

quarters_only : (text : List ℕ) (n : ℕ) → n < 400 → IsPrintedTotal text → plain_quarters_of text ≡ Some n → text ≡ quarters_text n
quarters_only text n small printed h =
    let split = sym (goals_printed printed.whole printed.decimals printed.numeral.digits printed.exact.digits) ∙ ap plain_quarters_of (sym printed.parts) ∙ h in
    let r = parts_of printed.whole printed.decimals n (number_of 2 printed.whole) (fraction_of printed.decimals) refl refl split in
    let q = quarter_of printed.decimals r.rest printed.exact.counted r.rest_read in
    let front : r.goals ≡ n / 4 = omega (arith, r.sum, q.below) in
    let end : r.rest ≡ n % 4 = omega (arith, r.sum, q.below) in
    let whole = decimal_of_value printed.whole (n / 4) printed.numeral (number_of_value 2 printed.whole r.goals r.goals_read ∙ front) (omega arith) in
    let behind = q.is ∙ ap two end in
    printed.parts ∙ (λ i. whole i ++ 46 ∷ behind i)

-- a printed text without a sign begins with a digit
begins : (text : List ℕ) → IsPrintedTotal text → option_map pos (plain_quarters_of text) ≡ quarters_of text
begins text printed =
    let P : List ℕ → Type 0 = λ t. option_map pos (plain_quarters_of t) ≡ quarters_of t in
    subst P (sym printed.parts) (first printed.whole printed.decimals printed.numeral)
  where
    first : (whole decimals : List ℕ) → IsNumeralText whole → option_map pos (plain_quarters_of (whole ++ 46 ∷ decimals)) ≡ quarters_of (whole ++ 46 ∷ decimals)
    first [] decimals numeral = absurd (omega (arith, numeral.some))
    first (byte ∷ bytes) decimals numeral =
        let digit = digit_byte byte (digits_by_value.to (byte ∷ bytes) numeral.digits).0 in
        no_sign (byte ∷ (bytes ++ 46 ∷ decimals)) (omega arith) (λ e. omega (arith, e, digit.low)) (λ e. omega (arith, e, digit.low))

unsigned : (o : Option ℕ) (n : ℕ) → option_map pos o ≡ Some (pos n) → o ≡ Some n
unsigned None n h = absurd (cc)
unsigned (Some m) n h = cc

not_below : (o : Option ℕ) (n : ℕ) → option_map pos o ≡ Some (negsuc n) → ⊥
not_below None n h = cc
not_below (Some m) n h = cc

plain_spelling : (n : ℕ) → n < 400 → IsTheOneSpelling IsPrintedTotal quarters_of (Some (pos n)) (quarters_text n)
plain_spelling n small = record {
  printed = quarters_printed n small;
  reads = sym (begins (quarters_text n) (quarters_printed n small)) ∙ ap (option_map pos) (quarters_read n small);
  only = λ other printed h. quarters_only other n small printed (unsigned (plain_quarters_of other) n (begins other printed ∙ h));
}

pub total_spelling : (line : TotalLine) → IsTheOneSpelling IsPrintedTotal quarters_of (Some (pos line.quarters)) (quarters_text line.quarters)
total_spelling line = plain_spelling line.quarters (omega (arith, line.at_most))

-- behind a minus sign
abbrev below : Option ℕ → Option ℤ
below o = option_map (λ quarters. neg_ℤ (pos quarters)) o

minus : (size : List ℕ) → quarters_of (45 ∷ size) ≡ below (plain_quarters_of size)
unfolding quarters_of
minus size = refl

negated : (n : ℕ) → neg_ℤ (pos (1 + n)) ≡ negsuc n
negated n = let e : suc n ≡ 1 + n = omega arith in let P : ℕ → Type 0 = λ m. neg_ℤ (pos m) ≡ negsuc n in subst P e refl

negative : (o : Option ℕ) (n : ℕ) → below o ≡ Some (negsuc n) → o ≡ Some (1 + n)
negative None n h = absurd (cc)
negative (Some zero) n h = absurd (cc)
negative (Some (suc m)) n h = let e : negsuc m ≡ negsuc n = cc in let same : m ≡ n = cc in ap Some (omega (arith, same))

zero_only : (o : Option ℕ) (n : ℕ) → below o ≡ Some (pos n) → o ≡ Some 0
zero_only None n h = absurd (cc)
zero_only (Some zero) n h = refl
zero_only (Some (suc m)) n h = absurd (cc)

zero_text : quarters_text 0 ≡ codes "0.00"
zero_text = ap (λ whole. whole ++ 46 ∷ 48 ∷ 48 ∷ []) (decimal_digit 0 (omega arith))

signed_only : (z : ℤ) (other : List ℕ) → negsuc 19 ≤ℤ z → z ≤ℤ pos 20 → IsPrintedHandicap other → quarters_of other ≡ Some z → other ≡ handicap_text z
signed_only (pos n) other low high (inl printed) h = (plain_spelling n (omega (arith, ints))).only other printed h
signed_only (negsuc n) other low high (inl printed) h = absurd (not_below (plain_quarters_of other) n (begins other printed ∙ h))
signed_only (pos n) other low high (inr b) h =
    absurd (b.not_zero (quarters_only b.size 0 (omega arith) b.printed (zero_only (plain_quarters_of b.size) n (sym (minus b.size) ∙ ap quarters_of (sym b.signed) ∙ h)) ∙ zero_text))
signed_only (negsuc n) other low high (inr b) h =
    b.signed ∙ ap (λ t. 45 ∷ t) (quarters_only b.size (1 + n) (omega (arith, ints)) b.printed (negative (plain_quarters_of b.size) n (sym (minus b.size) ∙ ap quarters_of (sym b.signed) ∙ h)))

signed_reads : (z : ℤ) → negsuc 19 ≤ℤ z → z ≤ℤ pos 20 → quarters_of (handicap_text z) ≡ Some z
signed_reads (pos n) low high = (plain_spelling n (omega (arith, ints))).reads
signed_reads (negsuc n) low high = minus (quarters_text (1 + n)) ∙ ap below (quarters_read (1 + n) (omega (arith, ints))) ∙ ap Some (negated n)

-- only 0 is spelled as 0 is
not_zero_text : (n : ℕ) → n < 400 → quarters_text n ≡ codes "0.00" → n ≡ 0
not_zero_text n small e =
    let same : Some n ≡ Some 0 = sym (quarters_read n small) ∙ ap plain_quarters_of (e ∙ sym zero_text) ∙ quarters_read 0 (omega arith) in cc

signed_printed : (z : ℤ) → negsuc 19 ≤ℤ z → z ≤ℤ pos 20 → IsPrintedHandicap (handicap_text z)
signed_printed (pos n) low high = inl (quarters_printed n (omega (arith, ints)))
signed_printed (negsuc n) low high =
    let small : 1 + n < 400 = omega (arith, ints) in
    inr (record { size = quarters_text (1 + n); signed = refl; printed = quarters_printed (1 + n) small; not_zero = λ e. omega (arith, not_zero_text (1 + n) small e) })

pub handicap_spelling : (line : HandicapLine) → IsTheOneSpelling IsPrintedHandicap quarters_of (Some line.quarters) (handicap_text line.quarters)
handicap_spelling line = record {
  printed = signed_printed line.quarters line.at_least line.at_most;
  reads = signed_reads line.quarters line.at_least line.at_most;
  only = λ other printed h. signed_only line.quarters other line.at_least line.at_most printed h;
}
