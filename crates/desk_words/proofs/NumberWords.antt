-- Words that are numbers, by their parts.
use Rattle.std.proofs.Common.{◌≡◌, ℕ, ◌^◌, ◌<◌, ◌≤◌, Bool, true, false, cond, leb, ◌&&◌, List, [], ◌∷◌, length, Some, None, Result, Err, not, refl, sym, ap, subst, inl, inr, ◌∙◌, arith}
use Rattle.std.specs.Prelude.{◌==◌, option_and_then}
use Rattle.std.specs.Char.{is_ascii_digit}
use Rattle.std.specs.List.{list_all}
use Rattle.std.specs.Result.{OkIff}
use Rattle.std.specs.Str.{all_ascii_digits}
use Rattle.std.specs.Str.Parse.{ParsesUnsigned, digits_value}
use Rattle.std.proofs.lemmas.Bool.{cases_lt, eqb-true, le-leb, leb-true, lt-leb}
use Rattle.std.proofs.lemmas.Str.Parse.{IsNumeralModel, numerals_by_value, tells_all_ascii_digits, parse_digits}
use Rattle.desk_words.specs.WellFormed.{is_positional_word}
use Rattle.desk_words.specs.Numbers.{is_number_word, number_in, number_within}

pub each_digit : (word : List ℕ) → list_all is_ascii_digit word ≡ all_ascii_digits word
each_digit [] = refl
each_digit (byte ∷ bytes) = ap (λ b. is_ascii_digit byte && b) (each_digit bytes)

-- a word of so many bytes is a number word if each of them is a digit
pub number_word_by_digits : (word : List ℕ) → 1 ≤ length word → length word ≤ 20 → list_all is_ascii_digit word ≡ is_number_word word
number_word_by_digits word some few =
    let within : (leb 1 (length word) && leb (length word) 20) ≡ true = rw (le-leb 1 (length word) some, le-leb (length word) 20 few) refl in
    each_digit word ∙ ap (λ b. b && all_ascii_digits word) (sym within)

both : (a b : Bool) → (a && b) ≡ true → (a ≡ true) × (b ≡ true)
both true b h = (refl, h)
both false b h = absurd (cc)

pub digits_of_word : (word : List ℕ) → is_number_word word ≡ true → all_ascii_digits word ≡ true
digits_of_word word is = (both (leb 1 (length word) && leb (length word) 20) (all_ascii_digits word) is).1

-- the number of a number word
pub number_of_word : (least most : ℕ) (word : List ℕ) → is_number_word word ≡ true → number_in least most word ≡ number_within least most (digits_value 10 word)
number_of_word least most word is = ap (λ b. option_and_then (number_within least most) (cond b (Some (digits_value 10 word)) None)) is

pub no_number : (least most : ℕ) (word : List ℕ) → is_number_word word ≡ false → None ≡ number_in least most word
no_number least most word is = sym (ap (λ b. option_and_then (number_within least most) (cond b (Some (digits_value 10 word)) None)) is)

digits_by_value : IsNumeralModel (λ ds. all_ascii_digits ds ≡ true) (digits_value 10)
digits_by_value = numerals_by_value (λ ds. all_ascii_digits ds ≡ true) tells_all_ascii_digits

-- what `parse` makes of a number word
pub parsed_word : {E : Type 0} (word : List ℕ) (r : Result ℕ E) → ParsesUnsigned 64 10 word r → is_number_word word ≡ true
    → OkIff r ((0 < length word) × (digits_value 10 word < 2 ^ 64)) (digits_value 10 word)
parsed_word word r h is = parse_digits digits_by_value 64 word r h (digits_of_word word is)

above_false : (least most n : ℕ) → most < n → number_within least most n ≡ None
above_false least most n above = elim (leb least n) as (λ b. cond (b && leb n most) (Some n) None ≡ None) [
  | true ↦ ap (λ b. cond b (Some n) None) (lt-leb n most above)
  | false ↦ refl
]

-- a number of more than 64 bits is in no range
pub word_too_large : {E : Type 0} (least most : ℕ) (word : List ℕ) (r : Result ℕ E) (e : E) → r ≡ Err e → most < 2 ^ 64 → is_number_word word ≡ true
    → ParsesUnsigned 64 10 word r → None ≡ number_in least most word
word_too_large {E} least most word r e is fits word_is h =
    let some : 1 ≤ length word = leb-true 1 (length word) (both _ _ (both (leb 1 (length word) && leb (length word) 20) (all_ascii_digits word) word_is).0).0 in
    let refused : ((0 < length word) × (digits_value 10 word < 2 ^ 64)) → ⊥ =
    (let P : Result ℕ E → Type 0 = λ q. OkIff q ((0 < length word) × (digits_value 10 word < 2 ^ 64)) (digits_value 10 word) in
    subst P is (parsed_word word r h word_is)) in
    sym (number_of_word least most word word_is ∙ above_false least most (digits_value 10 word) (large refused some fits))
  where
    large : {n k m : ℕ} → ((0 < k) × (n < 2 ^ 64) → ⊥) → 1 ≤ k → m < 2 ^ 64 → m < n
    large {n} {k} {m} refused some fits = elim (cases_lt n (2 ^ 64)) [
      | inl below ↦ absurd (refused (omega (arith, some), below))
      | inr above ↦ omega (arith, above, fits)
    ]

digit_first : (byte : ℕ) (bytes : List ℕ) → all_ascii_digits (byte ∷ bytes) ≡ true → is_positional_word (byte ∷ bytes) ≡ true
digit_first byte bytes e = go (byte == 45) refl
  where
    low : 48 ≤ byte
    low = leb-true 48 byte (both (leb 48 byte) (leb byte 57) (both (is_ascii_digit byte) (all_ascii_digits bytes) e).0).0

    go : (b : Bool) → (byte == 45) ≡ b → not b ≡ true
    go true is = absurd (omega (arith, low, eqb-true byte 45 is))
    go false is = refl

-- a number word is not empty and begins with a digit
pub number_is_positional : (number : List ℕ) (least most n : ℕ) → number_in least most number ≡ Some n → is_positional_word number ≡ true
number_is_positional [] least most n e = absurd (cc)
number_is_positional (byte ∷ bytes) least most n e = go (is_number_word (byte ∷ bytes)) refl
  where
    go : (b : Bool) → is_number_word (byte ∷ bytes) ≡ b → is_positional_word (byte ∷ bytes) ≡ true
    go true is = digit_first byte bytes (digits_of_word (byte ∷ bytes) is)
    go false is = (let none = no_number least most (byte ∷ bytes) is in absurd (cc))
