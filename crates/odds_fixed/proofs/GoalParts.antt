-- Lines read part by part.
use Rattle.std.proofs.Common.{◌≡◌, ◌≢◌, ℕ, ◌+◌, ◌-◌, ◌*◌, eqb, get_or, take, ◌<◌, true, false, cond, List, [], ◌∷◌, length, drop, Option, Some, None, option_map, option_and_then, refl, sym, ap, ◌∙◌, arith}
use Rattle.std.specs.Prelude.{codes, pos, neg_ℤ}
use Rattle.std.proofs.lemmas.List.{take_rest}
use Rattle.std.proofs.lemmas.Bool.Decides.{nat_tests}
use Rattle.std.specs.List.{slice_split, position}
use Rattle.std.specs.Str.{bytes_eq}
use Rattle.std.proofs.lemmas.List.Splits.{length-slice_split}
use Rattle.std.proofs.lemmas.Slice.Eq.{bytes_eq-Decides}
use Rattle.number_definitions.specs.Readings.{number_of, fraction_of, quarters_of_parts, plain_quarters_of, quarters_of, is_point}
use Rattle.odds_fixed.proofs.Splits.{split_found, split_none}

-- a text with a point is no word without one
no_word : (text word : List ℕ) (at : ℕ) → position is_point text ≡ Some at → position is_point word ≡ None → bytes_eq text word ≡ false
no_word text word at is none = elim (bytes_eq text word) as (λ b. bytes_eq text word ≡ b → b ≡ false) [
  | true ↦ λ e. absurd (let same : text ≡ word = (bytes_eq-Decides text word).0 e in let here = ap (position is_point) same in cc)
  | false ↦ λ e. refl
] refl

fraction_with_point : (text : List ℕ) (at : ℕ) → position is_point text ≡ Some at → fraction_of text ≡ None
fraction_with_point text at is =
    let a = no_word text (codes "0") at is refl in
    let b = no_word text (codes "00") at is refl in
    let c = no_word text (codes "25") at is refl in
    let d = no_word text (codes "5") at is refl in
    let e = no_word text (codes "50") at is refl in
    let f = no_word text (codes "75") at is refl in
    rw (a, b, c, d, e, f) refl

-- the quarters of what stands before the first point and what follows it
abbrev joined : Option ℕ → Option ℕ → Option ℕ
joined whole fraction = option_and_then (λ goals. option_and_then (λ quarters. Some (4 * goals + quarters)) fraction) whole

none_after : (o : Option ℕ) → option_and_then {U = ℕ} (λ goals. None) o ≡ None
none_after None = refl
none_after (Some goals) = refl

many_parts : (parts : List (List ℕ)) → length parts ≢ 1 → length parts ≢ 2 → None ≡ quarters_of_parts parts
unfolding quarters_of_parts
many_parts [] h k = refl
many_parts (a ∷ []) h k = absurd (h refl)
many_parts (a ∷ b ∷ []) h k = absurd (k refl)
many_parts (a ∷ b ∷ c ∷ parts) h k = refl

further_point : (whole fraction : List ℕ) (at : ℕ) → position is_point fraction ≡ Some at →
    quarters_of_parts (whole ∷ slice_split is_point fraction) ≡ joined (number_of 2 whole) (fraction_of fraction)
further_point whole fraction at is =
    sym (many_parts (whole ∷ slice_split is_point fraction)
    (λ one. omega (arith, one, ap length (split_found is_point fraction at is), length-slice_split is_point (drop (at + 1) fraction)))
    (λ two. omega (arith, two, ap length (split_found is_point fraction at is), length-slice_split is_point (drop (at + 1) fraction))))
    ∙ sym (none_after (number_of 2 whole))
    ∙ ap (joined (number_of 2 whole)) (sym (fraction_with_point fraction at is))

fraction_parts : (whole fraction : List ℕ) → quarters_of_parts (whole ∷ slice_split is_point fraction) ≡ joined (number_of 2 whole) (fraction_of fraction)
unfolding quarters_of_parts
fraction_parts whole fraction = elim (position is_point fraction) as (λ o. position is_point fraction ≡ o →
    quarters_of_parts (whole ∷ slice_split is_point fraction) ≡ joined (number_of 2 whole) (fraction_of fraction)) [
      | None ↦ λ is. ap (λ rest. quarters_of_parts (whole ∷ rest)) (split_none is_point fraction is)
      | Some at ↦ λ is. further_point whole fraction at is
    ] refl

-- a text without a point
pub whole_goals : (text : List ℕ) (o : Option ℕ) → slice_split is_point text ≡ text ∷ [] → o ≡ number_of 2 text →
    option_map (λ goals. 4 * goals) o ≡ quarters_of_parts (slice_split is_point text)
unfolding quarters_of_parts
whole_goals text o one is = ap (option_map (λ goals. 4 * goals)) is ∙ mapped (number_of 2 text) ∙ sym (ap quarters_of_parts one)
  where
    mapped : (o : Option ℕ) → option_map (λ goals. 4 * goals) o ≡ option_and_then (λ goals. Some (4 * goals)) o
    mapped None = refl
    mapped (Some goals) = refl

-- a text with a point
pub goals_and_fraction : (text whole fraction : List ℕ) → slice_split is_point text ≡ whole ∷ slice_split is_point fraction →
    (o p : Option ℕ) → o ≡ number_of 2 whole → p ≡ fraction_of fraction → joined o p ≡ quarters_of_parts (slice_split is_point text)
goals_and_fraction text whole fraction cut o p is also =
    ap (λ x. joined x p) is ∙ ap (joined (number_of 2 whole)) also ∙ sym (ap quarters_of_parts cut ∙ fraction_parts whole fraction)

-- a text behind its first byte
behind : (byte : ℕ) (bytes : List ℕ) → take (length (byte ∷ bytes) - 1) (drop 1 (byte ∷ bytes)) ≡ bytes
behind byte bytes = take_rest (byte ∷ bytes) 1

pub plus_sign : (text : List ℕ) → 0 < length text → get_or text 0 0 ≡ 43 →
    option_map pos (plain_quarters_of (take (length text - 1) (drop 1 text))) ≡ quarters_of text
unfolding quarters_of
plus_sign [] h e = absurd (omega arith)
plus_sign (byte ∷ bytes) h e = ap (λ rest. option_map pos (plain_quarters_of rest)) (behind byte bytes)
    ∙ sym (ap (λ sign. cond (eqb sign 43) (option_map pos (plain_quarters_of bytes)) (cond (eqb sign 45) (option_map (λ quarters. neg_ℤ (pos quarters)) (plain_quarters_of bytes)) (option_map pos (plain_quarters_of (byte ∷ bytes))))) e)

pub minus_sign : (text : List ℕ) → 0 < length text → get_or text 0 0 ≡ 45 →
    option_map (λ quarters. neg_ℤ (pos quarters)) (plain_quarters_of (take (length text - 1) (drop 1 text))) ≡ quarters_of text
unfolding quarters_of
minus_sign [] h e = absurd (omega arith)
minus_sign (byte ∷ bytes) h e = ap (λ rest. option_map (λ quarters. neg_ℤ (pos quarters)) (plain_quarters_of rest)) (behind byte bytes)
    ∙ sym (ap (λ sign. cond (eqb sign 43) (option_map pos (plain_quarters_of bytes)) (cond (eqb sign 45) (option_map (λ quarters. neg_ℤ (pos quarters)) (plain_quarters_of bytes)) (option_map pos (plain_quarters_of (byte ∷ bytes))))) e)

pub no_sign : (text : List ℕ) → 0 < length text → get_or text 0 0 ≢ 43 → get_or text 0 0 ≢ 45 →
    option_map pos (plain_quarters_of text) ≡ quarters_of text
unfolding quarters_of
no_sign [] h k l = absurd (omega arith)
no_sign (byte ∷ bytes) h k l =
    let plus : eqb byte 43 ≡ false = grind (arith, nat_tests) in
    let minus : eqb byte 45 ≡ false = grind (arith, nat_tests) in
    sym (ap (λ b. cond b (option_map pos (plain_quarters_of bytes)) (cond (eqb byte 45) (option_map (λ quarters. neg_ℤ (pos quarters)) (plain_quarters_of bytes)) (option_map pos (plain_quarters_of (byte ∷ bytes))))) plus
    ∙ ap (λ b. cond b (option_map (λ quarters. neg_ℤ (pos quarters)) (plain_quarters_of bytes)) (option_map pos (plain_quarters_of (byte ∷ bytes)))) minus)

pub no_text : (text : List ℕ) → length text ≡ 0 → None ≡ quarters_of text
unfolding quarters_of
no_text [] e = refl
no_text (byte ∷ bytes) e = absurd (omega (arith, e))
