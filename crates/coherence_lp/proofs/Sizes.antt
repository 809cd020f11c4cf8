-- The numbers of a sheet's programs are small.
use Rattle.std.proofs.Common.{◌≡◌, ℕ, zero, suc, ◌+◌, ◌-◌, ◌*◌, ◌^◌, ◌<◌, ◌≤◌, true, false, cond, ◌==◌, ◌⊎◌, inl, inr, List, [], ◌∷◌, ◌++◌, length, map, refl, sym, subst, arith, eq-zero-or-pos}
use Rattle.std.specs.Prelude.{slice_index_or, unsigned_abs, sum_by}
use Rattle.std.specs.Int.{◌∣◌, div_ceil}
use Rattle.std.specs.List.{All, flat_map, range_with_len}
use Rattle.std.proofs.lemmas.Int.{ints}
use Rattle.std.proofs.lemmas.List.Sums.{sum_by-cons}
use Rattle.std.proofs.lemmas.List.Elements.{All-append, All-map, All-cons, All-nil, All-head, All-tail, All-replicate}
use Rattle.std.proofs.Math.Nat.{dvd_refl, le_of_dvd, eq-zero_of_zero-dvd, mul-le-mul}
use lib.IntN.{ℤ, pos, negsuc, neg_ℤ, ◌+ℤ◌, ◌*ℤ◌}
use lib.Signed.{◌≤ℤ◌}
use Rattle.row_definitions.specs.Rows.{row_divisor, divided}
use Rattle.row_definitions.specs.Combination.{FitsEntry}
use Rattle.row_definitions.proofs.Divisors.{Divides, row_divisor_is}
use Rattle.row_definitions.proofs.Numbers.{unsigned_abs-divided-le}
use Rattle.pivot_definitions.specs.Programs.{IsWithinLimits, unit_row}
use Rattle.scan_types.specs.declared.offer.Offer.{Offer}
use Rattle.scan_types.specs.declared.outcome.Outcome.{Outcome}
use Rattle.scan_types.specs.declared.outcome.Outcome.TheVariants.{Full, Abandoned}
use Rattle.settlement_definitions.specs.declared.leg_result.LegResult.{LegResult}
use Rattle.settlement_definitions.specs.declared.leg_result.LegResult.TheVariants.{Win, Push, Lose}
use Rattle.settlement_definitions.specs.Legs.{legs_of}
use Rattle.settlement_definitions.specs.Abandonment.{leg_at}
use Rattle.settlement_definitions.specs.Gain.{leg_gain, gain, slack_of_gain, slack}
use Rattle.finding_definitions.specs.Arbitrage.{need}
use Rattle.judging_definitions.specs.Columns.{offer_divisor, divided_gain}
use Rattle.judging_definitions.specs.MostProgram.{most_win, above_all_wins}
use Rattle.judging_definitions.specs.JudgingPrograms.{class_row, class_rows, limit_rows, homogeneous_program, limited_program}
use Rattle.judging_laws.proofs.ProgramRows.{homogeneous_is_capped, limited_is_capped}
use Rattle.coherence_lp.specs.declared.asked.Needs.{Needs}
use Rattle.coherence_lp.specs.declared.asked.Needs.TheVariants.{Plain, Slack, Most}
use Rattle.coherence_lp.specs.Asked.{asked_for}
use Rattle.coherence_lp.specs.ProgramTables.{divided_gains, divided_table}

-- ---- gains

leg_least : (odds : ℕ) (r : LegResult) → negsuc 999 ≤ℤ leg_gain odds r
leg_least odds Win = omega (arith, ints)
leg_least odds Push = omega (arith, ints)
leg_least odds Lose = omega (arith, ints)

leg_most : (odds : ℕ) (r : LegResult) → odds ≤ 1000000 → leg_gain odds r ≤ℤ pos 1000000
leg_most odds Win h = omega (arith, ints)
leg_most odds Push h = omega (arith, ints)
leg_most odds Lose h = omega (arith, ints)

sum_small : (a b : ℤ) → negsuc 999 ≤ℤ a → a ≤ℤ pos 1000000 → negsuc 999 ≤ℤ b → b ≤ℤ pos 1000000 → unsigned_abs (a +ℤ b) ≤ 2000000
sum_small a b h i j k = omega (arith, ints)

pub gain_small : (offer : Offer) (x : Outcome) → unsigned_abs (gain offer x) ≤ 2000000
gain_small offer x =
    let odds = offer.odds.thousandths in
    let most : odds ≤ 1000000 = offer.odds.at_most in
    let legs = legs_of offer.selection in
    let first = leg_at offer.rule offer.selection legs.0 x in
    let second = leg_at offer.rule offer.selection legs.1 x in
    sum_small (leg_gain odds first) (leg_gain odds second) (leg_least odds first) (leg_most odds first most) (leg_least odds second) (leg_most odds second most)

small_fits : (z : ℤ) → unsigned_abs z ≤ 2000000 → FitsEntry z
small_fits z h = omega (arith, h)

negated_fits : (z : ℤ) → FitsEntry z → FitsEntry (neg_ℤ z)
negated_fits z h = let e : unsigned_abs (neg_ℤ z) ≡ unsigned_abs z = omega (arith, ints) in subst (λ n. n < 2 ^ 127) (sym e) h

divided_small : (d : ℕ) (z : ℤ) → unsigned_abs z ≤ 2000000 → unsigned_abs (divided d z) ≤ 2000000
divided_small d z h = omega (arith, h, unsigned_abs-divided-le d z)

divided_gain_fits : (classes : List Outcome) (offer : Offer) (x : Outcome) → FitsEntry (divided_gain classes offer x)
divided_gain_fits classes offer x = small_fits (divided_gain classes offer x) (divided_small (offer_divisor classes offer) (gain offer x) (gain_small offer x))

pub gains_fit : (classes : List Outcome) (offer : Offer) → All FitsEntry (map (gain offer) classes)
gains_fit classes offer = All-map FitsEntry (gain offer) classes (λ k x h. small_fits (gain offer (slice_index_or classes k x)) (gain_small offer (slice_index_or classes k x)))

pub All-flat_map : {X Y : Type 0} (P : Y → Type 0) (f : X → List Y) (xs : List X) → ((x : X) → All P (f x)) → All P (flat_map f xs)
All-flat_map P f [] each = All-nil P
All-flat_map P f (x ∷ xs) each = All-append P (f x) (flat_map f xs) (each x) (All-flat_map P f xs each)

pub divided_table_fits : (classes : List Outcome) (offers : List Offer) → All FitsEntry (divided_table classes offers)
divided_table_fits classes offers =
    All-flat_map FitsEntry (divided_gains classes) offers (λ offer. All-map FitsEntry (divided (offer_divisor classes offer)) (map (gain offer) classes) (λ k z h. small_fits (divided (offer_divisor classes offer) (slice_index_or (map (gain offer) classes) k z)) (divided_small (offer_divisor classes offer) (slice_index_or (map (gain offer) classes) k z) (All-map (λ z. unsigned_abs z ≤ 2000000) (gain offer) classes (λ k x h. gain_small offer (slice_index_or classes k x)) k z h))))

-- ---- divisors

below_or_zeros : (bound g : ℕ) (row : List ℤ) → Divides g row → All (λ z. unsigned_abs z ≤ bound) row → (g ≤ bound) ⊎ Divides 0 row
below_or_zeros bound g [] h small = inr tt
below_or_zeros bound g (x ∷ row) h small =
    let here = All-head (λ z. unsigned_abs z ≤ bound) x row small in
    elim (eq-zero-or-pos (unsigned_abs x)) [
      | inl none ↦
          elim (below_or_zeros bound g row h.1 (All-tail (λ z. unsigned_abs z ≤ bound) x row small)) [
            | inl less ↦ inl less
            | inr zeros ↦ inr (subst (λ n. 0 ∣ n) (sym none) (dvd_refl 0), zeros)
          ]
      | inr some ↦ inl (let d = le_of_dvd some h.0 in omega (arith, d, here))
    ]

-- the divisor of a row is at most the largest size
row_divisor-le : (bound : ℕ) (row : List ℤ) → All (λ z. unsigned_abs z ≤ bound) row → row_divisor row ≤ bound
row_divisor-le bound row small =
    let is = row_divisor_is row in
    elim (below_or_zeros bound (row_divisor row) row is.0 small) [
      | inl less ↦ less
      | inr zeros ↦ subst (λ n. n ≤ bound) (sym (eq-zero_of_zero-dvd (is.1 0 zeros))) (omega arith)
    ]

pub offer_divisor_small : (classes : List Outcome) (offer : Offer) → offer_divisor classes offer ≤ 2000000
offer_divisor_small classes offer = row_divisor-le 2000000 (map (gain offer) classes) (All-map (λ z. unsigned_abs z ≤ 2000000) (gain offer) classes (λ k x h. gain_small offer (slice_index_or classes k x)))

pub divisors_small : (classes : List Outcome) (offers : List Offer) → All (λ divisor. divisor ≤ 2000000) (map (offer_divisor classes) offers)
divisors_small classes offers = All-map (λ divisor. divisor ≤ 2000000) (offer_divisor classes) offers (λ k o h. offer_divisor_small classes (slice_index_or offers k o))

-- ---- what is asked for

pub slack_small : (offer : Offer) (x : Outcome) → slack offer x ≤ 1000000
slack_small offer x = by_gain (gain offer x)
  where
    by_gain : (g : ℤ) → slack_of_gain offer.odds.thousandths g ≤ 1000000
    by_gain (pos zero) = omega arith
    by_gain (pos (suc n)) = offer.odds.at_most
    by_gain (negsuc n) = elim (n == 999) as (λ b. cond b 1000 0 ≤ 1000000) [ true ↦ omega arith | false ↦ omega arith ]

slacks_small : (offers : List Offer) (x : Outcome) → sum_by (λ offer. slack offer x) offers ≤ length offers * 1000000
slacks_small [] x = omega arith
slacks_small (offer ∷ offers) x =
    let e = sum_by-cons (λ offer. slack offer x) offer offers in
    let rest = slacks_small offers x in
    let here = slack_small offer x in
    omega (arith, e, rest, here)

need_one : (x : Outcome) → (need x ≡ pos 0) ⊎ (need x ≡ pos 1)
need_one (Full h a) = inr refl
need_one (Abandoned h a) = inl refl

pub need_fits : (x : Outcome) → FitsEntry (need x)
need_fits (Full h a) = omega arith
need_fits (Abandoned h a) = omega arith

slack_need_fits : (z : ℤ) (s : ℕ) → s ≤ 256000000 → (z ≡ pos 0) ⊎ (z ≡ pos 1) → FitsEntry (pos 2 *ℤ (pos 1000 *ℤ z +ℤ pos s))
slack_need_fits z s h (inl e) = subst (λ y. FitsEntry (pos 2 *ℤ (pos 1000 *ℤ y +ℤ pos s))) (sym e) (omega (arith, ints))
slack_need_fits z s h (inr e) = subst (λ y. FitsEntry (pos 2 *ℤ (pos 1000 *ℤ y +ℤ pos s))) (sym e) (omega (arith, ints))

rounded_small : (n : ℕ) → n ≤ 100000000 * 999000 → div_ceil n 1000 ≤ 100000000000
rounded_small n h = omega (arith, h)

most_win_small : (offer : Offer) → most_win offer ≤ 100000000000
most_win_small offer =
    let profit = offer.odds.thousandths - 1000 in
    let more : profit ≤ 999000 = omega (arith, offer.odds.at_most) in
    let product : offer.limit * profit ≤ 100000000 * 999000 = mul-le-mul offer.limit_at_most more in
    rounded_small (offer.limit * profit) product

pub wins_small : (offers : List Offer) → above_all_wins offers ≤ 1 + length offers * 100000000000
wins_small [] = omega arith
wins_small (offer ∷ offers) =
    let e = sum_by-cons most_win offer offers in
    let rest = wins_small offers in
    let here = most_win_small offer in
    omega (arith, e, rest, here)

most_need_fits : (z : ℤ) (u : ℕ) → u ≤ 30000000000000 → (z ≡ pos 0) ⊎ (z ≡ pos 1) → FitsEntry (pos (2000 * u) *ℤ z)
most_need_fits z u h (inl e) = subst (λ y. FitsEntry (pos (2000 * u) *ℤ y)) (sym e) (omega (arith, ints))
most_need_fits z u h (inr e) = subst (λ y. FitsEntry (pos (2000 * u) *ℤ y)) (sym e) (omega (arith, ints))

pub asked_fits : (needs : Needs) (offers : List Offer) (x : Outcome) → length offers ≤ 256 → FitsEntry (asked_for needs offers x)
asked_fits Plain offers x few = elim (need_one x) [ inl e ↦ subst (λ y. FitsEntry (pos 2000 *ℤ y)) (sym e) (omega (arith, ints)) | inr e ↦ subst (λ y. FitsEntry (pos 2000 *ℤ y)) (sym e) (omega (arith, ints)) ]
asked_fits Slack offers x few = slack_need_fits (need x) (sum_by (λ offer. slack offer x) offers) (omega (arith, few, slacks_small offers x)) (need_one x)
asked_fits Most offers x few = most_need_fits (need x) (above_all_wins offers) (omega (arith, few, wins_small offers)) (need_one x)

-- ---- programs

class_rows_fit : (classes : List Outcome) (offers : List Offer) (asked : Outcome → ℤ) → ((x : Outcome) → FitsEntry (asked x)) → All FitsEntry (class_rows classes offers asked)
class_rows_fit classes offers asked fit =
    All-flat_map FitsEntry (class_row classes offers asked) classes (λ x. All-cons FitsEntry (asked x) (map (λ offer. neg_ℤ (divided_gain classes offer x)) offers) (fit x)
    (All-map FitsEntry (λ offer. neg_ℤ (divided_gain classes offer x)) offers (λ k o h. negated_fits (divided_gain classes (slice_index_or offers k o) x) (divided_gain_fits classes (slice_index_or offers k o) x))))

zero_fits : FitsEntry (pos 0)
zero_fits = omega arith

one_fits : FitsEntry (pos 1)
one_fits = omega arith

unit_row_fits : (width column : ℕ) → All FitsEntry (unit_row width column)
unit_row_fits width column = All-append FitsEntry _ _ (All-replicate FitsEntry column (pos 0) zero_fits) (All-cons FitsEntry (pos 1) _ one_fits (All-replicate FitsEntry _ (pos 0) zero_fits))

zeros_fit : {X : Type 0} (xs : List X) → All FitsEntry (map (λ (x : X). pos 0) xs)
zeros_fit {X} xs = All-map FitsEntry (λ (x : X). pos 0) xs (λ k x h. zero_fits)

last_fits : All FitsEntry (pos 1 ∷ [])
last_fits = All-cons FitsEntry (pos 1) [] one_fits (All-nil FitsEntry)

limit_fits : (classes : List Outcome) (offer : Offer) → FitsEntry (pos (offer.limit * offer_divisor classes offer))
limit_fits classes offer =
    let limit : offer.limit ≤ 100000000 = offer.limit_at_most in
    let most : offer.limit * offer_divisor classes offer ≤ 100000000 * 2000000 = mul-le-mul limit (offer_divisor_small classes offer) in
    omega (arith, most)

pub homogeneous_within : (classes : List Outcome) (offers : List Offer) → length classes ≤ 98 → length offers ≤ 256 → IsWithinLimits (homogeneous_program classes offers)
homogeneous_within classes offers few few_offers = record {
  few_columns = omega (arith, few_offers);
  few_rows = omega (arith, few);
  program_holds = (homogeneous_is_capped classes offers).0;
  numbers_fit = record {
    coefficients = All-append FitsEntry _ _ (class_rows_fit classes offers need need_fits) (unit_row_fits (suc (length offers)) 0);
    right_sides = All-append FitsEntry _ _ (zeros_fit classes) last_fits;
  };
}

pub limited_within : (classes : List Outcome) (offers : List Offer) (asked : Outcome → ℤ) → length classes ≤ 98 → length offers ≤ 256 → ((x : Outcome) → FitsEntry (asked x)) → IsWithinLimits (limited_program classes offers asked)
limited_within classes offers asked few few_offers fit = record {
  few_columns = omega (arith, few_offers);
  few_rows = omega (arith, few, few_offers);
  program_holds = (limited_is_capped classes offers asked).0;
  numbers_fit = record {
    coefficients =
        All-append FitsEntry (class_rows classes offers asked ++ limit_rows offers) (unit_row (suc (length offers)) 0)
        (All-append FitsEntry (class_rows classes offers asked) (limit_rows offers) (class_rows_fit classes offers asked fit) (All-flat_map FitsEntry (λ column. unit_row (suc (length offers)) column) (range_with_len 1 (length offers)) (λ column. unit_row_fits (suc (length offers)) column)))
        (unit_row_fits (suc (length offers)) 0);
    right_sides =
        All-append FitsEntry (map (λ (x : Outcome). pos 0) classes ++ map (λ (offer : Offer). pos (offer.limit * offer_divisor classes offer)) offers) (pos 1 ∷ [])
        (All-append FitsEntry (map (λ (x : Outcome). pos 0) classes) (map (λ (offer : Offer). pos (offer.limit * offer_divisor classes offer)) offers) (zeros_fit classes) (All-map FitsEntry (λ (offer : Offer). pos (offer.limit * offer_divisor classes offer)) offers (λ k o h. limit_fits classes (slice_index_or offers k o))))
        last_fits;
  };
}
