-- What stakes that are read of a tableau gain at the classes.
use Rattle.std.proofs.Common.{◌≡◌, ℕ, zero, suc, ◌+◌, ◌*◌, ◌/◌, ◌<◌, ◌==◌, Bool, true, List, [], ◌∷◌, length, map, filter, refl, sym, ap, ap₂, ◌∙◌, subst, arith}
use Rattle.std.specs.Prelude.{Option, Some, None, slice_index_or}
use Rattle.std.specs.Int.{◌∣◌}
use Rattle.std.specs.List.{enumerate_from, range_with_len}
use Rattle.std.proofs.lemmas.List.{length-map, get_or-map}
use Rattle.std.proofs.lemmas.List.Elements.{All-head, All-tail}
use Rattle.std.proofs.lemmas.List.Quantifiers.{position-Some}
use Rattle.std.proofs.lemmas.Int.{ints}
use Rattle.std.proofs.Math.Nat.{div-mul_cancel}
use lib.IntN.{ℤ, pos, ◌+ℤ◌, ◌-ℤ◌, ◌*ℤ◌, neg_ℤ, pos-*ℤ-pos}
use lib.Signed.{◌≤ℤ◌}
use borrow.Author.Differences.{same_out}
use Rattle.row_definitions.specs.Rows.{entry}
use Rattle.pivot_definitions.specs.Programs.{LinearProgram, coefficient}
use Rattle.pivot_definitions.specs.Tableaus.{SimplexTableau}
use Rattle.pivot_definitions.specs.Duality.{sum_below, row_sum, IsReached, IsFeasibleTimes}
use Rattle.pivot_definitions.proofs.Ring.{dif_is, difs, dif_same, linear, times_zero, same_from_product, at_most_from_product, mul_not_negative}
use Rattle.pivot_definitions.proofs.Sums.{sum_same}
use Rattle.scan_types.specs.declared.offer.Offer.{Offer}
use Rattle.scan_types.specs.declared.outcome.Outcome.{Outcome}
use Rattle.settlement_definitions.specs.Gain.{gain}
use Rattle.finding_definitions.specs.Arbitrage.{total_gain}
use Rattle.judging_definitions.specs.Columns.{offer_divisor, divided_gain, is_undominated, leading_offers}
use Rattle.judging_definitions.specs.Stakes.{Fraction, column_value, stake_in_column, fractional_stakes, all_numbers, MakesWhole, multiples}
use Rattle.judging_definitions.specs.Readings.{HasLevelOne}
use Rattle.judging_laws.proofs.ProgramRows.{HasClassRows}
use Rattle.judging_laws.proofs.Weights.{sum_front}
use Rattle.judging_laws.proofs.Levels.{BestFacts, ValueFacts, value_facts, level_is_one}
use Rattle.judging_laws.proofs.Means.{gain_is}
use Rattle.judging_laws.proofs.ClassFacts.{Each}
use Rattle.judging_laws.proofs.Spread.{place, numbers_of, sum_pairs, sum_pairs_same, sum_by_place}

-- ---- one stake

-- the stake of an offer, from the place of its column
abbrev stake_at : SimplexTableau → List Outcome → Offer → Option ℕ → Fraction
stake_at tableau classes offer o = stake_in_column tableau (offer_divisor classes offer) o

-- so many times a stake
abbrev part : ℕ → Fraction → ℕ
part d fraction = d * fraction.numerator / fraction.denominator

-- what an offer counts for at a class, by the place of its column
abbrev term : List Outcome → ℕ → (ℕ → ℤ) → Outcome → Option ℕ → Offer → ℤ
term classes d point x None offer = pos 0
term classes d point x (Some k) offer = pos d *ℤ (point (suc k) *ℤ divided_gain classes offer x)

three : (t q g b : ℤ) → t *ℤ (q *ℤ (g *ℤ b)) ≡ (t *ℤ (q *ℤ g)) *ℤ b
three t q g b = rw (dif_is t, dif_is q, dif_is g, dif_is b) (simp difs (dif_same _ _ _ _ (omega arith)))

pair_out : (d p b : ℤ) → (d *ℤ p) *ℤ b ≡ d *ℤ (p *ℤ b)
pair_out d p b = rw (dif_is d, dif_is p, dif_is b) (simp difs (dif_same _ _ _ _ (omega arith)))

arrange : (e t q g : ℤ) → e *ℤ (t *ℤ (q *ℤ g)) ≡ t *ℤ (q *ℤ (e *ℤ g))
arrange e t q g = rw (dif_is e, dif_is t, dif_is q, dif_is g) (simp difs (dif_same _ _ _ _ (omega arith)))

arrange_back : (e t d n : ℤ) → t *ℤ (d *ℤ n) ≡ d *ℤ (t *ℤ n)
arrange_back e t d n = rw (dif_is t, dif_is d, dif_is n) (simp difs (dif_same _ _ _ _ (omega arith)))

-- a part times the divisor of its offer, and the number of times, is so many times the column
part_is : (value : Fraction) (divisor d : ℕ) (times point : ℤ) → ValueFacts value times point → (value.denominator * divisor ∣ d * value.numerator) → times *ℤ (pos (d * value.numerator / (value.denominator * divisor)) *ℤ pos divisor) ≡ pos d *ℤ point
part_is value divisor d times point facts whole =
    let q = d * value.numerator / (value.denominator * divisor) in
    let e = pos value.denominator in
    let exact : q * (value.denominator * divisor) ≡ d * value.numerator = div-mul_cancel (value.denominator * divisor) whole in
    let product : pos q *ℤ (e *ℤ pos divisor) ≡ pos d *ℤ pos value.numerator = ap (λ z. pos q *ℤ z) (pos-*ℤ-pos value.denominator divisor) ∙ pos-*ℤ-pos q (value.denominator * divisor) ∙ ap pos exact ∙ sym (pos-*ℤ-pos d value.numerator) in
    same_from_product e (times *ℤ (pos q *ℤ pos divisor)) (pos d *ℤ point) (let h = facts.denominator in omega (arith, ints))
    (arrange e times (pos q) (pos divisor) ∙ ap (λ z. times *ℤ z) product ∙ arrange_back e times (pos d) (pos value.numerator) ∙ ap (λ z. pos d *ℤ z) (sym facts.is) ∙ arrange_back (pos 0) (pos d) e point)

nothing : (d : ℕ) → d * 0 / 1 ≡ 0
nothing d = ap (λ n. n / 1) (let e : d * 0 ≡ 0 = omega arith in e)

none : (t g : ℤ) → t *ℤ (pos 0 *ℤ g) ≡ pos 0
none t g = rw (dif_is t, dif_is g) (simp difs (dif_same _ _ _ _ (omega arith)))

-- what a stake gains at a class
part_gain : (classes : List Outcome) (tableau : SimplexTableau) (offer : Offer) (d j : ℕ) (x : Outcome) (times : ℤ) (point : ℕ → ℤ) (o : Option ℕ) → j < length classes → ((k : ℕ) → o ≡ Some k → ValueFacts (column_value tableau (suc k)) times (point (suc k))) → ((stake_at tableau classes offer o).denominator ∣ d * (stake_at tableau classes offer o).numerator) → times *ℤ (pos (part d (stake_at tableau classes offer o)) *ℤ gain offer (slice_index_or classes j x)) ≡ term classes d point (slice_index_or classes j x) o offer
part_gain classes tableau offer d j x times point None within values whole =
    ap (λ n. times *ℤ (pos n *ℤ gain offer (slice_index_or classes j x))) (nothing d) ∙ none times (gain offer (slice_index_or classes j x))
part_gain classes tableau offer d j x times point (Some k) within values whole =
    let c = slice_index_or classes j x in
    let divisor = offer_divisor classes offer in
    ap (λ g. times *ℤ (pos (part d (stake_at tableau classes offer (Some k))) *ℤ g)) (sym (gain_is classes offer j x within))
    ∙ three times (pos (part d (stake_at tableau classes offer (Some k)))) (pos divisor) (divided_gain classes offer c)
    ∙ ap (λ z. z *ℤ divided_gain classes offer c) (part_is (column_value tableau (suc k)) divisor d times (point (suc k)) (values k refl) whole)
    ∙ pair_out (pos d) (point (suc k)) (divided_gain classes offer c)

-- ---- all stakes

-- the sum of parts times gains, offer by offer
total_by_pair : (f : Fraction → ℕ) (s : ℕ × Offer → Fraction) (x : Outcome) (n : ℕ) (offers : List Offer) → total_gain offers (map f (map s (enumerate_from n offers))) x ≡ sum_pairs (λ pair. pos (f (s pair)) *ℤ gain pair.1 x) (enumerate_from n offers)
total_by_pair f s x n [] = refl
total_by_pair f s x n (offer ∷ offers) = ap (λ z. pos (f (s (n, offer))) *ℤ gain offer x +ℤ z) (total_by_pair f s x (n + 1) offers)

times_sum : (t a b : ℤ) → t *ℤ (a +ℤ b) ≡ t *ℤ a +ℤ t *ℤ b
times_sum t a b = rw (dif_is t, dif_is a, dif_is b) (simp difs (dif_same _ _ _ _ (omega arith)))

times_pairs : (t : ℤ) (f : ℕ × Offer → ℤ) (pairs : List (ℕ × Offer)) → t *ℤ sum_pairs f pairs ≡ sum_pairs (λ pair. t *ℤ f pair) pairs
times_pairs t f [] = times_zero t
times_pairs t f (pair ∷ pairs) = times_sum t (f pair) (sum_pairs f pairs) ∙ ap (λ z. t *ℤ f pair +ℤ z) (times_pairs t f pairs)

each_whole : (d : ℕ) (s : ℕ × Offer → Fraction) (pairs : List (ℕ × Offer)) → MakesWhole d (map s pairs) → Each (λ pair. (s pair).denominator ∣ d * (s pair).numerator) pairs
each_whole d s [] whole = tt
each_whole d s (pair ∷ pairs) whole =
    let P : Fraction → Type 0 = λ f. f.denominator ∣ d * f.numerator in
    (All-head P (s pair) (map s pairs) whole, each_whole d s pairs (All-tail P (s pair) (map s pairs) whole))

each_from : (P Q : ℕ × Offer → Type 0) → ((pair : ℕ × Offer) → P pair → Q pair) → (pairs : List (ℕ × Offer)) → Each P pairs → Each Q pairs
each_from P Q f [] each = tt
each_from P Q f (pair ∷ pairs) each = (f pair each.0, each_from P Q f pairs each.1)

-- what the stakes gain at a class, times the number of times, is so many times what the columns gain there
gains_of_stakes : (classes : List Outcome) (offers : List Offer) (p : ℕ × Offer → Bool) (tableau : SimplexTableau) (d j : ℕ) (x : Outcome) (o : ℕ × Offer) (times : ℤ) (point : ℕ → ℤ) → j < length classes → ((k : ℕ) → k < length (filter p (enumerate_from 0 offers)) → ValueFacts (column_value tableau (suc k)) times (point (suc k))) → MakesWhole d (fractional_stakes classes offers (numbers_of (filter p (enumerate_from 0 offers))) tableau) → times *ℤ total_gain offers (multiples d (fractional_stakes classes offers (numbers_of (filter p (enumerate_from 0 offers))) tableau)) (slice_index_or classes j x) ≡ sum_below (length (filter p (enumerate_from 0 offers))) (λ k. pos d *ℤ (point (suc k) *ℤ divided_gain classes (slice_index_or (filter p (enumerate_from 0 offers)) k o).1 (slice_index_or classes j x)))
gains_of_stakes classes offers p tableau d j x o times point within values whole =
    let all = enumerate_from 0 offers in
    let kept = filter p all in
    let numbers = numbers_of kept in
    let c = slice_index_or classes j x in
    let s : ℕ × Offer → Fraction = λ pair. stake_at tableau classes pair.1 (place pair.0 numbers) in
    let stands : (n k : ℕ) → place n numbers ≡ Some k → k < length kept = λ n k e. let h = (position-Some (λ m. m == n) numbers k 0 e).0 in omega (arith, h, length-map kept (λ (pair : ℕ × Offer). pair.0)) in
    let one : (pair : ℕ × Offer) → ((s pair).denominator ∣ d * (s pair).numerator) → times *ℤ (pos (part d (s pair)) *ℤ gain pair.1 c) ≡ term classes d point c (place pair.0 numbers) pair.1 =
    λ pair h. part_gain classes tableau pair.1 d j x times point (place pair.0 numbers) within (λ k e. values k (stands pair.0 k e)) h in
    ap (λ z. times *ℤ z) (total_by_pair (part d) s c 0 offers)
    ∙ times_pairs times (λ pair. pos (part d (s pair)) *ℤ gain pair.1 c) all
    ∙ sum_pairs_same (λ pair. times *ℤ (pos (part d (s pair)) *ℤ gain pair.1 c)) (λ pair. term classes d point c (place pair.0 numbers) pair.1) all
    (each_from (λ pair. (s pair).denominator ∣ d * (s pair).numerator) (λ pair. times *ℤ (pos (part d (s pair)) *ℤ gain pair.1 c) ≡ term classes d point c (place pair.0 numbers) pair.1) one all (each_whole d s all whole))
    ∙ sum_by_place p (term classes d point c) (λ offer. refl) 0 offers o

-- ---- the rows of the classes

row_step : (a p b : ℤ) → neg_ℤ b *ℤ p ≡ neg_ℤ (p *ℤ b)
row_step a p b = rw (dif_is p, dif_is b) (simp difs (dif_same _ _ _ _ (omega arith)))

sum_neg : (n : ℕ) (f : ℕ → ℤ) → sum_below n (λ k. neg_ℤ (f k)) ≡ neg_ℤ (sum_below n f)
sum_neg zero f = refl
sum_neg (suc n) f = ap (λ z. z +ℤ neg_ℤ (f n)) (sum_neg n f) ∙ (let e : neg_ℤ (sum_below n f) +ℤ neg_ℤ (f n) ≡ neg_ℤ (sum_below n f +ℤ f n) = omega (arith, linear) in e)

-- what the columns gain at a class is at least what is asked for there, times the level
pub columns_gain : (classes : List Outcome) (columns : List Offer) (asked : Outcome → ℤ) (program : LinearProgram) (times : ℤ) (point : ℕ → ℤ) (j : ℕ) (x : Outcome) (o : Offer) → HasClassRows classes columns asked program → IsFeasibleTimes program times point → j < length classes → (asked (slice_index_or classes j x) *ℤ point 0) ≤ℤ sum_below (length columns) (λ k. point (suc k) *ℤ divided_gain classes (slice_index_or columns k o) (slice_index_or classes j x))
columns_gain classes columns asked program times point j x o rows feasible within =
    let c = slice_index_or classes j x in
    let row = feasible.satisfies j (omega (arith, within, rows.rows)) in
    let zero_right : times *ℤ entry program.right_sides j ≡ pos 0 = ap (λ z. times *ℤ z) (rows.right j within) ∙ times_zero times in
    let gains = sum_below (length columns) (λ k. point (suc k) *ℤ divided_gain classes (slice_index_or columns k o) c) in
    let sum : row_sum program j point ≡ asked c *ℤ point 0 +ℤ neg_ℤ gains =
    ap (λ n. sum_below n (λ k. coefficient program j k *ℤ point k)) rows.columns
    ∙ sum_front (length columns) (λ k. coefficient program j k *ℤ point k)
    ∙ ap₂ (λ a b. a *ℤ point 0 +ℤ b) (rows.level j x within)
    (sum_same (length columns) (λ k. coefficient program j (suc k) *ℤ point (suc k)) (λ k. neg_ℤ (point (suc k) *ℤ divided_gain classes (slice_index_or columns k o) c)) (λ k h. ap (λ z. z *ℤ point (suc k)) (rows.gains j k x o within h) ∙ row_step (pos 0) (point (suc k)) (divided_gain classes (slice_index_or columns k o) c))
    ∙ sum_neg (length columns) (λ k. point (suc k) *ℤ divided_gain classes (slice_index_or columns k o) c)) in
    omega (arith, linear, row, same_out _ _ zero_right, same_out _ _ sum)

-- the columns are those of the offers of the sheet that pass a test, in order
pub record AreColumns (offers : List Offer) (numbers : List ℕ) (columns : List Offer) : Type 0 where
  pub test : ℕ × Offer → Bool
  pub numbers_are : numbers_of (filter test (enumerate_from 0 offers)) ≡ numbers
  pub columns_are : map (λ (pair : ℕ × Offer). pair.1) (filter test (enumerate_from 0 offers)) ≡ columns

pub leading_columns : (offers : List Offer) (classes : List Outcome) → AreColumns offers (map (λ offer. offer.0) (leading_offers offers classes)) (map (λ offer. offer.1) (leading_offers offers classes))
leading_columns offers classes = record { test = is_undominated classes (enumerate_from 0 offers); numbers_are = refl; columns_are = refl }

all_pass : (pairs : List (ℕ × Offer)) → filter (λ pair. true) pairs ≡ pairs
all_pass [] = refl
all_pass (pair ∷ pairs) = ap (λ ps. pair ∷ ps) (all_pass pairs)

numbers_from : (n : ℕ) (offers : List Offer) → numbers_of (enumerate_from n offers) ≡ range_with_len n (length offers)
numbers_from n [] = refl
numbers_from n (offer ∷ offers) = ap (λ ns. n ∷ ns) (numbers_from (n + 1) offers)

offers_from : (n : ℕ) (offers : List Offer) → map (λ (pair : ℕ × Offer). pair.1) (enumerate_from n offers) ≡ offers
offers_from n [] = refl
offers_from n (offer ∷ offers) = ap (λ os. offer ∷ os) (offers_from (n + 1) offers)

pub all_columns : (offers : List Offer) → AreColumns offers (all_numbers offers) offers
all_columns offers = record {
  test = λ pair. true;
  numbers_are = ap numbers_of (all_pass (enumerate_from 0 offers)) ∙ numbers_from 0 offers;
  columns_are = ap (map (λ (pair : ℕ × Offer). pair.1)) (all_pass (enumerate_from 0 offers)) ∙ offers_from 0 offers;
}

move_times : (d t a : ℤ) → d *ℤ (a *ℤ t) ≡ t *ℤ (d *ℤ a)
move_times d t a = rw (dif_is d, dif_is t, dif_is a) (simp difs (dif_same _ _ _ _ (omega arith)))

times_at_most : (d a b : ℤ) → pos 0 ≤ℤ d → a ≤ℤ b → (d *ℤ a) ≤ℤ (d *ℤ b)
times_at_most d a b h k =
    let x = mul_not_negative d (b -ℤ a) h (omega (arith, linear, k)) in
    let e : d *ℤ (b -ℤ a) ≡ d *ℤ b -ℤ d *ℤ a = rw (dif_is d, dif_is a, dif_is b) (simp difs (dif_same _ _ _ _ (omega arith))) in
    omega (arith, linear, x, same_out _ _ e)

factor_step : (a x y : ℤ) → a *ℤ x +ℤ a *ℤ y ≡ a *ℤ (x +ℤ y)
factor_step a x y = rw (dif_is a, dif_is x, dif_is y) (simp difs (dif_same _ _ _ _ (omega arith)))

sum_factor : (n : ℕ) (a : ℤ) (f : ℕ → ℤ) → sum_below n (λ k. a *ℤ f k) ≡ a *ℤ sum_below n f
sum_factor zero a f = sym (times_zero a)
sum_factor (suc n) a f = ap (λ z. z +ℤ a *ℤ f n) (sum_factor n a f) ∙ factor_step a (sum_below n f) (f n)

-- what stakes gain at a class is at least what is asked for there, times the level
reach_level : (classes : List Outcome) (offers : List Offer) (p : ℕ × Offer → Bool) (asked : Outcome → ℤ) (program : LinearProgram) (tableau : SimplexTableau) (facts : BestFacts program tableau) (d j : ℕ) (x : Outcome) (o : Offer) → IsReached program tableau → HasClassRows classes (map (λ (pair : ℕ × Offer). pair.1) (filter p (enumerate_from 0 offers))) asked program → MakesWhole d (fractional_stakes classes offers (numbers_of (filter p (enumerate_from 0 offers))) tableau) → j < length classes → (pos d *ℤ (asked (slice_index_or classes j x) *ℤ facts.point 0)) ≤ℤ (facts.times *ℤ total_gain offers (multiples d (fractional_stakes classes offers (numbers_of (filter p (enumerate_from 0 offers))) tableau)) (slice_index_or classes j x))
reach_level classes offers p asked program tableau facts d j x o reached rows whole within =
    let kept = filter p (enumerate_from 0 offers) in
    let columns = map (λ (pair : ℕ × Offer). pair.1) kept in
    let c = slice_index_or classes j x in
    let t = facts.times in
    let count : length columns ≡ length kept = length-map kept (λ (pair : ℕ × Offer). pair.1) in
    let values : (k : ℕ) → k < length kept → ValueFacts (column_value tableau (suc k)) t (facts.point (suc k)) = λ k h. value_facts program tableau reached t facts.point facts.solution (suc k) (omega (arith, h, count, rows.columns)) in
    let gained = gains_of_stakes classes offers p tableau d j x (0, o) t facts.point within values whole in
    let rowed = columns_gain classes columns asked program t facts.point j x o rows facts.feasible within in
    let gains = sum_below (length kept) (λ k. facts.point (suc k) *ℤ divided_gain classes (slice_index_or kept k (0, o)).1 c) in
    let same : sum_below (length columns) (λ k. facts.point (suc k) *ℤ divided_gain classes (slice_index_or columns k o) c) ≡ gains =
    ap (λ n. sum_below n (λ k. facts.point (suc k) *ℤ divided_gain classes (slice_index_or columns k o) c)) count
    ∙ sum_same (length kept) (λ k. facts.point (suc k) *ℤ divided_gain classes (slice_index_or columns k o) c) (λ k. facts.point (suc k) *ℤ divided_gain classes (slice_index_or kept k (0, o)).1 c) (λ k h. ap (λ offer. facts.point (suc k) *ℤ divided_gain classes offer c) (get_or-map (λ (pair : ℕ × Offer). pair.1) kept k (0, o) o h)) in
    let scaled : sum_below (length kept) (λ k. pos d *ℤ (facts.point (suc k) *ℤ divided_gain classes (slice_index_or kept k (0, o)).1 c)) ≡ pos d *ℤ gains = sum_factor (length kept) (pos d) (λ k. facts.point (suc k) *ℤ divided_gain classes (slice_index_or kept k (0, o)).1 c) in
    let bound = times_at_most (pos d) (asked c *ℤ facts.point 0) gains (omega (arith, ints)) (omega (arith, linear, rowed, same_out _ _ same)) in
    omega (arith, linear, bound, same_out _ _ gained, same_out _ _ scaled)

reach_step : (classes : List Outcome) (offers : List Offer) (p : ℕ × Offer → Bool) (asked : Outcome → ℤ) (program : LinearProgram) (tableau : SimplexTableau) (facts : BestFacts program tableau) (d j : ℕ) (x : Outcome) (o : Offer) → IsReached program tableau → HasClassRows classes (map (λ (pair : ℕ × Offer). pair.1) (filter p (enumerate_from 0 offers))) asked program → facts.point 0 ≡ facts.times → MakesWhole d (fractional_stakes classes offers (numbers_of (filter p (enumerate_from 0 offers))) tableau) → j < length classes → (pos d *ℤ asked (slice_index_or classes j x)) ≤ℤ total_gain offers (multiples d (fractional_stakes classes offers (numbers_of (filter p (enumerate_from 0 offers))) tableau)) (slice_index_or classes j x)
reach_step classes offers p asked program tableau facts d j x o reached rows level whole within =
    let kept = filter p (enumerate_from 0 offers) in
    let c = slice_index_or classes j x in
    let t = facts.times in
    let bound = reach_level classes offers p asked program tableau facts d j x o reached rows whole within in
    let moved : pos d *ℤ (asked c *ℤ facts.point 0) ≡ t *ℤ (pos d *ℤ asked c) = ap (λ z. pos d *ℤ (asked c *ℤ z)) level ∙ move_times (pos d) t (asked c) in
    at_most_from_product t (pos d *ℤ asked c) (total_gain offers (multiples d (fractional_stakes classes offers (numbers_of kept) tableau)) c) facts.solution.positive (omega (arith, linear, bound, same_out _ _ moved))

-- at level 1 the stakes, times a number that makes them whole, gain at each class as many times what is asked for there
pub stakes_reach : (classes : List Outcome) (offers : List Offer) (numbers : List ℕ) (columns : List Offer) (asked : Outcome → ℤ) (program : LinearProgram) (tableau : SimplexTableau) (facts : BestFacts program tableau) (d j : ℕ) (x : Outcome) (o : Offer) → AreColumns offers numbers columns → IsReached program tableau → HasClassRows classes columns asked program → HasLevelOne tableau → MakesWhole d (fractional_stakes classes offers numbers tableau) → j < length classes → (pos d *ℤ asked (slice_index_or classes j x)) ≤ℤ total_gain offers (multiples d (fractional_stakes classes offers numbers tableau)) (slice_index_or classes j x)
stakes_reach classes offers numbers columns asked program tableau facts d j x o are reached rows one whole within =
    let c = slice_index_or classes j x in
    let kept_numbers = numbers_of (filter are.test (enumerate_from 0 offers)) in
    let level = level_is_one tableau facts.times (facts.point 0) (value_facts program tableau reached facts.times facts.point facts.solution 0 (omega (arith, rows.columns))) one in
    subst (λ ns. (pos d *ℤ asked c) ≤ℤ total_gain offers (multiples d (fractional_stakes classes offers ns tableau)) c) are.numbers_are
    (reach_step classes offers are.test asked program tableau facts d j x o reached (subst (λ cs. HasClassRows classes cs asked program) (sym are.columns_are) rows) level
    (subst (λ ns. MakesWhole d (fractional_stakes classes offers ns tableau)) (sym are.numbers_are) whole) within)

-- at any level the stakes, times a number that makes them whole, gain at each class as many times what is asked for there, times the level
pub stakes_reach_level : (classes : List Outcome) (offers : List Offer) (numbers : List ℕ) (columns : List Offer) (asked : Outcome → ℤ) (program : LinearProgram) (tableau : SimplexTableau) (facts : BestFacts program tableau) (d j : ℕ) (x : Outcome) (o : Offer) → AreColumns offers numbers columns → IsReached program tableau → HasClassRows classes columns asked program → MakesWhole d (fractional_stakes classes offers numbers tableau) → j < length classes → (pos d *ℤ (asked (slice_index_or classes j x) *ℤ facts.point 0)) ≤ℤ (facts.times *ℤ total_gain offers (multiples d (fractional_stakes classes offers numbers tableau)) (slice_index_or classes j x))
stakes_reach_level classes offers numbers columns asked program tableau facts d j x o are reached rows whole within =
    let c = slice_index_or classes j x in
    subst (λ ns. (pos d *ℤ (asked c *ℤ facts.point 0)) ≤ℤ (facts.times *ℤ total_gain offers (multiples d (fractional_stakes classes offers ns tableau)) c)) are.numbers_are
    (reach_level classes offers are.test asked program tableau facts d j x o reached (subst (λ cs. HasClassRows classes cs asked program) (sym are.columns_are) rows)
    (subst (λ ns. MakesWhole d (fractional_stakes classes offers ns tableau)) (sym are.numbers_are) whole) within)
