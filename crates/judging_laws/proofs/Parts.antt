-- Stakes of a program with limits are within the limits, and reach what is asked for.
use Rattle.std.proofs.Common.{◌≡◌, ◌≢◌, ℕ, zero, suc, ◌+◌, ◌*◌, ◌/◌, ◌<◌, ◌≤◌, List, [], ◌∷◌, length, map, refl, sym, ap, ap₂, ◌∙◌, subst, arith, mul-pos}
use Rattle.std.specs.Prelude.{Some, slice_index_or, unsigned_abs, sum_by}
use Rattle.std.specs.Int.{◌∣◌}
use Rattle.std.specs.List.{All, AllZip, enumerate_from, range_with_len}
use Rattle.std.proofs.lemmas.List.{get_or-map}
use Rattle.std.proofs.lemmas.List.Elements.{All-cons, All-nil, All-weaker, All-head, All-tail}
use Rattle.std.proofs.lemmas.Int.{ints}
use Rattle.std.proofs.lemmas.Nat.{le-div}
use Rattle.std.proofs.lemmas.List.Sums.{sum_by-cons}
use Rattle.std.proofs.Math.Nat.{mul-le-mul_left, mul-le-mul_right, div-mul_cancel, div-le_of_le-mul, div-mul-le_self, le_of_mul-le-mul_left, dvd-mul_right, dvd-mul_left_of_dvd}
use lib.IntN.{ℤ, pos, negsuc, ◌+ℤ◌, ◌-ℤ◌, ◌*ℤ◌, pos-*ℤ-pos}
use lib.Signed.{◌<ℤ◌, ◌≤ℤ◌}
use borrow.Author.Differences.{same_out}
use Rattle.row_definitions.specs.Rows.{entry}
use Rattle.row_definitions.proofs.Primitives.{row_divisor-pos}
use Rattle.pivot_definitions.specs.Programs.{LinearProgram, coefficient}
use Rattle.pivot_definitions.specs.Tableaus.{SimplexTableau}
use Rattle.pivot_definitions.specs.Runs.{IsBest}
use Rattle.pivot_definitions.specs.Duality.{row_sum, IsReached}
use Rattle.pivot_definitions.proofs.Ring.{dif_is, difs, dif_same, linear, mul_not_negative, at_most_from_product, one_times, zero_times}
use Rattle.pivot_definitions.proofs.Sums.{sum_one}
use Rattle.scan_types.specs.declared.offer.Offer.{Offer}
use Rattle.scan_types.specs.declared.outcome.Outcome.{Outcome}
use Rattle.scan_types.specs.declared.outcome.Outcome.TheVariants.{Full}
use Rattle.settlement_definitions.specs.Gain.{gain, net, slack}
use Rattle.settlement_definitions.specs.Classes.{classes_of}
use Rattle.settlement_laws.proofs.Alike.{each_has_class}
use Rattle.settlement_laws.proofs.CanLose.{can_lose}
use Rattle.settlement_laws.proofs.Roundings.{slack_covers}
use Rattle.settlement_laws.proofs.AlikeSums.{equal_needs, equal_nets, equal_gains, bound_from_classes}
use Rattle.finding_definitions.specs.Arbitrage.{need, total_gain, total_net, IsArbitrage, ReachesUnit}
use Rattle.finding_definitions.specs.Fractions.{Fractions}
use Rattle.judging_definitions.specs.Columns.{offer_divisor}
use Rattle.judging_definitions.specs.JudgingPrograms.{limited_program, plain_need, slack_need}
use Rattle.judging_definitions.specs.Stakes.{Fraction, column_value, stake_in_column, fractional_stakes, all_numbers, MakesWhole, multiples, floors}
use Rattle.judging_definitions.specs.Readings.{HasLevelOne, AreParts}
use Rattle.judging_laws.proofs.ProgramRows.{limited_limits, limited_cap, limited_classes}
use Rattle.judging_laws.proofs.Levels.{BestFacts, best_facts, ValueFacts, value_facts}
use Rattle.judging_laws.proofs.Gains.{all_columns, stakes_reach}
use Rattle.judging_laws.proofs.Directions.{any_offer}
use Rattle.judging_laws.proofs.Spread.{place, later, place_here, place_later}

-- ---- every offer has a divisor above 0

size_of_loss : unsigned_abs (negsuc 1999) ≡ 2000
size_of_loss = refl

pub divisor_above_zero : (offers : List Offer) (i : ℕ) (o : Offer) → i < length offers → 1 ≤ offer_divisor (classes_of offers) (slice_index_or offers i o)
divisor_above_zero offers i o within =
    let offer = slice_index_or offers i o in
    let classes = classes_of offers in
    let loss = can_lose offer in
    let found = each_has_class offers (Full loss.0 loss.1) in
    let same : gain offer found.0 ≡ negsuc 1999 = found.2.gains i o within ∙ loss.2 in
    let at : entry (map (gain offer) classes) found.1.0 ≡ negsuc 1999 = get_or-map (gain offer) classes found.1.0 found.0 (pos 0) found.1.1 ∙ ap (gain offer) found.1.2 ∙ same in
    row_divisor-pos (map (gain offer) classes) (found.1.0, subst (λ z. 0 < unsigned_abs z) (sym at) (omega (arith, size_of_loss)))

-- ---- the place of each offer's column

pub place_in_range : (a n k : ℕ) → k < n → place (a + k) (range_with_len a n) ≡ Some k
place_in_range a zero k h = absurd (omega arith)
place_in_range a (suc n) zero h = ap (λ m. place m (a ∷ range_with_len (a + 1) n)) (let e : a + 0 ≡ a = omega arith in e) ∙ place_here a (range_with_len (a + 1) n)
place_in_range a (suc n) (suc k) h =
    place_later (a + suc k) a (range_with_len (a + 1) n) (omega arith)
    ∙ ap (λ m. later (place m (range_with_len (a + 1) n))) (let e : a + suc k ≡ a + 1 + k = omega arith in e)
    ∙ ap later (place_in_range (a + 1) n k (omega arith))

-- what holds of each offer with its number
zip_enumerate : (R : Offer → ℕ → Type 0) (f : ℕ × Offer → ℕ) (n : ℕ) (offers : List Offer) → ((i : ℕ) (o : Offer) → i < length offers → R (slice_index_or offers i o) (f (n + i, slice_index_or offers i o))) → AllZip R offers (map f (enumerate_from n offers))
zip_enumerate R f n [] each = tt
zip_enumerate R f n (offer ∷ offers) each = (
  subst (λ m. R offer (f (m, offer))) (let e : n + 0 ≡ n = omega arith in e) (each 0 offer (omega arith)),
  zip_enumerate R f (n + 1) offers (λ i o h. subst (λ m. R (slice_index_or offers i o) (f (m, slice_index_or offers i o))) (let e : n + suc i ≡ n + 1 + i = omega arith in e) (each (suc i) o (omega (arith, h)))),
)

-- ---- one stake

-- a stake is at most the limit
record IsWithin (fraction : Fraction) (limit : ℕ) : Type 0 where
  denominator : 1 ≤ fraction.denominator
  most : fraction.numerator ≤ limit * fraction.denominator

limit_row : (program : LinearProgram) (row i : ℕ) (point : ℕ → ℤ) → suc i < program.columns → coefficient program row (suc i) ≡ pos 1 → ((c : ℕ) → c ≢ suc i → coefficient program row c ≡ pos 0) → row_sum program row point ≡ point (suc i)
limit_row program row i point within here elsewhere =
    sum_one program.columns (suc i) (λ c. coefficient program row c *ℤ point c) within (λ c h differ. ap (λ z. z *ℤ point c) (elsewhere c differ) ∙ zero_times (point c))
    ∙ ap (λ z. z *ℤ point (suc i)) here ∙ one_times (point (suc i))

times_at_most : (d a b : ℤ) → pos 0 ≤ℤ d → a ≤ℤ b → (d *ℤ a) ≤ℤ (d *ℤ b)
times_at_most d a b h k =
    let x = mul_not_negative d (b -ℤ a) h (omega (arith, linear, k)) in
    let e : d *ℤ (b -ℤ a) ≡ d *ℤ b -ℤ d *ℤ a = rw (dif_is d, dif_is a, dif_is b) (simp difs (dif_same _ _ _ _ (omega arith))) in
    omega (arith, linear, x, same_out _ _ e)

move : (e t r : ℤ) → e *ℤ (t *ℤ r) ≡ t *ℤ (e *ℤ r)
move e t r = rw (dif_is e, dif_is t, dif_is r) (simp difs (dif_same _ _ _ _ (omega arith)))

stake_within : (value : Fraction) (divisor limit : ℕ) (times point : ℤ) → pos 0 <ℤ times → 1 ≤ divisor → ValueFacts value times point → point ≤ℤ (times *ℤ pos (limit * divisor)) → IsWithin (record { numerator = value.numerator; denominator = value.denominator * divisor }) limit
stake_within value divisor limit times point positive some facts small =
    let e = pos value.denominator in
    let larger = times_at_most e point (times *ℤ pos (limit * divisor)) (omega (arith, ints)) small in
    let moved = move e times (pos (limit * divisor)) in
    let product = pos-*ℤ-pos value.denominator (limit * divisor) in
    let less : pos value.numerator ≤ℤ (e *ℤ pos (limit * divisor)) = at_most_from_product times (pos value.numerator) (e *ℤ pos (limit * divisor)) positive (omega (arith, linear, larger, same_out _ _ moved, same_out _ _ facts.is)) in
    let numbers : value.numerator ≤ value.denominator * (limit * divisor) = omega (arith, ints, less, product) in
    record { denominator = mul-pos facts.denominator some; most = omega (arith, numbers) }

-- ---- the stakes of a program with limits

-- each offer's stake in a program with limits
limited_stake : (offers : List Offer) (asked : Outcome → ℤ) (tableau : SimplexTableau) → IsReached (limited_program (classes_of offers) offers asked) tableau → BestFacts (limited_program (classes_of offers) offers asked) tableau → (i : ℕ) (o : Offer) → i < length offers → IsWithin (stake_in_column tableau (offer_divisor (classes_of offers) (slice_index_or offers i o)) (place (0 + i) (all_numbers offers))) (slice_index_or offers i o).limit
limited_stake offers asked tableau reached facts i o within =
    let classes = classes_of offers in
    let program = limited_program classes offers asked in
    let offer = slice_index_or offers i o in
    let divisor = offer_divisor classes offer in
    let limits = limited_limits classes offers asked in
    let column : suc i < program.columns = omega (arith, within) in
    let row = facts.feasible.satisfies (length classes + i) (omega (arith, within, (limited_cap classes offers asked).rows)) in
    let sum = limit_row program (length classes + i) i facts.point column (limits.here i within) (λ c differ. limits.elsewhere i c within differ) in
    let right = limits.right i o within in
    let small : facts.point (suc i) ≤ℤ (facts.times *ℤ pos (offer.limit * divisor)) = subst (λ z. facts.point (suc i) ≤ℤ (facts.times *ℤ z)) right (subst (λ z. z ≤ℤ (facts.times *ℤ entry program.right_sides (length classes + i))) sum row) in
    let stake = stake_within (column_value tableau (suc i)) divisor offer.limit facts.times (facts.point (suc i)) facts.solution.positive (divisor_above_zero offers i o within) (value_facts program tableau reached facts.times facts.point facts.solution (suc i) column) small in
    subst (λ q. IsWithin (stake_in_column tableau divisor q) offer.limit) (sym (place_in_range 0 (length offers) i within)) stake

-- the stake of an offer with its number
abbrev stake_of : List Offer → SimplexTableau → ℕ × Offer → Fraction
stake_of offers tableau pair = stake_in_column tableau (offer_divisor (classes_of offers) pair.1) (place pair.0 (all_numbers offers))

map_map : {A B C : Type 0} (f : B → C) (g : A → B) (xs : List A) → map f (map g xs) ≡ map (λ x. f (g x)) xs
map_map f g [] = refl
map_map f g (x ∷ xs) = ap (λ ys. f (g x) ∷ ys) (map_map f g xs)

part_within : (d limit : ℕ) (f : Fraction) → IsWithin f limit → d * f.numerator / f.denominator ≤ limit * d
part_within d limit f within =
    div-le_of_le-mul f.denominator (let h = within.most in let g : d * f.numerator ≤ d * (limit * f.denominator) = mul-le-mul_left d h in omega (arith, g))

floor_within : (limit : ℕ) (f : Fraction) → IsWithin f limit → f.numerator / f.denominator ≤ limit
floor_within limit f within = div-le_of_le-mul f.denominator (let h = within.most in omega (arith, h))

-- parts are within the limits
pub parts_within : (offers : List Offer) (asked : Outcome → ℤ) (tableau : SimplexTableau) (d : ℕ) → IsReached (limited_program (classes_of offers) offers asked) tableau → BestFacts (limited_program (classes_of offers) offers asked) tableau → AllZip (λ offer part. part ≤ offer.limit * d) offers (multiples d (fractional_stakes (classes_of offers) offers (all_numbers offers) tableau))
parts_within offers asked tableau d reached facts =
    let s = stake_of offers tableau in
    let f : Fraction → ℕ = λ x. d * x.numerator / x.denominator in
    subst (AllZip (λ offer part. part ≤ offer.limit * d) offers) (sym (map_map f s (enumerate_from 0 offers)))
    (zip_enumerate (λ offer part. part ≤ offer.limit * d) (λ pair. f (s pair)) 0 offers (λ i o h. part_within d (slice_index_or offers i o).limit (s (0 + i, slice_index_or offers i o)) (limited_stake offers asked tableau reached facts i o h)))

-- and so are stakes rounded down
pub floors_within : (offers : List Offer) (asked : Outcome → ℤ) (tableau : SimplexTableau) → IsReached (limited_program (classes_of offers) offers asked) tableau → BestFacts (limited_program (classes_of offers) offers asked) tableau → AllZip (λ offer stake. stake ≤ offer.limit) offers (floors (fractional_stakes (classes_of offers) offers (all_numbers offers) tableau))
floors_within offers asked tableau reached facts =
    let s = stake_of offers tableau in
    let f : Fraction → ℕ = λ x. x.numerator / x.denominator in
    subst (AllZip (λ offer stake. stake ≤ offer.limit) offers) (sym (map_map f s (enumerate_from 0 offers)))
    (zip_enumerate (λ offer stake. stake ≤ offer.limit) (λ pair. f (s pair)) 0 offers (λ i o h. floor_within (slice_index_or offers i o).limit (s (0 + i, slice_index_or offers i o)) (limited_stake offers asked tableau reached facts i o h)))

-- ---- a number that makes all stakes whole

-- each denominator is above 0
abbrev pub HasDenominators : List Fraction → Type 0
HasDenominators [] = Unit {0}
HasDenominators (f ∷ fs) = (1 ≤ f.denominator) × HasDenominators fs

whole_more : (k d : ℕ) (fs : List Fraction) → MakesWhole d fs → MakesWhole (k * d) fs
whole_more k d fs whole = All-weaker (λ f. f.denominator ∣ d * f.numerator) (λ f. f.denominator ∣ k * d * f.numerator) (λ f h. subst (λ n. f.denominator ∣ n) (let e : k * (d * f.numerator) ≡ k * d * f.numerator = omega arith in e) (dvd-mul_left_of_dvd f.denominator h k)) fs whole

pub whole_exists : (fs : List Fraction) → HasDenominators fs → (d : ℕ) × (1 ≤ d) × MakesWhole d fs
whole_exists [] has = (1, omega arith, All-nil (λ f. f.denominator ∣ 1 * f.numerator))
whole_exists (f ∷ fs) has =
    let rest = whole_exists fs has.1 in
    let d = f.denominator * rest.0 in
    let here : f.denominator ∣ d * f.numerator = subst (λ n. f.denominator ∣ n) (let e : f.denominator * (rest.0 * f.numerator) ≡ d * f.numerator = omega arith in e) (dvd-mul_right f.denominator (rest.0 * f.numerator)) in
    (d, mul-pos has.0 rest.1, All-cons (λ g. g.denominator ∣ d * g.numerator) f fs here (whole_more f.denominator rest.0 fs rest.2))

denominators_from : (s : ℕ × Offer → Fraction) (n : ℕ) (offers : List Offer) → ((i : ℕ) (o : Offer) → i < length offers → 1 ≤ (s (n + i, slice_index_or offers i o)).denominator) → HasDenominators (map s (enumerate_from n offers))
denominators_from s n [] each = tt
denominators_from s n (offer ∷ offers) each = (
  subst (λ m. 1 ≤ (s (m, offer)).denominator) (let e : n + 0 ≡ n = omega arith in e) (each 0 offer (omega arith)),
  denominators_from s (n + 1) offers (λ i o h. subst (λ m. 1 ≤ (s (m, slice_index_or offers i o)).denominator) (let e : n + suc i ≡ n + 1 + i = omega arith in e) (each (suc i) o (omega (arith, h)))),
)

pub limited_denominators : (offers : List Offer) (asked : Outcome → ℤ) (tableau : SimplexTableau) → IsReached (limited_program (classes_of offers) offers asked) tableau → BestFacts (limited_program (classes_of offers) offers asked) tableau → HasDenominators (fractional_stakes (classes_of offers) offers (all_numbers offers) tableau)
limited_denominators offers asked tableau reached facts = denominators_from (stake_of offers tableau) 0 offers (λ i o h. (limited_stake offers asked tableau reached facts i o h).denominator)

-- ---- rounding down

same_floor : (d n e : ℕ) → 1 ≤ d → 1 ≤ e → e ∣ d * n → d * n / e / d ≡ n / e
same_floor d n e some above whole =
    let q = d * n / e in
    let exact : q * e ≡ d * n = div-mul_cancel e whole in
    let a = q / d in
    let b = n / e in
    let a_low : a * d ≤ q = div-mul-le_self q d in
    let b_low : b * e ≤ n = div-mul-le_self n e in
    let lifted : a * d * e ≤ q * e = mul-le-mul_right e a_low in
    let low : d * (a * e) ≤ d * n = omega (arith, lifted, exact) in
    let less : a ≤ b = le-div a n e above (le_of_mul-le-mul_left low some) in
    let lifted_back : d * (b * e) ≤ d * n = mul-le-mul_left d b_low in
    let back : e * (b * d) ≤ e * q = omega (arith, lifted_back, exact) in
    let more : b ≤ a = le-div b q d some (le_of_mul-le-mul_left back above) in
    omega (arith, less, more)

pub floors_are : (d : ℕ) (fs : List Fraction) → 1 ≤ d → HasDenominators fs → MakesWhole d fs → map (λ part. part / d) (multiples d fs) ≡ floors fs
floors_are d [] some has whole = refl
floors_are d (f ∷ fs) some has whole =
    let P : Fraction → Type 0 = λ g. g.denominator ∣ d * g.numerator in
    ap₂ (λ x xs. x ∷ xs) (same_floor d f.numerator f.denominator some has.0 (All-head P f fs whole)) (floors_are d fs some has.1 (All-tail P f fs whole))

sum_step : (c n1 n2 k s1 s2 : ℤ) → (c *ℤ n1 +ℤ k *ℤ s1) +ℤ (c *ℤ n2 +ℤ k *ℤ s2) ≡ c *ℤ (n1 +ℤ n2) +ℤ k *ℤ (s1 +ℤ s2)
sum_step c n1 n2 k s1 s2 = rw (dif_is c, dif_is n1, dif_is n2, dif_is k, dif_is s1, dif_is s2) (simp difs (dif_same _ _ _ _ (omega arith)))

add_le : (p q a b : ℤ) → p ≤ℤ q → a ≤ℤ b → (p +ℤ a) ≤ℤ (q +ℤ b)
add_le p q a b h k = omega (arith, linear, h, k)

-- parts, cut down to whole units, win together at most their slack less
rounding_costs : (offers : List Offer) (d : ℕ) (parts : List ℕ) (x : Outcome) → 1 ≤ d → total_gain offers parts x ≤ℤ (pos (2000 * d) *ℤ total_net offers (map (λ part. part / d) parts) x +ℤ pos (2 * d) *ℤ pos (sum_by (λ offer. slack offer x) offers))
rounding_costs [] d parts x some = omega (arith, ints)
rounding_costs (offer ∷ offers) d [] x some = omega (arith, ints)
rounding_costs (offer ∷ offers) d (part ∷ parts) x some =
    let c = pos (2000 * d) in
    let k = pos (2 * d) in
    let slacks = sum_by (λ o. slack o x) offers in
    let here = slack_covers offer x d part some in
    let rest = rounding_costs offers d parts x some in
    let all : pos (sum_by (λ o. slack o x) (offer ∷ offers)) ≡ pos (slack offer x) +ℤ pos slacks = ap pos (sum_by-cons (λ o. slack o x) offer offers) in
    let one : pos (2 * d * slack offer x) ≡ k *ℤ pos (slack offer x) = sym (pos-*ℤ-pos (2 * d) (slack offer x)) in
    let step = sum_step c (net offer (part / d) x) (total_net offers (map (λ p. p / d) parts) x) k (pos (slack offer x)) (pos slacks) in
    subst (λ z. total_gain (offer ∷ offers) (part ∷ parts) x ≤ℤ (c *ℤ total_net (offer ∷ offers) (map (λ p. p / d) (part ∷ parts)) x +ℤ k *ℤ z)) (sym all)
    (subst (λ z. (pos part *ℤ gain offer x +ℤ total_gain offers parts x) ≤ℤ z) step (add_le _ _ _ _ (subst (λ z. (pos part *ℤ gain offer x) ≤ℤ (c *ℤ net offer (part / d) x +ℤ z)) one here) rest))

need_step : (d e s : ℤ) → d *ℤ (pos 2 *ℤ (pos 1000 *ℤ e +ℤ s)) ≡ d *ℤ (pos 2000 *ℤ e) +ℤ (pos 2 *ℤ d) *ℤ s
need_step d e s = rw (dif_is d, dif_is e, dif_is s) (simp difs (dif_same _ _ _ _ (omega arith)))

thousand : (d e : ℤ) → d *ℤ (pos 2000 *ℤ e) ≡ (pos 2000 *ℤ d) *ℤ e
thousand d e = rw (dif_is d, dif_is e) (simp difs (dif_same _ _ _ _ (omega arith)))

-- stakes that reach what is needed with slack win it after rounding
net_reached : (offers : List Offer) (d : ℕ) (parts : List ℕ) (x : Outcome) → 1 ≤ d → (pos d *ℤ slack_need offers x) ≤ℤ total_gain offers parts x → need x ≤ℤ total_net offers (map (λ part. part / d) parts) x
net_reached offers d parts x some reaches =
    let slacks = sum_by (λ o. slack o x) offers in
    let n = total_net offers (map (λ part. part / d) parts) x in
    let costs = rounding_costs offers d parts x some in
    let split = need_step (pos d) (need x) (pos slacks) in
    let two : pos 2 *ℤ pos d ≡ pos (2 * d) = pos-*ℤ-pos 2 d in
    let moved : pos d *ℤ (pos 2000 *ℤ need x) ≡ pos (2000 * d) *ℤ need x = thousand (pos d) (need x) ∙ ap (λ z. z *ℤ need x) (pos-*ℤ-pos 2000 d) in
    let same : pos d *ℤ slack_need offers x ≡ pos (2000 * d) *ℤ need x +ℤ pos (2 * d) *ℤ pos slacks = split ∙ ap₂ (λ a b. a +ℤ b *ℤ pos slacks) moved two in
    let above : pos 0 <ℤ pos (2000 * d) = omega (arith, ints, some) in
    at_most_from_product (pos (2000 * d)) (need x) n above (omega (arith, linear, reaches, costs, same_out _ _ same))

-- where a run of the program with limits and slack is at its best at level 1, its stakes rounded down are an arbitrage
pub slack_floors : (offers : List Offer) (tableau : SimplexTableau) → IsReached (limited_program (classes_of offers) offers (slack_need offers)) tableau → IsBest tableau → HasLevelOne tableau → IsArbitrage offers (floors (fractional_stakes (classes_of offers) offers (all_numbers offers) tableau))
slack_floors offers tableau reached best one =
    let classes = classes_of offers in
    let asked = slack_need offers in
    let facts = best_facts (limited_program classes offers asked) tableau reached best in
    let stakes = fractional_stakes classes offers (all_numbers offers) tableau in
    let has = limited_denominators offers asked tableau reached facts in
    let whole = whole_exists stakes has in
    let d = whole.0 in
    let rounded = floors_are d stakes whole.1 has whole.2 in
    let at : All (λ y. need y ≤ℤ total_net offers (floors stakes) y) classes = λ j x h.
    subst (λ s. need (slice_index_or classes j x) ≤ℤ total_net offers s (slice_index_or classes j x)) rounded
    (net_reached offers d (multiples d stakes) (slice_index_or classes j x) whole.1 (stakes_reach classes offers (all_numbers offers) offers asked (limited_program classes offers asked) tableau facts d j x any_offer (all_columns offers) reached (limited_classes classes offers asked) one whole.2 h)) in
    record {
      within_limits = floors_within offers asked tableau reached facts;
      wins = bound_from_classes offers need (total_net offers (floors stakes)) (equal_needs offers) (equal_nets offers (floors stakes)) at;
    }

-- where a run of the program with limits is at its best at level 1, its stakes reach one unit
pub parts_reach : (offers : List Offer) (tableau : SimplexTableau) (parts : Fractions) → IsReached (limited_program (classes_of offers) offers plain_need) tableau → IsBest tableau → HasLevelOne tableau → AreParts (fractional_stakes (classes_of offers) offers (all_numbers offers) tableau) parts → ReachesUnit offers parts.divisor parts.parts
parts_reach offers tableau parts reached best one are =
    let classes = classes_of offers in
    let facts = best_facts (limited_program classes offers plain_need) tableau reached best in
    let stakes = fractional_stakes classes offers (all_numbers offers) tableau in
    let d = parts.divisor in
    let at : All (λ y. (pos (2000 * d) *ℤ need y) ≤ℤ total_gain offers (multiples d stakes) y) classes = λ j x h.
    (let c = slice_index_or classes j x in
    let moved : pos d *ℤ (pos 2000 *ℤ need c) ≡ pos (2000 * d) *ℤ need c = thousand (pos d) (need c) ∙ ap (λ z. z *ℤ need c) (pos-*ℤ-pos 2000 d) in
    subst (λ z. z ≤ℤ total_gain offers (multiples d stakes) c) moved (stakes_reach classes offers (all_numbers offers) offers plain_need (limited_program classes offers plain_need) tableau facts d j x any_offer (all_columns offers) reached (limited_classes classes offers plain_need) one are.common.common.whole h)) in
    record {
      divides = are.common.common.above_zero;
      within_limits = subst (AllZip (λ offer part. part ≤ offer.limit * d) offers) (sym are.are) (parts_within offers plain_need tableau d reached facts);
      wins = subst (λ ps. (x : Outcome) → (pos (2000 * d) *ℤ need x) ≤ℤ total_gain offers ps x) (sym are.are)
          (bound_from_classes offers (λ y. pos (2000 * d) *ℤ need y) (total_gain offers (multiples d stakes)) (λ x y same. ap (λ z. pos (2000 * d) *ℤ z) (equal_needs offers x y same)) (equal_gains offers (multiples d stakes)) at);
    }
