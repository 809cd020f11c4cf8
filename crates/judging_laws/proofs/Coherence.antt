-- At level 0 of the program without limits the measure lets no offer gain on average.
use Rattle.std.proofs.Common.{◌≡◌, ℕ, zero, suc, ◌+◌, ◌<◌, List, length, map, sym, ap, ◌∙◌, subst, arith, true}
use Rattle.std.specs.Prelude.{slice_index_or}
use Rattle.std.specs.List.{enumerate_from}
use Rattle.std.proofs.lemmas.List.{length-map, get_or-map}
use Rattle.std.proofs.lemmas.List.FromFn.{length-enumerate_from, get_or-enumerate_from}
use Rattle.std.proofs.lemmas.Int.{ints}
use lib.IntN.{ℤ, pos, ◌+ℤ◌, ◌-ℤ◌, ◌*ℤ◌}
use lib.Signed.{◌<ℤ◌, ◌≤ℤ◌}
use borrow.Author.Differences.{same_out}
use Rattle.pivot_definitions.specs.Programs.{LinearProgram, coefficient}
use Rattle.pivot_definitions.specs.Tableaus.{SimplexTableau, multiplier_of}
use Rattle.pivot_definitions.specs.Runs.{IsBest}
use Rattle.pivot_definitions.specs.Duality.{sum_below, column_sum, IsReached}
use Rattle.pivot_definitions.proofs.Ring.{dif_is, difs, dif_same, linear, mul_not_negative, mul_not_positive, times_zero, zero_times, times_one, positive_from_product, not_positive_from_product}
use Rattle.scan_types.specs.declared.limits.TheConstants.{MOST_PART}
use Rattle.scan_types.specs.declared.offer.Offer.{Offer}
use Rattle.scan_types.specs.declared.outcome.Outcome.{Outcome}
use Rattle.scan_types.specs.declared.outcome.Outcome.TheVariants.{Full}
use Rattle.settlement_definitions.specs.Gain.{gain}
use Rattle.settlement_definitions.specs.Classes.{classes_of}
use Rattle.finding_definitions.specs.Arbitrage.{need}
use Rattle.finding_definitions.specs.Measure.{weighted_sum, mean}
use Rattle.finding_definitions.specs.Verdicts.{IsRightCoherent}
use Rattle.judging_definitions.specs.Columns.{offer_divisor, divided_gain, gains_no_less, leading_offers}
use Rattle.judging_definitions.specs.JudgingPrograms.{homogeneous_program}
use Rattle.judging_definitions.specs.Readings.{HasLevelOne, NoneAbove, class_weights, weighted_classes}
use Rattle.judging_laws.proofs.ProgramRows.{HasCap, homogeneous_classes, homogeneous_cap}
use Rattle.judging_laws.proofs.Weights.{weight_divisor, weighted_is}
use Rattle.judging_laws.proofs.Levels.{BestFacts, best_facts, cap_row, no_cap, value_facts, level_below_one}
use Rattle.judging_laws.proofs.Dominance.{In, place_of, in_at, has_leading, no_less_at}
use Rattle.judging_laws.proofs.Means.{by_multipliers, class_part, level_part, gains_by_divisor, sum_at_most}
use Rattle.judging_laws.proofs.Measures.{is_measure, final_stands, some_entry}

-- some outcome, for places past the end of a list
abbrev pub any_outcome : Outcome
any_outcome = Full 0 0

-- column 0 is below the number of times, where the level is not 1
pub level_below : (program : LinearProgram) (tableau : SimplexTableau) (last : ℕ) → IsReached program tableau → (facts : BestFacts program tableau) → HasCap program last → (HasLevelOne tableau → ⊥) → facts.point 0 <ℤ facts.times
level_below program tableau last reached facts capped below =
    let row = facts.feasible.satisfies last (omega (arith, capped.rows)) in
    let sum = cap_row program last facts.point facts.is capped in
    let right : facts.times *ℤ pos 1 ≡ facts.times = times_one facts.times in
    let most = subst (λ x. sum_below program.columns (λ c. coefficient program last c *ℤ facts.point c) ≤ℤ (facts.times *ℤ x)) capped.right row in
    level_below_one tableau facts.times (facts.point 0) (value_facts program tableau reached facts.times facts.point facts.solution 0 facts.is.some_column) facts.solution.positive (omega (arith, linear, most, same_out _ _ sum, same_out _ _ right)) below

last_out : (a m x : ℤ) → m ≡ pos 0 → a +ℤ m *ℤ x ≡ a
last_out a m x none = ap (λ z. a +ℤ z *ℤ x) none ∙ (let z = zero_times x in let e : a +ℤ pos 0 *ℤ x ≡ a = omega (arith, linear, same_out _ _ z) in e)

pub times_zero_out : (s x : ℤ) → (s *ℤ pos 0) ≤ℤ x → pos 0 ≤ℤ x
times_zero_out s x h = let z = times_zero s in omega (arith, linear, h, same_out _ _ z)

-- a sum over all rows, where the cap counts nothing
pub rows_out : (program : LinearProgram) (last c : ℕ) (m : ℕ → ℤ) → program.rows ≡ suc last → m last ≡ pos 0 → column_sum program m c ≡ sum_below last (λ r. m r *ℤ coefficient program r c)
rows_out program last c m rows none =
    ap (λ n. sum_below n (λ r. m r *ℤ coefficient program r c)) rows ∙ last_out (sum_below last (λ r. m r *ℤ coefficient program r c)) (m last) (coefficient program last c) none

-- what the multipliers say below level 1 of the program without limits
record LevelZero (classes : List Outcome) (offers : List Offer) (tableau : SimplexTableau) : Type 0 where
  not_negative : (j : ℕ) → j < length classes → pos 0 ≤ℤ multiplier_of tableau j
  final : pos 0 <ℤ by_multipliers classes tableau need any_outcome
  gains : (k : ℕ) (o : Offer) → k < length offers → by_multipliers classes tableau (gain (slice_index_or offers k o)) any_outcome ≤ℤ pos 0

level_zero : (classes : List Outcome) (offers : List Offer) (tableau : SimplexTableau) → IsReached (homogeneous_program classes offers) tableau → IsBest tableau → (HasLevelOne tableau → ⊥) → LevelZero classes offers tableau
level_zero classes offers tableau reached best below =
    let program = homogeneous_program classes offers in
    let facts = best_facts program tableau reached best in
    let capped = homogeneous_cap classes offers in
    let rows = homogeneous_classes classes offers in
    let m = multiplier_of tableau in
    let none = no_cap program tableau (length classes) facts capped (level_below program tableau (length classes) reached facts capped below) in
    record {
      not_negative = λ j h. facts.bounds.not_negative j (omega (arith, h, rows.rows));
      final =
          (let cover = facts.bounds.covers 0 facts.is.some_column in
          let one = times_one facts.scale in
          let sum = rows_out program (length classes) 0 m capped.rows none ∙ level_part classes offers need program tableau any_outcome rows in
          let positive = facts.bounds.positive in
          omega (arith, linear, cover, same_out _ _ one, same_out _ _ sum, positive));
      gains = λ k o h.
          (let cover = times_zero_out facts.scale _ (facts.bounds.covers (suc k) (omega (arith, h))) in
          let sum = rows_out program (length classes) (suc k) m capped.rows none ∙ class_part classes offers need program tableau k o any_outcome rows h in
          let offer = slice_index_or offers k o in
          let divided : by_multipliers classes tableau (divided_gain classes offer) any_outcome ≤ℤ pos 0 = omega (arith, linear, cover, same_out _ _ sum) in
          let product = mul_not_positive (pos (offer_divisor classes offer)) (by_multipliers classes tableau (divided_gain classes offer) any_outcome) (omega (arith, ints)) divided in
          omega (arith, linear, product, same_out _ _ (gains_by_divisor classes tableau offer any_outcome)));
    }

pub times_below : (m a b : ℤ) → pos 0 ≤ℤ m → a ≤ℤ b → (m *ℤ a) ≤ℤ (m *ℤ b)
times_below m a b h k =
    let x = mul_not_negative m (b -ℤ a) h (omega (arith, linear, k)) in
    let e : m *ℤ (b -ℤ a) ≡ m *ℤ b -ℤ m *ℤ a = rw (dif_is m, dif_is a, dif_is b) (simp difs (dif_same _ _ _ _ (omega arith))) in
    omega (arith, linear, x, same_out _ _ e)

-- an offer gains no more by the multipliers than one that gains at least as much at every class
by_more : (classes : List Outcome) (tableau : SimplexTableau) (other offer : Offer) → ((j : ℕ) → j < length classes → pos 0 ≤ℤ multiplier_of tableau j) → gains_no_less classes other offer ≡ true → by_multipliers classes tableau (gain offer) any_outcome ≤ℤ by_multipliers classes tableau (gain other) any_outcome
by_more classes tableau other offer positive more =
    sum_at_most (length classes) (λ j. multiplier_of tableau j *ℤ gain offer (slice_index_or classes j any_outcome)) (λ j. multiplier_of tableau j *ℤ gain other (slice_index_or classes j any_outcome))
    (λ j h. times_below (multiplier_of tableau j) _ _ (positive j h) (no_less_at classes other offer more j any_outcome h))

-- no offer of the sheet gains by the multipliers
none_gains : (offers : List Offer) (classes : List Outcome) (tableau : SimplexTableau) → LevelZero classes (map (λ e. e.1) (leading_offers offers classes)) tableau → (k : ℕ) (o : Offer) → k < length offers → by_multipliers classes tableau (gain (slice_index_or offers k o)) any_outcome ≤ℤ pos 0
none_gains offers classes tableau zero_level k o within =
    let offer = slice_index_or offers k o in
    let all = enumerate_from 0 offers in
    let at : slice_index_or all k (0, o) ≡ (0 + k, offer) = get_or-enumerate_from 0 offers k (0, o) within in
    let found = has_leading offers classes (0 + k, offer) (subst (λ e. In e all) at (in_at all k (0, o) (omega (arith, length-enumerate_from 0 offers, within)))) in
    let leading = leading_offers offers classes in
    let place = place_of found.0 leading found.1 in
    let same : slice_index_or (map (λ (e : ℕ × Offer). e.1) leading) place.0 o ≡ found.0.1 = get_or-map (λ (e : ℕ × Offer). e.1) leading place.0 found.0 o place.1 ∙ ap (λ (e : ℕ × Offer). e.1) (place.2 found.0) in
    let leads = subst (λ x. by_multipliers classes tableau (gain x) any_outcome ≤ℤ pos 0) same (zero_level.gains place.0 o (omega (arith, length-map leading (λ (e : ℕ × Offer). e.1), place.1))) in
    let more = by_more classes tableau found.0.1 offer zero_level.not_negative found.2 in
    omega (arith, linear, leads, more)

pub divisor_stands : (g : ℕ) (x y : ℤ) → pos g *ℤ x ≡ y → pos 0 <ℤ y → pos 0 <ℤ pos g
divisor_stands zero x y e h = absurd (let z = zero_times x in omega (arith, linear, same_out _ _ e, same_out _ _ z, h))
divisor_stands (suc g) x y e h = omega (arith, ints)

-- where a run of the program without limits is at its best below level 1, the measure is right for `coherent`
pub coherent : (offers : List Offer) (tableau : SimplexTableau) → IsReached (homogeneous_program (classes_of offers) (map (λ e. e.1) (leading_offers offers (classes_of offers)))) tableau → IsBest tableau → (HasLevelOne tableau → ⊥) → NoneAbove MOST_PART (class_weights (classes_of offers) tableau) → IsRightCoherent offers (weighted_classes (classes_of offers) (class_weights (classes_of offers) tableau))
coherent offers tableau reached best below small =
    let classes = classes_of offers in
    let leading = map (λ (e : ℕ × Offer). e.1) (leading_offers offers classes) in
    let facts = level_zero classes leading tableau reached best below in
    let measure = weighted_classes classes (class_weights classes tableau) in
    let g = weight_divisor classes tableau in
    let final = weighted_is need classes tableau any_outcome facts.not_negative in
    let positive = divisor_stands g (weighted_sum need measure) _ final facts.final in
    let weight : pos 0 <ℤ weighted_sum need measure = positive_from_product (pos g) (weighted_sum need measure) positive (subst (λ x. pos 0 <ℤ x) (sym final) facts.final) in
    record {
      price = record { form = is_measure offers (class_weights classes tableau) small (some_entry need measure weight); final = final_stands measure weight };
      no_gain = λ k o h.
          (let offer = slice_index_or offers k o in
          let sum = weighted_is (gain offer) classes tableau any_outcome facts.not_negative in
          let gains = none_gains offers classes tableau facts k o h in
          not_positive_from_product (pos g) (mean measure offer) positive (omega (arith, linear, gains, same_out _ _ sum)));
    }
