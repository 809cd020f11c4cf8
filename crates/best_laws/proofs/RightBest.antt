-- The parts and the measure at the best end of the program for the best stakes are a right best.
use Rattle.std.proofs.Common.{◌≡◌, ℕ, zero, suc, ◌*◌, ◌≤◌, List, refl, sym, ap, subst, ◌∙◌, arith}
use Rattle.std.specs.Prelude.{All}
use Rattle.std.specs.List.{AllZip}
use Rattle.std.proofs.lemmas.Int.{ints}
use lib.IntN.{ℤ, pos, negsuc, ◌-ℤ◌, ◌*ℤ◌, pos-*ℤ-pos}
use lib.Signed.{◌<ℤ◌, ◌≤ℤ◌}
use borrow.Author.Differences.{same_out}
use Rattle.pivot_definitions.specs.Tableaus.{SimplexTableau}
use Rattle.pivot_definitions.specs.Runs.{IsBest}
use Rattle.pivot_definitions.specs.Duality.{IsReached}
use Rattle.pivot_definitions.proofs.Ring.{linear, times_zero, zero_times, assoc, positive_from_product, not_negative_from_product, times_one}
use Rattle.scan_types.specs.declared.limits.TheConstants.{MOST_PART}
use Rattle.scan_types.specs.declared.offer.Offer.{Offer}
use Rattle.scan_types.specs.declared.outcome.Outcome.{Outcome}
use Rattle.scan_types.specs.declared.outcome.Outcome.TheVariants.{Full, Abandoned}
use Rattle.settlement_definitions.specs.Classes.{SettleAlike, classes_of}
use Rattle.settlement_laws.proofs.AlikeSums.{equal_needs, equal_gains, bound_from_classes}
use Rattle.finding_definitions.specs.Fractions.{Fractions}
use Rattle.finding_definitions.specs.Arbitrage.{need, total_gain}
use Rattle.finding_definitions.specs.Measure.{weighted_sum, final_weight, IsPriceMeasure}
use Rattle.finding_definitions.specs.Verdicts.{reach}
use Rattle.finding_definitions.specs.Best.{AreSafe, IsLeastGain, WinsMore, final_need, IsRightBest}
use Rattle.price_duality.proofs.Averages.{weighted_sum-times}
use Rattle.price_duality.proofs.MostGain.{bounded}
use Rattle.price_duality.proofs.Verdict.{final_weight_some}
use Rattle.judging_definitions.specs.MostProgram.{above_all_wins, most_need}
use Rattle.judging_definitions.specs.Stakes.{all_numbers, multiples}
use Rattle.judging_definitions.specs.Readings.{NoneAbove, class_weights, AreParts}
use Rattle.judging_laws.specs.Laws.{limited_stakes, measure_of}
use Rattle.judging_laws.proofs.ProgramRows.{limited_classes}
use Rattle.judging_laws.proofs.Levels.{BestFacts, best_facts}
use Rattle.judging_laws.proofs.Gains.{all_columns, stakes_reach_level}
use Rattle.judging_laws.proofs.Parts.{parts_within}
use Rattle.judging_laws.proofs.Limits.{level_bounds}
use Rattle.judging_laws.proofs.Measures.{is_measure, final_stands, some_entry}
use Rattle.judging_laws.proofs.Directions.{any_offer}
use Rattle.best_laws.specs.Laws.{most_program}
use Rattle.best_laws.proofs.LevelBelowOne.{below_one}
use Rattle.best_laws.proofs.LeastGains.{least_exists}
use Rattle.best_laws.proofs.Squeeze.{squeezed, turned, times_at_most}

-- at every outcome the parts win, the number of times, at least the level's share of what is asked for
gained_everywhere : (offers : List Offer) (tableau : SimplexTableau) (parts : Fractions) → IsReached (most_program offers) tableau → (facts : BestFacts (most_program offers) tableau) → AreParts (limited_stakes offers tableau) parts → (x : Outcome) → (pos parts.divisor *ℤ (most_need offers x *ℤ facts.point 0)) ≤ℤ (facts.times *ℤ total_gain offers parts.parts x)
gained_everywhere offers tableau parts reached facts are =
    let classes = classes_of offers in
    let asked = most_need offers in
    let d = parts.divisor in
    let stakes = limited_stakes offers tableau in
    let low : Outcome → ℤ = λ x. pos d *ℤ (asked x *ℤ facts.point 0) in
    let high : Outcome → ℤ = λ x. facts.times *ℤ total_gain offers (multiples d stakes) x in
    let at : All (λ y. low y ≤ℤ high y) classes =
    λ j x h. stakes_reach_level classes offers (all_numbers offers) offers asked (most_program offers) tableau facts d j x any_offer (all_columns offers) reached (limited_classes classes offers asked) are.common.common.whole h in
    let same_low : (x y : Outcome) → SettleAlike offers x y → low x ≡ low y = λ x y same. ap (λ z. pos d *ℤ ((pos (2000 * above_all_wins offers) *ℤ z) *ℤ facts.point 0)) (equal_needs offers x y same) in
    let same_high : (x y : Outcome) → SettleAlike offers x y → high x ≡ high y = λ x y same. ap (λ z. facts.times *ℤ z) (equal_gains offers (multiples d stakes) x y same) in
    subst (λ ps. (x : Outcome) → low x ≤ℤ (facts.times *ℤ total_gain offers ps x)) (sym are.are) (bound_from_classes offers low high same_low same_high at)

-- nothing is asked for at an abandonment
nothing_lost : (d u : ℕ) (p t total : ℤ) → pos 0 <ℤ t → (pos d *ℤ ((pos u *ℤ pos 0) *ℤ p)) ≤ℤ (t *ℤ total) → pos 0 ≤ℤ total
nothing_lost d u p t total ts gained =
    let none : pos d *ℤ ((pos u *ℤ pos 0) *ℤ p) ≡ pos 0 = ap (λ z. pos d *ℤ (z *ℤ p)) (times_zero (pos u)) ∙ ap (λ z. pos d *ℤ z) (zero_times p) ∙ times_zero (pos d) in
    not_negative_from_product t total ts (subst (λ z. z ≤ℤ (t *ℤ total)) none gained)

-- weak duality as an inequality
at_most_bound : (offers : List Offer) (m : List (Outcome × ℕ)) (d : ℕ) (parts : List ℕ) (least c : ℤ) → IsPriceMeasure m → AreSafe offers d parts → IsLeastGain offers parts least → c ≡ (final_need m *ℤ least) -ℤ (reach offers m *ℤ pos (2000 * d)) → (final_need m *ℤ least) ≤ℤ (reach offers m *ℤ pos (2000 * d))
at_most_bound offers m d parts least (pos zero) price safe is apart = omega (arith, linear, same_out _ _ apart)
at_most_bound offers m d parts least (negsuc n) price safe is apart = omega (arith, ints, apart)
at_most_bound offers m d parts least (pos (suc n)) price safe is apart =
    let heavy = final_weight_some m price in
    let some : pos 0 ≤ℤ final_need m = omega (arith, ints, heavy) in
    let wins : WinsMore offers (reach offers m) (final_need m) d parts =
    record {
      safe = safe;
      more = λ home away.
          (let total = total_gain offers parts (Full home away) in
          let larger = times_at_most (final_need m) least total some (is.at_least home away) in
          omega (arith, ints, larger, apart));
    } in
    absurd (bounded offers m d parts price wins)

same_both : (a b : ℤ) → a ≤ℤ b → b ≤ℤ a → a ≡ b
same_both a b low high = omega (arith, ints, low, high)

-- both inequalities
both : (d : ℕ) (f r least : ℤ) → (pos d *ℤ r) ≤ℤ (f *ℤ least) → ((pos 2000 *ℤ f) *ℤ least) ≤ℤ (r *ℤ pos (2000 * d)) → least *ℤ (pos 2000 *ℤ f) ≡ r *ℤ pos (2000 * d)
both d f r least low high =
    let more = times_at_most (pos 2000) (pos d *ℤ r) (f *ℤ least) (omega (arith, ints)) low in
    let left : least *ℤ (pos 2000 *ℤ f) ≡ pos 2000 *ℤ (f *ℤ least) = turned least (pos 2000 *ℤ f) ∙ sym (assoc (pos 2000) f least) in
    let right : r *ℤ pos (2000 * d) ≡ pos 2000 *ℤ (pos d *ℤ r) = turned r (pos (2000 * d)) ∙ ap (λ z. z *ℤ r) (sym (pos-*ℤ-pos 2000 d)) ∙ sym (assoc (pos 2000) (pos d) r) in
    let under : (pos 2000 *ℤ (f *ℤ least)) ≤ℤ (pos 2000 *ℤ (pos d *ℤ r)) =
    subst (λ z. z ≤ℤ (pos 2000 *ℤ (pos d *ℤ r))) (sym (assoc (pos 2000) f least)) (subst (λ z. ((pos 2000 *ℤ f) *ℤ least) ≤ℤ z) right high) in
    left ∙ same_both (pos 2000 *ℤ (f *ℤ least)) (pos 2000 *ℤ (pos d *ℤ r)) under more ∙ sym right

pub right_best : (offers : List Offer) (tableau : SimplexTableau) (parts : Fractions) → IsReached (most_program offers) tableau → IsBest tableau → AreParts (limited_stakes offers tableau) parts → NoneAbove MOST_PART (class_weights (classes_of offers) tableau) → IsRightBest offers parts.divisor parts.parts (measure_of offers tableau)
right_best offers tableau parts reached best are small =
    let classes = classes_of offers in
    let asked = most_need offers in
    let facts = best_facts (most_program offers) tableau reached best in
    let bounds = level_bounds offers asked tableau reached facts (below_one offers tableau reached best) in
    let m = measure_of offers tableau in
    let u = 2000 * above_all_wins offers in
    let d = parts.divisor in
    let f = final_weight m in
    let asked_sum : weighted_sum asked m ≡ pos u *ℤ f = weighted_sum-times u need m in
    let u_some : pos 0 <ℤ pos u = omega (arith, ints) in
    let heavy : pos 0 <ℤ f = positive_from_product (pos u) f u_some (subst (λ z. pos 0 <ℤ z) asked_sum bounds.asked_stands) in
    let price : IsPriceMeasure m = record { form = is_measure offers (class_weights classes tableau) small (some_entry need m heavy); final = final_stands m heavy } in
    let gained = gained_everywhere offers tableau parts reached facts are in
    let safe : AreSafe offers d parts.parts =
    record {
      divides = are.common.common.above_zero;
      within_limits = subst (AllZip (λ offer part. part ≤ offer.limit * d) offers) (sym are.are) (parts_within offers asked tableau d reached facts);
      loses_nothing = λ home away. nothing_lost d u (facts.point 0) facts.times (total_gain offers parts.parts (Abandoned home away)) facts.solution.positive (gained (Abandoned home away));
    } in
    let found = least_exists offers parts.parts in
    let least = found.0 in
    let score = found.1.reached in
    let level : pos 0 ≤ℤ facts.point 0 = facts.feasible.not_negative 0 facts.is.some_column in
    let won : (pos d *ℤ (pos u *ℤ facts.point 0)) ≤ℤ (facts.times *ℤ least) =
    subst (λ z. (pos d *ℤ (pos u *ℤ facts.point 0)) ≤ℤ (facts.times *ℤ z)) score.2
    (subst (λ z. (pos d *ℤ (z *ℤ facts.point 0)) ≤ℤ (facts.times *ℤ total_gain offers parts.parts (Full score.0 score.1))) (times_one (pos u)) (gained (Full score.0 score.1))) in
    let enough : facts.scale ≤ℤ (pos bounds.divisor *ℤ (pos u *ℤ f)) = subst (λ z. facts.scale ≤ℤ (pos bounds.divisor *ℤ z)) asked_sum bounds.enough in
    let low = squeezed (pos bounds.divisor) (pos d) (pos u) f (reach offers m) least facts.scale facts.times (facts.point 0) bounds.total bounds.divisor_positive (omega (arith, ints)) (omega (arith, linear, heavy)) facts.solution.positive level bounds.most enough bounds.ties won in
    let high = at_most_bound offers m d parts.parts least _ price safe found.1 refl in
    record {
      divisor_small = are.common.small;
      parts_small = are.small;
      safe = safe;
      price = price;
      ties = record { gain = least; least = found.1; equal = both d f (reach offers m) least low high };
    }
