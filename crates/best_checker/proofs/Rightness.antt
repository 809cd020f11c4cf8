-- If all tests are passed the stakes are the best, and the best stakes pass each of them.
use Rattle.std.proofs.Common.{◌≡◌, ℕ, ℤ, ◌*◌, ◌≤◌, List, length, get_or, subst, arith}
use Rattle.std.specs.Prelude.{pos, ◌<ℤ◌, ◌*ℤ◌}
use Rattle.std.proofs.lemmas.Int.{ints}
use Rattle.std.proofs.lemmas.Slice.Zip.{AllZip-long}
use Rattle.scan_types.specs.declared.offer.Offer.{Offer}
use Rattle.scan_types.specs.declared.outcome.Outcome.{Outcome}
use Rattle.settlement_definitions.specs.StandIns.{stand_ins}
use Rattle.finding_definitions.specs.Fractions.{Fractions}
use Rattle.finding_definitions.specs.Arbitrage.{total_gain}
use Rattle.finding_definitions.specs.Measure.{IsPriceMeasure}
use Rattle.finding_definitions.specs.Verdicts.{reach}
use Rattle.finding_definitions.specs.Best.{final_need, Ties, IsRightBest}
use Rattle.price_duality.proofs.Verdict.{final_weight_some}
use Rattle.price_duality.proofs.MostGain.{one_least}
use Rattle.cert_checker.specs.Places.{AllHold}
use Rattle.cert_checker.specs.Shapes.{HasShape}
use Rattle.cert_checker.specs.Answers.{IsWithin}
use Rattle.cert_checker.proofs.Rightness.{zip_within, passed, no_measure_fault, no_shape_fault, no_limit_fault}
use Rattle.best_checker.specs.declared.answer.BestAnswer.{BestAnswer}
use Rattle.best_checker.specs.Abandonments.{KeepsAll}
use Rattle.best_checker.specs.Amounts.{IsSureGain, IsBound}
use Rattle.best_checker.specs.BestAnswers.{IsYes, IsBestAnswer, RefusesAbandonment, RefusesTie}
use Rattle.best_checker.proofs.LowestTerms.{same_amount, same_value}
use Rattle.best_checker.proofs.StandInFacts.{keeps_all, kept_at}

-- what the bound is over
pub final_need_above : (m : List (Outcome × ℕ)) → IsPriceMeasure m → pos 0 <ℤ final_need m
final_need_above m price = let heavy = final_weight_some m price in omega (arith, ints, heavy)

-- what the sure gain is over
pub divisor_above : (d : ℕ) → 1 ≤ d → pos 0 <ℤ pos (2000 * d)
divisor_above d some = omega (arith, ints, some)

-- equal amounts tie
pub ties_by_amounts : (offers : List Offer) (d : ℕ) (parts : List ℕ) (m : List (Outcome × ℕ)) (gain bound : ℤ × ℤ) → 1 ≤ d → IsPriceMeasure m → IsSureGain offers d parts gain → IsBound offers m bound → gain ≡ bound → Ties offers d parts m
ties_by_amounts offers d parts m gain bound some price sure most same = record {
  gain = sure.gain;
  least = sure.least;
  equal = same_value sure.gain (pos (2000 * d)) (reach offers m) (final_need m) gain bound (divisor_above d some) (final_need_above m price) sure.lowest most same;
}

pub right_best : (offers : List Offer) (stakes : Fractions) (m : List (Outcome × ℕ)) → HasShape (length offers) stakes → IsPriceMeasure m → AllHold (IsWithin (λ o. o.limit * stakes.divisor) stakes.parts) offers → AllHold (KeepsAll (total_gain offers stakes.parts)) stand_ins → Ties offers stakes.divisor stakes.parts m → IsRightBest offers stakes.divisor stakes.parts m
right_best offers stakes m shape price within kept ties = record {
  divisor_small = shape.divisor.1;
  parts_small = shape.small;
  safe =
      record {
        divides = shape.divisor.0;
        within_limits = zip_within (λ o. o.limit * stakes.divisor) offers stakes.parts shape.count within;
        loses_nothing = keeps_all offers stakes.parts kept;
      };
  price = price;
  ties = ties;
}

pub yes_right : (offers : List Offer) (stakes : Fractions) (m : List (Outcome × ℕ)) (answer : BestAnswer) → IsBestAnswer offers stakes m answer → IsYes answer → IsRightBest offers stakes.divisor stakes.parts m
yes_right offers stakes m answer tests told =
    let shape = passed tests (λ r. subst IsYes r.1 told) in
    let price = passed shape.1 (λ r. subst IsYes r.1 told) in
    let limit = passed price.1 (λ r. subst IsYes r.1 told) in
    let kept = passed limit.1 (λ r. subst IsYes r.2 told) in
    let ties = passed kept.1 (λ r. subst IsYes r.is told) in
    right_best offers stakes m shape.0 price.0 limit.0 kept.0 ties.0

no_loss : (offers : List Offer) (stakes : Fractions) (answer : BestAnswer) → ((k : ℕ) (x : Outcome) → KeepsAll (total_gain offers stakes.parts) k x) → RefusesAbandonment offers stakes answer → ⊥
no_loss offers stakes answer kept r = let (k, first, at, won) = r.3 in first.fails r.0 (kept k (get_or stand_ins k r.0))

pub no_difference : (offers : List Offer) (stakes : Fractions) (m : List (Outcome × ℕ)) (answer : BestAnswer) → 1 ≤ stakes.divisor → IsPriceMeasure m → Ties offers stakes.divisor stakes.parts m → RefusesTie offers stakes m answer → ⊥
no_difference offers stakes m answer some price ties r =
    let same = one_least offers stakes.parts ties.gain r.gains.gain ties.least r.gains.least in
    let equal : r.gains.gain *ℤ final_need m ≡ reach offers m *ℤ pos (2000 * stakes.divisor) = subst (λ z. z *ℤ final_need m ≡ reach offers m *ℤ pos (2000 * stakes.divisor)) same ties.equal in
    r.differ (same_amount r.gains.gain (pos (2000 * stakes.divisor)) (reach offers m) (final_need m) r.gain r.bound (divisor_above stakes.divisor some) (final_need_above m price) r.gains.lowest r.bounds equal)

pub right_yes : (offers : List Offer) (stakes : Fractions) (m : List (Outcome × ℕ)) (answer : BestAnswer) → IsBestAnswer offers stakes m answer → IsRightBest offers stakes.divisor stakes.parts m → IsYes answer
right_yes offers stakes m answer tests right =
    let shaped : HasShape (length offers) stakes =
    record {
      count = AllZip-long (λ o p. p ≤ o.limit * stakes.divisor) offers stakes.parts right.safe.within_limits;
      divisor = (right.safe.divides, right.divisor_small);
      small = right.parts_small;
    } in
    let shape = passed tests (λ r. no_shape_fault (length offers) stakes.divisor stakes.parts r.0 shaped r.2) in
    let price = passed shape.1 (λ r. no_measure_fault m r.0 right.price r.2) in
    let limit = passed price.1 (λ r. no_limit_fault (λ o. o.limit * stakes.divisor) offers stakes.parts r.0 right.safe.within_limits r.2) in
    let kept = passed limit.1 (no_loss offers stakes answer (kept_at (total_gain offers stakes.parts) right.safe.loses_nothing)) in
    (passed kept.1 (no_difference offers stakes m answer right.safe.divides right.price right.ties)).1
