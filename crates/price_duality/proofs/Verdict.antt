-- Stakes that win a unit everywhere contradict weights under which no offer gains.
use Rattle.std.proofs.Common.{◌≡◌, ◌≤◌, ◌*◌, ℕ, List, arith, subst}
use Rattle.std.specs.Prelude.{pos, ◌*ℤ◌, ◌≤ℤ◌}
use Rattle.std.proofs.lemmas.Int.{ints}
use Rattle.scan_types.specs.declared.offer.Offer.{Offer}
use Rattle.scan_types.specs.declared.limits.TheConstants.{MOST_PART}
use Rattle.finding_definitions.specs.Arbitrage.{sum_over, total_net, total_gain, need, IsArbitrage, ReachesUnit}
use Rattle.finding_definitions.specs.Measure.{weighted_sum, mean, final_weight, IsPriceMeasure}
use Rattle.finding_definitions.specs.Verdicts.{IsRightCoherent}
use Rattle.finding_definitions.specs.Truths.{WinsUnit}
use Rattle.price_duality.proofs.Products.{times_le}
use Rattle.price_duality.proofs.Averages.{Entry, weighted_sum-times, weighted_sum_le, sums_exchange, no_stakes_gain, final_weight_pos}
use Rattle.price_duality.proofs.Roundings.{total_net_below}

-- a price measure has weight on a final score
pub final_weight_some : (m : List Entry) → IsPriceMeasure m → pos 1 ≤ℤ final_weight m
final_weight_some m price =
    let (k, x, l, e, f) = price.final in
    let W : Entry → Type 0 = λ y. (1 ≤ y.1) × (y.1 ≤ MOST_PART) in
    let weight : W x = subst W e (price.form.weights k x l) in
    final_weight_pos m k x l e f weight.0

pub no_unit : (offers : List Offer) (m : List Entry) (divisor : ℕ) (parts : List ℕ) → IsRightCoherent offers m → WinsUnit offers divisor parts → ⊥
no_unit offers m divisor parts right wins =
    let k = 2000 * divisor in
    let owed : weighted_sum (λ x. pos k *ℤ need x) m ≡ pos k *ℤ final_weight m = weighted_sum-times k need m in
    let above : weighted_sum (λ x. pos k *ℤ need x) m ≤ℤ weighted_sum (λ x. total_gain offers parts x) m = weighted_sum_le (λ x. pos k *ℤ need x) (λ x. total_gain offers parts x) m wins.wins in
    let exchanged = sums_exchange offers parts m in
    let below : sum_over (λ o p. pos p *ℤ mean m o) offers parts ≤ℤ pos 0 = no_stakes_gain offers parts m right.no_gain in
    let some : (pos k *ℤ pos 1) ≤ℤ (pos k *ℤ final_weight m) = times_le k (pos 1) (final_weight m) (final_weight_some m right.price) in
    let d = wins.divides in
    omega (arith, ints, owed, above, exchanged, below, some, d)

pub reached_wins : (offers : List Offer) (divisor : ℕ) (parts : List ℕ) → ReachesUnit offers divisor parts → WinsUnit offers divisor parts
reached_wins offers divisor parts r = record { divides = r.divides; wins = r.wins }

pub arbitrage_wins : (offers : List Offer) (stakes : List ℕ) → IsArbitrage offers stakes → WinsUnit offers 1 stakes
arbitrage_wins offers stakes a = record {
  divides = omega arith;
  wins = λ x.
      let whole : (pos 2000 *ℤ need x) ≤ℤ (pos 2000 *ℤ total_net offers stakes x) = times_le 2000 (need x) (total_net offers stakes x) (a.wins x) in
      let down = total_net_below offers stakes x in
      omega (arith, ints, whole, down);
}
