-- Weak duality: what stakes win for sure is at most the bound of a measure.
use Rattle.std.proofs.Common.{◌≡◌, ◌≤◌, ◌+◌, ◌*◌, ℕ, List, [], ◌∷◌, refl, sym, ap, subst, ◌∙◌, arith}
use Rattle.std.specs.Prelude.{ℤ, pos, negsuc, ◌+ℤ◌, ◌-ℤ◌, ◌*ℤ◌, ◌≤ℤ◌, ◌<ℤ◌, unsigned_abs}
use Rattle.std.specs.Int.{int_max}
use Rattle.std.proofs.lemmas.Int.{ints}
use Rattle.std.proofs.Math.IntN.{*ℤ_comm}
use Rattle.scan_types.specs.declared.offer.Offer.{Offer}
use Rattle.scan_types.specs.declared.outcome.Outcome.{Outcome}
use Rattle.scan_types.specs.declared.outcome.Outcome.TheVariants.{Full, Abandoned}
use Rattle.finding_definitions.specs.Arbitrage.{total_gain, need}
use Rattle.finding_definitions.specs.Measure.{weighted_sum, mean, final_weight, IsPriceMeasure}
use Rattle.finding_definitions.specs.Verdicts.{reach}
use Rattle.finding_definitions.specs.Best.{final_need, IsLeastGain, WinsMore, IsRightBest}
use Rattle.price_duality.proofs.Products.{times_le, times-sum, times_swap}
use Rattle.price_duality.proofs.Averages.{Entry, weighted_sum-times, weighted_sum_le, sums_exchange}
use Rattle.price_duality.proofs.Limits.{max_zero, within_reach}
use Rattle.price_duality.proofs.Verdict.{final_weight_some}

-- the reach is not negative
pub reach_least : (offers : List Offer) (m : List Entry) → pos 0 ≤ℤ reach offers m
reach_least [] m = omega (arith, ints)
reach_least (o ∷ offers) m =
    let here : (pos o.limit *ℤ pos 0) ≤ℤ (pos o.limit *ℤ int_max (pos 0) (mean m o)) = times_le o.limit (pos 0) (int_max (pos 0) (mean m o)) (max_zero (mean m o)).0 in
    let rest = reach_least offers m in
    omega (arith, ints, here, rest)

-- a number that is not negative is a natural one
natural : (z : ℤ) → pos 0 ≤ℤ z → z ≡ pos (unsigned_abs z)
natural z h = omega (arith, ints)

-- what is owed at an outcome
owed_at : (r f d : ℕ) (total : Outcome → ℤ) → ((home away : ℕ) → pos 0 ≤ℤ total (Abandoned home away)) → ((home away : ℕ) → (pos r *ℤ pos (2000 * d)) <ℤ (pos (2000 * f) *ℤ total (Full home away))) → (x : Outcome) → (pos (r * (2000 * d) + 1) *ℤ need x) ≤ℤ (pos (2000 * f) *ℤ total x)
owed_at r f d total safe more (Full h a) = let here = more h a in omega (arith, ints, here)
owed_at r f d total safe more (Abandoned h a) =
    let here = times_le (2000 * f) (pos 0) (total (Abandoned h a)) (safe h a) in
    omega (arith, ints, here)

-- more than the bound at every final score would be more on average than the limits allow
overreached : (r f d : ℕ) → 1 ≤ f → (r * (2000 * d) + 1) * f ≤ 2000 * f * (d * r) → ⊥
overreached r f d some h =
    let spread : (r * (2000 * d) + 1) * f ≡ 2000 * f * (d * r) + f = omega arith in
    omega (arith, spread)

-- sums of both sides over a measure
sums_compared : (p q : ℕ) (m : List Entry) (total : Outcome → ℤ) → ((x : Outcome) → (pos p *ℤ need x) ≤ℤ (pos q *ℤ total x)) → (pos p *ℤ final_weight m) ≤ℤ (pos q *ℤ weighted_sum total m)
sums_compared p q m total owed =
    let above : weighted_sum (λ x. pos p *ℤ need x) m ≤ℤ weighted_sum (λ x. pos q *ℤ total x) m = weighted_sum_le (λ x. pos p *ℤ need x) (λ x. pos q *ℤ total x) m owed in
    subst (λ z. z ≤ℤ (pos q *ℤ weighted_sum total m)) (weighted_sum-times p need m)
    (subst (λ z. weighted_sum (λ x. pos p *ℤ need x) m ≤ℤ z) (weighted_sum-times q total m) above)

in_naturals : (a f b c : ℕ) → (pos a *ℤ pos f) ≤ℤ (pos b *ℤ pos c) → a * f ≤ b * c
in_naturals a f b c h = omega (arith, ints, h)

pub bounded : (offers : List Offer) (m : List Entry) (d : ℕ) (parts : List ℕ) → IsPriceMeasure m → WinsMore offers (reach offers m) (final_need m) d parts → ⊥
bounded offers m d parts price wins =
    let total : Outcome → ℤ = total_gain offers parts in
    let heavy : pos 1 ≤ℤ final_weight m = final_weight_some m price in
    let f = unsigned_abs (final_weight m) in
    let r = unsigned_abs (reach offers m) in
    let weight : final_weight m ≡ pos f = natural (final_weight m) (omega (arith, ints, heavy)) in
    let most : reach offers m ≡ pos r = natural (reach offers m) (reach_least offers m) in
    let some : 1 ≤ f = omega (arith, ints, heavy, weight) in
    let twice : pos 2000 *ℤ pos f ≡ pos (2000 * f) = omega (arith, ints) in
    let more : (home away : ℕ) → (pos r *ℤ pos (2000 * d)) <ℤ (pos (2000 * f) *ℤ total (Full home away)) =
    λ home away.
    subst (λ z. (pos r *ℤ pos (2000 * d)) <ℤ (z *ℤ total (Full home away))) twice
    (subst (λ z. (pos r *ℤ pos (2000 * d)) <ℤ ((pos 2000 *ℤ z) *ℤ total (Full home away))) weight
    (subst (λ z. (z *ℤ pos (2000 * d)) <ℤ (final_need m *ℤ total (Full home away))) most (wins.more home away))) in
    let owed = owed_at r f d total wins.safe.loses_nothing more in
    let compared : (pos (r * (2000 * d) + 1) *ℤ pos f) ≤ℤ (pos (2000 * f) *ℤ weighted_sum total m) =
    subst (λ z. (pos (r * (2000 * d) + 1) *ℤ z) ≤ℤ (pos (2000 * f) *ℤ weighted_sum total m)) weight (sums_compared (r * (2000 * d) + 1) (2000 * f) m total owed) in
    let within : weighted_sum total m ≤ℤ (pos d *ℤ pos r) =
    subst (λ z. weighted_sum total m ≤ℤ (pos d *ℤ z)) most
    (subst (λ z. z ≤ℤ (pos d *ℤ reach offers m)) (sym (sums_exchange offers parts m)) (within_reach offers parts d m wins.safe.within_limits)) in
    let product : pos d *ℤ pos r ≡ pos (d * r) = omega (arith, ints) in
    let allowed : (pos (2000 * f) *ℤ weighted_sum total m) ≤ℤ (pos (2000 * f) *ℤ pos (d * r)) = times_le (2000 * f) (weighted_sum total m) (pos (d * r)) (subst (λ z. weighted_sum total m ≤ℤ z) product within) in
    let both : (pos (r * (2000 * d) + 1) *ℤ pos f) ≤ℤ (pos (2000 * f) *ℤ pos (d * r)) = omega (arith, ints, compared, allowed) in
    overreached r f d some (in_naturals (r * (2000 * d) + 1) f (2000 * f) (d * r) both)

-- what a common factor above 0 leaves
factor_off_by : (d : ℕ) (a b c : ℤ) → c ≡ a -ℤ b → (pos d *ℤ a) <ℤ (pos d *ℤ b) → a <ℤ b
factor_off_by d a b (pos n) apart less =
    let back : (pos d *ℤ b) ≤ℤ (pos d *ℤ a) = times_le d b a (omega (arith, ints, apart)) in
    absurd (omega (arith, ints, less, back))
factor_off_by d a b (negsuc n) apart less = omega (arith, ints, apart)

pub times_lt : (w : ℕ) (a b : ℤ) → 1 ≤ w → a <ℤ b → (pos w *ℤ a) <ℤ (pos w *ℤ b)
times_lt w a b some less =
    let up : (pos w *ℤ (a +ℤ pos 1)) ≤ℤ (pos w *ℤ b) = times_le w (a +ℤ pos 1) b (omega (arith, ints, less)) in
    let apart : pos w *ℤ (a +ℤ pos 1) ≡ pos w *ℤ a +ℤ pos w *ℤ pos 1 = times-sum w a (pos 1) in
    let one : pos w *ℤ pos 1 ≡ pos w = omega (arith, ints) in
    omega (arith, ints, up, apart, one, some)

-- more than a sure gain that ties with a bound is more than the bound: d, e and f are what the numbers are over
crossed : (d e f : ℕ) (least most total : ℤ) → 1 ≤ f → pos f *ℤ least ≡ pos d *ℤ most → (pos e *ℤ least) <ℤ (pos d *ℤ total) → (pos e *ℤ most) <ℤ (pos f *ℤ total)
crossed d e f least most total heavy equal more =
    let left : pos f *ℤ (pos e *ℤ least) ≡ pos d *ℤ (pos e *ℤ most) =
    times_swap f e least ∙ ap (λ z. pos e *ℤ z) equal ∙ times_swap e d most in
    let less = times_lt f (pos e *ℤ least) (pos d *ℤ total) heavy more in
    factor_off_by d (pos e *ℤ most) (pos f *ℤ total) _ refl
    (subst (λ z. (pos d *ℤ (pos e *ℤ most)) <ℤ z) (times_swap f d total) (subst (λ z. z <ℤ (pos f *ℤ (pos d *ℤ total))) left less))

more_than_bound : (d e f : ℕ) (least most total : ℤ) → 1 ≤ f → least *ℤ (pos 2000 *ℤ pos f) ≡ most *ℤ pos (2000 * d) → (least *ℤ pos (2000 * e)) <ℤ (pos (2000 * d) *ℤ total) → (most *ℤ pos (2000 * e)) <ℤ ((pos 2000 *ℤ pos f) *ℤ total)
more_than_bound d e f least most total heavy equal more =
    let whole : pos 2000 *ℤ pos f ≡ pos (2000 * f) = omega (arith, ints) in
    let tied : pos (2000 * f) *ℤ least ≡ pos (2000 * d) *ℤ most =
    *ℤ_comm (pos (2000 * f)) least ∙ ap (λ z. least *ℤ z) (sym whole) ∙ equal ∙ *ℤ_comm most (pos (2000 * d)) in
    let won : (pos (2000 * e) *ℤ least) <ℤ (pos (2000 * d) *ℤ total) = subst (λ z. z <ℤ (pos (2000 * d) *ℤ total)) (*ℤ_comm least (pos (2000 * e))) more in
    subst (λ z. z <ℤ ((pos 2000 *ℤ pos f) *ℤ total)) (*ℤ_comm (pos (2000 * e)) most)
    (subst (λ z. (pos (2000 * e) *ℤ most) <ℤ (z *ℤ total)) (sym whole) (crossed (2000 * d) (2000 * e) (2000 * f) least most total (omega (arith, heavy)) tied won))

-- the least gain is one number
pub one_least : (offers : List Offer) (parts : List ℕ) (a b : ℤ) → IsLeastGain offers parts a → IsLeastGain offers parts b → a ≡ b
one_least offers parts a b first second =
    let (h, w, is) = first.reached in
    let (k, v, are) = second.reached in
    let low = second.at_least h w in
    let high = first.at_least k v in
    omega (arith, ints, is, are, low, high)

pub most_gained : (offers : List Offer) (d : ℕ) (parts : List ℕ) (m : List Entry) → IsRightBest offers d parts m → (least : ℤ) → IsLeastGain offers parts least → (e : ℕ) (others : List ℕ) → WinsMore offers least (pos (2000 * d)) e others → ⊥
most_gained offers d parts m right least is e others wins =
    let heavy : pos 1 ≤ℤ final_weight m = final_weight_some m right.price in
    let f = unsigned_abs (final_weight m) in
    let weight : final_weight m ≡ pos f = natural (final_weight m) (omega (arith, ints, heavy)) in
    let same : right.ties.gain ≡ least = one_least offers parts right.ties.gain least right.ties.least is in
    let equal : least *ℤ (pos 2000 *ℤ pos f) ≡ reach offers m *ℤ pos (2000 * d) =
    subst (λ z. least *ℤ (pos 2000 *ℤ z) ≡ reach offers m *ℤ pos (2000 * d)) weight
    (subst (λ z. z *ℤ final_need m ≡ reach offers m *ℤ pos (2000 * d)) same right.ties.equal) in
    bounded offers m e others right.price record {
      safe = wins.safe;
      more = λ home away.
          subst (λ z. (reach offers m *ℤ pos (2000 * e)) <ℤ ((pos 2000 *ℤ z) *ℤ total_gain offers others (Full home away))) (sym weight)
          (more_than_bound d e f least (reach offers m) (total_gain offers others (Full home away)) (omega (arith, ints, heavy, weight)) equal (wins.more home away));
    }
