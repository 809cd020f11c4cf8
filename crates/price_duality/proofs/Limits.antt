-- Stakes within the limits win on average at most what they can reach.
use Rattle.std.proofs.Common.{◌≡◌, ◌≤◌, ◌+◌, ◌-◌, ◌*◌, ℕ, zero, suc, List, [], ◌∷◌, sym, ap, subst, ◌∙◌, arith}
use Rattle.std.specs.Prelude.{ℤ, pos, ◌+ℤ◌, ◌*ℤ◌, ◌≤ℤ◌, ◌<ℤ◌}
use Rattle.std.specs.List.{AllZip}
use Rattle.std.specs.Int.{int_max}
use Rattle.std.proofs.lemmas.Int.{ints, int_max_is}
use lib.IntN.{zero-*ℤ, *ℤ-zero}
use Rattle.scan_types.specs.declared.offer.Offer.{Offer}
use Rattle.scan_types.specs.declared.outcome.Outcome.{Outcome}
use Rattle.finding_definitions.specs.Arbitrage.{sum_over, total_gain, need, IsArbitrage, ReachesUnit}
use Rattle.finding_definitions.specs.Measure.{weighted_sum, mean}
use Rattle.finding_definitions.specs.Verdicts.{reach, need_with_slack, IsRightThin, IsRightNarrow, ReachesSlack}
use Rattle.price_duality.proofs.Products.{times_suc, add_le, times-sum, times_le}
use Rattle.price_duality.proofs.Averages.{Entry, weighted_sum-times, weighted_sum_le, sums_exchange}
use Rattle.price_duality.proofs.Verdict.{arbitrage_wins}

-- zero or the number, whichever is larger
pub max_zero : (z : ℤ) → (pos 0 ≤ℤ int_max (pos 0) z) × (z ≤ℤ int_max (pos 0) z)
max_zero z = let is = int_max_is (pos 0) z in (omega (arith, ints, is), omega (arith, ints, is))

add_zero : (a b : ℤ) → pos 0 ≤ℤ b → a ≤ℤ (a +ℤ b)
add_zero a b h = omega (arith, ints)

le_trans : (a b c : ℤ) → a ≤ℤ b → b ≤ℤ c → a ≤ℤ c
le_trans a b c h k = omega (arith, ints)

contradiction : (d : ℕ) (a b c r w s : ℤ) → 1 ≤ d → a ≡ w → a ≤ℤ b → b ≡ c → c ≤ℤ r → s ≤ℤ w → s ≡ r +ℤ pos d → ⊥
contradiction d a b c r w s some e1 h1 e2 h2 h3 e3 = omega (arith, ints)

-- a sum of naturals as factor
sum-times : (m n : ℕ) (z : ℤ) → pos (m + n) *ℤ z ≡ pos m *ℤ z +ℤ pos n *ℤ z
sum-times m n z = omega (arith, ints)

pub times-times : (p q : ℕ) (z : ℤ) → pos (p * q) *ℤ z ≡ pos p *ℤ (pos q *ℤ z)
times-times zero q z = let none : 0 * q ≡ 0 = omega arith in ap (λ n. pos n *ℤ z) none ∙ zero-*ℤ z ∙ sym (zero-*ℤ (pos q *ℤ z))
times-times (suc p) q z =
    let more : suc p * q ≡ p * q + q = omega arith in
    ap (λ n. pos n *ℤ z) more ∙ sum-times (p * q) q z ∙ ap (λ y. y +ℤ pos q *ℤ z) (times-times p q z) ∙ sym (times_suc p (pos q *ℤ z))

-- a larger factor of what is not negative
factor_le : (p q : ℕ) (z : ℤ) → pos 0 ≤ℤ z → p ≤ q → (pos p *ℤ z) ≤ℤ (pos q *ℤ z)
factor_le p q z least h =
    let rest : (pos (q - p) *ℤ pos 0) ≤ℤ (pos (q - p) *ℤ z) = times_le (q - p) (pos 0) z least in
    let none : pos (q - p) *ℤ pos 0 ≡ pos 0 = *ℤ-zero (pos (q - p)) in
    let split = sum-times p (q - p) z in
    let whole : p + (q - p) ≡ q = omega arith in
    let sum : pos q *ℤ z ≡ pos p *ℤ z +ℤ pos (q - p) *ℤ z = rw whole at split in
    let not_less : pos 0 ≤ℤ (pos (q - p) *ℤ z) = rw none at rest in
    rw sum (add_zero (pos p *ℤ z) (pos (q - p) *ℤ z) not_less)

-- a stake within its limit wins at most what the limit wins
term_within : (p limit d : ℕ) (e : ℤ) → p ≤ limit * d → (pos p *ℤ e) ≤ℤ (pos d *ℤ (pos limit *ℤ int_max (pos 0) e))
term_within p limit d e h =
    let top = int_max (pos 0) e in
    let most = max_zero e in
    let fits : p ≤ d * limit = omega arith in
    let larger : (pos p *ℤ top) ≤ℤ (pos (d * limit) *ℤ top) = factor_le p (d * limit) top most.0 fits in
    le_trans (pos p *ℤ e) (pos p *ℤ top) (pos d *ℤ (pos limit *ℤ top)) (times_le p e top most.1)
    (subst (λ z. (pos p *ℤ top) ≤ℤ z) (times-times d limit top) larger)

-- stakes within the limits win on average at most what they can reach
pub within_reach : (offers : List Offer) (parts : List ℕ) (d : ℕ) (m : List Entry) → AllZip (λ (o : Offer) p. p ≤ o.limit * d) offers parts → sum_over (λ o p. pos p *ℤ mean m o) offers parts ≤ℤ (pos d *ℤ reach offers m)
within_reach [] parts d m h = let none : pos d *ℤ pos 0 ≡ pos 0 = *ℤ-zero (pos d) in rw none (omega (arith, ints))
within_reach (o ∷ offers) [] d m h = absurd h
within_reach (o ∷ offers) (p ∷ parts) d m h =
    let here = term_within p o.limit d (mean m o) h.0 in
    let rest = within_reach offers parts d m h.1 in
    let most = pos o.limit *ℤ int_max (pos 0) (mean m o) in
    subst (λ z. (pos p *ℤ mean m o +ℤ sum_over (λ q n. pos n *ℤ mean m q) offers parts) ≤ℤ z) (sym (times-sum d most (reach offers m)))
    (add_le (pos p *ℤ mean m o) (pos d *ℤ most) (sum_over (λ q n. pos n *ℤ mean m q) offers parts) (pos d *ℤ reach offers m) here rest)

-- a measure that outweighs what stakes within the limits can reach rules out that they win at every outcome
outweighed : (offers : List Offer) (m : List Entry) (low : Outcome → ℤ) (k d : ℕ) (parts : List ℕ) → 1 ≤ d → AllZip (λ (o : Offer) p. p ≤ o.limit * d) offers parts → ((x : Outcome) → (pos (k * d) *ℤ low x) ≤ℤ total_gain offers parts x) → reach offers m <ℤ (pos k *ℤ weighted_sum low m) → ⊥
outweighed offers m low k d parts some within wins bound =
    let most = reach offers m in
    let least = pos k *ℤ weighted_sum low m in
    let turned : k * d ≡ d * k = omega arith in
    let owed : weighted_sum (λ x. pos (k * d) *ℤ low x) m ≡ pos d *ℤ least = weighted_sum-times (k * d) low m ∙ ap (λ n. pos n *ℤ weighted_sum low m) turned ∙ times-times d k (weighted_sum low m) in
    let above : weighted_sum (λ x. pos (k * d) *ℤ low x) m ≤ℤ weighted_sum (λ x. total_gain offers parts x) m = weighted_sum_le (λ x. pos (k * d) *ℤ low x) (λ x. total_gain offers parts x) m wins in
    let exchanged = sums_exchange offers parts m in
    let below = within_reach offers parts d m within in
    let more : (pos d *ℤ (most +ℤ pos 1)) ≤ℤ (pos d *ℤ least) = times_le d (most +ℤ pos 1) least (omega (arith, ints, bound)) in
    let apart : pos d *ℤ (most +ℤ pos 1) ≡ pos d *ℤ most +ℤ pos d *ℤ pos 1 = times-sum d most (pos 1) in
    let one : pos d *ℤ pos 1 ≡ pos d = omega (arith, ints) in
    contradiction d (weighted_sum (λ x. pos (k * d) *ℤ low x) m) (weighted_sum (λ x. total_gain offers parts x) m) (sum_over (λ o p. pos p *ℤ mean m o) offers parts) (pos d *ℤ most) (pos d *ℤ least) (pos d *ℤ (most +ℤ pos 1)) some owed above exchanged below more (apart ∙ ap (λ z. pos d *ℤ most +ℤ z) one)

pub thin_rules_out_unit : (offers : List Offer) (m : List Entry) (d divisor : ℕ) (found parts : List ℕ) → IsRightThin offers d found m → ReachesUnit offers divisor parts → ⊥
thin_rules_out_unit offers m d divisor found parts right r =
    outweighed offers m need 2000 divisor parts r.divides r.within_limits r.wins right.bound

pub narrow_rules_out_slack : (offers : List Offer) (m : List Entry) (d divisor : ℕ) (found parts : List ℕ) → IsRightNarrow offers d found m → ReachesSlack offers divisor parts → ⊥
narrow_rules_out_slack offers m d divisor found parts right r =
    outweighed offers m (need_with_slack offers) 2 divisor parts r.divides r.within_limits r.wins right.bound

whole_within : (offers : List Offer) (stakes : List ℕ) → AllZip (λ (o : Offer) s. s ≤ o.limit) offers stakes → AllZip (λ (o : Offer) s. s ≤ o.limit * 1) offers stakes
whole_within [] [] h = h
whole_within [] (s ∷ stakes) h = absurd h
whole_within (o ∷ offers) [] h = absurd h
whole_within (o ∷ offers) (s ∷ stakes) h = let first : s ≤ o.limit = h.0 in (omega arith, whole_within offers stakes h.1)

-- whole stakes that are an arbitrage reach a unit
pub arbitrage_reaches : (offers : List Offer) (stakes : List ℕ) → IsArbitrage offers stakes → ReachesUnit offers 1 stakes
arbitrage_reaches offers stakes a =
    let wins = arbitrage_wins offers stakes a in
    record { divides = wins.divides; within_limits = whole_within offers stakes a.within_limits; wins = wins.wins }
