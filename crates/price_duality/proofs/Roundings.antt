-- Rounding a payment down never helps the stakes.
use Rattle.std.proofs.Common.{◌≡◌, ◌≤◌, ◌*◌, ◌/◌, ℕ, List, [], ◌∷◌, arith, ◌∙◌, ap}
use Rattle.std.specs.Prelude.{ℤ, pos, negsuc, ◌+ℤ◌, ◌-ℤ◌, ◌*ℤ◌, ◌≤ℤ◌, unsigned_abs}
use Rattle.std.proofs.lemmas.Int.{ints}
use Rattle.std.proofs.Math.Nat.{div-mul-le_self}
use Rattle.scan_types.specs.declared.offer.Offer.{Offer}
use Rattle.scan_types.specs.declared.outcome.Outcome.{Outcome}
use Rattle.settlement_definitions.specs.Legs.{legs_of}
use Rattle.settlement_definitions.specs.Abandonment.{leg_at}
use Rattle.settlement_definitions.specs.Gain.{gain, net}
use Rattle.finding_definitions.specs.Arbitrage.{total_net, total_gain}
use Rattle.settlement_definitions.proofs.GainLemmas.{leg_gain-range}
use Rattle.price_duality.proofs.Products.{add_le, times-sum}

-- a bet loses at most its stake
gain_least : (offer : Offer) (x : Outcome) → negsuc 1999 ≤ℤ gain offer x
gain_least offer x =
    let first = leg_gain-range offer.odds.thousandths (leg_at offer.rule offer.selection (legs_of offer.selection).0 x) offer.odds.at_least in
    let second = leg_gain-range offer.odds.thousandths (leg_at offer.rule offer.selection (legs_of offer.selection).1 x) offer.odds.at_least in
    omega (arith, ints)

-- a payment of u / 2000 of the stake, rounded down
rounded : (s u : ℕ) (g : ℤ) → pos u ≡ pos 2000 +ℤ g → (pos 2000 *ℤ (pos (s * u / 2000) -ℤ pos s)) ≤ℤ (pos s *ℤ g)
rounded s u g e =
    let down : s * u / 2000 * 2000 ≤ s * u = div-mul-le_self (s * u) 2000 in
    let split : pos (s * u) ≡ pos (s * 2000) +ℤ pos s *ℤ g = ap (λ (z : ℤ). pos s *ℤ z) e ∙ times-sum s (pos 2000) g in
    let left : pos 2000 *ℤ (pos (s * u / 2000) -ℤ pos s) ≡ pos (2000 * (s * u / 2000)) -ℤ pos (2000 * s) = omega (arith, ints) in
    rw left (omega (arith, ints, down, split))

pub net_below : (offer : Offer) (s : ℕ) (x : Outcome) → (pos 2000 *ℤ net offer s x) ≤ℤ (pos s *ℤ gain offer x)
net_below offer s x =
    let least = gain_least offer x in
    rounded s (unsigned_abs (pos 2000 +ℤ gain offer x)) (gain offer x) (omega (arith, ints, least))

pub total_net_below : (offers : List Offer) (stakes : List ℕ) (x : Outcome) → (pos 2000 *ℤ total_net offers stakes x) ≤ℤ total_gain offers stakes x
total_net_below [] stakes x = omega (arith, ints)
total_net_below (o ∷ offers) [] x = omega (arith, ints)
total_net_below (o ∷ offers) (s ∷ stakes) x =
    rw (times-sum 2000 (net o s x) (total_net offers stakes x)) (add_le (pos 2000 *ℤ net o s x) (pos s *ℤ gain o x) (pos 2000 *ℤ total_net offers stakes x) (total_gain offers stakes x) (net_below o s x) (total_net_below offers stakes x))
