-- Averages under weights: sums, order, and the two ways to sum over offers and outcomes.
use Rattle.std.proofs.Common.{◌≡◌, ◌<◌, ◌≤◌, ℕ, zero, suc, List, [], ◌∷◌, length, get_or, arith, sym, ◌∙◌, ap, refl}
use Rattle.std.specs.Prelude.{ℤ, pos, ◌+ℤ◌, ◌*ℤ◌, ◌≤ℤ◌, All}
use Rattle.std.proofs.lemmas.Int.{ints}
use Rattle.std.proofs.lemmas.List.Elements.{All-head, All-tail}
use lib.IntN.{*ℤ-zero}
use Rattle.scan_types.specs.declared.offer.Offer.{Offer}
use Rattle.scan_types.specs.declared.outcome.Outcome.{Outcome}
use Rattle.scan_types.specs.declared.outcome.Outcome.TheVariants.{Full, Abandoned}
use Rattle.settlement_definitions.specs.Gain.{gain}
use Rattle.finding_definitions.specs.Arbitrage.{sum_over, total_gain, need}
use Rattle.finding_definitions.specs.Measure.{weighted_sum, mean, final_weight, IsFinal}
use Rattle.price_duality.proofs.Products.{regroup, add_le, times-sum, times_le, times_swap}

-- a weight on an outcome
abbrev pub Entry : Type 0
Entry = Outcome × ℕ

pub weighted_sum-zero : (m : List Entry) → weighted_sum (λ _. pos 0) m ≡ pos 0
weighted_sum-zero [] = refl
weighted_sum-zero (e ∷ m) = ap (λ (z : ℤ). z +ℤ weighted_sum (λ _. pos 0) m) (*ℤ-zero (pos e.1)) ∙ ap (λ (z : ℤ). pos 0 +ℤ z) (weighted_sum-zero m)

pub weighted_sum-add : (f g : Outcome → ℤ) (m : List Entry) → weighted_sum (λ x. f x +ℤ g x) m ≡ weighted_sum f m +ℤ weighted_sum g m
weighted_sum-add f g [] = refl
weighted_sum-add f g (e ∷ m) =
    ap (λ (z : ℤ). z +ℤ weighted_sum (λ x. f x +ℤ g x) m) (times-sum e.1 (f e.0) (g e.0)) ∙ (ap (λ (z : ℤ). (pos e.1 *ℤ f e.0 +ℤ pos e.1 *ℤ g e.0) +ℤ z) (weighted_sum-add f g m) ∙ regroup (pos e.1 *ℤ f e.0) (pos e.1 *ℤ g e.0) (weighted_sum f m) (weighted_sum g m))

pub weighted_sum-times : (p : ℕ) (f : Outcome → ℤ) (m : List Entry) → weighted_sum (λ x. pos p *ℤ f x) m ≡ pos p *ℤ weighted_sum f m
weighted_sum-times p f [] = sym (*ℤ-zero (pos p))
weighted_sum-times p f (e ∷ m) =
    ap (λ (z : ℤ). z +ℤ weighted_sum (λ x. pos p *ℤ f x) m) (times_swap e.1 p (f e.0)) ∙ (ap (λ (z : ℤ). pos p *ℤ (pos e.1 *ℤ f e.0) +ℤ z) (weighted_sum-times p f m) ∙ sym (times-sum p (pos e.1 *ℤ f e.0) (weighted_sum f m)))

pub weighted_sum_le : (f g : Outcome → ℤ) (m : List Entry) → ((x : Outcome) → f x ≤ℤ g x) → weighted_sum f m ≤ℤ weighted_sum g m
weighted_sum_le f g [] h = omega (arith, ints)
weighted_sum_le f g (e ∷ m) h =
    add_le (pos e.1 *ℤ f e.0) (pos e.1 *ℤ g e.0) (weighted_sum f m) (weighted_sum g m) (times_le e.1 (f e.0) (g e.0) (h e.0)) (weighted_sum_le f g m h)

-- over outcomes the sum of the offers' gains, or over offers the mean of each
pub sums_exchange : (offers : List Offer) (parts : List ℕ) (m : List Entry) → weighted_sum (λ x. total_gain offers parts x) m ≡ sum_over (λ o p. pos p *ℤ mean m o) offers parts
sums_exchange [] parts m = weighted_sum-zero m
sums_exchange (o ∷ offers) [] m = weighted_sum-zero m
sums_exchange (o ∷ offers) (p ∷ parts) m =
    weighted_sum-add (λ x. pos p *ℤ gain o x) (λ x. total_gain offers parts x) m ∙ (ap (λ (z : ℤ). z +ℤ weighted_sum (λ x. total_gain offers parts x) m) (weighted_sum-times p (gain o) m) ∙ ap (λ (z : ℤ). pos p *ℤ mean m o +ℤ z) (sums_exchange offers parts m))

-- no stakes gain on average where no offer does
pub no_stakes_gain : (offers : List Offer) (parts : List ℕ) (m : List Entry) → All (λ (o : Offer). mean m o ≤ℤ pos 0) offers → sum_over (λ o p. pos p *ℤ mean m o) offers parts ≤ℤ pos 0
no_stakes_gain [] parts m h = omega (arith, ints)
no_stakes_gain (o ∷ offers) [] m h = omega (arith, ints)
no_stakes_gain (o ∷ offers) (p ∷ parts) m h =
    let P : Offer → Type 0 = λ x. mean m x ≤ℤ pos 0 in
    let here : (pos p *ℤ mean m o) ≤ℤ (pos p *ℤ pos 0) = times_le p (mean m o) (pos 0) (All-head P o offers h) in
    let nothing : pos p *ℤ pos 0 ≡ pos 0 = *ℤ-zero (pos p) in
    let first : (pos p *ℤ mean m o) ≤ℤ pos 0 = rw nothing at here in
    add_le (pos p *ℤ mean m o) (pos 0) (sum_over (λ q n. pos n *ℤ mean m q) offers parts) (pos 0) first (no_stakes_gain offers parts m (All-tail P o offers h))

-- the weight of the final scores
need_least : (x : Outcome) → pos 0 ≤ℤ need x
need_least (Full h a) = omega (arith, ints)
need_least (Abandoned h a) = omega (arith, ints)

need_final : (x : Outcome) → IsFinal x → need x ≡ pos 1
need_final (Full h a) f = refl
need_final (Abandoned h a) f = absurd f

pub final_weight_least : (m : List Entry) → pos 0 ≤ℤ final_weight m
final_weight_least [] = omega (arith, ints)
final_weight_least (e ∷ m) =
    let here : (pos e.1 *ℤ pos 0) ≤ℤ (pos e.1 *ℤ need e.0) = times_le e.1 (pos 0) (need e.0) (need_least e.0) in
    let nothing : pos e.1 *ℤ pos 0 ≡ pos 0 = *ℤ-zero (pos e.1) in
    let first : pos 0 ≤ℤ (pos e.1 *ℤ need e.0) = rw nothing at here in
    add_le (pos 0) (pos e.1 *ℤ need e.0) (pos 0) (final_weight m) first (final_weight_least m)

pub final_weight_pos : (m : List Entry) (k : ℕ) (x : Entry) → k < length m → get_or m k x ≡ x → IsFinal x.0 → 1 ≤ x.1 → pos 1 ≤ℤ final_weight m
final_weight_pos [] k x l e f w = absurd (omega arith)
final_weight_pos (y ∷ m) zero x l e f w =
    let weight : 1 ≤ y.1 = rw (ap (λ (z : Entry). z.1) e) w in
    let final : need y.0 ≡ pos 1 = rw (ap (λ (z : Entry). z.0) e) (need_final x.0 f) in
    let here : pos y.1 *ℤ need y.0 ≡ pos y.1 = ap (λ (z : ℤ). pos y.1 *ℤ z) final ∙ omega (arith, ints) in
    let rest = final_weight_least m in
    omega (arith, ints, here, rest)
final_weight_pos (y ∷ m) (suc k) x l e f w =
    let here : (pos y.1 *ℤ pos 0) ≤ℤ (pos y.1 *ℤ need y.0) = times_le y.1 (pos 0) (need y.0) (need_least y.0) in
    let nothing : pos y.1 *ℤ pos 0 ≡ pos 0 = *ℤ-zero (pos y.1) in
    let first : pos 0 ≤ℤ (pos y.1 *ℤ need y.0) = rw nothing at here in
    add_le (pos 0) (pos y.1 *ℤ need y.0) (pos 1) (final_weight m) first (final_weight_pos m k x (omega arith) e f w)
