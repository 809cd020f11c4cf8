-- A stake that is cut down to whole minor units wins at most its slack less.
use Rattle.std.proofs.Common.{ℕ, ℤ, pos, negsuc, zero, suc, ◌≡◌, ◌<◌, ◌≤◌, ◌+◌, ◌-◌, ◌*◌, ◌/◌, ◌+ℤ◌, ◌-ℤ◌, ◌*ℤ◌, ◌≤ℤ◌, sym, subst, ap, ◌∙◌, inl, inr, arith}
use Rattle.std.specs.Prelude.{◌⊎◌, unsigned_abs}
use Rattle.std.proofs.lemmas.Int.{ints}
use Rattle.std.proofs.Math.Nat.{mul-div-le, lt-mul-div-succ, mul-le-mul_left, mul-le-mul_right, mul-add, add-mul, mul_assoc}
use lib.IntN.{zero-*ℤ, suc_ℤ-*ℤ}
use Rattle.scan_types.specs.declared.offer.Offer.{Offer}
use Rattle.scan_types.specs.declared.outcome.Outcome.{Outcome}
use Rattle.settlement_definitions.specs.Gain.{gain, net, slack, slack_of_gain}
use Rattle.settlement_laws.proofs.FiveGains.{five_gains}

-- a natural number times a difference, and times a negative number
times_dif : (m p s : ℕ) → pos m *ℤ (pos p -ℤ pos s) ≡ pos (m * p) -ℤ pos (m * s)
times_dif zero p s = zero-*ℤ (pos p -ℤ pos s) ∙ (let none : pos 0 ≡ pos (0 * p) -ℤ pos (0 * s) = omega (arith, ints) in none)
times_dif (suc m) p s =
    suc_ℤ-*ℤ (pos m) (pos p -ℤ pos s) ∙ ap (λ z. z +ℤ (pos p -ℤ pos s)) (times_dif m p s) ∙ (let a = add-mul m 1 p in let b = add-mul m 1 s in omega (arith, ints, a, b))

-- the whole stake s in place of part / d, paid p, wins at most its slack less: all numbers as naturals
abbrev CoversBy : ℕ → ℕ → ℕ → ℕ → ℤ → ℕ → Type 0
CoversBy d part s p g cover = (pos part *ℤ g) ≤ℤ (pos (2000 * d) *ℤ (pos p -ℤ pos s) +ℤ pos (2 * d * cover))

by_parts : (d part s p cover : ℕ) (g : ℤ) → (pos part *ℤ g) ≤ℤ (pos (2000 * d * p) -ℤ pos (2000 * d * s) +ℤ pos (2 * d * cover)) → CoversBy d part s p g cover
by_parts d part s p cover g h =
    subst (λ z. (pos part *ℤ g) ≤ℤ (z +ℤ pos (2 * d * cover))) (sym (times_dif (2000 * d) p s)) h

-- all is lost: a smaller stake loses less
lost : (d part s p : ℕ) → d * s ≤ part → CoversBy d part s p (negsuc 1999) 0
lost d part s p floor =
    by_parts d part s p 0 (negsuc 1999) (let a : 2000 * d * s ≡ 2000 * (d * s) = mul_assoc 2000 d s in omega (arith, ints, floor, a))

-- half is lost: rounding down costs less than one unit
half_lost : (d part s p : ℕ) → d * s ≤ part → s * 1000 ≤ 2000 * p + 1999 → CoversBy d part s p (negsuc 999) 1000
half_lost d part s p floor paid =
    let a : 2000 * d * s ≡ 2000 * (d * s) = mul_assoc 2000 d s in
    let b : 2000 * d * p ≡ 2000 * (d * p) = mul_assoc 2000 d p in
    let times : d * (s * 1000) ≤ d * (2000 * p + 1999) = mul-le-mul_left d paid in
    let left : d * (s * 1000) ≡ d * s * 1000 = sym (mul_assoc d s 1000) in
    let right : d * (2000 * p + 1999) ≡ d * (2000 * p) + d * 1999 = mul-add d (2000 * p) 1999 in
    by_parts d part s p 1000 (negsuc 999) (omega (arith, ints, floor, a, b, times, left, right))

-- nothing is won or lost
given_back : (d part s p : ℕ) → s ≤ p → CoversBy d part s p (pos 0) 0
given_back d part s p paid =
    let times : 2000 * d * s ≤ 2000 * d * p = mul-le-mul_left (2000 * d) paid in
    by_parts d part s p 0 (pos 0) (omega (arith, ints, times))

-- at a gain, what is cut off would have won less than its odds
won : (odds d part s p k : ℕ) → part + 1 ≤ d * s + d → s * (2000 + k) ≤ 2000 * p + 1999 → k + 2000 ≤ 2 * odds → CoversBy d part s p (pos k) odds
won odds d part s p k cut paid most =
    let a : 2000 * d * s ≡ 2000 * (d * s) = mul_assoc 2000 d s in
    let b : 2000 * d * p ≡ 2000 * (d * p) = mul_assoc 2000 d p in
    let c : 2 * d * odds ≡ 2 * (d * odds) = mul_assoc 2 d odds in
    let cut_times : (part + 1) * k ≤ (d * s + d) * k = mul-le-mul_right k cut in
    let cut_left : (part + 1) * k ≡ part * k + 1 * k = add-mul part 1 k in
    let cut_right : (d * s + d) * k ≡ d * s * k + d * k = add-mul (d * s) d k in
    let paid_times : d * (s * (2000 + k)) ≤ d * (2000 * p + 1999) = mul-le-mul_left d paid in
    let paid_left : d * (s * (2000 + k)) ≡ d * s * (2000 + k) = sym (mul_assoc d s (2000 + k)) in
    let paid_split : d * s * (2000 + k) ≡ d * s * 2000 + d * s * k = mul-add (d * s) 2000 k in
    let paid_right : d * (2000 * p + 1999) ≡ d * (2000 * p) + d * 1999 = mul-add d (2000 * p) 1999 in
    let most_times : d * (k + 2000) ≤ d * (2 * odds) = mul-le-mul_left d most in
    let most_left : d * (k + 2000) ≡ d * k + d * 2000 = mul-add d k 2000 in
    let whole : part * k + 2000 * (d * s) ≤ 2000 * (d * p) + 2 * (d * odds) =
    omega (arith, cut_times, cut_left, cut_right, paid_times, paid_left, paid_split, paid_right, most_times, most_left) in
    by_parts d part s p odds (pos k) (omega (arith, ints, whole, a, b, c))

-- for each of the five amounts
Covers : ℕ → ℕ → ℕ → ℤ → Type 0
Covers odds d part g = CoversBy d part (part / d) (part / d * unsigned_abs (pos 2000 +ℤ g) / 2000) g (slack_of_gain odds g)

whole_below : (d part : ℕ) → 1 ≤ d → (d * (part / d) ≤ part) × (part + 1 ≤ d * (part / d) + d)
whole_below d part some =
    let above : part < d * (part / d + 1) = lt-mul-div-succ part (omega arith) in
    let split : d * (part / d + 1) ≡ d * (part / d) + d * 1 = mul-add d (part / d) 1 in
    (mul-div-le part d, omega (arith, above, split))

paid_above : (u : ℕ) → u ≤ 2000 * (u / 2000) + 1999
paid_above u = let above : u < 2000 * (u / 2000 + 1) = lt-mul-div-succ u (omega arith) in omega (arith, above)

covers_gain : (odds d part k : ℕ) → 1 ≤ d → suc k + 2000 ≤ 2 * odds → Covers odds d part (pos (suc k))
unfolding Covers
covers_gain odds d part k some most =
    won odds d part (part / d) (part / d * (2000 + suc k) / 2000) (suc k) (whole_below d part some).1 (paid_above (part / d * (2000 + suc k))) most

covers_positive : (odds d part k : ℕ) → 1 ≤ d → 1 ≤ k → k + 2000 ≤ 2 * odds → Covers odds d part (pos k)
covers_positive odds d part zero some least most = absurd (omega (arith, least))
covers_positive odds d part (suc k) some least most = covers_gain odds d part k some most

covers : (odds d part : ℕ) (g : ℤ) → 1 ≤ d → 1001 ≤ odds
    → (g ≡ negsuc 1999) ⊎ ((g ≡ negsuc 999) ⊎ ((g ≡ pos 0) ⊎ ((g ≡ pos odds -ℤ pos 1000) ⊎ (g ≡ (pos odds -ℤ pos 1000) +ℤ (pos odds -ℤ pos 1000))))) → Covers odds d part g
unfolding Covers
covers odds d part g some least (inl e) = subst (Covers odds d part) (sym e) (lost d part (part / d) (part / d * 0 / 2000) (whole_below d part some).0)
covers odds d part g some least (inr (inl e)) =
    subst (Covers odds d part) (sym e) (half_lost d part (part / d) (part / d * 1000 / 2000) (whole_below d part some).0 (paid_above (part / d * 1000)))
covers odds d part g some least (inr (inr (inl e))) =
    subst (Covers odds d part) (sym e) (given_back d part (part / d) (part / d * 2000 / 2000) (let above = paid_above (part / d * 2000) in omega (arith, above)))
covers odds d part g some least (inr (inr (inr (inl e)))) =
    let is : pos (odds - 1000) ≡ g = (let low = least in omega (arith, ints, e, low)) in
    subst (Covers odds d part) is (covers_positive odds d part (odds - 1000) some (omega arith) (omega arith))
covers odds d part g some least (inr (inr (inr (inr e)))) =
    let is : pos (2 * odds - 2000) ≡ g = (let low = least in omega (arith, ints, e, low)) in
    subst (Covers odds d part) is (covers_positive odds d part (2 * odds - 2000) some (omega arith) (omega arith))

pub slack_covers : (offer : Offer) (x : Outcome) (divisor part : ℕ) → 1 ≤ divisor
    → (pos part *ℤ gain offer x) ≤ℤ (pos (2000 * divisor) *ℤ net offer (part / divisor) x +ℤ pos (2 * divisor * slack offer x))
unfolding Covers
slack_covers offer x divisor part some =
    covers offer.odds.thousandths divisor part (gain offer x) some offer.odds.at_least (five_gains offer x)
