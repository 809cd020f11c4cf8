-- Equations of whole numbers by differences of naturals, and signs of products. An equation in the variables a, b, .. is
-- `rw (dif_is a, dif_is b, ..) (simp difs (dif_same _ _ _ _ (omega arith)))`.
use Rattle.std.proofs.Common.{◌≡◌, ◌≢◌, ℕ, ◌+◌, ◌*◌, ◌<◌, inl, inr, ap, arith, mul-pos}
use Rattle.std.proofs.lemmas.Int.{by_lt_z}
use Rattle.std.proofs.lemmas.Bool.{cases_eq}
use lib.IntN.{ℤ, pos, negsuc, ◌+ℤ◌, ◌-ℤ◌, ◌*ℤ◌, neg_ℤ, pos-*ℤ-pos}
use lib.Signed.{◌<ℤ◌, ◌≤ℤ◌}
use borrow.Author.Differences.{up, down, ints, same_in, same_out, product_is, le_out, lt_out, below_in, at_most_in, sum_is_lem, neg_is}

-- the difference of two naturals
pub dif : ℕ → ℕ → ℤ
dif p n = pos p -ℤ pos n

dif_out : (p n : ℕ) → up (dif p n) + n ≡ p + down (dif p n)
unfolding dif
dif_out p n = omega (arith, ints)

-- the sums and negatives of numbers, for `omega`: products stay as they are
pub ruleset sums = (sum_is_lem, neg_is)

-- each number is one
pub dif_is : (z : ℤ) → z ≡ dif (up z) (down z)
unfolding dif
dif_is z = omega (arith, ints)

-- when two are equal
pub dif_same : (a b c d : ℕ) → a + d ≡ c + b → dif a b ≡ dif c d
unfolding dif
dif_same a b c d e = omega (arith, ints)

pub dif_add : (a b c d : ℕ) → dif a b +ℤ dif c d ≡ dif (a + c) (b + d)
unfolding dif
dif_add a b c d = omega (arith, ints)

pub dif_sub : (a b c d : ℕ) → dif a b -ℤ dif c d ≡ dif (a + d) (b + c)
unfolding dif
dif_sub a b c d = omega (arith, ints)

pub dif_neg : (a b : ℕ) → neg_ℤ (dif a b) ≡ dif b a
unfolding dif
dif_neg a b = omega (arith, ints)

pub dif_pos : (a : ℕ) → pos a ≡ dif a 0
unfolding dif
dif_pos a = omega (arith, ints)

times : (k m n : ℕ) → m ≡ n → m * k ≡ n * k
times k m n e = ap (λ x. x * k) e

pub dif_mul : (a b c d : ℕ) → dif a b *ℤ dif c d ≡ dif (a * c + b * d) (a * d + b * c)
dif_mul a b c d =
    let x = dif_out a b in
    let y = dif_out c d in
    let product = product_is (dif a b) (dif c d) in
    same_in _ _ (omega (arith, dif_out (a * c + b * d) (a * d + b * c), product.0, product.1, times (up (dif c d)) _ _ x, times (down (dif c d)) _ _ x, times a _ _ y, times b _ _ y))

-- for `simp`: an expression of differences is one difference
pub ruleset difs = (dif_add, dif_sub, dif_neg, dif_mul, dif_pos)

-- ---- products by 0 and 1, and of three

pub zero_times : (x : ℤ) → pos 0 *ℤ x ≡ pos 0
zero_times x = rw (dif_is x) (simp difs (dif_same _ _ _ _ (omega arith)))

pub times_zero : (x : ℤ) → x *ℤ pos 0 ≡ pos 0
times_zero x = rw (dif_is x) (simp difs (dif_same _ _ _ _ (omega arith)))

pub one_times : (x : ℤ) → pos 1 *ℤ x ≡ x
one_times x = rw (dif_is x) (simp difs (dif_same _ _ _ _ (omega arith)))

pub times_one : (x : ℤ) → x *ℤ pos 1 ≡ x
times_one x = rw (dif_is x) (simp difs (dif_same _ _ _ _ (omega arith)))

pub assoc : (a b c : ℤ) → a *ℤ (b *ℤ c) ≡ (a *ℤ b) *ℤ c
assoc a b c = rw (dif_is a, dif_is b, dif_is c) (simp difs (dif_same _ _ _ _ (omega arith)))

-- ---- signs of products

pub mul_pos : (a b : ℤ) → pos 0 <ℤ a → pos 0 <ℤ b → pos 0 <ℤ (a *ℤ b)
mul_pos (pos a) (pos b) h k = rw pos-*ℤ-pos (let x : 0 < a = omega (arith, ints) in let y : 0 < b = omega (arith, ints) in let z : 0 < a * b = mul-pos x y in omega (arith, ints))
mul_pos (pos a) (negsuc b) h k = absurd (omega (arith, ints))
mul_pos (negsuc a) b h k = absurd (omega (arith, ints))

pub mul_not_negative : (a b : ℤ) → pos 0 ≤ℤ a → pos 0 ≤ℤ b → pos 0 ≤ℤ (a *ℤ b)
mul_not_negative (pos a) (pos b) h k = rw pos-*ℤ-pos (omega (arith, ints))
mul_not_negative (pos a) (negsuc b) h k = absurd (omega (arith, ints))
mul_not_negative (negsuc a) b h k = absurd (omega (arith, ints))

neg_right : (a b : ℤ) → a *ℤ neg_ℤ b ≡ neg_ℤ (a *ℤ b)
neg_right a b = rw (dif_is a, dif_is b) (simp difs (dif_same _ _ _ _ (omega arith)))

pub mul_not_positive : (a b : ℤ) → pos 0 ≤ℤ a → b ≤ℤ pos 0 → (a *ℤ b) ≤ℤ pos 0
mul_not_positive a b h k =
    let x : pos 0 ≤ℤ neg_ℤ b = omega (arith, ints) in
    let y = mul_not_negative a (neg_ℤ b) h x in
    let z = neg_right a b in
    let w : pos 0 ≤ℤ neg_ℤ (a *ℤ b) = rw (neg_right a b) at y in
    omega (arith, ints)

pub mul_negative : (a b : ℤ) → pos 0 <ℤ a → b <ℤ pos 0 → (a *ℤ b) <ℤ pos 0
mul_negative a b h k =
    let x : pos 0 <ℤ neg_ℤ b = omega (arith, ints) in
    let y = mul_pos a (neg_ℤ b) h x in
    let w : pos 0 <ℤ neg_ℤ (a *ℤ b) = rw (neg_right a b) at y in
    omega (arith, ints)

pub positive_from_product : (a b : ℤ) → pos 0 <ℤ a → pos 0 <ℤ (a *ℤ b) → pos 0 <ℤ b
positive_from_product a b h k = by_lt_z (pos 0) b (λ x. x) (λ x. let y = mul_not_positive a b (omega (arith, ints)) x in absurd (omega (arith, le_out _ _ y, lt_out _ _ k)))

pub not_positive_from_product : (a b : ℤ) → pos 0 <ℤ a → (a *ℤ b) ≤ℤ pos 0 → b ≤ℤ pos 0
not_positive_from_product a b h k = by_lt_z (pos 0) b (λ x. let y = mul_pos a b h x in absurd (omega (arith, lt_out _ _ y, le_out _ _ k))) (λ x. x)

pub not_negative_from_product : (a b : ℤ) → pos 0 <ℤ a → pos 0 ≤ℤ (a *ℤ b) → pos 0 ≤ℤ b
not_negative_from_product a b h k = by_lt_z b (pos 0) (λ x. let y = mul_negative a b h x in absurd (omega (arith, lt_out _ _ y, le_out _ _ k))) (λ x. x)

sub_right : (a b c : ℤ) → a *ℤ (c -ℤ b) ≡ a *ℤ c -ℤ a *ℤ b
sub_right a b c = rw (dif_is a, dif_is b, dif_is c) (simp difs (dif_same _ _ _ _ (omega arith)))

-- products by one positive number compare as the numbers do
pub below_from_product : (a b c : ℤ) → pos 0 <ℤ a → (a *ℤ b) <ℤ (a *ℤ c) → b <ℤ c
below_from_product a b c h k =
    let e = sub_right a b c in
    let x : pos 0 <ℤ (a *ℤ c -ℤ a *ℤ b) = below_in _ _ (omega (arith, sums, lt_out _ _ k)) in
    let y : pos 0 <ℤ (a *ℤ (c -ℤ b)) = rw (sub_right a b c) x in
    let z = positive_from_product a (c -ℤ b) h y in
    below_in _ _ (omega (arith, sums, lt_out _ _ z))

pub at_most_from_product : (a b c : ℤ) → pos 0 <ℤ a → (a *ℤ b) ≤ℤ (a *ℤ c) → b ≤ℤ c
at_most_from_product a b c h k =
    let x : pos 0 ≤ℤ (a *ℤ c -ℤ a *ℤ b) = at_most_in _ _ (omega (arith, sums, le_out _ _ k)) in
    let y : pos 0 ≤ℤ (a *ℤ (c -ℤ b)) = rw (sub_right a b c) x in
    let z = not_negative_from_product a (c -ℤ b) h y in
    at_most_in _ _ (omega (arith, sums, le_out _ _ z))

pub same_from_product : (a b c : ℤ) → pos 0 <ℤ a → a *ℤ b ≡ a *ℤ c → b ≡ c
same_from_product a b c h e =
    let o = same_out _ _ e in
    let x = at_most_from_product a b c h (at_most_in _ _ (omega (arith, o.0, o.1))) in
    let y = at_most_from_product a c b h (at_most_in _ _ (omega (arith, o.0, o.1))) in
    same_in _ _ (omega (arith, le_out _ _ x, le_out _ _ y))

-- linear facts about whole numbers, for `omega`: products stay as they are
pub ruleset linear = (same_out, lt_out, le_out, same_in, below_in, at_most_in, sum_is_lem, neg_is)

-- two numbers are the same or not
pub by_eq : {P : Type 0} (a b : ℕ) → (a ≡ b → P) → (a ≢ b → P) → P
by_eq a b same differ = elim (cases_eq a b) [ inl e ↦ same e | inr n ↦ differ n ]

pub mul_below : (a b c : ℤ) → pos 0 <ℤ a → b <ℤ c → (a *ℤ b) <ℤ (a *ℤ c)
mul_below a b c h k =
    let x = mul_pos a (c -ℤ b) h (below_in _ _ (omega (arith, sums, lt_out _ _ k))) in
    let y : pos 0 <ℤ (a *ℤ c -ℤ a *ℤ b) = rw (sub_right a b c) at x in
    below_in _ _ (omega (arith, sums, lt_out _ _ y))
