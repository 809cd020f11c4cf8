-- Fractions in lowest terms: two that are equal as numbers have the same top and bottom.
use Rattle.std.proofs.Common.{◌≡◌, ◌≤◌, ◌<◌, ◌+◌, ◌*◌, ◌%◌, ◌/◌, ℕ, zero, suc, refl, sym, ap, subst, ◌∙◌, arith}
use Rattle.std.specs.Prelude.{ℤ, pos, negsuc, neg_ℤ, ◌+ℤ◌, ◌-ℤ◌, ◌*ℤ◌, ◌<ℤ◌, unsigned_abs, int_div}
use Rattle.std.specs.Int.{◌∣◌, IsGcd}
use Rattle.std.proofs.lemmas.Int.{ints, unsigned_abs-mul}
use Rattle.std.proofs.lemmas.Nat.{mod-mul-add, div-add-mod'}
use Rattle.std.proofs.lemmas.Nat.Gcd.{IsGcd-from_zero, IsGcd-from_mod, same_from_IsGcd}
use Rattle.std.proofs.Math.Nat.{mod-lt, div-mul_cancel, one-dvd, mul-dvd-mul_right, dvd_of_mul-dvd-mul_right, mul-le-mul_right}
use Rattle.std.proofs.Math.IntN.{*ℤ_comm, zero-*ℤ}
use Rattle.price_duality.proofs.Products.{times_swap, times_suc}
use Rattle.price_duality.proofs.Limits.{times-times}
use Rattle.price_duality.proofs.MostGain.{times_lt}
use Rattle.best_checker.specs.Amounts.{IsLowest}

-- a larger factor above 0 keeps the order
mul-lt_right : (a b k : ℕ) → 1 ≤ k → a < b → a * k < b * k
mul-lt_right a b k some less =
    let rest : suc a * k ≤ b * k = mul-le-mul_right k less in
    omega (arith, rest, some)

-- what Euclid's algorithm finds, and finds of multiples too
record HasGcd (a b : ℕ) : Type 0 where
  pub g : ℕ
  pub is : IsGcd a b g
  pub scaled : (k : ℕ) → 1 ≤ k → IsGcd (a * k) (b * k) (g * k)

mod_scaled : (a b k : ℕ) → 1 ≤ b → 1 ≤ k → (a * k) % (b * k) ≡ a % b * k
mod_scaled a b k some more =
    let split : a / b * b + a % b ≡ a = div-add-mod' a b in
    let small : a % b < b = mod-lt a some in
    let fits : a % b * k < b * k = mul-lt_right (a % b) b k more small in
    let whole : a * k ≡ a / b * (b * k) + a % b * k = ap (λ n. n * k) (sym split) ∙ omega arith in
    ap (λ n. n % (b * k)) whole ∙ mod-mul-add (a / b) (b * k) (a % b * k) fits

euclid : (fuel a b : ℕ) → b < fuel → HasGcd a b
euclid zero a b less = absurd (omega arith)
euclid (suc fuel) a zero less = record {
  g = a;
  is = IsGcd-from_zero a 0 refl;
  scaled = λ k some. IsGcd-from_zero (a * k) (0 * k) (omega arith);
}
euclid (suc fuel) a (suc b) less =
    let rest = euclid fuel (suc b) (a % suc b) (let small : a % suc b < suc b = mod-lt a (omega arith) in omega (arith, small, less)) in
    record {
      g = rest.g;
      is = IsGcd-from_mod a (suc b) rest.g rest.is;
      scaled = λ k some.
          IsGcd-from_mod (a * k) (suc b * k) (rest.g * k) (subst (λ n. IsGcd (suc b * k) n (rest.g * k)) (sym (mod_scaled a (suc b) k (omega arith) some)) (rest.scaled k some));
    }

-- of multiples of two numbers without a common divisor, the factor is the greatest
factor_is : (a b k : ℕ) → 1 ≤ k → IsGcd a b 1 → IsGcd (a * k) (b * k) k
factor_is a b k some coprime =
    let found = euclid (suc b) a b (omega arith) in
    let one : found.g ≡ 1 = same_from_IsGcd a b found.g 1 found.is coprime in
    let times : found.g * k ≡ k = ap (λ n. n * k) one ∙ omega arith in
    subst (λ n. IsGcd (a * k) (b * k) n) times (found.scaled k some)

-- equal fractions of naturals in lowest terms have the same bottom
same_bottom : (a b c d : ℕ) → 1 ≤ b → 1 ≤ d → IsGcd a b 1 → IsGcd c d 1 → a * d ≡ c * b → b ≡ d
same_bottom a b c d some more first second equal =
    let left : IsGcd (a * d) (b * d) d = factor_is a b d more first in
    let right : IsGcd (c * b) (d * b) b = factor_is c d b some second in
    let turned : d * b ≡ b * d = omega arith in
    same_from_IsGcd (a * d) (b * d) b d (subst (λ n. IsGcd (a * d) n b) turned (subst (λ n. IsGcd n (d * b) b) (sym equal) right)) left

-- a number by a divisor of it
quot_abs : (t : ℤ) (g : ℕ) → unsigned_abs (int_div t (pos g)) ≡ unsigned_abs t / g
quot_abs (pos a) g = refl
quot_abs (negsuc a) g = omega (arith, ints)

times-neg : (g n : ℕ) → pos g *ℤ neg_ℤ (pos n) ≡ neg_ℤ (pos (g * n))
times-neg zero n = let none : 0 * n ≡ 0 = omega arith in zero-*ℤ (neg_ℤ (pos n)) ∙ ap (λ k. neg_ℤ (pos k)) (sym none)
times-neg (suc g) n =
    let more : suc g * n ≡ g * n + n = omega arith in
    let rest = times-neg g n in
    let sum : neg_ℤ (pos (g * n)) +ℤ neg_ℤ (pos n) ≡ neg_ℤ (pos (g * n + n)) = omega (arith, ints) in
    times_suc g (neg_ℤ (pos n)) ∙ ap (λ z. z +ℤ neg_ℤ (pos n)) rest ∙ sum ∙ ap (λ k. neg_ℤ (pos k)) (sym more)

quot_exact : (t : ℤ) (g : ℕ) → g ∣ unsigned_abs t → pos g *ℤ int_div t (pos g) ≡ t
quot_exact (pos a) g divides =
    let back : a / g * g ≡ a = div-mul_cancel g divides in
    omega (arith, ints, back)
quot_exact (negsuc a) g divides =
    let back : suc a / g * g ≡ suc a = div-mul_cancel g divides in
    times-neg g (suc a / g) ∙ ap (λ n. neg_ℤ (pos n)) (let turned : g * (suc a / g) ≡ suc a / g * g = omega arith in turned ∙ back)

-- two numbers by their greatest common divisor have no other
lowest_gcd : (m l g : ℕ) → 1 ≤ g → IsGcd m l g → IsGcd (m / g) (l / g) 1
lowest_gcd m l g some is = (
  one-dvd (m / g),
  one-dvd (l / g),
  λ e p q.
      let first : e * g ∣ m = subst (λ n. e * g ∣ n) (div-mul_cancel g is.0) (mul-dvd-mul_right e p g) in
      let second : e * g ∣ l = subst (λ n. e * g ∣ n) (div-mul_cancel g is.1) (mul-dvd-mul_right e q g) in
      let both : e * g ∣ 1 * g = subst (λ n. e * g ∣ n) (omega arith) (is.2 (e * g) first second) in
      dvd_of_mul-dvd-mul_right e some both,
)

-- a number above 0 is a natural one
pub natural : (z : ℤ) → pos 0 <ℤ z → z ≡ pos (unsigned_abs z)
natural z h = omega (arith, ints, h)

-- the greatest common divisor of two numbers, of which the second is above 0
pub divisor_above_zero : (m l g : ℕ) → 1 ≤ l → IsGcd m l g → 1 ≤ g
divisor_above_zero m l zero some is =
    let back : l / 0 * 0 ≡ l = div-mul_cancel 0 is.1 in
    absurd (omega (arith, back, some))
divisor_above_zero m l (suc g) some is = omega arith

above_zero : (n g l : ℕ) → 1 ≤ l → n * g ≡ l → 1 ≤ n
above_zero zero g l some back = absurd (omega (arith, some, back))
above_zero (suc n) g l some back = omega arith

-- both numbers by it are the fraction in lowest terms
pub lowest_is : (t b : ℤ) (g : ℕ) → pos 0 <ℤ b → IsGcd (unsigned_abs t) (unsigned_abs b) g → IsLowest t b (int_div t (pos g), int_div b (pos g))
lowest_is t b g above is =
    let some : 1 ≤ unsigned_abs b = omega (arith, ints, above) in
    let g_some = divisor_above_zero (unsigned_abs t) (unsigned_abs b) g some is in
    let whole : b ≡ pos (unsigned_abs b) = natural b above in
    let x = int_div t (pos g) in
    let y = int_div b (pos g) in
    let top : pos g *ℤ x ≡ t = quot_exact t g is.0 in
    let bottom : pos g *ℤ y ≡ b = quot_exact b g is.1 in
    let n = unsigned_abs b / g in
    let below : y ≡ pos n = subst (λ z. int_div z (pos g) ≡ pos n) (sym whole) refl in
    let back : n * g ≡ unsigned_abs b = div-mul_cancel g is.1 in
    record {
      positive = subst (λ z. pos 0 <ℤ z) (sym below) (let big : 1 ≤ n = above_zero n g (unsigned_abs b) some back in omega (arith, ints, big));
      lowest = subst (λ m. IsGcd m (unsigned_abs y) 1) (sym (quot_abs t g)) (subst (λ m. IsGcd (unsigned_abs t / g) m 1) (sym (quot_abs b g)) (lowest_gcd (unsigned_abs t) (unsigned_abs b) g g_some is));
      equal = *ℤ_comm x b ∙ ap (λ z. z *ℤ x) (whole ∙ ap pos (sym back)) ∙ times-times n g x ∙ ap (λ z. pos n *ℤ z) top ∙ *ℤ_comm (pos n) t ∙ ap (λ z. t *ℤ z) (sym below);
    }

cancel_by : (w : ℕ) (a b c : ℤ) → c ≡ a -ℤ b → 1 ≤ w → pos w *ℤ a ≡ pos w *ℤ b → a ≡ b
cancel_by w a b (pos zero) apart some same = omega (arith, ints, apart)
cancel_by w a b (pos (suc n)) apart some same =
    let less = times_lt w b a some (omega (arith, ints, apart)) in
    absurd (omega (arith, ints, less, same))
cancel_by w a b (negsuc n) apart some same =
    let less = times_lt w a b some (omega (arith, ints, apart)) in
    absurd (omega (arith, ints, less, same))

-- a common factor above 0
pub cancel : (w : ℕ) (a b : ℤ) → 1 ≤ w → pos w *ℤ a ≡ pos w *ℤ b → a ≡ b
cancel w a b some same = cancel_by w a b (a -ℤ b) refl some same

-- the tops and bottoms of equal fractions, cross by cross
crossed : (n m u v : ℕ) (x y t r : ℤ) → 1 ≤ n → 1 ≤ m → pos n *ℤ x ≡ pos u *ℤ t → pos m *ℤ y ≡ pos v *ℤ r → pos m *ℤ t ≡ pos n *ℤ r → pos v *ℤ x ≡ pos u *ℤ y
crossed n m u v x y t r some more first second equal =
    cancel m (pos v *ℤ x) (pos u *ℤ y) more (cancel n (pos m *ℤ (pos v *ℤ x)) (pos m *ℤ (pos u *ℤ y)) some
    (times_swap n m (pos v *ℤ x) ∙ ap (λ z. pos m *ℤ z) (times_swap n v x) ∙ ap (λ z. pos m *ℤ (pos v *ℤ z)) first
    ∙ times_swap m v (pos u *ℤ t) ∙ ap (λ z. pos v *ℤ z) (times_swap m u t) ∙ ap (λ z. pos v *ℤ (pos u *ℤ z)) equal
    ∙ ap (λ z. pos v *ℤ z) (times_swap u n r) ∙ times_swap v n (pos u *ℤ r) ∙ ap (λ z. pos n *ℤ z) (times_swap v u r)
    ∙ ap (λ z. pos n *ℤ (pos u *ℤ z)) (sym second) ∙ ap (λ z. pos n *ℤ z) (times_swap u m y)))

-- fractions in lowest terms with equal cross products are one
one_fraction : (x y : ℤ) (u v : ℕ) → 1 ≤ u → 1 ≤ v → IsGcd (unsigned_abs x) u 1 → IsGcd (unsigned_abs y) v 1 → pos v *ℤ x ≡ pos u *ℤ y → (u ≡ v) × (x ≡ y)
one_fraction x y u v some more first second equal =
    let sizes : v * unsigned_abs x ≡ u * unsigned_abs y = sym (unsigned_abs-mul (pos v) x) ∙ ap unsigned_abs equal ∙ unsigned_abs-mul (pos u) y in
    let same : u ≡ v = same_bottom (unsigned_abs x) u (unsigned_abs y) v some more first second (omega (arith, sizes)) in
    let tops : pos u *ℤ x ≡ pos u *ℤ y = subst (λ n. pos n *ℤ x ≡ pos u *ℤ y) (sym same) equal in
    (same, cancel u x y some tops)

-- two equal products, with what is above 0 as a natural number in front
turned : (x b t w : ℤ) → pos 0 <ℤ b → pos 0 <ℤ w → x *ℤ b ≡ t *ℤ w → pos (unsigned_abs b) *ℤ x ≡ pos (unsigned_abs w) *ℤ t
turned x b t w above more equal =
    ap (λ z. z *ℤ x) (sym (natural b above)) ∙ *ℤ_comm b x ∙ equal ∙ *ℤ_comm t w ∙ ap (λ z. z *ℤ t) (natural w more)

size_above : (z : ℤ) → pos 0 <ℤ z → 1 ≤ unsigned_abs z
size_above z h = omega (arith, ints, h)

-- equal numbers have one fraction in lowest terms
pub same_amount : (t b r c : ℤ) (p q : ℤ × ℤ) → pos 0 <ℤ b → pos 0 <ℤ c → IsLowest t b p → IsLowest r c q → t *ℤ c ≡ r *ℤ b → p ≡ q
same_amount t b r c p q above more first second equal =
    let u = unsigned_abs p.1 in
    let v = unsigned_abs q.1 in
    let cross = crossed (unsigned_abs b) (unsigned_abs c) u v p.0 q.0 t r (size_above b above) (size_above c more) (turned p.0 b t p.1 above first.positive first.equal) (turned q.0 c r q.1 more second.positive second.equal) (turned t c r b more above equal) in
    let one = one_fraction p.0 q.0 u v (size_above p.1 first.positive) (size_above q.1 second.positive) first.lowest second.lowest cross in
    let bottoms : p.1 ≡ q.1 = natural p.1 first.positive ∙ ap pos one.0 ∙ sym (natural q.1 second.positive) in
    ap (λ z. (z, p.1)) one.1 ∙ ap (λ z. (q.0, z)) bottoms

back_crossed : (n m u : ℕ) (x t r : ℤ) → 1 ≤ u → pos n *ℤ x ≡ pos u *ℤ t → pos m *ℤ x ≡ pos u *ℤ r → pos m *ℤ t ≡ pos n *ℤ r
back_crossed n m u x t r some first second =
    cancel u (pos m *ℤ t) (pos n *ℤ r) some
    (times_swap u m t ∙ ap (λ z. pos m *ℤ z) (sym first) ∙ times_swap m n x ∙ ap (λ z. pos n *ℤ z) second ∙ times_swap n u r)

-- numbers with one fraction are equal
pub same_value : (t b r c : ℤ) (p q : ℤ × ℤ) → pos 0 <ℤ b → pos 0 <ℤ c → IsLowest t b p → IsLowest r c q → p ≡ q → t *ℤ c ≡ r *ℤ b
same_value t b r c p q above more first second same =
    let other : IsLowest r c p = subst (λ z. IsLowest r c z) (sym same) second in
    let back = back_crossed (unsigned_abs b) (unsigned_abs c) (unsigned_abs p.1) p.0 t r (size_above p.1 first.positive) (turned p.0 b t p.1 above first.positive first.equal) (turned p.0 c r p.1 more other.positive other.equal) in
    *ℤ_comm t c ∙ ap (λ z. z *ℤ t) (natural c more) ∙ back ∙ ap (λ z. z *ℤ r) (sym (natural b above)) ∙ *ℤ_comm b r
