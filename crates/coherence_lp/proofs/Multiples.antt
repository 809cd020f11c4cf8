-- Common divisors, least common multiples, and fractions in lowest terms.
use Rattle.std.proofs.Common.{◌≡◌, ℕ, zero, suc, ◌+◌, ◌*◌, ◌/◌, ◌<◌, ◌≤◌, [], ◌∷◌, sym, ap, ◌∙◌, subst, arith, mul_comm, mul-pos, mul-le-mul_right, le_trans, mod-lt, ◌%◌}
use Rattle.std.specs.Prelude.{Option, None, Some, IfSome, IfNone}
use Rattle.std.specs.Int.{◌∣◌, IsGcd}
use Rattle.std.proofs.lemmas.Int.{unsigned_abs-mul}
use Rattle.std.proofs.lemmas.Nat.Gcd.{dvd_trans, dvd_refl, dvd-zero, dvd_antisymm, IsGcd-swap}
use Rattle.std.proofs.Math.Nat.{dvd-mul_left, dvd-mul_right, dvd-mul_right_of_dvd, dvd-mul_left_of_dvd, one-dvd, pos_of_dvd_of_pos, mul-div_cancel', mul-dvd-mul_left, mul-dvd-mul_right, dvd_of_mul-dvd-mul_left, div-mul-le_self}
use lib.IntN.{pos}
use Rattle.row_definitions.specs.Rows.{row_divisor, scaled}
use Rattle.row_definitions.proofs.Divisors.{Divides, row_divisor_is, row_divisor_from}
use Rattle.row_definitions.proofs.Primitives.{row_divisor-scaled}
use Rattle.judging_definitions.specs.Stakes.{Fraction}
use Rattle.coherence_lp.specs.Ratios.{by_divisor, IsLowestForm, IsLeastCommonMultiple}

-- what divides all products of a number with two that have no common divisor divides the number
pub without_common : (x y d k : ℕ) → IsGcd x y 1 → d ∣ k * x → d ∣ k * y → d ∣ k
without_common x y d zero one first second = dvd-zero d
without_common x y d (suc k) one first second =
    let pair = pos x ∷ pos y ∷ [] in
    let unit : 1 ≡ row_divisor pair = row_divisor_from pair 1 ((one-dvd x, (one-dvd y, tt)), λ e w. one.2 e w.0 w.1.0) in
    let each : Divides d (scaled (suc k) pair) = (subst (λ n. d ∣ n) (sym (unsigned_abs-mul (pos (suc k)) (pos x))) first, (subst (λ n. d ∣ n) (sym (unsigned_abs-mul (pos (suc k)) (pos y))) second, tt)) in
    let whole : row_divisor (scaled (suc k) pair) ≡ suc k = row_divisor-scaled (suc k) pair (omega arith) ∙ ap (λ n. suc k * n) (sym unit) ∙ omega arith in
    subst (λ n. d ∣ n) whole ((row_divisor_is (scaled (suc k) pair)).1 d each)

-- a number that divides a product, and has no common divisor with one factor, divides the other
pub euclid : (a b t : ℕ) → IsGcd a b 1 → a ∣ b * t → a ∣ t
euclid a b t one h = without_common a b a t one (dvd-mul_left a t) (subst (λ n. a ∣ n) (mul_comm b t) h)

-- both by their greatest common divisor have no common divisor
pub quotients_apart : (a b g : ℕ) → 1 ≤ g → IsGcd a b g → IsGcd (a / g) (b / g) 1
quotients_apart a b g some is = (
  one-dvd (a / g),
  one-dvd (b / g),
  λ d p q.
      (let first : g * d ∣ a = subst (λ n. g * d ∣ n) (mul-div_cancel' g is.0) (mul-dvd-mul_left d g p) in
      let second : g * d ∣ b = subst (λ n. g * d ∣ n) (mul-div_cancel' g is.1) (mul-dvd-mul_left d g q) in
      let both : g * d ∣ g * 1 = subst (λ n. g * d ∣ n) (let e : g ≡ g * 1 = omega arith in e) (is.2 (g * d) first second) in
      dvd_of_mul-dvd-mul_left d some both),
)

move : (g a b : ℕ) → g * a * b ≡ a * (g * b)
move g a b = omega arith

above : (g n : ℕ) → 1 ≤ g * n → 1 ≤ n
above g zero h = absurd (omega (arith, h))
above g (suc n) h = omega arith

-- a quotient of a number above 0 is above 0
pub quotient_above : (g a : ℕ) → 1 ≤ a → g ∣ a → 1 ≤ a / g
quotient_above g a some h = above g (a / g) (subst (λ n. 1 ≤ n) (sym (mul-div_cancel' g h)) some)

pub multiple_by_divisor : (a b g : ℕ) → 1 ≤ a → 1 ≤ b → IsGcd a b g → IsLeastCommonMultiple a b (a / g * b)
multiple_by_divisor a b g some_a some_b is =
    let some : 1 ≤ g = pos_of_dvd_of_pos is.0 some_a in
    let ea = mul-div_cancel' g is.0 in
    let eb = mul-div_cancel' g is.1 in
    let apart = quotients_apart a b g some is in
    let product : a * (b / g) ≡ a / g * b = ap (λ n. n * (b / g)) (sym ea) ∙ move g (a / g) (b / g) ∙ ap (λ n. a / g * n) eb in
    record {
      above_zero = mul-pos (quotient_above g a some_a is.0) some_b;
      first = subst (λ n. a ∣ n) product (dvd-mul_right a (b / g));
      second = dvd-mul_left b (a / g);
      least = λ d p q.
          (let t = d / b in
          let et : b * t ≡ d = mul-div_cancel' b q in
          let inner : g * (a / g) ∣ g * (b / g * t) = subst (λ n. n ∣ g * (b / g * t)) (sym ea) (subst (λ n. a ∣ n) (sym et ∙ ap (λ n. n * t) (sym eb) ∙ (let e : g * (b / g) * t ≡ g * (b / g * t) = omega arith in e)) p) in
          let quotient : a / g ∣ t = euclid (a / g) (b / g) t apart (dvd_of_mul-dvd-mul_left (a / g) some inner) in
          subst (λ n. a / g * b ∣ n) (mul_comm t b ∙ et) (mul-dvd-mul_right (a / g) quotient b));
    }

pub one_multiple : (a b m n : ℕ) → IsLeastCommonMultiple a b m → IsLeastCommonMultiple a b n → m ≡ n
one_multiple a b m n p q = dvd_antisymm (p.least n q.first q.second) (q.least m p.first p.second)

-- ---- lowest terms

pub lowest_by_divisor : (n d g : ℕ) → 1 ≤ d → IsGcd n d g → IsLowestForm (record { numerator = n; denominator = d }) (record { numerator = n / g; denominator = d / g })
lowest_by_divisor n d g some is =
    let above_zero : 1 ≤ g = pos_of_dvd_of_pos is.1 some in
    record {
      factor = g;
      above_zero = above_zero;
      numerator = sym (mul-div_cancel' g is.0);
      denominator = sym (mul-div_cancel' g is.1);
      stands = quotient_above g d some is.1;
      apart = quotients_apart n d g above_zero is;
    }

-- of a fraction in lowest terms by a number
pub lowest_by_number : (f : Fraction) (n d k g : ℕ) → 1 ≤ k → IsLowestForm f (record { numerator = n; denominator = d }) → IsGcd n k g → IsLowestForm (by_divisor f k) (record { numerator = n / g; denominator = d * (k / g) })
lowest_by_number f n d k g some is gcd =
    let above_zero : 1 ≤ g = pos_of_dvd_of_pos gcd.1 some in
    let en = mul-div_cancel' g gcd.0 in
    let ek = mul-div_cancel' g gcd.1 in
    let apart = quotients_apart n k g above_zero gcd in
    record {
      factor = is.factor * g;
      above_zero = mul-pos is.above_zero above_zero;
      numerator = is.numerator ∙ ap (λ m. is.factor * m) (sym en) ∙ (let e : is.factor * (g * (n / g)) ≡ is.factor * g * (n / g) = omega arith in e);
      denominator = ap (λ m. m * k) is.denominator ∙ ap (λ m. is.factor * d * m) (sym ek) ∙ (let e : is.factor * d * (g * (k / g)) ≡ is.factor * g * (d * (k / g)) = omega arith in e);
      stands = mul-pos is.stands (quotient_above g k some gcd.1);
      apart = (
        one-dvd (n / g),
        one-dvd (d * (k / g)),
        λ c p q.
            (let whole : c ∣ n = subst (λ m. c ∣ m) en (dvd-mul_left_of_dvd c p g) in
            let clear : IsGcd c d 1 = (one-dvd c, one-dvd d, λ e u v. is.apart.2 e (dvd_trans e u whole) v) in
            apart.2 c p (euclid c d (k / g) clear q)),
      );
    }

-- the numbers that make a fraction whole are the multiples of its lowest denominator
pub whole_divides : (f r : Fraction) (d : ℕ) → IsLowestForm f r → f.denominator ∣ d * f.numerator → r.denominator ∣ d
whole_divides f r d is h =
    let inner : is.factor * r.denominator ∣ is.factor * (r.numerator * d) = subst (λ m. is.factor * r.denominator ∣ m) (ap (λ m. d * m) is.numerator ∙ (let e : d * (is.factor * r.numerator) ≡ is.factor * (r.numerator * d) = omega arith in e)) (subst (λ m. m ∣ d * f.numerator) is.denominator h) in
    euclid r.denominator r.numerator d (IsGcd-swap r.numerator r.denominator 1 is.apart) (dvd_of_mul-dvd-mul_left r.denominator is.above_zero inner)

pub divides_whole : (f r : Fraction) (d : ℕ) → IsLowestForm f r → r.denominator ∣ d → f.denominator ∣ d * f.numerator
divides_whole f r d is h =
    let inner : is.factor * r.denominator ∣ is.factor * (d * r.numerator) = mul-dvd-mul_left r.denominator is.factor (dvd-mul_right_of_dvd r.denominator h r.numerator) in
    subst (λ m. m ∣ d * f.numerator) (sym is.denominator) (subst (λ m. is.factor * r.denominator ∣ m) (sym (ap (λ m. d * m) is.numerator ∙ (let e : d * (is.factor * r.numerator) ≡ is.factor * (d * r.numerator) = omega arith in e))) inner)

pub one_denominator : (f r s : Fraction) → IsLowestForm f r → IsLowestForm f s → r.denominator ≡ s.denominator
one_denominator f r s is other =
    dvd_antisymm
    (whole_divides f r s.denominator is (divides_whole f s s.denominator other (dvd_refl s.denominator)))
    (whole_divides f s r.denominator other (divides_whole f r r.denominator is (dvd_refl r.denominator)))

-- ---- products and a bound

pub small_product : (x y most : ℕ) → x ≤ most / y → x * y ≤ most
small_product x y most h = le_trans (mul-le-mul_right y h) (div-mul-le_self most y)

pub large_product : (x y most : ℕ) → 0 < y → most / y < x → most < x * y
large_product x y most some h =
    let rest : most % y < y = mod-lt most some in
    let whole : y * (most / y) + most % y ≡ most = omega arith in
    let larger : (most / y + 1) * y ≤ x * y = mul-le-mul_right y (let e : most / y + 1 ≤ x = omega (arith, h) in e) in
    omega (arith, rest, whole, larger)

pub no_product : (x y : ℕ) → y ≡ 0 → 0 ≡ x * y
no_product x y none = sym (ap (λ n. x * n) none ∙ (let e : x * 0 ≡ 0 = omega arith in e))

-- ---- answers that may be none

pub if_same : (P : ℕ → Type 0) (o : Option ℕ) (m : ℕ) → IfSome o (λ p. p ≡ m) → P m → IfSome o P
if_same P None m e h = tt
if_same P (Some x) m e h = subst P (sym e) h

pub if_none : (P Q : Type 0) (o : Option ℕ) → IfNone o P → (P → Q) → IfNone o Q
if_none P Q None p f = f p
if_none P Q (Some x) p f = tt
