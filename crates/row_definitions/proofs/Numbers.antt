-- Products, quotients and sizes of whole numbers with signs.
use Rattle.std.proofs.Common.{◌≡◌, ℕ, zero, suc, ◌*◌, ◌/◌, ◌<◌, ℤ, pos, negsuc, ◌+ℤ◌, ◌-ℤ◌, ◌*ℤ◌, neg_ℤ, unsigned_abs, refl, sym, ap, ◌∙◌, arith, mul_assoc, one-mul, mul-zero, mul-pos, subst, div-le_self, ◌≤◌, ◌<ℤ◌}
use Rattle.std.proofs.lemmas.Int.{ints}
use Rattle.std.proofs.Math.IntN.{*ℤ_comm, neg_ℤ-neg_ℤ, suc_ℤ-*ℤ, zero-*ℤ, neg_ℤ-+ℤ}
use Rattle.std.specs.Int.{◌∣◌}
use Rattle.std.proofs.Math.Nat.{mul-div_cancel', mul-div-mul_left, zero-div, div-one}
use Rattle.row_definitions.specs.Rows.{divided}

-- ---- products

pub neg-*ℤ : (a b : ℤ) → neg_ℤ a *ℤ b ≡ neg_ℤ (a *ℤ b)
neg-*ℤ (pos zero) b = zero-*ℤ b ∙ sym (ap neg_ℤ (zero-*ℤ b))
neg-*ℤ (pos (suc m)) (pos n) = refl
neg-*ℤ (pos (suc m)) (negsuc n) = sym (neg_ℤ-neg_ℤ (pos (suc m * suc n)))
neg-*ℤ (negsuc m) (pos n) = sym (neg_ℤ-neg_ℤ (pos (suc m * n)))
neg-*ℤ (negsuc m) (negsuc n) = refl

pub *ℤ-neg : (a b : ℤ) → a *ℤ neg_ℤ b ≡ neg_ℤ (a *ℤ b)
*ℤ-neg a b = *ℤ_comm a (neg_ℤ b) ∙ neg-*ℤ b a ∙ ap neg_ℤ (*ℤ_comm b a)

-- associativity: by the signs, the first number last
assoc-third : (a b : ℕ) (c : ℤ) → (pos a *ℤ pos b) *ℤ c ≡ pos a *ℤ (pos b *ℤ c)
assoc-third a b (pos c) = ap pos (mul_assoc a b c)
assoc-third a b (negsuc c) =
    *ℤ-neg (pos a *ℤ pos b) (pos (suc c)) ∙ ap neg_ℤ (ap pos (mul_assoc a b (suc c))) ∙ sym (*ℤ-neg (pos a) (pos b *ℤ pos (suc c))) ∙ ap (λ z. pos a *ℤ z) (sym (*ℤ-neg (pos b) (pos (suc c))))

assoc-second : (a : ℕ) (b c : ℤ) → (pos a *ℤ b) *ℤ c ≡ pos a *ℤ (b *ℤ c)
assoc-second a (pos b) c = assoc-third a b c
assoc-second a (negsuc b) c =
    ap (λ z. z *ℤ c) (*ℤ-neg (pos a) (pos (suc b))) ∙ neg-*ℤ (pos a *ℤ pos (suc b)) c ∙ ap neg_ℤ (assoc-third a (suc b) c) ∙ sym (*ℤ-neg (pos a) (pos (suc b) *ℤ c)) ∙ ap (λ z. pos a *ℤ z) (sym (neg-*ℤ (pos (suc b)) c))

pub *ℤ_assoc : (a b c : ℤ) → (a *ℤ b) *ℤ c ≡ a *ℤ (b *ℤ c)
*ℤ_assoc (pos a) b c = assoc-second a b c
*ℤ_assoc (negsuc a) b c =
    ap (λ z. z *ℤ c) (neg-*ℤ (pos (suc a)) b) ∙ neg-*ℤ (pos (suc a) *ℤ b) c ∙ ap neg_ℤ (assoc-second (suc a) b c) ∙ sym (neg-*ℤ (pos (suc a)) (b *ℤ c))

regroup : (a b c d : ℤ) → (a +ℤ b) +ℤ (c +ℤ d) ≡ (a +ℤ c) +ℤ (b +ℤ d)
regroup a b c d = omega (arith, ints)

pos-*ℤ-+ℤ : (k : ℕ) (a b : ℤ) → pos k *ℤ (a +ℤ b) ≡ pos k *ℤ a +ℤ pos k *ℤ b
pos-*ℤ-+ℤ zero a b = zero-*ℤ (a +ℤ b) ∙ sym (ap (λ z. z +ℤ pos zero *ℤ b) (zero-*ℤ a) ∙ ap (λ z. pos zero +ℤ z) (zero-*ℤ b))
pos-*ℤ-+ℤ (suc k) a b =
    suc_ℤ-*ℤ (pos k) (a +ℤ b) ∙ ap (λ z. z +ℤ (a +ℤ b)) (pos-*ℤ-+ℤ k a b) ∙ regroup (pos k *ℤ a) (pos k *ℤ b) a b ∙ sym (ap (λ z. z +ℤ pos (suc k) *ℤ b) (suc_ℤ-*ℤ (pos k) a) ∙ ap (λ z. (pos k *ℤ a +ℤ a) +ℤ z) (suc_ℤ-*ℤ (pos k) b))

-- a product with a sum, and with a difference
pub *ℤ-+ℤ : (a b c : ℤ) → a *ℤ (b +ℤ c) ≡ a *ℤ b +ℤ a *ℤ c
*ℤ-+ℤ (pos a) b c = pos-*ℤ-+ℤ a b c
*ℤ-+ℤ (negsuc a) b c =
    neg-*ℤ (pos (suc a)) (b +ℤ c) ∙ ap neg_ℤ (pos-*ℤ-+ℤ (suc a) b c) ∙ neg_ℤ-+ℤ (pos (suc a) *ℤ b) (pos (suc a) *ℤ c) ∙ sym (ap (λ z. z +ℤ negsuc a *ℤ c) (neg-*ℤ (pos (suc a)) b) ∙ ap (λ z. neg_ℤ (pos (suc a) *ℤ b) +ℤ z) (neg-*ℤ (pos (suc a)) c))

pub *ℤ--ℤ : (a b c : ℤ) → a *ℤ (b -ℤ c) ≡ a *ℤ b -ℤ a *ℤ c
*ℤ--ℤ a b c = *ℤ-+ℤ a b (neg_ℤ c) ∙ ap (λ z. a *ℤ b +ℤ z) (*ℤ-neg a c)

pub one-*ℤ : (a : ℤ) → pos 1 *ℤ a ≡ a
one-*ℤ (pos a) = ap pos (one-mul a)
one-*ℤ (negsuc a) = ap (λ n. neg_ℤ (pos n)) (one-mul (suc a))

-- the factors of two products come to the front
pub *ℤ_swap : (a b c d : ℤ) → (a *ℤ b) *ℤ (c *ℤ d) ≡ (a *ℤ c) *ℤ (b *ℤ d)
*ℤ_swap a b c d =
    *ℤ_assoc a b (c *ℤ d) ∙ ap (λ z. a *ℤ z) (sym (*ℤ_assoc b c d) ∙ ap (λ z. z *ℤ d) (*ℤ_comm b c) ∙ *ℤ_assoc c b d) ∙ sym (*ℤ_assoc a c (b *ℤ d))

-- ---- quotients

quotient-neg : (g n : ℕ) → divided g (neg_ℤ (pos n)) ≡ neg_ℤ (pos (n / g))
quotient-neg g zero = ap pos (zero-div g) ∙ sym (ap (λ n. neg_ℤ (pos n)) (zero-div g))
quotient-neg g (suc n) = refl

-- a divisor times the quotient by it
pub divided-exact : (g : ℕ) (x : ℤ) → g ∣ unsigned_abs x → pos g *ℤ divided g x ≡ x
divided-exact g (pos n) h = ap pos (mul-div_cancel' g h)
divided-exact g (negsuc n) h = *ℤ-neg (pos g) (pos (suc n / g)) ∙ ap (λ m. neg_ℤ (pos m)) (mul-div_cancel' g h)

-- a factor that the divisor has too cancels
pub divided-scaled : (k g : ℕ) (x : ℤ) → 0 < k → divided (k * g) (pos k *ℤ x) ≡ divided g x
divided-scaled k g (pos n) h = ap pos (mul-div-mul_left n g h)
divided-scaled k g (negsuc n) h = quotient-neg (k * g) (k * suc n) ∙ ap (λ m. neg_ℤ (pos m)) (mul-div-mul_left (suc n) g h)

pub divided-one : (x : ℤ) → divided 1 x ≡ x
divided-one (pos n) = ap pos (div-one n)
divided-one (negsuc n) = ap (λ m. neg_ℤ (pos m)) (div-one (suc n))

pub divided-zero : (g : ℕ) → divided g (pos 0) ≡ pos 0
divided-zero g = ap pos (zero-div g)

-- ---- sizes

pub zero_from_size : (x : ℤ) → unsigned_abs x ≡ 0 → x ≡ pos 0
zero_from_size (pos n) h = ap pos h
zero_from_size (negsuc n) h = absurd (omega arith)

unsigned_abs-neg : (n : ℕ) → unsigned_abs (neg_ℤ (pos n)) ≡ n
unsigned_abs-neg zero = refl
unsigned_abs-neg (suc n) = refl

pub unsigned_abs-divided-le : (g : ℕ) (x : ℤ) → unsigned_abs (divided g x) ≤ unsigned_abs x
unsigned_abs-divided-le g (pos n) = div-le_self n g
unsigned_abs-divided-le g (negsuc n) = subst (λ m. m ≤ suc n) (sym (unsigned_abs-neg (suc n / g))) (div-le_self (suc n) g)

-- ---- signs

pub not-below_zero : (m : ℕ) → pos 0 <ℤ neg_ℤ (pos m) → ⊥
not-below_zero zero h = omega (arith, ints)
not-below_zero (suc m) h = omega (arith, ints)

-- a multiple above 0 is of a number above 0
pub pos-of_multiple : (k : ℕ) (x : ℤ) → pos 0 <ℤ (pos k *ℤ x) → pos 0 <ℤ x
pos-of_multiple k (pos zero) h = absurd (not-below_zero 0 (subst (λ n. pos 0 <ℤ pos n) (mul-zero k) h))
pos-of_multiple k (pos (suc n)) h = omega (arith, ints)
pos-of_multiple k (negsuc n) h = absurd (not-below_zero (k * suc n) h)

pub above_zero : (n : ℕ) → 0 < n → pos 0 <ℤ pos n
above_zero n h = omega (arith, ints)

size_above_zero : (n : ℕ) → pos 0 <ℤ pos n → 0 < n
size_above_zero n h = omega (arith, ints)

-- and a positive multiple of one is
pub multiple-pos : (k : ℕ) (x : ℤ) → 0 < k → pos 0 <ℤ x → pos 0 <ℤ (pos k *ℤ x)
multiple-pos k (pos n) h p = above_zero (k * n) (mul-pos h (size_above_zero n p))
multiple-pos k (negsuc n) h p = absurd (not-below_zero (suc n) p)

below_from_neg : (x : ℤ) → pos 0 <ℤ neg_ℤ x → x <ℤ pos 0
below_from_neg x h = omega (arith, ints)

neg_from_below : (x : ℤ) → x <ℤ pos 0 → pos 0 <ℤ neg_ℤ x
neg_from_below x h = omega (arith, ints)

-- the same below 0
pub neg-of_multiple : (k : ℕ) (x : ℤ) → (pos k *ℤ x) <ℤ pos 0 → x <ℤ pos 0
neg-of_multiple k x h =
    below_from_neg x (pos-of_multiple k (neg_ℤ x) (subst (λ z. pos 0 <ℤ z) (sym (*ℤ-neg (pos k) x)) (neg_from_below (pos k *ℤ x) h)))

pub multiple-neg : (k : ℕ) (x : ℤ) → 0 < k → x <ℤ pos 0 → (pos k *ℤ x) <ℤ pos 0
multiple-neg k x h p =
    below_from_neg (pos k *ℤ x) (subst (λ z. pos 0 <ℤ z) (*ℤ-neg (pos k) x) (multiple-pos k (neg_ℤ x) h (neg_from_below x p)))
