-- Sums of whole numbers.
use Rattle.std.proofs.Common.{◌≡◌, ◌≢◌, ℕ, zero, suc, ◌+◌, ◌<◌, ◌==◌, cond, true, false, refl, sym, ap, ap₂, ◌∙◌, subst, arith}
use Rattle.std.proofs.lemmas.Bool.Decides.{nat_tests}
use lib.IntN.{ℤ, pos, ◌+ℤ◌, ◌-ℤ◌, ◌*ℤ◌, neg_ℤ}
use lib.Signed.{◌<ℤ◌}
use Rattle.pivot_definitions.specs.Duality.{sum_below}
use Rattle.pivot_definitions.proofs.Ring.{by_eq, dif_is, difs, dif_same, linear, mul_pos}

pub sum_same : (n : ℕ) (f g : ℕ → ℤ) → ((k : ℕ) → k < n → f k ≡ g k) → sum_below n f ≡ sum_below n g
sum_same zero f g each = refl
sum_same (suc n) f g each = ap₂ (λ x y. x +ℤ y) (sum_same n f g (λ k h. each k (omega arith))) (each n (omega arith))

linear_step : (a b x y u v h : ℤ) → (a *ℤ x -ℤ b *ℤ y) +ℤ (a *ℤ u -ℤ b *ℤ v) *ℤ h ≡ a *ℤ (x +ℤ u *ℤ h) -ℤ b *ℤ (y +ℤ v *ℤ h)
linear_step a b x y u v h = rw (dif_is a, dif_is b, dif_is x, dif_is y, dif_is u, dif_is v, dif_is h) (simp difs (dif_same _ _ _ _ (omega arith)))

no_sums : (a b : ℤ) → pos 0 ≡ a *ℤ pos 0 -ℤ b *ℤ pos 0
no_sums a b = rw (dif_is a, dif_is b) (simp difs (dif_same _ _ _ _ (omega arith)))

-- a sum of products is linear in the first factors
pub sum_linear : (n : ℕ) (a b : ℤ) (f g h : ℕ → ℤ) → sum_below n (λ k. (a *ℤ f k -ℤ b *ℤ g k) *ℤ h k) ≡ a *ℤ sum_below n (λ k. f k *ℤ h k) -ℤ b *ℤ sum_below n (λ k. g k *ℤ h k)
sum_linear zero a b f g h = no_sums a b
sum_linear (suc n) a b f g h = ap (λ x. x +ℤ (a *ℤ f n -ℤ b *ℤ g n) *ℤ h n) (sum_linear n a b f g h) ∙ linear_step a b (sum_below n (λ k. f k *ℤ h k)) (sum_below n (λ k. g k *ℤ h k)) (f n) (g n) (h n)

scaled_step : (a x u h : ℤ) → a *ℤ x +ℤ (a *ℤ u) *ℤ h ≡ a *ℤ (x +ℤ u *ℤ h)
scaled_step a x u h = rw (dif_is a, dif_is x, dif_is u, dif_is h) (simp difs (dif_same _ _ _ _ (omega arith)))

no_sum : (a : ℤ) → pos 0 ≡ a *ℤ pos 0
no_sum a = rw (dif_is a) (simp difs (dif_same _ _ _ _ (omega arith)))

pub sum_scaled : (n : ℕ) (a : ℤ) (f h : ℕ → ℤ) → sum_below n (λ k. (a *ℤ f k) *ℤ h k) ≡ a *ℤ sum_below n (λ k. f k *ℤ h k)
sum_scaled zero a f h = no_sum a
sum_scaled (suc n) a f h = ap (λ x. x +ℤ (a *ℤ f n) *ℤ h n) (sum_scaled n a f h) ∙ scaled_step a (sum_below n (λ k. f k *ℤ h k)) (f n) (h n)

scaled_right_step : (a x u h : ℤ) → a *ℤ x +ℤ u *ℤ (a *ℤ h) ≡ a *ℤ (x +ℤ u *ℤ h)
scaled_right_step a x u h = rw (dif_is a, dif_is x, dif_is u, dif_is h) (simp difs (dif_same _ _ _ _ (omega arith)))

pub sum_scaled_right : (n : ℕ) (a : ℤ) (f h : ℕ → ℤ) → sum_below n (λ k. f k *ℤ (a *ℤ h k)) ≡ a *ℤ sum_below n (λ k. f k *ℤ h k)
sum_scaled_right zero a f h = no_sum a
sum_scaled_right (suc n) a f h = ap (λ x. x +ℤ f n *ℤ (a *ℤ h n)) (sum_scaled_right n a f h) ∙ scaled_right_step a (sum_below n (λ k. f k *ℤ h k)) (f n) (h n)

negated_step : (x u h : ℤ) → neg_ℤ x +ℤ neg_ℤ u *ℤ h ≡ neg_ℤ (x +ℤ u *ℤ h)
negated_step x u h = rw (dif_is x, dif_is u, dif_is h) (simp difs (dif_same _ _ _ _ (omega arith)))

pub sum_negated : (n : ℕ) (f h : ℕ → ℤ) → sum_below n (λ k. neg_ℤ (f k) *ℤ h k) ≡ neg_ℤ (sum_below n (λ k. f k *ℤ h k))
sum_negated zero f h = refl
sum_negated (suc n) f h = ap (λ x. x +ℤ neg_ℤ (f n) *ℤ h n) (sum_negated n f h) ∙ negated_step (sum_below n (λ k. f k *ℤ h k)) (f n) (h n)

zero_and : (x : ℤ) → pos 0 +ℤ x ≡ x
zero_and x = rw (dif_is x) (simp difs (dif_same _ _ _ _ (omega arith)))

and_zero : (x : ℤ) → x +ℤ pos 0 ≡ x
and_zero x = rw (dif_is x) (simp difs (dif_same _ _ _ _ (omega arith)))

-- a sum of zeros
pub sum_none : (n : ℕ) (f : ℕ → ℤ) → ((k : ℕ) → k < n → f k ≡ pos 0) → sum_below n f ≡ pos 0
sum_none zero f none = refl
sum_none (suc n) f none = ap₂ (λ x y. x +ℤ y) (sum_none n f (λ k h. none k (omega arith))) (none n (omega arith))

-- a sum with one term
pub sum_one : (n c : ℕ) (f : ℕ → ℤ) → c < n → ((k : ℕ) → k < n → k ≢ c → f k ≡ pos 0) → sum_below n f ≡ f c
sum_one zero c f within others = absurd (omega arith)
sum_one (suc n) c f within others = by_eq c n
    (λ e. ap (λ x. x +ℤ f n) (sum_none n f (λ k h. others k (omega arith) (omega arith))) ∙ zero_and (f n) ∙ ap f (sym e))
    (λ ne. ap₂ (λ x y. x +ℤ y) (sum_one n c f (omega arith) (λ k h differ. others k (omega arith) differ)) (others n (omega arith) (λ e. ne (sym e))) ∙ and_zero (f c))

regroup_sum : (x y z : ℤ) → x +ℤ (y +ℤ z) ≡ (x +ℤ y) +ℤ z
regroup_sum x y z = rw (dif_is x, dif_is y, dif_is z) (simp difs (dif_same _ _ _ _ (omega arith)))

-- a sum in two parts
pub sum_parts : (a b : ℕ) (f : ℕ → ℤ) → sum_below (a + b) f ≡ sum_below a f +ℤ sum_below b (λ k. f (a + k))
sum_parts a zero f = ap (λ n. sum_below n f) (let e : a + 0 ≡ a = omega arith in e) ∙ sym (and_zero (sum_below a f))
sum_parts a (suc b) f =
    ap (λ n. sum_below n f) (let e : a + suc b ≡ suc (a + b) = omega arith in e)
    ∙ ap (λ x. x +ℤ f (a + b)) (sum_parts a b f)
    ∙ sym (regroup_sum (sum_below a f) (sum_below b (λ k. f (a + k))) (f (a + b)))

-- ---- products

abbrev pub product_below : ℕ → (ℕ → ℤ) → ℤ
product_below zero f = pos 1
product_below (suc n) f = product_below n f *ℤ f n

-- the product without one factor
abbrev pub cofactor : ℕ → (ℕ → ℤ) → ℕ → ℤ
cofactor n f c = product_below n (λ k. cond (k == c) (pos 1) (f k))

pub product_positive : (n : ℕ) (f : ℕ → ℤ) → ((k : ℕ) → k < n → pos 0 <ℤ f k) → pos 0 <ℤ product_below n f
product_positive zero f each = omega (arith, linear)
product_positive (suc n) f each = mul_pos (product_below n f) (f n) (product_positive n f (λ k h. each k (omega arith))) (each n (omega arith))

product_same : (n : ℕ) (f g : ℕ → ℤ) → ((k : ℕ) → k < n → f k ≡ g k) → product_below n f ≡ product_below n g
product_same zero f g each = refl
product_same (suc n) f g each = ap₂ (λ x y. x *ℤ y) (product_same n f g (λ k h. each k (omega arith))) (each n (omega arith))

last_out : (x y : ℤ) → y *ℤ (x *ℤ pos 1) ≡ x *ℤ y
last_out x y = rw (dif_is x, dif_is y) (simp difs (dif_same _ _ _ _ (omega arith)))

inner_out : (x y z : ℤ) → y *ℤ (x *ℤ z) ≡ (y *ℤ x) *ℤ z
inner_out x y z = rw (dif_is x, dif_is y, dif_is z) (simp difs (dif_same _ _ _ _ (omega arith)))

other_factor : (f : ℕ → ℤ) (k c : ℕ) → k ≢ c → cond (k == c) (pos 1) (f k) ≡ f k
other_factor f k c differ = ap (λ b. cond b (pos 1) (f k)) (let e : (k == c) ≡ false = grind (arith, nat_tests) in e)

own_factor : (f : ℕ → ℤ) (k c : ℕ) → k ≡ c → cond (k == c) (pos 1) (f k) ≡ pos 1
own_factor f k c same = ap (λ b. cond b (pos 1) (f k)) (let e : (k == c) ≡ true = grind (arith, nat_tests) in e)

-- a factor times the rest is the product
pub cofactor_is : (n c : ℕ) (f : ℕ → ℤ) → c < n → f c *ℤ cofactor n f c ≡ product_below n f
cofactor_is zero c f within = absurd (omega arith)
cofactor_is (suc n) c f within = by_eq c n
    (λ e. ap₂ (λ x y. f c *ℤ (x *ℤ y)) (product_same n (λ k. cond (k == c) (pos 1) (f k)) f (λ k h. other_factor f k c (omega arith))) (own_factor f n c (sym e)) ∙ last_out (product_below n f) (f c) ∙ ap (λ k. product_below n f *ℤ f k) e)
    (λ ne. ap (λ y. f c *ℤ (cofactor n f c *ℤ y)) (other_factor f n c (λ e. ne (sym e))) ∙ inner_out (cofactor n f c) (f c) (f n) ∙ ap (λ x. x *ℤ f n) (cofactor_is n c f (omega arith)))

pub cofactor_positive : (n c : ℕ) (f : ℕ → ℤ) → ((k : ℕ) → k < n → pos 0 <ℤ f k) → pos 0 <ℤ cofactor n f c
cofactor_positive n c f each = product_positive n (λ k. cond (k == c) (pos 1) (f k)) (λ k h. by_eq k c (λ e. subst (λ z. pos 0 <ℤ z) (sym (own_factor f k c e)) (omega (arith, linear))) (λ ne. subst (λ z. pos 0 <ℤ z) (sym (other_factor f k c ne)) (each k h)))
