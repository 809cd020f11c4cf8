-- Multipliers that are not negative bound column 0 of every solution of the program.
use Rattle.std.proofs.Common.{◌≡◌, ◌≢◌, ℕ, zero, suc, ◌<◌, refl, ap, ap₂, ◌∙◌, arith}
use lib.IntN.{ℤ, pos, ◌+ℤ◌, ◌-ℤ◌, ◌*ℤ◌}
use lib.Signed.{◌≤ℤ◌}
use borrow.Author.Differences.{same_out}
use Rattle.row_definitions.specs.Rows.{entry}
use Rattle.pivot_definitions.specs.Programs.{coefficient}
use Rattle.pivot_definitions.specs.Duality.{sum_below, row_sum, column_sum, objective_of, BoundHolds}
use Rattle.pivot_definitions.proofs.Ring.{dif_is, difs, dif_same, linear, mul_not_negative, zero_times}
use Rattle.pivot_definitions.proofs.Sums.{sum_scaled, sum_scaled_right, sum_one, sum_none}

plus_step : (x y u v h : ℤ) → (x +ℤ y) +ℤ (u +ℤ v) *ℤ h ≡ (x +ℤ u *ℤ h) +ℤ (y +ℤ v *ℤ h)
plus_step x y u v h = rw (dif_is x, dif_is y, dif_is u, dif_is v, dif_is h) (simp difs (dif_same _ _ _ _ (omega arith)))

sum_plus : (n : ℕ) (f g h : ℕ → ℤ) → sum_below n (λ k. (f k +ℤ g k) *ℤ h k) ≡ sum_below n (λ k. f k *ℤ h k) +ℤ sum_below n (λ k. g k *ℤ h k)
sum_plus zero f g h = refl
sum_plus (suc n) f g h = ap (λ x. x +ℤ (f n +ℤ g n) *ℤ h n) (sum_plus n f g h) ∙ plus_step (sum_below n (λ k. f k *ℤ h k)) (sum_below n (λ k. g k *ℤ h k)) (f n) (g n) (h n)

-- two sums change places
swapped : (n m : ℕ) (l : ℕ → ℤ) (a : ℕ → ℕ → ℤ) (y : ℕ → ℤ) → sum_below n (λ c. sum_below m (λ r. l r *ℤ a r c) *ℤ y c) ≡ sum_below m (λ r. l r *ℤ sum_below n (λ c. a r c *ℤ y c))
swapped n zero l a y = sum_none n (λ c. pos 0 *ℤ y c) (λ c h. zero_times (y c))
swapped n (suc m) l a y =
    sum_plus n (λ c. sum_below m (λ r. l r *ℤ a r c)) (λ c. l m *ℤ a m c) y
    ∙ ap₂ (λ x z. x +ℤ z) (swapped n m l a y) (sum_scaled n (l m) (a m) y)

sum_at_most : (n : ℕ) (f g : ℕ → ℤ) → ((k : ℕ) → k < n → f k ≤ℤ g k) → sum_below n f ≤ℤ sum_below n g
sum_at_most zero f g each = omega (arith, linear)
sum_at_most (suc n) f g each = (let x = sum_at_most n f g (λ k h. each k (omega arith)) in let y = each n (omega arith) in omega (arith, linear, x, y))

difference_left : (a b h : ℤ) → (b -ℤ a) *ℤ h ≡ b *ℤ h -ℤ a *ℤ h
difference_left a b h = rw (dif_is a, dif_is b, dif_is h) (simp difs (dif_same _ _ _ _ (omega arith)))

difference_right : (h a b : ℤ) → h *ℤ (b -ℤ a) ≡ h *ℤ b -ℤ h *ℤ a
difference_right h a b = rw (dif_is a, dif_is b, dif_is h) (simp difs (dif_same _ _ _ _ (omega arith)))

times_left : (a b h : ℤ) → a ≤ℤ b → pos 0 ≤ℤ h → (a *ℤ h) ≤ℤ (b *ℤ h)
times_left a b h less positive = (let x = mul_not_negative (b -ℤ a) h (omega (arith, linear)) positive in let e = difference_left a b h in omega (arith, linear, x, same_out _ _ e))

times_right : (h a b : ℤ) → pos 0 ≤ℤ h → a ≤ℤ b → (h *ℤ a) ≤ℤ (h *ℤ b)
times_right h a b positive less = (let x = mul_not_negative h (b -ℤ a) positive (omega (arith, linear)) in let e = difference_right h a b in omega (arith, linear, x, same_out _ _ e))

times_one : (x y : ℤ) → (x *ℤ pos 1) *ℤ y ≡ x *ℤ y
times_one x y = rw (dif_is x, dif_is y) (simp difs (dif_same _ _ _ _ (omega arith)))

none : (x y : ℤ) → (x *ℤ pos 0) *ℤ y ≡ pos 0
none x y = rw (dif_is x, dif_is y) (simp difs (dif_same _ _ _ _ (omega arith)))

no_objective : (k : ℕ) → k ≢ 0 → objective_of k ≡ pos 0
no_objective zero differ = absurd (differ refl)
no_objective (suc k) differ = refl

pub bound_holds : BoundHolds
bound_holds program multiplier scale times point is bounds solution =
    let level : sum_below program.columns (λ c. (scale *ℤ objective_of c) *ℤ point c) ≡ scale *ℤ point 0 =
    sum_one program.columns 0 (λ c. (scale *ℤ objective_of c) *ℤ point c) is.some_column (λ c h differ. ap (λ x. (scale *ℤ x) *ℤ point c) (no_objective c differ) ∙ none scale (point c)) ∙ times_one scale (point 0) in
    let columns = sum_at_most program.columns (λ c. (scale *ℤ objective_of c) *ℤ point c) (λ c. column_sum program multiplier c *ℤ point c) (λ c h. times_left (scale *ℤ objective_of c) (column_sum program multiplier c) (point c) (bounds.covers c h) (solution.not_negative c h)) in
    let change = swapped program.columns program.rows multiplier (coefficient program) point in
    let rows = sum_at_most program.rows (λ r. multiplier r *ℤ row_sum program r point) (λ r. multiplier r *ℤ (times *ℤ entry program.right_sides r)) (λ r h. times_right (multiplier r) (row_sum program r point) (times *ℤ entry program.right_sides r) (bounds.not_negative r h) (solution.satisfies r h)) in
    let right = sum_scaled_right program.rows times multiplier (entry program.right_sides) in
    omega (arith, linear, same_out _ _ level, columns, same_out _ _ change, rows, same_out _ _ right)
