-- A signed number times a natural one: sums, order and products.
use Rattle.std.proofs.Common.{◌≡◌, ℕ, zero, suc, arith, sym, ◌∙◌, ap}
use Rattle.std.specs.Prelude.{ℤ, pos, ◌+ℤ◌, ◌*ℤ◌, ◌≤ℤ◌}
use Rattle.std.proofs.lemmas.Int.{ints}
use lib.IntN.{zero-*ℤ, *ℤ-zero, suc_ℤ-*ℤ}

-- one more
pub times_suc : (w : ℕ) (z : ℤ) → pos (suc w) *ℤ z ≡ pos w *ℤ z +ℤ z
times_suc w z = suc_ℤ-*ℤ (pos w) z

-- four numbers in another order
pub regroup : (p q a b : ℤ) → (p +ℤ q) +ℤ (a +ℤ b) ≡ (p +ℤ a) +ℤ (q +ℤ b)
regroup p q a b = omega (arith, ints)

pub add_le : (p q a b : ℤ) → p ≤ℤ q → a ≤ℤ b → (p +ℤ a) ≤ℤ (q +ℤ b)
add_le p q a b h k = omega (arith, ints)

pub times-sum : (w : ℕ) (a b : ℤ) → pos w *ℤ (a +ℤ b) ≡ pos w *ℤ a +ℤ pos w *ℤ b
times-sum zero a b = zero-*ℤ (a +ℤ b) ∙ sym (ap (λ (z : ℤ). z +ℤ pos zero *ℤ b) (zero-*ℤ a) ∙ ap (λ (z : ℤ). pos zero +ℤ z) (zero-*ℤ b))
times-sum (suc w) a b =
    times_suc w (a +ℤ b) ∙ (ap (λ (z : ℤ). z +ℤ (a +ℤ b)) (times-sum w a b) ∙ (regroup (pos w *ℤ a) (pos w *ℤ b) a b ∙ sym (ap (λ (z : ℤ). z +ℤ pos (suc w) *ℤ b) (times_suc w a) ∙ ap (λ (z : ℤ). (pos w *ℤ a +ℤ a) +ℤ z) (times_suc w b))))

pub times_le : (w : ℕ) (a b : ℤ) → a ≤ℤ b → (pos w *ℤ a) ≤ℤ (pos w *ℤ b)
times_le zero a b h = rw (zero-*ℤ a, zero-*ℤ b) (omega (arith, ints))
times_le (suc w) a b h = rw (times_suc w a, times_suc w b) (add_le (pos w *ℤ a) (pos w *ℤ b) a b (times_le w a b h) h)

pub times_swap : (p w : ℕ) (z : ℤ) → pos p *ℤ (pos w *ℤ z) ≡ pos w *ℤ (pos p *ℤ z)
times_swap zero w z = zero-*ℤ (pos w *ℤ z) ∙ sym (ap (λ (y : ℤ). pos w *ℤ y) (zero-*ℤ z) ∙ *ℤ-zero (pos w))
times_swap (suc p) w z =
    times_suc p (pos w *ℤ z) ∙ (ap (λ (y : ℤ). y +ℤ pos w *ℤ z) (times_swap p w z) ∙ (sym (times-sum w (pos p *ℤ z) z) ∙ ap (λ (y : ℤ). pos w *ℤ y) (sym (times_suc p z))))
