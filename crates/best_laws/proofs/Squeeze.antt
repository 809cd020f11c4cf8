-- The level of the program lies between what its stakes win and what its measure lets any stakes win.
use Rattle.std.proofs.Common.{◌≡◌, sym, ap, ◌∙◌, arith}
use lib.IntN.{ℤ, pos, ◌-ℤ◌, ◌*ℤ◌}
use lib.Signed.{◌<ℤ◌, ◌≤ℤ◌}
use borrow.Author.Differences.{same_out}
use Rattle.pivot_definitions.proofs.Ring.{dif_is, difs, dif_same, linear, assoc, mul_pos, mul_not_negative, at_most_from_product}

pub swap : (a b c : ℤ) → a *ℤ (b *ℤ c) ≡ b *ℤ (a *ℤ c)
swap a b c = rw (dif_is a, dif_is b, dif_is c) (simp difs (dif_same _ _ _ _ (omega arith)))

pub turned : (a b : ℤ) → a *ℤ b ≡ b *ℤ a
turned a b = rw (dif_is a, dif_is b) (simp difs (dif_same _ _ _ _ (omega arith)))

pub times_at_most : (d a b : ℤ) → pos 0 ≤ℤ d → a ≤ℤ b → (d *ℤ a) ≤ℤ (d *ℤ b)
times_at_most d a b h k =
    let x = mul_not_negative d (b -ℤ a) h (omega (arith, linear, k)) in
    let e : d *ℤ (b -ℤ a) ≡ d *ℤ b -ℤ d *ℤ a = rw (dif_is d, dif_is a, dif_is b) (simp difs (dif_same _ _ _ _ (omega arith))) in
    omega (arith, linear, x, same_out _ _ e)

-- the reach over what the measure weighs is at most the least gain: g divides the weights, d the parts, and u is asked for
pub squeezed : (g d u f r least s t p total : ℤ) → pos 0 <ℤ g → pos 0 ≤ℤ d → pos 0 ≤ℤ f → pos 0 <ℤ t → pos 0 ≤ℤ p → (g *ℤ r) ≤ℤ total → s ≤ℤ (g *ℤ (u *ℤ f)) → s *ℤ p ≡ t *ℤ total → (d *ℤ (u *ℤ p)) ≤ℤ (t *ℤ least) → (d *ℤ r) ≤ℤ (f *ℤ least)
squeezed g d u f r least s t p total gs ds fs ts ps most enough ties gains =
    let g_some : pos 0 ≤ℤ g = omega (arith, linear, gs) in
    let t_some : pos 0 ≤ℤ t = omega (arith, linear, ts) in
    let first = times_at_most d (t *ℤ (g *ℤ r)) (t *ℤ total) ds (times_at_most t (g *ℤ r) total t_some most) in
    let second = times_at_most d (p *ℤ s) (p *ℤ (g *ℤ (u *ℤ f))) ds (times_at_most p s (g *ℤ (u *ℤ f)) ps enough) in
    let third = times_at_most (g *ℤ f) (d *ℤ (u *ℤ p)) (t *ℤ least) (mul_not_negative g f g_some fs) gains in
    let left : (g *ℤ t) *ℤ (d *ℤ r) ≡ d *ℤ (t *ℤ (g *ℤ r)) = swap (g *ℤ t) d r ∙ ap (λ z. d *ℤ z) (sym (assoc g t r) ∙ swap g t r) in
    let mid : d *ℤ (t *ℤ total) ≡ d *ℤ (p *ℤ s) = ap (λ z. d *ℤ z) (sym ties ∙ turned s p) in
    let inner : p *ℤ (g *ℤ (u *ℤ f)) ≡ (g *ℤ f) *ℤ (u *ℤ p) = swap p g (u *ℤ f) ∙ ap (λ z. g *ℤ z) (swap p u f ∙ ap (λ z. u *ℤ z) (turned p f) ∙ swap u f p) ∙ assoc g f (u *ℤ p) in
    let middle : d *ℤ (p *ℤ (g *ℤ (u *ℤ f))) ≡ (g *ℤ f) *ℤ (d *ℤ (u *ℤ p)) = ap (λ z. d *ℤ z) inner ∙ swap d (g *ℤ f) (u *ℤ p) in
    let right : (g *ℤ f) *ℤ (t *ℤ least) ≡ (g *ℤ t) *ℤ (f *ℤ least) = sym (assoc g f (t *ℤ least)) ∙ ap (λ z. g *ℤ z) (swap f t least) ∙ assoc g t (f *ℤ least) in
    at_most_from_product (g *ℤ t) (d *ℤ r) (f *ℤ least) (mul_pos g t gs ts)
    (omega (arith, linear, first, second, third, same_out _ _ left, same_out _ _ mid, same_out _ _ middle, same_out _ _ right))
