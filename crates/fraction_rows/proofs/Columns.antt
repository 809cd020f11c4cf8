-- What the two products and the difference in a column say of the combination there.
use Rattle.std.proofs.Common.{◌≡◌, ℤ, ◌-ℤ◌, ◌*ℤ◌, Option, Some, None, SomeIff, subst, sym, ap₂, ◌∙◌, is_some, true, false, true≢false, refl, ◌↔◌}
use Rattle.std.specs.Prelude.{IsTrue}
use Rattle.row_definitions.specs.Combination.{FitsEntry, ProductsFit}

pub entry_from_products : (a b t p u v : ℤ) (r : Option ℤ) → FitsEntry (a *ℤ t) → u ≡ a *ℤ t → FitsEntry (b *ℤ p) → v ≡ b *ℤ p → SomeIff r (FitsEntry (u -ℤ v)) (u -ℤ v) → SomeIff r (ProductsFit a b t p) (a *ℤ t -ℤ b *ℤ p)
entry_from_products a b t p u v None fu eu fv ev h = λ w. h (subst FitsEntry (sym (ap₂ (λ y z. y -ℤ z) eu ev)) w.difference)
entry_from_products a b t p u v (Some x) fu eu fv ev h =
    let e = ap₂ (λ y z. y -ℤ z) eu ev in
    (record { target_product = fu; pivot_product = fv; difference = subst FitsEntry e h.0 }, h.1 ∙ e)

pub fails_from_none : {P : Type 0} (r : Option ℤ) (v : ℤ) → SomeIff r P v → is_some r ≡ false → ¬ P
fails_from_none None v h e = h
fails_from_none (Some x) v h e = absurd (true≢false e)

pub holds_from_some : {P : Type 0} (r : Option ℤ) (v : ℤ) → SomeIff r P v → is_some r ≡ true → P
holds_from_some None v h e = absurd (true≢false (sym e))
holds_from_some (Some x) v h e = h.0

pub fits_iff_some : {P : Type 0} (r : Option ℤ) (v : ℤ) → SomeIff r P v → IsTrue (is_some r) ↔ P
fits_iff_some None v h = ((λ e. absurd (true≢false (sym e))), λ fits. absurd (h fits))
fits_iff_some (Some x) v h = ((λ e. h.0), λ fits. refl)
