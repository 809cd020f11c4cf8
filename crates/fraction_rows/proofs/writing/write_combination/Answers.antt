use Rattle.std.proofs.Common.{◌≡◌, ◌∙◌, ℕ, ◌≤◌, ◌<◌, ◌^◌, List, ℤ, ◌*ℤ◌, get_or, All, ap, ap₂, subst, sym, SFits, of_z, to_z, to_z-of_z, lt_of_lt_of_le, pow_mono, rules, arith}
use Rattle.std.specs.Int.{w64, w128}
use Rattle.std.proofs.lemmas.Int.{fits_signed_from_abs}
use Rattle.row_definitions.specs.Combination.{combination}
use Rattle.fraction_rows.specs.BitLengths.{HasBits, IsShortBy}
use Rattle.fraction_rows.proofs.writing.write_combination.Goals as goal

-- a factor of so few bits is the same in 64
same_factor : (factor : ℤ) → SFits w128 factor → HasBits 62 (to_z w128 (of_z w128 factor)) → to_z w64 (of_z w64 (to_z w128 (of_z w128 factor))) ≡ factor
same_factor factor fits short =
    let few = subst (HasBits 62) (to_z-of_z fits) short in
    ap (λ z. to_z w64 (of_z w64 z)) (to_z-of_z fits) ∙ to_z-of_z (fits_signed_from_abs w64 factor (omega arith))

all_short : (factor : ℤ) (bits : ℕ) (row : List ℤ) → SFits w128 factor → bits ≤ 62 → ((x : ℤ) → HasBits bits x → HasBits 62 (to_z w128 (of_z w128 factor) *ℤ x)) → All (HasBits bits) row → All (IsShortBy factor) row
all_short factor bits row fits few short has = λ k d within. record {
  number = lt_of_lt_of_le (has k d within) (pow_mono few);
  product = (let x = get_or row k d in subst (λ f. HasBits 62 (f *ℤ x)) (to_z-of_z fits) (short x (has k d within)));
}

pub write_narrow-requires-clause-target : goal.write_narrow-requires-clause-target
write_narrow-requires-clause-target c =
    let factor = c.args.factors.target in
    let fits : SFits w128 factor = search rules in
    let says = c.products_are_short.ensures in
    subst (λ f. All (IsShortBy f) c.args.target.now) (sym (same_factor factor fits (says.factor c.if-products_are_short.true)))
    (all_short factor c.args.target_bits c.args.target.now fits (says.bits c.if-products_are_short.true) (says.product c.if-products_are_short.true) c.requires.target_bits)

pub write_narrow-requires-clause-pivot : goal.write_narrow-requires-clause-pivot
write_narrow-requires-clause-pivot c =
    let factor = c.args.factors.pivot in
    let fits : SFits w128 factor = search rules in
    let says = c.products_are_short-then-products_are_short.ensures in
    subst (λ f. All (IsShortBy f) c.args.pivot.now) (sym (same_factor factor fits (says.factor c.if-products_are_short-2.true)))
    (all_short factor c.args.pivot_bits c.args.pivot.now fits (says.bits c.if-products_are_short-2.true) (says.product c.if-products_are_short-2.true) c.requires.pivot_bits)

pub returns-then-products_are_short-2-clause-value : goal.returns-then-products_are_short-2-clause-value
returns-then-products_are_short-2-clause-value c =
    let target_fits : SFits w128 c.args.factors.target = search rules in
    let pivot_fits : SFits w128 c.args.factors.pivot = search rules in
    c.write_narrow.ensures.value
    ∙ ap₂ (λ a b. combination a b c.args.target.now c.args.pivot.now)
    (same_factor c.args.factors.target target_fits (c.products_are_short.ensures.factor c.if-products_are_short.true))
    (same_factor c.args.factors.pivot pivot_fits (c.products_are_short-then-products_are_short.ensures.factor c.if-products_are_short-2.true))
