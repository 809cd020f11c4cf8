-- The combination of kept forms is the kept form of the plain combination.
use Rattle.std.proofs.Common.{◌≡◌, ℕ, zero, suc, ◌*◌, ◌<◌, List, [], ◌∷◌, map, ℤ, pos, negsuc, ◌*ℤ◌, ◌-ℤ◌, ◌<ℤ◌, unsigned_abs, refl, sym, ap, ap₂, subst, ◌∙◌, arith, mul_comm, mul-pos, length, lit<, All}
use Rattle.std.proofs.lemmas.Int.{ints}
use Rattle.std.proofs.lemmas.List.Elements.{All-from_get_or}
use Rattle.std.proofs.lemmas.Nat.Gcd.{dvd_refl, dvd-zero}
use Rattle.std.proofs.Math.Nat.{div_self}
use Rattle.std.proofs.Math.IntN.{*ℤ-zero, zero-*ℤ, *ℤ_comm, +ℤ_invr, +ℤ_idr}
use Rattle.row_definitions.specs.Rows.{entry, row_divisor, divided, primitive_row, scaled, IsPositiveMultiple}
use Rattle.row_definitions.specs.Combination.{combination, plain_combination, column_divisor, target_factor, pivot_factor, reduced_combination, combined, FitsEntry, PassesNowhere}
use Rattle.row_definitions.proofs.Numbers.{*ℤ_assoc, *ℤ_swap, *ℤ--ℤ, one-*ℤ, divided-exact, divided-zero, not-below_zero, pos-of_multiple}
use Rattle.row_definitions.proofs.Divisors.{row_divisor_is, row_divisor_from}
use Rattle.row_definitions.proofs.Primitives.{entry-scaled, row_divisor-pos, primitive_row-scaled, scaled-scaled, IsPositiveMultiple-primitive_row}

-- both factors taken so many times
pub combination-scaled_factors : (k : ℕ) (a b : ℤ) (target pivot : List ℤ) → combination (pos k *ℤ a) (pos k *ℤ b) target pivot ≡ scaled k (combination a b target pivot)
combination-scaled_factors k a b [] pivot = refl
combination-scaled_factors k a b (t ∷ target) [] = refl
combination-scaled_factors k a b (t ∷ target) (p ∷ pivot) =
    ap₂ (λ y ys. y ∷ ys)
    (ap₂ (λ y z. y -ℤ z) (*ℤ_assoc (pos k) a t) (*ℤ_assoc (pos k) b p) ∙ sym (*ℤ--ℤ (pos k) (a *ℤ t) (b *ℤ p)))
    (combination-scaled_factors k a b target pivot)

-- both rows taken so many times, and each factor as often as the other row
combination-scaled_rows : (m n : ℕ) (a b : ℤ) (target pivot : List ℤ) → combination (pos n *ℤ a) (pos m *ℤ b) (scaled m target) (scaled n pivot) ≡ scaled (n * m) (combination a b target pivot)
combination-scaled_rows m n a b [] pivot = refl
combination-scaled_rows m n a b (t ∷ target) [] = refl
combination-scaled_rows m n a b (t ∷ target) (p ∷ pivot) =
    ap₂ (λ y ys. y ∷ ys)
    (ap₂ (λ y z. y -ℤ z)
    (*ℤ_swap (pos n) a (pos m) t)
    (*ℤ_swap (pos m) b (pos n) p ∙ ap (λ k. pos k *ℤ (b *ℤ p)) (mul_comm m n))
    ∙ sym (*ℤ--ℤ (pos (n * m)) (a *ℤ t) (b *ℤ p)))
    (combination-scaled_rows m n a b target pivot)

pub plain_combination-scaled : (m n : ℕ) (target pivot : List ℤ) (at : ℕ) → plain_combination (scaled m target) (scaled n pivot) at ≡ scaled (n * m) (plain_combination target pivot at)
plain_combination-scaled m n target pivot at =
    ap₂ (λ a b. combination a b (scaled m target) (scaled n pivot)) (entry-scaled n pivot at) (entry-scaled m target at)
    ∙ combination-scaled_rows m n (entry pivot at) (entry target at) target pivot

-- ---- the two entries of the column

pub size-pos : (x : ℤ) → pos 0 <ℤ x → 0 < unsigned_abs x
size-pos (pos n) h = omega (arith, ints)
size-pos (negsuc n) h = omega arith

pub column_divisor-pos : (target pivot : List ℤ) (at : ℕ) → pos 0 <ℤ entry pivot at → 0 < column_divisor target pivot at
column_divisor-pos target pivot at h = row_divisor-pos (entry pivot at ∷ entry target at ∷ []) (0, size-pos (entry pivot at) h)

pub target_factor-exact : (target pivot : List ℤ) (at : ℕ) → pos (column_divisor target pivot at) *ℤ target_factor target pivot at ≡ entry pivot at
target_factor-exact target pivot at =
    divided-exact (column_divisor target pivot at) (entry pivot at) (row_divisor_is (entry pivot at ∷ entry target at ∷ [])).0.0

pub pivot_factor-exact : (target pivot : List ℤ) (at : ℕ) → pos (column_divisor target pivot at) *ℤ pivot_factor target pivot at ≡ entry target at
pivot_factor-exact target pivot at =
    divided-exact (column_divisor target pivot at) (entry target at) (row_divisor_is (entry pivot at ∷ entry target at ∷ [])).0.1.0

-- the plain combination is the reduced one, as often as the two entries' divisor
pub plain_combination_is : (target pivot : List ℤ) (at : ℕ) → plain_combination target pivot at ≡ scaled (column_divisor target pivot at) (reduced_combination target pivot at)
plain_combination_is target pivot at =
    sym (ap₂ (λ a b. combination a b target pivot) (target_factor-exact target pivot at) (pivot_factor-exact target pivot at))
    ∙ combination-scaled_factors (column_divisor target pivot at) (target_factor target pivot at) (pivot_factor target pivot at) target pivot

-- ---- kept forms

pub combined_is_plain : (target pivot : List ℤ) (at : ℕ) → pos 0 <ℤ entry pivot at → combined target pivot at ≡ primitive_row (plain_combination target pivot at)
combined_is_plain target pivot at h =
    sym (ap primitive_row (plain_combination_is target pivot at) ∙ primitive_row-scaled (column_divisor target pivot at) (reduced_combination target pivot at) (column_divisor-pos target pivot at h))

pub combined_of_kept_forms : (target pivot : List ℤ) (at : ℕ) → pos 0 <ℤ entry pivot at → combined (primitive_row target) (primitive_row pivot) at ≡ primitive_row (plain_combination target pivot at)
combined_of_kept_forms target pivot at h =
    let t = primitive_row target in
    let p = primitive_row pivot in
    let whole_target = IsPositiveMultiple-primitive_row target in
    let whole_pivot = IsPositiveMultiple-primitive_row pivot in
    let m = whole_target.factor in
    let n = whole_pivot.factor in
    let above = pos-of_multiple n (entry p at) (subst (λ x. pos 0 <ℤ x) (ap (λ row. entry row at) whole_pivot.is ∙ entry-scaled n p at) h) in
    combined_is_plain t p at above
    ∙ sym (primitive_row-scaled (n * m) (plain_combination t p at) (mul-pos whole_pivot.above_zero whole_target.above_zero))
    ∙ ap primitive_row (sym (ap₂ (λ r s. plain_combination r s at) whole_target.is whole_pivot.is ∙ plain_combination-scaled m n t p at))

-- ---- by columns

pub length-combination : (a b : ℤ) (target pivot : List ℤ) → length target ≡ length pivot → length (combination a b target pivot) ≡ length target
length-combination a b [] pivot h = refl
length-combination a b (t ∷ target) [] h = absurd (omega arith)
length-combination a b (t ∷ target) (p ∷ pivot) h = ap suc (length-combination a b target pivot (omega arith))

zero_difference : (a b : ℤ) → pos 0 ≡ a *ℤ pos 0 -ℤ b *ℤ pos 0
zero_difference a b = sym (ap₂ (λ y z. y -ℤ z) (*ℤ-zero a) (*ℤ-zero b))

pub entry-combination : (a b : ℤ) (target pivot : List ℤ) (column : ℕ) → length target ≡ length pivot → entry (combination a b target pivot) column ≡ a *ℤ entry target column -ℤ b *ℤ entry pivot column
entry-combination a b [] [] column h = zero_difference a b
entry-combination a b [] (p ∷ pivot) column h = absurd (omega arith)
entry-combination a b (t ∷ target) [] column h = absurd (omega arith)
entry-combination a b (t ∷ target) (p ∷ pivot) zero h = refl
entry-combination a b (t ∷ target) (p ∷ pivot) (suc column) h = entry-combination a b target pivot column (omega arith)

-- an entry of a row that was divided
pub entry-divided : (g : ℕ) (row : List ℤ) (column : ℕ) → entry (map (divided g) row) column ≡ divided g (entry row column)
entry-divided g [] column = sym (divided-zero g)
entry-divided g (x ∷ row) zero = refl
entry-divided g (x ∷ row) (suc column) = entry-divided g row column

-- the combination is 0 in its column: both products there are the two factors and the divisor
products-meet : (g : ℕ) (a b : ℤ) → a *ℤ (pos g *ℤ b) ≡ b *ℤ (pos g *ℤ a)
products-meet g a b = *ℤ_comm a (pos g *ℤ b) ∙ *ℤ_assoc (pos g) b a ∙ ap (λ z. pos g *ℤ z) (*ℤ_comm b a) ∙ sym (*ℤ_assoc (pos g) a b) ∙ *ℤ_comm (pos g *ℤ a) b

entry-reduced_combination : (target pivot : List ℤ) (at : ℕ) → length target ≡ length pivot → entry (reduced_combination target pivot at) at ≡ pos 0
entry-reduced_combination target pivot at h =
    let g = column_divisor target pivot at in
    let a = target_factor target pivot at in
    let b = pivot_factor target pivot at in
    entry-combination a b target pivot at h
    ∙ sym (ap₂ (λ t p. a *ℤ t -ℤ b *ℤ p) (pivot_factor-exact target pivot at) (target_factor-exact target pivot at))
    ∙ ap (λ z. z -ℤ b *ℤ (pos g *ℤ a)) (products-meet g a b)
    ∙ +ℤ_invr (b *ℤ (pos g *ℤ a))

pub entry-combined : (target pivot : List ℤ) (at : ℕ) → length target ≡ length pivot → entry (combined target pivot at) at ≡ pos 0
entry-combined target pivot at h =
    let g = row_divisor (reduced_combination target pivot at) in
    entry-divided g (reduced_combination target pivot at) at ∙ ap (divided g) (entry-reduced_combination target pivot at h) ∙ divided-zero g

-- ---- a target that is 0 in the column

divided_by_itself : (x : ℤ) → pos 0 <ℤ x → divided (unsigned_abs x) x ≡ pos 1
divided_by_itself (pos zero) h = absurd (not-below_zero 0 h)
divided_by_itself (pos (suc n)) h = ap pos (div_self (omega arith))
divided_by_itself (negsuc n) h = absurd (not-below_zero (suc n) h)

size_is_divisor : (x : ℤ) → unsigned_abs x ≡ row_divisor (x ∷ pos 0 ∷ [])
size_is_divisor x = row_divisor_from (x ∷ pos 0 ∷ []) (unsigned_abs x) ((dvd_refl (unsigned_abs x), (dvd-zero (unsigned_abs x), tt)), λ d w. w.0)

pub target_factor-zero : (target pivot : List ℤ) (at : ℕ) → pos 0 <ℤ entry pivot at → entry target at ≡ pos 0 → target_factor target pivot at ≡ pos 1
target_factor-zero target pivot at h z =
    ap (λ t. divided (row_divisor (entry pivot at ∷ t ∷ [])) (entry pivot at)) z
    ∙ sym (ap (λ g. divided g (entry pivot at)) (size_is_divisor (entry pivot at)))
    ∙ divided_by_itself (entry pivot at) h

pub pivot_factor-zero : (target pivot : List ℤ) (at : ℕ) → entry target at ≡ pos 0 → pivot_factor target pivot at ≡ pos 0
pivot_factor-zero target pivot at z = ap (divided (column_divisor target pivot at)) z ∙ divided-zero (column_divisor target pivot at)

difference-zero : (x y : ℤ) → pos 1 *ℤ x -ℤ pos 0 *ℤ y ≡ x
difference-zero x y = ap₂ (λ a b. a -ℤ b) (one-*ℤ x) (zero-*ℤ y) ∙ +ℤ_idr x

combination-zero : (target pivot : List ℤ) → length target ≡ length pivot → combination (pos 1) (pos 0) target pivot ≡ target
combination-zero [] pivot h = refl
combination-zero (t ∷ target) [] h = absurd (omega arith)
combination-zero (t ∷ target) (p ∷ pivot) h = ap₂ (λ y ys. y ∷ ys) (difference-zero t p) (combination-zero target pivot (omega arith))

pub combined-zero : (target pivot : List ℤ) (at : ℕ) → length target ≡ length pivot → pos 0 <ℤ entry pivot at → entry target at ≡ pos 0 → combined target pivot at ≡ primitive_row target
combined-zero target pivot at e h z =
    ap primitive_row (ap₂ (λ a b. combination a b target pivot) (target_factor-zero target pivot at h z) (pivot_factor-zero target pivot at z) ∙ combination-zero target pivot e)

pub fits-zero : (target pivot : List ℤ) (at : ℕ) → All FitsEntry target → pos 0 <ℤ entry pivot at → entry target at ≡ pos 0 → PassesNowhere target pivot at
fits-zero target pivot at fits h z column below =
    let a = target_factor-zero target pivot at h z in
    let b = pivot_factor-zero target pivot at z in
    let t = entry target column in
    let p = entry pivot column in
    let entry_fits : FitsEntry t = fits column (pos 0) below in
    let zero_fits : FitsEntry (pos 0) = lit< tt in
    record {
      target_product = subst FitsEntry (sym (ap (λ f. f *ℤ t) a ∙ one-*ℤ t)) entry_fits;
      pivot_product = subst FitsEntry (sym (ap (λ f. f *ℤ p) b ∙ zero-*ℤ p)) zero_fits;
      difference = subst FitsEntry (sym (ap₂ (λ f g. f *ℤ t -ℤ g *ℤ p) a b ∙ difference-zero t p)) entry_fits;
    }

-- ---- the plain combination, and what the target becomes

pub IsPositiveMultiple-combined : (target pivot : List ℤ) (at : ℕ) → pos 0 <ℤ entry pivot at → IsPositiveMultiple (plain_combination target pivot at) (combined target pivot at)
IsPositiveMultiple-combined target pivot at h =
    let g = column_divisor target pivot at in
    let rest = IsPositiveMultiple-primitive_row (reduced_combination target pivot at) in
    record {
      factor = g * rest.factor;
      above_zero = mul-pos (column_divisor-pos target pivot at h) rest.above_zero;
      is = plain_combination_is target pivot at ∙ ap (scaled g) rest.is ∙ scaled-scaled g rest.factor (combined target pivot at);
    }

-- where the combination passes nowhere, its entries fit
pub FitsEntry-reduced_combination : (target pivot : List ℤ) (at : ℕ) → length target ≡ length pivot → PassesNowhere target pivot at → All FitsEntry (reduced_combination target pivot at)
FitsEntry-reduced_combination target pivot at e h =
    let a = target_factor target pivot at in
    let b = pivot_factor target pivot at in
    let n = length-combination a b target pivot e in
    All-from_get_or FitsEntry (reduced_combination target pivot at) (pos 0) (λ column below. subst FitsEntry (sym (entry-combination a b target pivot column e)) (h column (subst (λ m. column < m) n below)).difference)
