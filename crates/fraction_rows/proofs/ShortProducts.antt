-- A combination whose products have at most 126 bits passes nowhere.
use Rattle.std.proofs.Common.{ℕ, ◌+◌, ◌*◌, ◌<◌, ◌≤◌, ◌^◌, List, length, ℤ, pos, ◌-ℤ◌, ◌*ℤ◌, unsigned_abs, All, subst, sym, inl, inr, arith, lt_of_le_of_lt, lt_of_lt_of_le, le_of_lt, mul-le-mul_left, mul-le-mul_right, mul-lt-mul_of_pos_right, pow_pos, pow_mono, pow-add}
use Rattle.std.proofs.lemmas.Bool.{cases_lt}
use Rattle.std.proofs.lemmas.Int.{ints, unsigned_abs-mul}
use Rattle.std.proofs.lemmas.List.{get_or_past}
use Rattle.std.proofs.lemmas.List.Elements.{All-get_or}
use Rattle.row_definitions.specs.Rows.{entry, divided}
use Rattle.row_definitions.specs.Combination.{ProductsFit, PassesNowhere, target_factor, pivot_factor}
use Rattle.row_definitions.proofs.Numbers.{unsigned_abs-divided-le}
use Rattle.fraction_rows.specs.BitLengths.{HasBits}

entry-bits : (k : ℕ) (row : List ℤ) (column : ℕ) → All (HasBits k) row → HasBits k (entry row column)
entry-bits k row column h =
    elim (cases_lt column (length row)) [
      | inl within ↦ All-get_or (HasBits k) row column (pos 0) within h
      | inr past ↦ subst (HasBits k) (sym (get_or_past row column (pos 0) past)) (pow_pos k)
    ]

product-below : (m n j k most : ℕ) → m < 2 ^ j → n < 2 ^ k → j + k ≤ most → m * n < 2 ^ most
product-below m n j k most p q few =
    let product : m * n < 2 ^ j * 2 ^ k = lt_of_le_of_lt (mul-le-mul_left m (le_of_lt q)) (mul-lt-mul_of_pos_right p (pow_pos k)) in
    lt_of_lt_of_le (subst (λ z. m * n < z) (sym (pow-add 2 j k)) product) (pow_mono few)

-- the bits of a product are at most those of both numbers together
pub product-short : (x y : ℤ) (j k most : ℕ) → HasBits j x → HasBits k y → j + k ≤ most → HasBits most (x *ℤ y)
product-short x y j k most p q few = subst (λ n. n < 2 ^ most) (sym (unsigned_abs-mul x y)) (product-below (unsigned_abs x) (unsigned_abs y) j k most p q few)

-- products by a quotient of a number are no longer than those by the number
pub quotient-short : (g bits most : ℕ) (factor : ℤ) → ((x : ℤ) → HasBits bits x → HasBits most (factor *ℤ x)) → (x : ℤ) → HasBits bits x → HasBits most (divided g factor *ℤ x)
quotient-short g bits most factor short x has =
    let size : unsigned_abs (divided g factor) * unsigned_abs x ≤ unsigned_abs factor * unsigned_abs x = mul-le-mul_right (unsigned_abs x) (unsigned_abs-divided-le g factor) in
    let whole : unsigned_abs factor * unsigned_abs x < 2 ^ most = subst (λ n. n < 2 ^ most) (unsigned_abs-mul factor x) (short x has) in
    subst (λ n. n < 2 ^ most) (sym (unsigned_abs-mul (divided g factor) x)) (lt_of_le_of_lt size whole)

pub difference-le : (x y : ℤ) → unsigned_abs (x -ℤ y) ≤ unsigned_abs x + unsigned_abs y
difference-le x y = omega (arith, ints)

products-fit : (a b t p : ℤ) → HasBits 126 (a *ℤ t) → HasBits 126 (b *ℤ p) → ProductsFit a b t p
products-fit a b t p first second =
    let sum = difference-le (a *ℤ t) (b *ℤ p) in
    record { target_product = omega arith; pivot_product = omega arith; difference = omega arith }

pub short-passes_nowhere : (target pivot : List ℤ) (at j k : ℕ) → All (HasBits j) target → All (HasBits k) pivot
    → ((x : ℤ) → HasBits j x → HasBits 126 (target_factor target pivot at *ℤ x))
    → ((x : ℤ) → HasBits k x → HasBits 126 (pivot_factor target pivot at *ℤ x))
    → PassesNowhere target pivot at
short-passes_nowhere target pivot at j k ht hp first second column below =
    products-fit (target_factor target pivot at) (pivot_factor target pivot at) (entry target column) (entry pivot column)
    (first (entry target column) (entry-bits j target column ht))
    (second (entry pivot column) (entry-bits k pivot column hp))
