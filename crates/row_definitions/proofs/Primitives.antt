-- A row is a positive multiple of its primitive, and rows of one direction have one primitive.
use Rattle.std.proofs.Common.{◌≡◌, ℕ, zero, suc, ◌*◌, ◌/◌, ◌<◌, List, [], ◌∷◌, map, ℤ, pos, ◌*ℤ◌, unsigned_abs, All, refl, sym, ap, ap₂, subst, ◌∙◌, arith, eq-zero-or-pos, inl, inr, ◌↔◌, ◌<ℤ◌, ◌≤◌, lt_of_le_of_lt}
use Rattle.std.specs.Int.{◌∣◌}
use Rattle.std.proofs.lemmas.Int.{unsigned_abs-mul}
use Rattle.std.proofs.lemmas.List.Elements.{All-map, All-weaker}
use Rattle.std.proofs.Math.IntN.{*ℤ-zero}
use Rattle.std.proofs.lemmas.Nat.Gcd.{dvd_antisymm, dvd_refl}
use Rattle.std.proofs.Math.Nat.{eq-zero_of_zero-dvd, mul-dvd-mul_left, dvd_of_mul-dvd-mul_left, dvd-mul_right, mul-div_cancel', eq-one_of_dvd-one}
use Rattle.row_definitions.specs.Rows.{entry, row_divisor, divided, primitive_row, scaled, IsPositiveMultiple, IsProportional}
use Rattle.row_definitions.specs.Combination.{FitsEntry}
use Rattle.row_definitions.specs.Laws.{IsNonZeroRow}
use Rattle.row_definitions.proofs.Numbers.{divided-exact, divided-scaled, divided-one, divided-zero, one-*ℤ, *ℤ_assoc, zero_from_size, unsigned_abs-divided-le, pos-of_multiple, multiple-pos, neg-of_multiple, multiple-neg}
use Rattle.row_definitions.proofs.Divisors.{Divides, Divides-entry, row_divisor_is}

-- a row is the divisor times the quotients
pub scaled-divided : (d : ℕ) (row : List ℤ) → Divides d row → scaled d (map (divided d) row) ≡ row
scaled-divided d [] h = refl
scaled-divided d (x ∷ row) h = ap₂ (λ y ys. y ∷ ys) (divided-exact d x h.0) (scaled-divided d row h.1)

pub scaled-primitive_row : (row : List ℤ) → scaled (row_divisor row) (primitive_row row) ≡ row
scaled-primitive_row row = scaled-divided (row_divisor row) row (row_divisor_is row).0

pub scaled-one : (row : List ℤ) → scaled 1 row ≡ row
scaled-one [] = refl
scaled-one (x ∷ row) = ap₂ (λ y ys. y ∷ ys) (one-*ℤ x) (scaled-one row)

pub entry-scaled : (k : ℕ) (row : List ℤ) (column : ℕ) → entry (scaled k row) column ≡ pos k *ℤ entry row column
entry-scaled k [] column = sym (*ℤ-zero (pos k))
entry-scaled k (x ∷ row) zero = refl
entry-scaled k (x ∷ row) (suc column) = entry-scaled k row column

-- two factors after another are their product
pub scaled-scaled : (k m : ℕ) (row : List ℤ) → scaled k (scaled m row) ≡ scaled (k * m) row
scaled-scaled k m [] = refl
scaled-scaled k m (x ∷ row) = ap₂ (λ y ys. y ∷ ys) (sym (*ℤ_assoc (pos k) (pos m) x)) (scaled-scaled k m row)

divided-one_row : (row : List ℤ) → map (divided 1) row ≡ row
divided-one_row [] = refl
divided-one_row (x ∷ row) = ap₂ (λ y ys. y ∷ ys) (divided-one x) (divided-one_row row)

-- zeros stay, whatever they are divided by
zeros_divided : (g : ℕ) (row : List ℤ) → Divides 0 row → map (divided g) row ≡ row
zeros_divided g [] h = refl
zeros_divided g (x ∷ row) h =
    let zero_entry = zero_from_size x (eq-zero_of_zero-dvd h.0) in
    ap₂ (λ y ys. y ∷ ys) (ap (divided g) zero_entry ∙ divided-zero g ∙ sym zero_entry) (zeros_divided g row h.1)

zeros_of_no_entry : (row : List ℤ) → ¬ IsNonZeroRow row → Divides 0 row
zeros_of_no_entry [] h = tt
zeros_of_no_entry (x ∷ row) h = (
  elim (eq-zero-or-pos (unsigned_abs x)) [
    | inl none ↦ subst (λ n. 0 ∣ n) (sym none) (dvd_refl 0)
    | inr some ↦ absurd (h (0, some))
  ],
  zeros_of_no_entry row (λ w. h (suc w.0, w.1)),
)

pub primitive_row-zeros : (row : List ℤ) → ¬ IsNonZeroRow row → primitive_row row ≡ row
primitive_row-zeros row h = zeros_divided (row_divisor row) row (zeros_of_no_entry row h)

-- the divisor of a row with an entry other than 0 is above 0
pub row_divisor-pos : (row : List ℤ) → IsNonZeroRow row → 0 < row_divisor row
row_divisor-pos row w = divisor-pos (row_divisor row) (unsigned_abs (entry row w.0)) (Divides-entry (row_divisor row) row w.0 (row_divisor_is row).0) w.1
  where
    divisor-pos : (g n : ℕ) → g ∣ n → 0 < n → 0 < g
    divisor-pos zero n h p = let e = eq-zero_of_zero-dvd h in omega arith
    divisor-pos (suc g) n h p = omega arith

-- each row is a positive multiple of its primitive
pub IsPositiveMultiple-primitive_row : (row : List ℤ) → IsPositiveMultiple row (primitive_row row)
IsPositiveMultiple-primitive_row row = by_divisor (row_divisor row) refl
  where
    by_divisor : (g : ℕ) → row_divisor row ≡ g → IsPositiveMultiple row (primitive_row row)
    by_divisor zero e =
        let zeros : Divides 0 row = subst (λ g. Divides g row) e (row_divisor_is row).0 in
        record { factor = 1; above_zero = omega arith; is = sym (scaled-one (primitive_row row) ∙ zeros_divided (row_divisor row) row zeros) }
    by_divisor (suc g) e = record { factor = row_divisor row; above_zero = omega arith; is = sym (scaled-primitive_row row) }

-- ---- the divisor of a multiple

Divides-scaled : (k d : ℕ) (row : List ℤ) → Divides d row → Divides (k * d) (scaled k row)
Divides-scaled k d [] h = tt
Divides-scaled k d (x ∷ row) h =
    (subst (λ n. k * d ∣ n) (sym (unsigned_abs-mul (pos k) x)) (mul-dvd-mul_left d k h.0), Divides-scaled k d row h.1)

Divides-factor : (k : ℕ) (row : List ℤ) → Divides k (scaled k row)
Divides-factor k [] = tt
Divides-factor k (x ∷ row) =
    (subst (λ n. k ∣ n) (sym (unsigned_abs-mul (pos k) x)) (dvd-mul_right k (unsigned_abs x)), Divides-factor k row)

Divides-cancel : (k d : ℕ) (row : List ℤ) → 0 < k → Divides (k * d) (scaled k row) → Divides d row
Divides-cancel k d [] h w = tt
Divides-cancel k d (x ∷ row) h w =
    (dvd_of_mul-dvd-mul_left d h (subst (λ n. k * d ∣ n) (unsigned_abs-mul (pos k) x) w.0), Divides-cancel k d row h w.1)

pub row_divisor-scaled : (k : ℕ) (row : List ℤ) → 0 < k → row_divisor (scaled k row) ≡ k * row_divisor row
row_divisor-scaled k row h =
    let is = row_divisor_is row in
    let scaled_is = row_divisor_is (scaled k row) in
    let whole = row_divisor (scaled k row) in
    let by_factor : k * (whole / k) ≡ whole = mul-div_cancel' k (scaled_is.1 k (Divides-factor k row)) in
    let rest = Divides-cancel k (whole / k) row h (subst (λ d. Divides d (scaled k row)) (sym by_factor) scaled_is.0) in
    dvd_antisymm
    (subst (λ d. d ∣ k * row_divisor row) by_factor (mul-dvd-mul_left (whole / k) k (is.1 (whole / k) rest)))
    (scaled_is.1 (k * row_divisor row) (Divides-scaled k (row_divisor row) row is.0))

divided-scaled_row : (k g : ℕ) (row : List ℤ) → 0 < k → map (divided (k * g)) (scaled k row) ≡ map (divided g) row
divided-scaled_row k g [] h = refl
divided-scaled_row k g (x ∷ row) h = ap₂ (λ y ys. y ∷ ys) (divided-scaled k g x h) (divided-scaled_row k g row h)

-- a positive multiple has the same primitive
pub primitive_row-scaled : (k : ℕ) (row : List ℤ) → 0 < k → primitive_row (scaled k row) ≡ primitive_row row
primitive_row-scaled k row h =
    ap (λ g. map (divided g) (scaled k row)) (row_divisor-scaled k row h) ∙ divided-scaled_row k (row_divisor row) row h

pub primitive_row-multiple : (row of : List ℤ) → IsPositiveMultiple row of → primitive_row row ≡ primitive_row of
primitive_row-multiple row of w = ap primitive_row w.is ∙ primitive_row-scaled w.factor of w.above_zero

pub primitive_row-proportional : (row other : List ℤ) → IsProportional row other → primitive_row row ≡ primitive_row other
primitive_row-proportional row other w =
    sym (primitive_row-scaled w.row_factor row w.row_above_zero) ∙ ap primitive_row w.meet ∙ primitive_row-scaled w.other_factor other w.other_above_zero

pub primitive_row-primitive_row : (row : List ℤ) → primitive_row (primitive_row row) ≡ primitive_row row
primitive_row-primitive_row row = sym (primitive_row-multiple row (primitive_row row) (IsPositiveMultiple-primitive_row row))

-- a row with an entry 1 or -1 stays
pub primitive_row-unit : (row : List ℤ) (column : ℕ) → unsigned_abs (entry row column) ≡ 1 → primitive_row row ≡ row
primitive_row-unit row column h =
    let one : row_divisor row ≡ 1 = eq-one_of_dvd-one (subst (λ n. row_divisor row ∣ n) h (Divides-entry (row_divisor row) row column (row_divisor_is row).0)) in
    ap (λ g. map (divided g) row) one ∙ divided-one_row row

pub signs-multiple : (row of : List ℤ) (column : ℕ) → IsPositiveMultiple row of → (pos 0 <ℤ entry row column ↔ pos 0 <ℤ entry of column) × (entry row column <ℤ pos 0 ↔ entry of column <ℤ pos 0)
signs-multiple row of column w =
    let k = w.factor in
    let x = entry of column in
    let e : entry row column ≡ pos k *ℤ x = ap (λ r. entry r column) w.is ∙ entry-scaled k of column in (
      ((λ h. pos-of_multiple k x (subst (λ y. pos 0 <ℤ y) e h)), (λ h. subst (λ y. pos 0 <ℤ y) (sym e) (multiple-pos k x w.above_zero h))),
      ((λ h. neg-of_multiple k x (subst (λ y. y <ℤ pos 0) e h)), (λ h. subst (λ y. y <ℤ pos 0) (sym e) (multiple-neg k x w.above_zero h))),
    )

-- a row with no divisor above 1 is its own primitive
pub primitive_row-undivided : (row : List ℤ) → row_divisor row ≤ 1 → primitive_row row ≡ row
primitive_row-undivided row h = by_divisor (row_divisor row) refl h
  where
    by_divisor : (g : ℕ) → row_divisor row ≡ g → g ≤ 1 → primitive_row row ≡ row
    by_divisor zero e h = zeros_divided (row_divisor row) row (subst (λ g. Divides g row) e (row_divisor_is row).0)
    by_divisor (suc zero) e h = ap (λ g. map (divided g) row) e ∙ divided-one_row row
    by_divisor (suc (suc g)) e h = absurd (omega arith)

-- ---- what an entry may be

fits_divided : (g : ℕ) (x : ℤ) → FitsEntry x → FitsEntry (divided g x)
fits_divided g x h = lt_of_le_of_lt (unsigned_abs-divided-le g x) h

pub FitsEntry-primitive_row : (row : List ℤ) → All FitsEntry row → All FitsEntry (primitive_row row)
FitsEntry-primitive_row row h =
    All-map FitsEntry (divided (row_divisor row)) row (All-weaker FitsEntry (λ x. FitsEntry (divided (row_divisor row) x)) (λ x. fits_divided (row_divisor row) x) row h)
