-- Rows of which one is a multiple of the other with its signs turned, but for column 0: what fits in the one's combination with a
-- pivot row fits in the other's.
use Rattle.std.proofs.Common.{◌≡◌, ◌≢◌, ℕ, zero, suc, ◌*◌, ◌<◌, ◌≤◌, ◌^◌, List, [], ◌∷◌, map, length, refl, sym, ap, ap₂, ◌∙◌, subst, arith, inl, inr, mul-pos, mul-le-mul_right, eq-zero-or-pos, lit<}
use Rattle.std.proofs.lemmas.Bool.{cases_lt}
use Rattle.std.proofs.lemmas.List.{length-map}
use Rattle.std.specs.Int.{◌∣◌}
use Rattle.std.proofs.lemmas.Int.{unsigned_abs-mul}
use Rattle.std.proofs.lemmas.Nat.Gcd.{le_of_dvd, dvd_trans, dvd_refl}
use Rattle.std.proofs.Math.Nat.{dvd-mul_left}
use lib.IntN.{ℤ, pos, negsuc, ◌-ℤ◌, ◌*ℤ◌, neg_ℤ, nat_abs as unsigned_abs}
use lib.Signed.{◌<ℤ◌}
use Rattle.row_definitions.specs.Rows.{entry, row_divisor, primitive_row, scaled}
use Rattle.row_definitions.specs.Combination.{FitsEntry, column_divisor, target_factor, pivot_factor, PassesNowhere}
use Rattle.row_definitions.proofs.Numbers.{divided-exact}
use Rattle.row_definitions.proofs.Divisors.{row_divisor_is}
use Rattle.row_definitions.proofs.Primitives.{IsPositiveMultiple-primitive_row, entry-scaled, primitive_row-proportional, row_divisor-scaled}
use Rattle.row_definitions.proofs.Combinations.{column_divisor-pos, size-pos}
use Rattle.pivot_definitions.proofs.Ring.{by_eq, dif_is, difs, dif_same, linear, times_zero, same_from_product}

-- ---- sizes

abs-neg : (x : ℤ) → unsigned_abs (neg_ℤ x) ≡ unsigned_abs x
abs-neg (pos zero) = refl
abs-neg (pos (suc n)) = refl
abs-neg (negsuc n) = refl

share_le : (G g x y : ℕ) → 0 < g → g ≤ G → G * x ≡ g * y → x ≤ y
share_le G g x y h le e = elim (cases_lt y x) [
  | inl below ↦
      (let most : suc y * g ≤ x * g = mul-le-mul_right g below in
      let more : g * x ≤ G * x = mul-le-mul_right x le in
      absurd (omega (arith, most, more)))
  | inr done ↦ done
]

-- a product by the greater number is the smaller by size
pub fits_share : (G g : ℕ) (x y : ℤ) → 0 < g → g ≤ G → unsigned_abs (pos G *ℤ x) ≡ unsigned_abs (pos g *ℤ y) → FitsEntry y → FitsEntry x
fits_share G g x y h le e fits =
    let same : G * unsigned_abs x ≡ g * unsigned_abs y = sym (unsigned_abs-mul (pos G) x) ∙ e ∙ unsigned_abs-mul (pos g) y in
    let less = share_le G g (unsigned_abs x) (unsigned_abs y) h le same in
    omega (arith, less, fits)

-- ---- lists

pub same_rows : (r s : List ℤ) → length r ≡ length s → ((k : ℕ) → entry r k ≡ entry s k) → r ≡ s
same_rows [] [] e each = refl
same_rows [] (y ∷ s) e each = absurd (omega arith)
same_rows (x ∷ r) [] e each = absurd (omega arith)
same_rows (x ∷ r) (y ∷ s) e each = ap₂ (λ z zs. z ∷ zs) (each 0) (same_rows r s (omega arith) (λ k. each (suc k)))

-- a row with its signs turned and 0 in column 0
abbrev turned : List ℤ → List ℤ
turned [] = []
turned (x ∷ row) = pos 0 ∷ map neg_ℤ row

turned-zero : (row : List ℤ) → entry (turned row) 0 ≡ pos 0
turned-zero [] = refl
turned-zero (x ∷ row) = refl

turned-length : (row : List ℤ) → length (turned row) ≡ length row
turned-length [] = refl
turned-length (x ∷ row) = ap suc (length-map row neg_ℤ)

entry-negated : (row : List ℤ) (k : ℕ) → entry (map neg_ℤ row) k ≡ neg_ℤ (entry row k)
entry-negated [] k = refl
entry-negated (x ∷ row) zero = refl
entry-negated (x ∷ row) (suc k) = entry-negated row k

turned-entry : (row : List ℤ) (k : ℕ) → k ≢ 0 → entry (turned row) k ≡ neg_ℤ (entry row k)
turned-entry [] k differ = refl
turned-entry (x ∷ row) zero differ = absurd (differ refl)
turned-entry (x ∷ row) (suc k) differ = entry-negated row k

pub length-scaled : (k : ℕ) (row : List ℤ) → length (scaled k row) ≡ length row
length-scaled k row = length-map row (λ x. pos k *ℤ x)

-- ---- one row is a multiple of the other

-- but for column 0 the row is so many times the other with its signs turned, and there the other is 0
pub record IsTurnedMultiple (row of : List ℤ) (factor : ℕ) : Type 0 where
  pub above_zero : 0 < factor
  pub lengths : length row ≡ length of
  pub zero_there : entry of 0 ≡ pos 0
  pub elsewhere : (k : ℕ) → k ≢ 0 → entry row k ≡ neg_ℤ (pos factor *ℤ entry of k)

times-neg : (a x : ℤ) → a *ℤ neg_ℤ x ≡ neg_ℤ (a *ℤ x)
times-neg a x = rw (dif_is a, dif_is x) (simp difs (dif_same _ _ _ _ (omega arith)))

neg-twice : (x : ℤ) → neg_ℤ (neg_ℤ x) ≡ x
neg-twice x = omega (arith, linear)

-- a primitive row that is 0 in column 0, and of one direction with the other row turned, divides it
pub turned_multiple : (row of : List ℤ) (a b : ℕ) → 0 < a → 0 < b → length row ≡ length of → primitive_row of ≡ of → entry of 0 ≡ pos 0
    → ((k : ℕ) → k ≢ 0 → pos a *ℤ entry of k ≡ neg_ℤ (pos b *ℤ entry row k)) → (factor : ℕ) × IsTurnedMultiple row of factor
turned_multiple row of a b ha hb lengths primitive zero_there meet =
    let t = turned row in
    let same : scaled b t ≡ scaled a of = same_rows (scaled b t) (scaled a of) (length-scaled b t ∙ turned-length row ∙ lengths ∙ sym (length-scaled a of)) (λ k. by_eq k 0
    (λ e. entry-scaled b t k ∙ ap (λ n. pos b *ℤ entry t n) e ∙ ap (λ x. pos b *ℤ x) (turned-zero row) ∙ times_zero (pos b) ∙ sym (entry-scaled a of k ∙ ap (λ n. pos a *ℤ entry of n) e ∙ ap (λ x. pos a *ℤ x) zero_there ∙ times_zero (pos a)))
    (λ differ. entry-scaled b t k ∙ ap (λ x. pos b *ℤ x) (turned-entry row k differ) ∙ times-neg (pos b) (entry row k) ∙ sym (entry-scaled a of k ∙ meet k differ))) in
    let one : primitive_row t ≡ of = primitive_row-proportional t of (record { row_factor = b; other_factor = a; row_above_zero = hb; other_above_zero = ha; meet = same }) ∙ primitive in
    let m = IsPositiveMultiple-primitive_row t in (
      m.factor,
      record {
        above_zero = m.above_zero;
        lengths = lengths;
        zero_there = zero_there;
        elsewhere = λ k differ.
            (let turned_is : neg_ℤ (entry row k) ≡ pos m.factor *ℤ entry of k = sym (turned-entry row k differ) ∙ ap (λ r. entry r k) m.is ∙ entry-scaled m.factor (primitive_row t) k ∙ ap (λ r. pos m.factor *ℤ entry r k) one in
            sym (neg-twice (entry row k)) ∙ ap neg_ℤ turned_is);
      },
    )

-- ---- products and differences fit in the smaller row

exact_target : (target pivot : List ℤ) (q : ℕ) → pos (column_divisor target pivot q) *ℤ target_factor target pivot q ≡ entry pivot q
exact_target target pivot q = divided-exact (column_divisor target pivot q) (entry pivot q) (row_divisor_is (entry pivot q ∷ entry target q ∷ [])).0.0

exact_pivot : (target pivot : List ℤ) (q : ℕ) → pos (column_divisor target pivot q) *ℤ pivot_factor target pivot q ≡ entry target q
exact_pivot target pivot q = divided-exact (column_divisor target pivot q) (entry target q) (row_divisor_is (entry pivot q ∷ entry target q ∷ [])).0.1.0

-- the greater row's divisor is at most so many times the smaller's
divisor_share : (row of pivot : List ℤ) (q factor : ℕ) → IsTurnedMultiple row of factor → q ≢ 0 → pos 0 <ℤ entry pivot q → column_divisor row pivot q ≤ factor * column_divisor of pivot q
divisor_share row of pivot q factor is differ positive =
    let g = column_divisor row pivot q in
    let pair : List ℤ = entry pivot q ∷ entry of q ∷ [] in
    let whole : row_divisor (scaled factor pair) ≡ factor * row_divisor pair = row_divisor-scaled factor pair is.above_zero in
    let parts = (row_divisor_is (entry pivot q ∷ entry row q ∷ [])).0 in
    let size : unsigned_abs (pos factor *ℤ entry pivot q) ≡ factor * unsigned_abs (entry pivot q) = unsigned_abs-mul (pos factor) (entry pivot q) in
    let first : g ∣ unsigned_abs (pos factor *ℤ entry pivot q) = subst (λ n. g ∣ n) (sym size) (dvd_trans g parts.0 (dvd-mul_left (unsigned_abs (entry pivot q)) factor)) in
    let same : unsigned_abs (entry row q) ≡ unsigned_abs (pos factor *ℤ entry of q) = ap unsigned_abs (is.elsewhere q differ) ∙ abs-neg (pos factor *ℤ entry of q) in
    let second : g ∣ unsigned_abs (pos factor *ℤ entry of q) = subst (λ n. g ∣ n) same parts.1.0 in
    let divides : g ∣ factor * column_divisor of pivot q = subst (λ n. g ∣ n) whole ((row_divisor_is (scaled factor pair)).1 g (first, (second, tt))) in
    le_of_dvd (mul-pos is.above_zero (column_divisor-pos of pivot q positive)) divides

-- the equations by which each of the three fits
target_there : (n h a o : ℤ) → (n *ℤ h) *ℤ (a *ℤ o) ≡ (h *ℤ a) *ℤ (n *ℤ o)
target_there n h a o = rw (dif_is n, dif_is h, dif_is a, dif_is o) (simp difs (dif_same _ _ _ _ (omega arith)))

target_here : (g a w : ℤ) → (g *ℤ a) *ℤ w ≡ neg_ℤ (g *ℤ (a *ℤ neg_ℤ w))
target_here g a w = rw (dif_is g, dif_is a, dif_is w) (simp difs (dif_same _ _ _ _ (omega arith)))

target_share : (n h g a2 a e ok rk : ℤ) → h *ℤ a2 ≡ e → g *ℤ a ≡ e → rk ≡ neg_ℤ (n *ℤ ok) → (n *ℤ h) *ℤ (a2 *ℤ ok) ≡ neg_ℤ (g *ℤ (a *ℤ rk))
target_share n h g a2 a e ok rk x y z = target_there n h a2 ok ∙ ap (λ v. v *ℤ (n *ℤ ok)) (x ∙ sym y) ∙ target_here g a (n *ℤ ok) ∙ ap (λ v. neg_ℤ (g *ℤ (a *ℤ v))) (sym z)

pivot_there : (n h b p : ℤ) → (n *ℤ h) *ℤ (b *ℤ p) ≡ (n *ℤ (h *ℤ b)) *ℤ p
pivot_there n h b p = rw (dif_is n, dif_is h, dif_is b, dif_is p) (simp difs (dif_same _ _ _ _ (omega arith)))

pivot_signs : (w p : ℤ) → w *ℤ p ≡ neg_ℤ (neg_ℤ w *ℤ p)
pivot_signs w p = rw (dif_is w, dif_is p) (simp difs (dif_same _ _ _ _ (omega arith)))

pivot_here : (g b p : ℤ) → (g *ℤ b) *ℤ p ≡ g *ℤ (b *ℤ p)
pivot_here g b p = rw (dif_is g, dif_is b, dif_is p) (simp difs (dif_same _ _ _ _ (omega arith)))

pivot_share : (n h g b2 b oq rq pk : ℤ) → h *ℤ b2 ≡ oq → g *ℤ b ≡ rq → rq ≡ neg_ℤ (n *ℤ oq) → (n *ℤ h) *ℤ (b2 *ℤ pk) ≡ neg_ℤ (g *ℤ (b *ℤ pk))
pivot_share n h g b2 b oq rq pk x y z = pivot_there n h b2 pk ∙ ap (λ v. (n *ℤ v) *ℤ pk) x ∙ pivot_signs (n *ℤ oq) pk ∙ ap (λ v. neg_ℤ (v *ℤ pk)) (sym (y ∙ z)) ∙ ap neg_ℤ (pivot_here g b pk)

less_each : (h u v : ℤ) → h *ℤ (u -ℤ v) ≡ h *ℤ u -ℤ h *ℤ v
less_each h u v = rw (dif_is h, dif_is u, dif_is v) (simp difs (dif_same _ _ _ _ (omega arith)))

less_turned : (g u v : ℤ) → neg_ℤ (g *ℤ u) -ℤ neg_ℤ (g *ℤ v) ≡ neg_ℤ (g *ℤ (u -ℤ v))
less_turned g u v = rw (dif_is g, dif_is u, dif_is v) (simp difs (dif_same _ _ _ _ (omega arith)))

difference_share : (h g u v s t : ℤ) → h *ℤ u ≡ neg_ℤ (g *ℤ s) → h *ℤ v ≡ neg_ℤ (g *ℤ t) → h *ℤ (u -ℤ v) ≡ neg_ℤ (g *ℤ (s -ℤ t))
difference_share h g u v s t x y = less_each h u v ∙ ap₂ (λ z w. z -ℤ w) x y ∙ less_turned g s t

zero_fits : FitsEntry (pos 0)
zero_fits = lit< tt

-- where the greater row passes nowhere, the smaller does not either
pub nowhere_in_share : (row of pivot : List ℤ) (q factor : ℕ) → IsTurnedMultiple row of factor → q ≢ 0 → pos 0 <ℤ entry pivot q → entry pivot 0 ≡ pos 0 → PassesNowhere row pivot q → PassesNowhere of pivot q
nowhere_in_share row of pivot q factor is not_zero positive none fits k below =
    let g = column_divisor row pivot q in
    let h = column_divisor of pivot q in
    let a = target_factor row pivot q in
    let b = pivot_factor row pivot q in
    let a2 = target_factor of pivot q in
    let b2 = pivot_factor of pivot q in
    by_eq k 0
    (λ e.
    let x : a2 *ℤ entry of k ≡ pos 0 = ap (λ n. a2 *ℤ entry of n) e ∙ ap (λ z. a2 *ℤ z) is.zero_there ∙ times_zero a2 in
    let y : b2 *ℤ entry pivot k ≡ pos 0 = ap (λ n. b2 *ℤ entry pivot n) e ∙ ap (λ z. b2 *ℤ z) none ∙ times_zero b2 in
    record {
      target_product = subst FitsEntry (sym x) zero_fits;
      pivot_product = subst FitsEntry (sym y) zero_fits;
      difference = subst FitsEntry (sym (ap₂ (λ z w. z -ℤ w) x y)) zero_fits;
    })
    (λ differ.
    let there = fits k (omega (arith, below, is.lengths)) in
    let above : 0 < g = column_divisor-pos row pivot q positive in
    let most : g ≤ factor * h = divisor_share row of pivot q factor is not_zero positive in
    let x : pos (factor * h) *ℤ (a2 *ℤ entry of k) ≡ neg_ℤ (pos g *ℤ (a *ℤ entry row k)) = target_share (pos factor) (pos h) (pos g) a2 a (entry pivot q) (entry of k) (entry row k) (exact_target of pivot q) (exact_target row pivot q) (is.elsewhere k differ) in
    let y : pos (factor * h) *ℤ (b2 *ℤ entry pivot k) ≡ neg_ℤ (pos g *ℤ (b *ℤ entry pivot k)) = pivot_share (pos factor) (pos h) (pos g) b2 b (entry of q) (entry row q) (entry pivot k) (exact_pivot of pivot q) (exact_pivot row pivot q) (is.elsewhere q not_zero) in
    let z = difference_share (pos (factor * h)) (pos g) (a2 *ℤ entry of k) (b2 *ℤ entry pivot k) (a *ℤ entry row k) (b *ℤ entry pivot k) x y in
    record {
      target_product = fits_share (factor * h) g (a2 *ℤ entry of k) (a *ℤ entry row k) above most (ap unsigned_abs x ∙ abs-neg (pos g *ℤ (a *ℤ entry row k))) there.target_product;
      pivot_product = fits_share (factor * h) g (b2 *ℤ entry pivot k) (b *ℤ entry pivot k) above most (ap unsigned_abs y ∙ abs-neg (pos g *ℤ (b *ℤ entry pivot k))) there.pivot_product;
      difference = fits_share (factor * h) g (a2 *ℤ entry of k -ℤ b2 *ℤ entry pivot k) (a *ℤ entry row k -ℤ b *ℤ entry pivot k) above most (ap unsigned_abs z ∙ abs-neg (pos g *ℤ (a *ℤ entry row k -ℤ b *ℤ entry pivot k))) there.difference;
    })

-- ---- the row with 1 in column 0 and 0 elsewhere

times-one : (x : ℤ) → x *ℤ pos 1 ≡ pos 1 *ℤ x
times-one x = rw (dif_is x) (simp difs (dif_same _ _ _ _ (omega arith)))

one_less_one : (x : ℤ) → x *ℤ pos 1 -ℤ pos 1 *ℤ x ≡ pos 1 *ℤ pos 0
one_less_one x = rw (dif_is x) (simp difs (dif_same _ _ _ _ (omega arith)))

less_zero : (a y : ℤ) → a *ℤ pos 0 -ℤ y ≡ neg_ℤ y
less_zero a y = rw (dif_is a, dif_is y) (simp difs (dif_same _ _ _ _ (omega arith)))

-- it passes nowhere in column 0 where the pivot row fits
pub nowhere_in_unit : (of pivot : List ℤ) → entry of 0 ≡ pos 1 → ((k : ℕ) → k ≢ 0 → entry of k ≡ pos 0) → pos 0 <ℤ entry pivot 0 → ((k : ℕ) → k < length of → FitsEntry (entry pivot k)) → PassesNowhere of pivot 0
nowhere_in_unit of pivot one zeros positive fits k below =
    let h = column_divisor of pivot 0 in
    let a = target_factor of pivot 0 in
    let b = pivot_factor of pivot 0 in
    let above : 0 < h = column_divisor-pos of pivot 0 positive in
    let at_least : 1 ≤ h = omega (arith, above) in
    let some : 0 < 1 = omega arith in
    let ha : pos h *ℤ a ≡ entry pivot 0 = exact_target of pivot 0 in
    let hb : pos h *ℤ b ≡ pos 1 = exact_pivot of pivot 0 ∙ one in
    let y : pos h *ℤ (b *ℤ entry pivot k) ≡ pos 1 *ℤ entry pivot k = sym (pivot_here (pos h) b (entry pivot k)) ∙ ap (λ z. z *ℤ entry pivot k) hb in
    let pivot_fits : FitsEntry (b *ℤ entry pivot k) = fits_share h 1 (b *ℤ entry pivot k) (entry pivot k) some at_least (ap unsigned_abs y) (fits k below) in
    by_eq k 0
    (λ e.
    let o : entry of k ≡ pos 1 = ap (entry of) e ∙ one in
    let x : pos h *ℤ (a *ℤ entry of k) ≡ entry pivot k *ℤ pos 1 = ap (λ z. pos h *ℤ (a *ℤ z)) o ∙ sym (pivot_here (pos h) a (pos 1)) ∙ ap (λ z. z *ℤ pos 1) (ha ∙ sym (ap (entry pivot) e)) in
    let z : pos h *ℤ (a *ℤ entry of k -ℤ b *ℤ entry pivot k) ≡ pos 1 *ℤ pos 0 = less_each (pos h) (a *ℤ entry of k) (b *ℤ entry pivot k) ∙ ap₂ (λ u v. u -ℤ v) x y ∙ one_less_one (entry pivot k) in
    record {
      target_product = fits_share h 1 (a *ℤ entry of k) (entry pivot k) some at_least (ap unsigned_abs (x ∙ times-one (entry pivot k))) (fits k below);
      pivot_product = pivot_fits;
      difference = fits_share h 1 (a *ℤ entry of k -ℤ b *ℤ entry pivot k) (pos 0) some at_least (ap unsigned_abs z) zero_fits;
    })
    (λ differ.
    let o : entry of k ≡ pos 0 = zeros k differ in
    let d : a *ℤ entry of k -ℤ b *ℤ entry pivot k ≡ neg_ℤ (b *ℤ entry pivot k) = ap (λ z. a *ℤ z -ℤ b *ℤ entry pivot k) o ∙ less_zero a (b *ℤ entry pivot k) in
    let size : unsigned_abs (a *ℤ entry of k -ℤ b *ℤ entry pivot k) ≡ unsigned_abs (b *ℤ entry pivot k) = ap unsigned_abs d ∙ abs-neg (b *ℤ entry pivot k) in
    record {
      target_product = subst FitsEntry (sym (ap (λ z. a *ℤ z) o ∙ times_zero a)) zero_fits;
      pivot_product = pivot_fits;
      difference = subst (λ n. n < 2 ^ 127) (sym size) pivot_fits;
    })

-- ---- the pivot row is the greater row itself

turned_here : (n o x : ℤ) → neg_ℤ (n *ℤ o) *ℤ x ≡ o *ℤ neg_ℤ (n *ℤ x)
turned_here n o x = rw (dif_is n, dif_is o, dif_is x) (simp difs (dif_same _ _ _ _ (omega arith)))

less_itself : (x : ℤ) → x -ℤ x ≡ pos 0
less_itself x = omega (arith, linear)

-- the smaller row's entry of the column is no greater than the two entries' divisor
divisor_is_entry : (of pivot : List ℤ) (q factor : ℕ) → IsTurnedMultiple pivot of factor → q ≢ 0 → pos 0 <ℤ entry pivot q → (0 < unsigned_abs (entry of q)) × (unsigned_abs (entry of q) ≤ column_divisor of pivot q)
divisor_is_entry of pivot q factor is differ positive =
    let d = unsigned_abs (entry of q) in
    let size : unsigned_abs (entry pivot q) ≡ factor * d = ap unsigned_abs (is.elsewhere q differ) ∙ abs-neg (pos factor *ℤ entry of q) ∙ unsigned_abs-mul (pos factor) (entry of q) in
    let some = size-pos (entry pivot q) positive in
    let first : d ∣ unsigned_abs (entry pivot q) = subst (λ n. d ∣ n) (sym size) (dvd-mul_left d factor) in
    let divides : d ∣ column_divisor of pivot q = (row_divisor_is (entry pivot q ∷ entry of q ∷ [])).1 d (first, (dvd_refl d, tt)) in (
      elim (eq-zero-or-pos d) [ inl none ↦ (let e : factor * d ≡ factor * 0 = ap (λ n. factor * n) none in absurd (omega (arith, some, size, e))) | inr above ↦ above ],
      le_of_dvd (column_divisor-pos of pivot q positive) divides,
    )

-- it takes the smaller row's signs back, and passes nowhere where the pivot row fits
pub nowhere_in_turned : (of pivot : List ℤ) (q factor : ℕ) → IsTurnedMultiple pivot of factor → q ≢ 0 → pos 0 <ℤ entry pivot q → ((k : ℕ) → k < length of → FitsEntry (entry pivot k)) → PassesNowhere of pivot q
nowhere_in_turned of pivot q factor is not_zero positive fits k below =
    let h = column_divisor of pivot q in
    let a = target_factor of pivot q in
    let b = pivot_factor of pivot q in
    let d = unsigned_abs (entry of q) in
    let above : 0 < h = column_divisor-pos of pivot q positive in
    let small = divisor_is_entry of pivot q factor is not_zero positive in
    let y : pos h *ℤ (b *ℤ entry pivot k) ≡ entry of q *ℤ entry pivot k = sym (pivot_here (pos h) b (entry pivot k)) ∙ ap (λ v. v *ℤ entry pivot k) (exact_pivot of pivot q) in
    let pivot_fits : FitsEntry (b *ℤ entry pivot k) = fits_share h d (b *ℤ entry pivot k) (entry pivot k) small.0 small.1 (ap unsigned_abs y ∙ unsigned_abs-mul (entry of q) (entry pivot k) ∙ sym (unsigned_abs-mul (pos d) (entry pivot k))) (fits k below) in
    by_eq k 0
    (λ e.
    let o : entry of k ≡ pos 0 = ap (entry of) e ∙ is.zero_there in
    let size : unsigned_abs (a *ℤ entry of k -ℤ b *ℤ entry pivot k) ≡ unsigned_abs (b *ℤ entry pivot k) = ap unsigned_abs (ap (λ z. a *ℤ z -ℤ b *ℤ entry pivot k) o ∙ less_zero a (b *ℤ entry pivot k)) ∙ abs-neg (b *ℤ entry pivot k) in
    record {
      target_product = subst FitsEntry (sym (ap (λ z. a *ℤ z) o ∙ times_zero a)) zero_fits;
      pivot_product = pivot_fits;
      difference = subst (λ n. n < 2 ^ 127) (sym size) pivot_fits;
    })
    (λ differ.
    let x : pos h *ℤ (a *ℤ entry of k) ≡ entry pivot q *ℤ entry of k = sym (pivot_here (pos h) a (entry of k)) ∙ ap (λ v. v *ℤ entry of k) (exact_target of pivot q) in
    let same : a *ℤ entry of k ≡ b *ℤ entry pivot k = same_from_product (pos h) (a *ℤ entry of k) (b *ℤ entry pivot k) (omega (arith, linear, above))
    (x ∙ ap (λ v. v *ℤ entry of k) (is.elsewhere q not_zero) ∙ turned_here (pos factor) (entry of q) (entry of k) ∙ ap (λ v. entry of q *ℤ v) (sym (is.elsewhere k differ)) ∙ sym y) in
    record {
      target_product = subst FitsEntry (sym same) pivot_fits;
      pivot_product = pivot_fits;
      difference = subst FitsEntry (sym (ap (λ z. z -ℤ b *ℤ entry pivot k) same ∙ less_itself (b *ℤ entry pivot k))) zero_fits;
    })
