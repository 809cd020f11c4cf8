-- Sums over a measure are sums over the classes by the multipliers of their rows.
use Rattle.std.proofs.Common.{◌≡◌, ℕ, zero, suc, ◌*◌, ◌<◌, ◌==◌, true, false, cond, not, List, [], ◌∷◌, length, map, refl, sym, ap, ◌∙◌, arith}
use Rattle.std.specs.Prelude.{slice_index, slice_index_or, unsigned_abs}
use Rattle.std.specs.List.{range_with_len}
use Rattle.std.proofs.lemmas.List.{length-map, get_or-map}
use Rattle.std.proofs.lemmas.List.FromFn.{length-map-range_with_len, get_or-map-range_with_len}
use Rattle.std.proofs.lemmas.Int.{unsigned_abs-mul, ints}
use Rattle.std.proofs.lemmas.Bool.Decides.{nat_tests}
use lib.IntN.{ℤ, pos, negsuc, ◌+ℤ◌, ◌*ℤ◌, pos-*ℤ-pos}
use lib.Signed.{◌≤ℤ◌}
use Rattle.row_definitions.specs.Rows.{entry, row_divisor, primitive_row, divided}
use Rattle.row_definitions.proofs.Primitives.{scaled-primitive_row, entry-scaled}
use Rattle.pivot_definitions.specs.Tableaus.{SimplexTableau, multiplier_of}
use Rattle.pivot_definitions.specs.Duality.{sum_below}
use Rattle.pivot_definitions.proofs.Sums.{sum_same, sum_scaled}
use Rattle.pivot_definitions.proofs.Ring.{dif_is, difs, dif_same}
use Rattle.scan_types.specs.declared.outcome.Outcome.{Outcome}
use Rattle.finding_definitions.specs.Measure.{weighted_sum}
use Rattle.judging_definitions.specs.Readings.{class_weights, weighted_classes}

-- a sum from the front
front_step : (x y z : ℤ) → (x +ℤ y) +ℤ z ≡ x +ℤ (y +ℤ z)
front_step x y z = rw (dif_is x, dif_is y, dif_is z) (simp difs (dif_same _ _ _ _ (omega arith)))

front_none : (x : ℤ) → pos 0 +ℤ x ≡ x +ℤ pos 0
front_none x = rw (dif_is x) (simp difs (dif_same _ _ _ _ (omega arith)))

pub sum_front : (n : ℕ) (f : ℕ → ℤ) → sum_below (suc n) f ≡ f 0 +ℤ sum_below n (λ k. f (suc k))
sum_front zero f = front_none (f 0)
sum_front (suc n) f = ap (λ x. x +ℤ f (suc n)) (sum_front n f) ∙ front_step (f 0) (sum_below n (λ k. f (suc k))) (f (suc n))

none_and : (x y : ℤ) → y ≡ pos 0 *ℤ x +ℤ y
none_and x y = rw (dif_is x, dif_is y) (simp difs (dif_same _ _ _ _ (omega arith)))

not_zero : (n : ℕ) → not (suc n == 0) ≡ true
not_zero n = ap not (let e : (suc n == 0) ≡ false = grind (arith, nat_tests) in e)

-- a measure's sum, class by class
pub weighted_by_class : (f : Outcome → ℤ) (classes : List Outcome) (weights : List ℕ) (d : Outcome) → length weights ≡ length classes → weighted_sum f (weighted_classes classes weights) ≡ sum_below (length classes) (λ j. pos (slice_index weights j) *ℤ f (slice_index_or classes j d))
weighted_by_class f [] weights d count = refl
weighted_by_class f (x ∷ classes) [] d count = absurd (omega (arith, count))
weighted_by_class f (x ∷ classes) (zero ∷ weights) d count =
    weighted_by_class f classes weights d (omega (arith, count))
    ∙ none_and (f x) (sum_below (length classes) (λ j. pos (slice_index weights j) *ℤ f (slice_index_or classes j d)))
    ∙ sym (sum_front (length classes) (λ j. pos (slice_index (0 ∷ weights) j) *ℤ f (slice_index_or (x ∷ classes) j d)))
weighted_by_class f (x ∷ classes) (suc w ∷ weights) d count =
    let others = weighted_classes classes weights in
    ap (λ b. weighted_sum f (cond b ((x, suc w) ∷ others) others)) (not_zero w)
    ∙ ap (λ s. pos (suc w) *ℤ f x +ℤ s) (weighted_by_class f classes weights d (omega (arith, count)))
    ∙ sym (sum_front (length classes) (λ j. pos (slice_index (suc w ∷ weights) j) *ℤ f (slice_index_or (x ∷ classes) j d)))

-- ---- weights and multipliers

-- the multipliers of the classes' rows
abbrev pub multipliers : List Outcome → SimplexTableau → List ℤ
multipliers classes tableau = map (multiplier_of tableau) (range_with_len 0 (length classes))

-- what the weights are divided by
abbrev pub weight_divisor : List Outcome → SimplexTableau → ℕ
weight_divisor classes tableau = row_divisor (multipliers classes tableau)

length-weights : (classes : List Outcome) (tableau : SimplexTableau) → length (class_weights classes tableau) ≡ length classes
length-weights classes tableau =
    let row = multipliers classes tableau in
    length-map (primitive_row row) unsigned_abs ∙ length-map row (divided (row_divisor row)) ∙ length-map-range_with_len (multiplier_of tableau) 0 (length classes)

whole_size : (x : ℤ) → pos 0 ≤ℤ x → x ≡ pos (unsigned_abs x)
whole_size (pos n) h = refl
whole_size (negsuc n) h = absurd (omega (arith, ints))

-- a weight times the divisor is the multiplier
pub weight_is : (classes : List Outcome) (tableau : SimplexTableau) (j : ℕ) → j < length classes → pos 0 ≤ℤ multiplier_of tableau j → pos (weight_divisor classes tableau) *ℤ pos (slice_index (class_weights classes tableau) j) ≡ multiplier_of tableau j
weight_is classes tableau j within positive =
    let row = multipliers classes tableau in
    let g = row_divisor row in
    let count : length (primitive_row row) ≡ length classes = length-map row (divided g) ∙ length-map-range_with_len (multiplier_of tableau) 0 (length classes) in
    let weight : slice_index (class_weights classes tableau) j ≡ unsigned_abs (entry (primitive_row row) j) = get_or-map unsigned_abs (primitive_row row) j (pos 0) 0 (omega (arith, count, within)) in
    let multiple : pos g *ℤ entry (primitive_row row) j ≡ multiplier_of tableau j =
    sym (entry-scaled g (primitive_row row) j) ∙ ap (λ r. entry r j) (scaled-primitive_row row) ∙ get_or-map-range_with_len (multiplier_of tableau) 0 (length classes) j j (pos 0) within (omega arith) in
    pos-*ℤ-pos g (slice_index (class_weights classes tableau) j)
    ∙ ap (λ n. pos (g * n)) weight
    ∙ ap pos (sym (unsigned_abs-mul (pos g) (entry (primitive_row row) j)) ∙ ap unsigned_abs multiple)
    ∙ sym (whole_size (multiplier_of tableau j) positive)

regroup : (g w f : ℤ) → (g *ℤ w) *ℤ f ≡ g *ℤ (w *ℤ f)
regroup g w f = rw (dif_is g, dif_is w, dif_is f) (simp difs (dif_same _ _ _ _ (omega arith)))

-- a measure's sum times the divisor is the sum over the classes by their multipliers
pub weighted_is : (f : Outcome → ℤ) (classes : List Outcome) (tableau : SimplexTableau) (d : Outcome) → ((j : ℕ) → j < length classes → pos 0 ≤ℤ multiplier_of tableau j) → pos (weight_divisor classes tableau) *ℤ weighted_sum f (weighted_classes classes (class_weights classes tableau)) ≡ sum_below (length classes) (λ j. multiplier_of tableau j *ℤ f (slice_index_or classes j d))
weighted_is f classes tableau d positive =
    let g = pos (weight_divisor classes tableau) in
    let weights = class_weights classes tableau in
    ap (λ s. g *ℤ s) (weighted_by_class f classes weights d (length-weights classes tableau))
    ∙ sym (sum_scaled (length classes) g (λ j. pos (slice_index weights j)) (λ j. f (slice_index_or classes j d)))
    ∙ sum_same (length classes) (λ j. (g *ℤ pos (slice_index weights j)) *ℤ f (slice_index_or classes j d)) (λ j. multiplier_of tableau j *ℤ f (slice_index_or classes j d)) (λ j h. ap (λ w. w *ℤ f (slice_index_or classes j d)) (weight_is classes tableau j h (positive j h)))
