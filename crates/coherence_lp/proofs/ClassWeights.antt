-- The weights of the classes, class by class.
use Rattle.std.proofs.Common.{◌≡◌, ℕ, ◌+◌, ◌<◌, ◌≤◌, ◌==◌, Bool, not, List, [], ◌∷◌, ◌++◌, length, filter, take, ap, ◌∙◌, subst, arith}
use Rattle.std.specs.Prelude.{unsigned_abs, slice_index, slice_index_or, zip}
use Rattle.std.specs.Int.{◌∣◌}
use Rattle.std.proofs.lemmas.List.{length-map, get_or-map, get_or_default}
use Rattle.std.proofs.lemmas.List.FromFn.{length-map-range_with_len, get_or-map-range_with_len}
use Rattle.std.proofs.lemmas.List.Elements.{filter_more}
use Rattle.std.proofs.lemmas.Slice.Zip.{get_or-zip, length-zip}
use lib.IntN.{pos}
use Rattle.row_definitions.specs.Rows.{entry, row_divisor, primitive_row, divided}
use Rattle.row_definitions.proofs.Divisors.{row_divisor_is, Divides-entry}
use Rattle.pivot_definitions.specs.Tableaus.{SimplexTableau, multiplier_of}
use Rattle.scan_types.specs.declared.outcome.Outcome.{Outcome}
use Rattle.judging_definitions.specs.Readings.{class_weights, NoneAbove}
use Rattle.judging_laws.proofs.Weights.{multipliers, weight_divisor}

pub length-weights : (classes : List Outcome) (tableau : SimplexTableau) → length (class_weights classes tableau) ≡ length classes
length-weights classes tableau =
    let row = multipliers classes tableau in
    length-map (primitive_row row) unsigned_abs ∙ length-map row (divided (row_divisor row)) ∙ length-map-range_with_len (multiplier_of tableau) 0 (length classes)

pub multiplier_at : (classes : List Outcome) (tableau : SimplexTableau) (j : ℕ) → j < length classes → entry (multipliers classes tableau) j ≡ multiplier_of tableau j
multiplier_at classes tableau j within = get_or-map-range_with_len (multiplier_of tableau) 0 (length classes) j j (pos 0) within (omega arith)

-- the weight of a class is its multiplier by the divisor of all
pub weight_at : (classes : List Outcome) (tableau : SimplexTableau) (j : ℕ) → j < length classes → slice_index (class_weights classes tableau) j ≡ unsigned_abs (divided (weight_divisor classes tableau) (multiplier_of tableau j))
weight_at classes tableau j within =
    let row = multipliers classes tableau in
    let g = row_divisor row in
    let count : length row ≡ length classes = length-map-range_with_len (multiplier_of tableau) 0 (length classes) in
    let kept : length (primitive_row row) ≡ length classes = length-map row (divided g) ∙ count in
    get_or-map unsigned_abs (primitive_row row) j (pos 0) 0 (omega (arith, kept, within))
    ∙ ap unsigned_abs (get_or-map (divided g) row j (pos 0) (pos 0) (omega (arith, count, within)) ∙ ap (divided g) (multiplier_at classes tableau j within))

pub divisor_divides : (classes : List Outcome) (tableau : SimplexTableau) (j : ℕ) → j < length classes → weight_divisor classes tableau ∣ unsigned_abs (multiplier_of tableau j)
divisor_divides classes tableau j within =
    let row = multipliers classes tableau in
    subst (λ z. row_divisor row ∣ unsigned_abs z) (multiplier_at classes tableau j within) (Divides-entry (row_divisor row) row j (row_divisor_is row).0)

-- ---- the classes with weight

-- an entry that is not of weight 0
abbrev pub has_weight : Outcome × ℕ → Bool
has_weight e = not (e.1 == 0)

pub weighted_more : (classes : List Outcome) (weights : List ℕ) (j : ℕ) (d : Outcome) → j < length classes → length weights ≡ length classes → filter has_weight (take (j + 1) (zip classes weights)) ≡ filter has_weight (take j (zip classes weights)) ++ filter has_weight ((slice_index_or classes j d, slice_index weights j) ∷ [])
weighted_more classes weights j d within count =
    let all = zip classes weights in
    let long : j < length all = omega (arith, within, count, length-zip classes weights) in
    let at : slice_index_or all j (d, 0) ≡ (slice_index_or classes j d, slice_index weights j) = get_or-zip classes weights j (d, 0) within (omega (arith, within, count)) in
    filter_more has_weight all j (d, 0) long ∙ ap (λ e. filter has_weight (take j all) ++ filter has_weight (e ∷ [])) at

-- ---- the first number above a bound

-- none of the first numbers is above a bound
abbrev pub NoneAboveBefore : ℕ → List ℕ → ℕ → Type 0
NoneAboveBefore most numbers i = (k : ℕ) → k < i → slice_index numbers k ≤ most

pub none_above : (most : ℕ) (numbers : List ℕ) (n : ℕ) → length numbers ≤ n → NoneAboveBefore most numbers n → NoneAbove most numbers
none_above most numbers n whole none k d h = (let P : ℕ → Type 0 = λ x. x ≤ most in subst P (get_or_default numbers k 0 d h) (none k (omega (arith, h, whole))))
