-- A pivot of condensed rows is one of their whole rows.
use Rattle.std.proofs.Common.{◌≡◌, ◌≢◌, ℕ, zero, suc, ◌+◌, ◌<◌, ◌≤◌, ◌⊎◌, inl, inr, List, [], ◌∷◌, ◌++◌, length, map, get_or, ℤ, pos, refl, sym, ap, ap₂, subst, subst₂, ◌∙◌, arith}
use Rattle.std.proofs.lemmas.List.{length-map, length-append, get_or_append_left, get_or_at}
use Rattle.row_definitions.specs.Rows.{entry, row_divisor, divided}
use Rattle.row_definitions.specs.Combination.{combined, reduced_combination, target_factor, pivot_factor, FitsAt, PassesNowhere}
use Rattle.row_definitions.proofs.Combinations.{entry-combined, length-combination}
use Rattle.condensed_laws.specs.Wholes.{whole, IsShown, ShowEach}
use Rattle.condensed_laws.specs.Heads.{pivot_place_by, pivot_places, lent, ArePivotRows}
use Rattle.condensed_laws.specs.Laws.{TargetOfPivot, PivotPassesNowhere, PivotFitsAt}
use Rattle.condensed_laws.proofs.Wholes.{combined_of_wholes, fits_of_wholes, passes_nowhere_of_wholes, below_or}
use Rattle.condensed_laws.proofs.Heads.{pivot_place_below, pivot_place_own, pivot_place_leaving}
use Rattle.condensed_laws.proofs.Pivots.{target_before, pivot_before, target_after, length_twice, twice_second}

-- ---- the places of the columns

read_map : (f : ℕ → ℕ) (heads : List ℕ) (column : ℕ) → column < length heads → get_or (map f heads) column 0 ≡ f (get_or heads column 0)
read_map f [] column within = absurd (omega arith)
read_map f (head ∷ heads) zero within = refl
read_map f (head ∷ heads) (suc column) within = read_map f heads column (omega arith)

pub place_at : (f : ℕ → ℕ) (width : ℕ) (heads : List ℕ) (column : ℕ) → column < length heads → get_or (map f heads ++ width ∷ []) column 0 ≡ f (get_or heads column 0)
place_at f width heads column within = get_or_append_left (map f heads) (width ∷ []) 0 column (subst (λ n. column < n) (sym (length-map heads f)) within) ∙ read_map f heads column within

pub place_count : (f : ℕ → ℕ) (width : ℕ) (heads : List ℕ) → length (map f heads ++ width ∷ []) ≡ length heads + 1
place_count f width heads = length-append (map f heads) (width ∷ []) ∙ ap (λ n. n + 1) (length-map heads f)

pub shown_by : (f : ℕ → ℕ) (width : ℕ) (heads : List ℕ) (place : ℕ) (column : ℕ) → column < length heads → f (get_or heads column 0) ≡ place → IsShown (map f heads ++ width ∷ []) place
shown_by f width heads place column within is = record {
  column = column;
  within = omega (arith, place_count f width heads, within);
  is = place_at f width heads column within ∙ is;
}

pub right_shown : (f : ℕ → ℕ) (width : ℕ) (heads : List ℕ) → IsShown (map f heads ++ width ∷ []) width
right_shown f width heads = record {
  column = length heads;
  within = omega (arith, place_count f width heads);
  is = get_or_at (map f heads) width [] 0 (length heads) (length-map heads f);
}

-- each place of the two rows has a column, or both are 0 there
pub pivot_rows_show : (width own pivot leaving entering place : ℕ) (heads : List ℕ) (target row : List ℤ) → ArePivotRows width own pivot leaving entering place heads target row → ShowEach (pivot_places width own pivot heads) target (lent width row)
pivot_rows_show width own pivot leaving entering place heads target row rows k within = by_width (below_or k width) where
  last : k < width + 3
  last = subst (λ n. k < n) rows.target_condensed.count within

  own_is_zero : entry (lent width row) (width + 1) ≡ pos 0
  own_is_zero = twice_second row (width + 2) (width + 1) (entry row (width + 1)) (pos 0) (omega (arith, rows.row_condensed.count))

  by_own : k ≡ width + 1 → (entry target (width + 1) ≡ pos 0) ⊎ IsShown heads (width + own) → ((entry target k ≡ pos 0) × (entry (lent width row) k ≡ pos 0)) ⊎ IsShown (pivot_places width own pivot heads) k
  by_own is (inl none) = inl (ap (entry target) is ∙ none, ap (entry (lent width row)) is ∙ own_is_zero)
  by_own is (inr shown) = inr (shown_by (pivot_place_by width own pivot) width heads k shown.column shown.within (pivot_place_own width own pivot (get_or heads shown.column 0) shown.is ∙ sym is))

  by_spare : width + 1 ≤ k → (k < width + 2) ⊎ (width + 2 ≤ k) → ((entry target k ≡ pos 0) × (entry (lent width row) k ≡ pos 0)) ⊎ IsShown (pivot_places width own pivot heads) k
  by_spare above (inl less) = by_own (omega arith) rows.own_shown
  by_spare above (inr more) =
      let is : k ≡ width + 2 = omega (arith, last) in
      let head = get_or heads leaving 0 in
      let not_own : head ≢ width + own = λ same. rows.another (omega (arith, same, rows.swap.leaving_is)) in
      inr (shown_by (pivot_place_by width own pivot) width heads k leaving rows.swap.leaving_within (pivot_place_leaving width own pivot head not_own rows.swap.leaving_is ∙ sym is))

  by_right : width ≤ k → (k < width + 1) ⊎ (width + 1 ≤ k) → ((entry target k ≡ pos 0) × (entry (lent width row) k ≡ pos 0)) ⊎ IsShown (pivot_places width own pivot heads) k
  by_right above (inl less) =
      let is : width ≡ k = omega arith in
      inr (subst (λ n. IsShown (pivot_places width own pivot heads) n) is (right_shown (pivot_place_by width own pivot) width heads))
  by_right above (inr more) = by_spare more (below_or k (width + 2))

  by_width : (k < width) ⊎ (width ≤ k) → ((entry target k ≡ pos 0) × (entry (lent width row) k ≡ pos 0)) ⊎ IsShown (pivot_places width own pivot heads) k
  by_width (inl less) =
      let shown = rows.places_shown k less in
      inr (shown_by (pivot_place_by width own pivot) width heads k shown.column shown.within (ap (pivot_place_by width own pivot) shown.is ∙ pivot_place_below width own pivot k less))
  by_width (inr above) = by_right above (below_or k (width + 1))

-- ---- the pivot

pub lengths_of : (width own pivot leaving entering place : ℕ) (heads : List ℕ) (target row : List ℤ) → ArePivotRows width own pivot leaving entering place heads target row → length target ≡ length (lent width row)
lengths_of width own pivot leaving entering place heads target row rows =
    rows.target_condensed.count ∙ sym (length_twice row (width + 2) (width + 1) (entry row (width + 1)) (pos 0) ∙ rows.row_condensed.count)

pub entering_place : (width own pivot leaving entering place : ℕ) (heads : List ℕ) (target row : List ℤ) → ArePivotRows width own pivot leaving entering place heads target row → get_or (pivot_places width own pivot heads) entering 0 ≡ place
entering_place width own pivot leaving entering place heads target row rows =
    place_at (pivot_place_by width own pivot) width heads entering rows.swap.entering_within
    ∙ ap (pivot_place_by width own pivot) rows.swap.entering_is
    ∙ pivot_place_below width own pivot place rows.swap.place_within

pub entering_within : (width own pivot leaving entering place : ℕ) (heads : List ℕ) (target row : List ℤ) → ArePivotRows width own pivot leaving entering place heads target row → entering < length (pivot_places width own pivot heads)
entering_within width own pivot leaving entering place heads target row rows = omega (arith, place_count (pivot_place_by width own pivot) width heads, rows.swap.entering_within)

pub length-combined : (target row : List ℤ) (at : ℕ) → length target ≡ length row → length (combined target row at) ≡ length target
length-combined target row at lengths = length-map (reduced_combination target row at) (divided (row_divisor (reduced_combination target row at))) ∙ length-combination (target_factor target row at) (pivot_factor target row at) target row lengths

pub target_of_pivot : TargetOfPivot
target_of_pivot width own pivot leaving entering place heads target row rows =
    let lengths = lengths_of width own pivot leaving entering place heads target row rows in
    let after = combined target (lent width row) place in
    target_after width own pivot leaving entering place heads after (length-combined target (lent width row) place lengths ∙ rows.target_condensed.count) (entry-combined target (lent width row) place lengths) rows.another rows.swap
    ∙ sym (
    ap₂ (λ t p. combined t p entering) (target_before width own pivot heads target rows.target_condensed rows.another) (pivot_before width own pivot heads row rows.row_condensed rows.another)
    ∙ combined_of_wholes (pivot_places width own pivot heads) target (lent width row) entering lengths (entering_within width own pivot leaving entering place heads target row rows) (pivot_rows_show width own pivot leaving entering place heads target row rows)
    ∙ ap (λ at. whole (pivot_places width own pivot heads) (combined target (lent width row) at)) (entering_place width own pivot leaving entering place heads target row rows)
    )

pub pivot_passes_nowhere : PivotPassesNowhere
pivot_passes_nowhere width own pivot leaving entering place heads target row rows =
    let pp = pivot_places width own pivot heads in
    let is = entering_place width own pivot leaving entering place heads target row rows in
    let both = passes_nowhere_of_wholes pp target (lent width row) entering (lengths_of width own pivot leaving entering place heads target row rows) (entering_within width own pivot leaving entering place heads target row rows) (pivot_rows_show width own pivot leaving entering place heads target row rows) in
    let first = target_before width own pivot heads target rows.target_condensed rows.another in
    let second = pivot_before width own pivot heads row rows.row_condensed rows.another in (
      λ nowhere. subst (λ at. PassesNowhere target (lent width row) at) is (both.0 (subst₂ (λ t p. PassesNowhere t p entering) first second nowhere)),
      λ nowhere. subst₂ (λ t p. PassesNowhere t p entering) (sym first) (sym second) (both.1 (subst (λ at. PassesNowhere target (lent width row) at) (sym is) nowhere)),
    )

pub pivot_fits_at : PivotFitsAt
pivot_fits_at width own pivot leaving entering place heads target row rows column within =
    let pp = pivot_places width own pivot heads in
    let is = entering_place width own pivot leaving entering place heads target row rows in
    let both = fits_of_wholes pp target (lent width row) entering column (entering_within width own pivot leaving entering place heads target row rows) (subst (λ n. column < n) (sym (place_count (pivot_place_by width own pivot) width heads)) within) in
    let first = target_before width own pivot heads target rows.target_condensed rows.another in
    let second = pivot_before width own pivot heads row rows.row_condensed rows.another in (
      λ fits. subst (λ at. FitsAt target (lent width row) at (get_or pp column 0)) is (both.0 (subst₂ (λ t p. FitsAt t p entering column) first second fits)),
      λ fits. subst₂ (λ t p. FitsAt t p entering column) (sym first) (sym second) (both.1 (subst (λ at. FitsAt target (lent width row) at (get_or pp column 0)) (sym is) fits)),
    )
