-- The whole rows of a pivot of condensed rows.
use Rattle.std.proofs.Common.{◌≡◌, ◌≢◌, ℕ, ◌+◌, ◌<◌, ◌≤◌, List, [], ◌∷◌, ◌++◌, length, map, get_or, set, ℤ, pos, refl, sym, ap, ap₂, subst, ◌∙◌, arith}
use Rattle.std.proofs.lemmas.List.{length-set, get_or-set_same, get_or-set_other}
use Rattle.row_definitions.specs.Rows.{entry}
use Rattle.condensed_laws.specs.Wholes.{whole}
use Rattle.condensed_laws.specs.Heads.{place_by, places, pivot_place_by, pivot_places, IsCondensed, lent, moved, swapped, moved_heads, CanSwap}
use Rattle.condensed_laws.proofs.Wholes.{entry_past}
use Rattle.condensed_laws.proofs.Heads.{place_below, place_own, place_other, pivot_place_below, pivot_place_own, pivot_place_leaving, pivot_place_other, Kind, below_width, own_column, leaving_column, other_column, kind_of, whole_by, map_same, map_moved}

-- ---- entries of a row in which two places change

entry-set_same : (row : List ℤ) (k : ℕ) (x : ℤ) → k < length row → entry (set row k x) k ≡ x
entry-set_same row k x within = get_or-set_same row k x (pos 0) within

entry-set_other : (row : List ℤ) (k j : ℕ) (x : ℤ) → j ≢ k → entry (set row k x) j ≡ entry row j
entry-set_other row k j x differ = get_or-set_other row k j x (pos 0) differ

apart : (j k : ℕ) → j < k → j ≢ k
apart j k less is = absurd (omega (arith, is))

apart_above : (j k : ℕ) → k < j → j ≢ k
apart_above j k more is = absurd (omega (arith, is))

pub twice_elsewhere : (row : List ℤ) (k l j : ℕ) (x y : ℤ) → j ≢ k → j ≢ l → entry (set (set row k x) l y) j ≡ entry row j
twice_elsewhere row k l j x y differ differ_too = entry-set_other (set row k x) l j y differ_too ∙ entry-set_other row k j x differ

twice_first : (row : List ℤ) (k l : ℕ) (x y : ℤ) → k ≢ l → k < length row → entry (set (set row k x) l y) k ≡ x
twice_first row k l x y differ within = entry-set_other (set row k x) l k y differ ∙ entry-set_same row k x within

pub twice_second : (row : List ℤ) (k l : ℕ) (x y : ℤ) → l < length row → entry (set (set row k x) l y) l ≡ y
twice_second row k l x y within = entry-set_same (set row k x) l y (subst (λ n. l < n) (sym (length-set row k x)) within)

pub length_twice : (row : List ℤ) (k l : ℕ) (x y : ℤ) → length (set (set row k x) l y) ≡ length row
length_twice row k l x y = length-set (set row k x) l y ∙ length-set row k x

-- an entry past the end of a row of so many
past_end : (width : ℕ) (row : List ℤ) → length row ≡ width + 3 → entry row (width + 3) ≡ pos 0
past_end width row count = entry_past row (width + 3) (omega (arith, count))

whole_same : (f g : ℕ → ℕ) (width : ℕ) (heads : List ℕ) (row other : List ℤ) → ((head : ℕ) → entry row (f head) ≡ entry other (g head)) → entry row width ≡ entry other width → whole (map f heads ++ width ∷ []) row ≡ whole (map g heads ++ width ∷ []) other
whole_same f g width heads row other same right =
    whole_by f width heads row
    ∙ ap₂ (λ xs x. xs ++ x ∷ []) (map_same (λ head. entry row (f head)) (λ head. entry other (g head)) heads same) right
    ∙ sym (whole_by g width heads other)

-- ---- before the combination

-- a row that is combined is 0 in the column that leaves, so it has the spare place there too
pub target_before : (width own leaving : ℕ) (heads : List ℕ) (row : List ℤ) → IsCondensed width row → own ≢ leaving → whole (places width own heads) row ≡ whole (pivot_places width own leaving heads) row
target_before width own leaving heads row condensed differ =
    whole_same (place_by width own) (pivot_place_by width own leaving) width heads row row (λ head. by_kind head (kind_of width own leaving head)) refl
  where
    by_kind : (head : ℕ) → Kind width own leaving head → entry row (place_by width own head) ≡ entry row (pivot_place_by width own leaving head)
    by_kind head (below_width h) = ap (entry row) (place_below width own head h ∙ sym (pivot_place_below width own leaving head h))
    by_kind head (own_column is) = ap (entry row) (place_own width own head is ∙ sym (pivot_place_own width own leaving head is))
    by_kind head (leaving_column not is) =
        ap (entry row) (place_other width own head (omega (arith, is)) not) ∙ past_end width row condensed.count
        ∙ sym (ap (entry row) (pivot_place_leaving width own leaving head not is) ∙ condensed.spare)
    by_kind head (other_column above not not_leaving) = ap (entry row) (place_other width own head above not ∙ sym (pivot_place_other width own leaving head above not not_leaving))

-- the pivot row shows its own entry in the spare place, and is 0 in the other row's basic column
pub pivot_before : (width own leaving : ℕ) (heads : List ℕ) (row : List ℤ) → IsCondensed width row → own ≢ leaving → whole (places width leaving heads) row ≡ whole (pivot_places width own leaving heads) (lent width row)
pivot_before width own leaving heads row condensed differ =
    whole_same (place_by width leaving) (pivot_place_by width own leaving) width heads row (lent width row) (λ head. by_kind head (kind_of width own leaving head))
    (sym (untouched width (omega arith)))
  where
    count : length row ≡ width + 3
    count = condensed.count

    untouched : (k : ℕ) → k < width + 1 → entry (lent width row) k ≡ entry row k
    untouched k less = twice_elsewhere row (width + 2) (width + 1) k (entry row (width + 1)) (pos 0) (apart k (width + 2) (omega arith)) (apart k (width + 1) less)

    by_kind : (head : ℕ) → Kind width own leaving head → entry row (place_by width leaving head) ≡ entry (lent width row) (pivot_place_by width own leaving head)
    by_kind head (below_width h) =
        ap (entry row) (place_below width leaving head h) ∙ sym (ap (entry (lent width row)) (pivot_place_below width own leaving head h) ∙ untouched head (omega arith))
    by_kind head (own_column is) =
        let above : width ≤ head = omega (arith, is) in
        let not : head ≢ width + leaving = λ same. differ (omega (arith, is, same)) in
        ap (entry row) (place_other width leaving head above not) ∙ past_end width row count
        ∙ sym (ap (entry (lent width row)) (pivot_place_own width own leaving head is) ∙ twice_second row (width + 2) (width + 1) (entry row (width + 1)) (pos 0) (omega (arith, count)))
    by_kind head (leaving_column not is) =
        ap (entry row) (place_own width leaving head is)
        ∙ sym (ap (entry (lent width row)) (pivot_place_leaving width own leaving head not is) ∙ twice_first row (width + 2) (width + 1) (entry row (width + 1)) (pos 0) (apart_above (width + 2) (width + 1) (omega arith)) (omega (arith, count)))
    by_kind head (other_column above not not_leaving) =
        ap (entry row) (place_other width leaving head above not_leaving) ∙ past_end width row count
        ∙ sym (ap (entry (lent width row)) (pivot_place_other width own leaving head above not not_leaving) ∙ past_end width (lent width row) (length_twice row (width + 2) (width + 1) (entry row (width + 1)) (pos 0) ∙ count))

-- ---- after it

-- two heads change, and what is read by each other column stays
whole_moved : (f g : ℕ → ℕ) (width : ℕ) (heads : List ℕ) (leaving entering a b : ℕ) (row other : List ℤ) → leaving < length heads → entering < length heads → entry row (f a) ≡ entry other (g (get_or heads leaving 0)) → entry row (f b) ≡ entry other (g (get_or heads entering 0)) → ((column : ℕ) → column < length heads → column ≢ leaving → column ≢ entering → entry row (f (get_or heads column 0)) ≡ entry other (g (get_or heads column 0))) → entry row width ≡ entry other width → whole (map f (set (set heads leaving a) entering b) ++ width ∷ []) row ≡ whole (map g heads ++ width ∷ []) other
whole_moved f g width heads leaving entering a b row other leaving_within entering_within at_leaving at_entering elsewhere right =
    whole_by f width (set (set heads leaving a) entering b) row
    ∙ ap₂ (λ xs x. xs ++ x ∷ []) (map_moved (λ head. entry row (f head)) (λ head. entry other (g head)) heads leaving entering a b leaving_within entering_within at_leaving at_entering elsewhere) right
    ∙ sym (whole_by g width heads other)

-- a combined row, which is 0 in the entering column: the leaving one takes its place
pub target_after : (width own pivot leaving entering place : ℕ) (heads : List ℕ) (row : List ℤ) → length row ≡ width + 3 → entry row place ≡ pos 0 → own ≢ pivot → CanSwap width pivot leaving entering place heads → whole (places width own (moved_heads width pivot leaving entering place heads)) (moved width place row) ≡ whole (pivot_places width own pivot heads) row
target_after width own pivot leaving entering place heads row count none differ swap =
    whole_moved (place_by width own) (pivot_place_by width own pivot) width heads leaving entering place (width + pivot) (moved width place row) row swap.leaving_within swap.entering_within at_leaving at_entering elsewhere
    (untouched width (apart_above width place swap.place_within) (apart width (width + 2) (omega arith)))
  where
    after : length (moved width place row) ≡ width + 3
    after = length_twice row place (width + 2) (entry row (width + 2)) (pos 0) ∙ count

    untouched : (k : ℕ) → k ≢ place → k ≢ width + 2 → entry (moved width place row) k ≡ entry row k
    untouched k not not_spare = twice_elsewhere row place (width + 2) k (entry row (width + 2)) (pos 0) not not_spare

    not_own : width + pivot ≢ width + own
    not_own is = differ (omega (arith, is))

    at_leaving : entry (moved width place row) (place_by width own place) ≡ entry row (pivot_place_by width own pivot (get_or heads leaving 0))
    at_leaving =
        ap (entry (moved width place row)) (place_below width own place swap.place_within)
        ∙ twice_first row place (width + 2) (entry row (width + 2)) (pos 0) (apart place (width + 2) (omega (arith, swap.place_within))) (omega (arith, count, swap.place_within))
        ∙ sym (ap (entry row) (ap (pivot_place_by width own pivot) swap.leaving_is ∙ pivot_place_leaving width own pivot (width + pivot) not_own refl))

    at_entering : entry (moved width place row) (place_by width own (width + pivot)) ≡ entry row (pivot_place_by width own pivot (get_or heads entering 0))
    at_entering =
        ap (entry (moved width place row)) (place_other width own (width + pivot) (omega arith) not_own) ∙ past_end width (moved width place row) after
        ∙ sym (ap (entry row) (ap (pivot_place_by width own pivot) swap.entering_is ∙ pivot_place_below width own pivot place swap.place_within) ∙ none)

    by_kind : (head : ℕ) → head ≢ place → head ≢ width + pivot → Kind width own pivot head → entry (moved width place row) (place_by width own head) ≡ entry row (pivot_place_by width own pivot head)
    by_kind head not not_pivot (below_width h) =
        ap (entry (moved width place row)) (place_below width own head h) ∙ untouched head not (apart head (width + 2) (omega arith))
        ∙ sym (ap (entry row) (pivot_place_below width own pivot head h))
    by_kind head not not_pivot (own_column is) =
        ap (entry (moved width place row)) (place_own width own head is)
        ∙ untouched (width + 1) (apart_above (width + 1) place (omega (arith, swap.place_within))) (apart (width + 1) (width + 2) (omega arith))
        ∙ sym (ap (entry row) (pivot_place_own width own pivot head is))
    by_kind head not not_pivot (leaving_column _ is) = absurd (not_pivot is)
    by_kind head not not_pivot (other_column above not_head _) =
        ap (entry (moved width place row)) (place_other width own head above not_head) ∙ past_end width (moved width place row) after
        ∙ sym (ap (entry row) (pivot_place_other width own pivot head above not_head not_pivot) ∙ past_end width row count)

    elsewhere : (column : ℕ) → column < length heads → column ≢ leaving → column ≢ entering → entry (moved width place row) (place_by width own (get_or heads column 0)) ≡ entry row (pivot_place_by width own pivot (get_or heads column 0))
    elsewhere column within not_leaving not_entering =
        by_kind (get_or heads column 0) (λ is. not_entering (swap.entering_alone column within is)) (λ is. not_leaving (swap.leaving_alone column within is)) (kind_of width own pivot (get_or heads column 0))

-- the pivot row stays
pub pivot_after : (width pivot leaving entering place : ℕ) (heads : List ℕ) (row : List ℤ) → length row ≡ width + 3 → CanSwap width pivot leaving entering place heads → whole (places width pivot (moved_heads width pivot leaving entering place heads)) (swapped width place row) ≡ whole (places width pivot heads) row
pivot_after width pivot leaving entering place heads row count swap =
    whole_moved (place_by width pivot) (place_by width pivot) width heads leaving entering place (width + pivot) (swapped width place row) row swap.leaving_within swap.entering_within at_leaving at_entering elsewhere
    (untouched width (apart_above width place swap.place_within) (apart width (width + 1) (omega arith)))
  where
    untouched : (k : ℕ) → k ≢ place → k ≢ width + 1 → entry (swapped width place row) k ≡ entry row k
    untouched k not not_own = twice_elsewhere row place (width + 1) k (entry row (width + 1)) (entry row place) not not_own

    after : length (swapped width place row) ≡ width + 3
    after = length_twice row place (width + 1) (entry row (width + 1)) (entry row place) ∙ count

    at_leaving : entry (swapped width place row) (place_by width pivot place) ≡ entry row (place_by width pivot (get_or heads leaving 0))
    at_leaving =
        ap (entry (swapped width place row)) (place_below width pivot place swap.place_within)
        ∙ twice_first row place (width + 1) (entry row (width + 1)) (entry row place) (apart place (width + 1) (omega (arith, swap.place_within))) (omega (arith, count, swap.place_within))
        ∙ sym (ap (entry row) (place_own width pivot (get_or heads leaving 0) swap.leaving_is))

    at_entering : entry (swapped width place row) (place_by width pivot (width + pivot)) ≡ entry row (place_by width pivot (get_or heads entering 0))
    at_entering =
        ap (entry (swapped width place row)) (place_own width pivot (width + pivot) refl)
        ∙ twice_second row place (width + 1) (entry row (width + 1)) (entry row place) (omega (arith, count))
        ∙ sym (ap (entry row) (ap (place_by width pivot) swap.entering_is ∙ place_below width pivot place swap.place_within))

    by_kind : (head : ℕ) → head ≢ place → head ≢ width + pivot → Kind width pivot pivot head → entry (swapped width place row) (place_by width pivot head) ≡ entry row (place_by width pivot head)
    by_kind head not not_pivot (below_width h) =
        ap (entry (swapped width place row)) (place_below width pivot head h) ∙ untouched head not (apart head (width + 1) (omega arith))
        ∙ sym (ap (entry row) (place_below width pivot head h))
    by_kind head not not_pivot (own_column is) = absurd (not_pivot is)
    by_kind head not not_pivot (leaving_column _ is) = absurd (not_pivot is)
    by_kind head not not_pivot (other_column above not_head _) =
        ap (entry (swapped width place row)) (place_other width pivot head above not_head) ∙ past_end width (swapped width place row) after
        ∙ sym (ap (entry row) (place_other width pivot head above not_head) ∙ past_end width row count)

    elsewhere : (column : ℕ) → column < length heads → column ≢ leaving → column ≢ entering → entry (swapped width place row) (place_by width pivot (get_or heads column 0)) ≡ entry row (place_by width pivot (get_or heads column 0))
    elsewhere column within not_leaving not_entering =
        by_kind (get_or heads column 0) (λ is. not_entering (swap.entering_alone column within is)) (λ is. not_leaving (swap.leaving_alone column within is)) (kind_of width pivot pivot (get_or heads column 0))
