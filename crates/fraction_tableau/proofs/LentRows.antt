-- The rows of a condensed tableau while the pivot row is lent.
use Rattle.std.proofs.Common.{◌≡◌, ◌≢◌, ℕ, zero, suc, ◌+◌, ◌<◌, ◌≤◌, List, [], ◌∷◌, length, get_or, set, ℤ, pos, ◌<ℤ◌, refl, sym, ap, ap₂, subst, subst₂, ◌∙◌, arith}
use Rattle.std.specs.Prelude.{Option, Some, None, IfNone}
use Rattle.std.specs.List.{All, Contains}
use Rattle.std.proofs.lemmas.List.{length-set, length-map, get_or-set_same, get_or-set_other, ext_get_or}
use Rattle.row_definitions.specs.Rows.{entry, primitive_row}
use Rattle.row_definitions.specs.Combination.{FitsEntry, FitsAt, PassesNowhere, combined}
use Rattle.row_definitions.proofs.Combinations.{entry-combined}
use Rattle.pivot_definitions.specs.Tableaus.{entry_at, HasFittingEntries, HasPrimitiveRows, others_combined}
use Rattle.pivot_definitions.proofs.Pivots.{length-others, same_row, other_row}
use Rattle.condensed_laws.specs.Wholes.{whole}
use Rattle.condensed_laws.specs.Heads.{place_by, places, pivot_places, lent, moved, swapped, IsCondensed, ArePivotRows}
use Rattle.condensed_laws.specs.Tableaus.{CondensedTableau, IsSound, condensed_row, expanded, pivoted_row, condensed_pivot}
use Rattle.condensed_laws.proofs.Wholes.{entry-whole}
use Rattle.condensed_laws.proofs.Pivots.{length_twice, twice_second, twice_elsewhere}
use Rattle.condensed_laws.proofs.PivotRows.{place_count, pivot_passes_nowhere, pivot_fits_at, length-combined}
use Rattle.condensed_laws.proofs.Tableaus.{by_eq, can_swap, pivot_rows, whole_row, length-wholes}
use Rattle.condensed_laws.proofs.Sound.{pivot_stays_sound}
use Rattle.condensed_laws.proofs.Shown.{condensed_rows_fit, condensed_rows_are_primitive, lent_row_is_like_whole}
use Rattle.fraction_tableau.specs.Combinable.{Combinable}
use Rattle.fraction_tableau.specs.Condensed.{IsSoundOrEmpty, lent_row, place_of, CondensedFits, CondensedPassesFirst}
use Rattle.fraction_tableau.specs.Lent.{row_of, AreCombinable, PassNowhereBelow, FitsInColumn, ShowPassing, IsFirstRow, IsFirstColumn, IsFirstPlace}

-- ---- two numbers that change places

abbrev pub exchanged : List ℤ → ℕ → ℕ → List ℤ
exchanged row one other = set (set row one (entry row other)) other (entry row one)

at_one : (row : List ℤ) (one other : ℕ) → one ≢ other → one < length row → entry (exchanged row one other) one ≡ entry row other
at_one row one other differ within = get_or-set_other (set row one (entry row other)) other one (entry row one) (pos 0) differ ∙ get_or-set_same row one (entry row other) (pos 0) within

pub exchanged_twice : (row : List ℤ) (one other : ℕ) → one ≢ other → one < length row → other < length row → exchanged (exchanged row one other) one other ≡ row
exchanged_twice row one other differ one_within other_within =
    let there : List ℤ = exchanged row one other in
    let there_count : length there ≡ length row = length_twice row one other (entry row other) (entry row one) in
    let count : length (exchanged there one other) ≡ length row = length_twice there one other (entry there other) (entry there one) ∙ there_count in
    let back : List ℤ = exchanged there one other in
    ext_get_or (pos 0) back row count (λ k below. by_eq k one
    (λ is. ap (entry back) is ∙ at_one there one other differ (omega (arith, there_count, one_within)) ∙ twice_second row one other (entry row other) (entry row one) other_within ∙ sym (ap (entry row) is))
    (λ not_one. by_eq k other
    (λ is. ap (entry back) is ∙ twice_second there one other (entry there other) (entry there one) (omega (arith, there_count, other_within)) ∙ at_one row one other differ one_within ∙ sym (ap (entry row) is))
    (λ not_other. twice_elsewhere there one other k (entry there other) (entry there one) not_one not_other ∙ twice_elsewhere row one other k (entry row other) (entry row one) not_one not_other)))

-- the spare place is empty, so to lend is to exchange
pub lent_by_exchange : (width : ℕ) (row : List ℤ) → IsCondensed width row → exchanged row (width + 2) (width + 1) ≡ lent width row
lent_by_exchange width row is = ap (λ x. set (set row (width + 2) (entry row (width + 1))) (width + 1) x) is.spare

pub back_from_lent : (width : ℕ) (row : List ℤ) → IsCondensed width row → exchanged (lent width row) (width + 2) (width + 1) ≡ row
back_from_lent width row is =
    ap (λ r. exchanged r (width + 2) (width + 1)) (sym (lent_by_exchange width row is))
    ∙ exchanged_twice row (width + 2) (width + 1) (λ same. absurd (omega (arith, same))) (omega (arith, is.count)) (omega (arith, is.count))

-- a combined row is 0 at the place
pub moved_by_exchange : (width place : ℕ) (target pivot : List ℤ) → length target ≡ length pivot → exchanged (combined target pivot place) place (width + 2) ≡ moved width place (combined target pivot place)
moved_by_exchange width place target pivot lengths =
    let new : List ℤ = combined target pivot place in
    ap (λ x. set (set new place (entry new (width + 2))) (width + 2) x) (entry-combined target pivot place lengths)

-- ---- a row of a tableau

pub entry_is : (t : CondensedTableau) (row column : ℕ) → IsSound t → row < length t.basis + 1 → column < length t.heads + 1 → entry_at (expanded t) row column ≡ entry (condensed_row t row) (get_or (places t.columns row t.heads) column 0)
entry_is t row column sound within column_within =
    ap (λ r. entry r column) (whole_row t.columns t.heads t.rows row (omega (arith, sound.row_count, within)))
    ∙ entry-whole (places t.columns row t.heads) (condensed_row t row) column (omega (arith, place_count (place_by t.columns row) t.columns t.heads, column_within))

-- ---- rows that are written one behind the other

pub set_twice : (rows : List (List ℤ)) (k : ℕ) (x y : List ℤ) → set (set rows k x) k y ≡ set rows k y
set_twice [] k x y = refl
set_twice (row ∷ rows) zero x y = refl
set_twice (row ∷ rows) (suc k) x y = ap (λ xs. row ∷ xs) (set_twice rows k x y)

pub set_same : (rows : List (List ℤ)) (k : ℕ) → set rows k (get_or rows k []) ≡ rows
set_same [] k = refl
set_same (row ∷ rows) zero = refl
set_same (row ∷ rows) (suc k) = ap (λ xs. row ∷ xs) (set_same rows k)

-- a row is combined, and then the column that leaves takes the place
pub moved_rows : (width place k : ℕ) (rows combined_rows after : List (List ℤ)) (target pivot : List ℤ) → length target ≡ length pivot → k < length rows → combined_rows ≡ set rows k (combined target pivot place) → after ≡ set combined_rows k (exchanged (row_of combined_rows k) place (width + 2)) → after ≡ set rows k (moved width place (combined target pivot place))
moved_rows width place k rows combined_rows after target pivot lengths within combined_is after_is =
    after_is
    ∙ ap₂ (λ xs r. set xs k (exchanged r place (width + 2))) combined_is (ap (λ xs. row_of xs k) combined_is ∙ get_or-set_same rows k (combined target pivot place) [] within)
    ∙ set_twice rows k (combined target pivot place) (exchanged (combined target pivot place) place (width + 2))
    ∙ ap (set rows k) (moved_by_exchange width place target pivot lengths)

pub combined_count : (width place k : ℕ) (rows combined_rows : List (List ℤ)) (target pivot : List ℤ) → length target ≡ length pivot → k < length rows → combined_rows ≡ set rows k (combined target pivot place) → length (row_of combined_rows k) ≡ length target
combined_count width place k rows combined_rows target pivot lengths within combined_is =
    ap (λ xs. length (row_of xs k)) combined_is ∙ ap length (get_or-set_same rows k (combined target pivot place) [] within) ∙ length-combined target pivot place lengths

-- ---- the pivot row is lent

module _ (t : CondensedTableau) (row column : ℕ) (sound : IsSound t) (within : row < length t.basis) (column_within : column < length t.heads) (not_basic : ¬ Contains t.basis column) where
  abbrev rows : List (List ℤ)
  rows = set t.rows row (lent_row t row)

  abbrev place : ℕ
  place = place_of t column

  row_inside : row < length t.rows
  row_inside = omega (arith, sound.row_count, within)

  pub rows_count : length rows ≡ length t.rows
  rows_count = length-set t.rows row (lent_row t row)

  pub at_pivot : row_of rows row ≡ lent_row t row
  at_pivot = get_or-set_same t.rows row (lent_row t row) [] row_inside

  pub at_other : (other : ℕ) → other ≢ row → row_of rows other ≡ condensed_row t other
  at_other other not = get_or-set_other t.rows row other (lent_row t row) [] not

  pivot_is : ArePivotRows t.columns (length t.basis) row (get_or t.basis row 0) column (get_or t.heads column 0) t.heads (condensed_row t (length t.basis)) (condensed_row t row)
  pivot_is = pivot_rows t row column sound within column_within not_basic (length t.basis) (omega (arith, sound.row_count)) (λ is. absurd (omega (arith, is, within)))

  row_whole : get_or (expanded t).rows row [] ≡ whole (places t.columns row t.heads) (condensed_row t row)
  row_whole = whole_row t.columns t.heads t.rows row row_inside

  wholes_inside : row < length (expanded t).rows
  wholes_inside = omega (arith, length-wholes t.columns t.heads 0 t.rows, row_inside)

  lent_count : length (lent_row t row) ≡ t.columns + 3
  lent_count = length_twice (condensed_row t row) (t.columns + 2) (t.columns + 1) (entry (condensed_row t row) (t.columns + 1)) (pos 0) ∙ (sound.condensed row row_inside).count

  count_at : (other : ℕ) → other < length rows → length (row_of rows other) ≡ t.columns + 3
  count_at other below = by_eq other row
      (λ is. ap (λ n. length (row_of rows n)) is ∙ ap length at_pivot ∙ lent_count)
      (λ not. ap length (at_other other not) ∙ (sound.condensed other (omega (arith, rows_count, below))).count)

  module _ (few : t.columns ≤ 2048) (positive : pos 0 <ℤ entry_at (expanded t) row column) (fits : HasFittingEntries (expanded t)) (primitive : HasPrimitiveRows (expanded t)) where
    like : (All FitsEntry (whole (places t.columns row t.heads) (condensed_row t row)) → All FitsEntry (lent t.columns (condensed_row t row)))
        × (primitive_row (whole (places t.columns row t.heads) (condensed_row t row)) ≡ whole (places t.columns row t.heads) (condensed_row t row) → primitive_row (lent t.columns (condensed_row t row)) ≡ lent t.columns (condensed_row t row))
        × (entry (lent t.columns (condensed_row t row)) (get_or t.heads column 0) ≡ entry (whole (places t.columns row t.heads) (condensed_row t row)) column)
    like = lent_row_is_like_whole t.columns (length t.basis) row (get_or t.basis row 0) column (get_or t.heads column 0) t.heads (condensed_row t (length t.basis)) (condensed_row t row) pivot_is

    place_inside : place < t.columns
    place_inside = (can_swap t row column sound within column_within not_basic).place_within

    combinable_at : (other : ℕ) → other < length t.rows → other ≢ row → Combinable (condensed_row t other) (lent_row t row) place
    combinable_at other inside not = record {
      rows = record {
        lengths = (sound.condensed other inside).count ∙ sym lent_count;
        within = omega (arith, (sound.condensed other inside).count, place_inside);
        positive = subst (λ x. pos 0 <ℤ x) (ap (λ r. entry r column) row_whole ∙ sym like.2) positive;
        target_fits = condensed_rows_fit t sound fits other [] inside;
        pivot_fits = like.0 (subst (λ r. All FitsEntry r) row_whole (fits row [] wholes_inside));
      };
      columns = omega (arith, (sound.condensed other inside).count, few);
      primitive = condensed_rows_are_primitive t sound primitive other [] inside;
      pivot_primitive = like.1 (subst (λ r. primitive_row r ≡ r) row_whole (primitive row [] wholes_inside));
    }

    pub lent_combinable : AreCombinable rows t.columns row place
    lent_combinable = record {
      pivot_within = omega (arith, rows_count, row_inside);
      place_within = place_inside;
      lengths = count_at;
      combinable = λ other below not. subst₂ (λ x y. Combinable x y place) (sym (at_other other not)) (sym at_pivot) (combinable_at other (omega (arith, rows_count, below)) not);
      pivot_own = ap (λ r. entry r (t.columns + 1)) at_pivot
          ∙ twice_second (condensed_row t row) (t.columns + 2) (t.columns + 1) (entry (condensed_row t row) (t.columns + 1)) (pos 0) (omega (arith, (sound.condensed row row_inside).count));
      spare = λ other below not. ap (λ r. entry r (t.columns + 2)) (at_other other not) ∙ (sound.condensed other (omega (arith, rows_count, below))).spare;
    }

  -- some column shows the place at which the combination of a row passes
  pub columns_show : ShowPassing rows t.columns t.heads row place
  columns_show other below not each =
      let inside : other < length t.rows = omega (arith, rows_count, below) in
      let is = pivot_rows t row column sound within column_within not_basic other inside not in
      let target = condensed_row t other in
      let source = condensed_row t row in
      let leaving = get_or t.basis row 0 in
      let count : length (whole (places t.columns other t.heads) target) ≡ length t.heads + 1 = length-map (places t.columns other t.heads) (entry target) ∙ place_count (place_by t.columns other) t.columns t.heads in
      let nowhere = (pivot_passes_nowhere t.columns other row leaving column place t.heads target source is).0 (λ k k_below.
      let k_inside = subst (λ n. k < n) count k_below in
      (pivot_fits_at t.columns other row leaving column place t.heads target source is k k_inside).1
      (subst₂ (λ x y. FitsAt x y place (get_or (pivot_places t.columns other row t.heads) k 0)) (at_other other not) at_pivot (each k k_inside))) in
      subst₂ (λ x y. PassesNowhere x y place) (sym (at_other other not)) (sym at_pivot) nowhere

  pub nowhere_below : (count : ℕ) → PassNowhereBelow rows row place count → (other : ℕ) → other < count → other ≢ row → PassesNowhere (condensed_row t other) (lent_row t row) place
  nowhere_below count nowhere other below not = subst₂ (λ x y. PassesNowhere x y place) (at_other other not) at_pivot (nowhere other below not)

  pub nowhere_back : (count : ℕ) → ((other : ℕ) → other < count → other ≢ row → PassesNowhere (condensed_row t other) (lent_row t row) place) → PassNowhereBelow rows row place count
  nowhere_back count nowhere other below not = subst₂ (λ x y. PassesNowhere x y place) (sym (at_other other not)) (sym at_pivot) (nowhere other below not)

  pub condensed_fits : PassNowhereBelow rows row place (length rows) → CondensedFits t row column
  condensed_fits nowhere other below not = nowhere_below (length rows) nowhere other (omega (arith, rows_count, below)) not

  pub first_place_is : (at_row at_column : ℕ) → IsFirstPlace rows t.columns t.heads row place at_row at_column → CondensedPassesFirst t row column at_row at_column
  first_place_is at_row at_column is =
      record {
        within = omega (arith, rows_count, is.row.within);
        another = is.row.another;
        at_within = is.column.within;
        passes = λ fit. is.column.passes (subst₂ (λ x y. FitsAt x y place (get_or (pivot_places t.columns at_row row t.heads) at_column 0)) (sym (at_other at_row is.row.another)) (sym at_pivot) fit);
        fits_before = λ before less. subst₂ (λ x y. FitsAt x y place (get_or (pivot_places t.columns at_row row t.heads) before 0)) (at_other at_row is.row.another) at_pivot (is.column.fits_before before less);
        rows_before = nowhere_below at_row is.row.rows_before;
      }

  -- ---- the rows one behind the other

  pub lent_rows : (after : List (List ℤ)) → after ≡ set t.rows row (exchanged (row_of t.rows row) (t.columns + 2) (t.columns + 1)) → after ≡ rows
  lent_rows after is = is ∙ ap (set t.rows row) (lent_by_exchange t.columns (condensed_row t row) (sound.condensed row row_inside))

  pub given_back : (after : List (List ℤ)) → after ≡ set rows row (exchanged (row_of rows row) (t.columns + 2) (t.columns + 1)) → after ≡ t.rows
  given_back after is =
      is
      ∙ ap (λ r. set rows row (exchanged r (t.columns + 2) (t.columns + 1))) at_pivot
      ∙ ap (set rows row) (back_from_lent t.columns (condensed_row t row) (sound.condensed row row_inside))
      ∙ set_twice t.rows row (lent_row t row) (condensed_row t row)
      ∙ set_same t.rows row

  abbrev combine : List ℤ → List ℤ → List ℤ
  combine pivot target = moved t.columns place (combined target pivot place)

  others_same : others_combined (combine (row_of rows row)) rows row ≡ set (others_combined (combine (lent_row t row)) t.rows row) row (lent_row t row)
  others_same =
      let f : List ℤ → List ℤ = combine (row_of rows row) in
      let g : List ℤ → List ℤ = combine (lent_row t row) in
      let left : List (List ℤ) = others_combined f rows row in
      let plain : List (List ℤ) = others_combined g t.rows row in
      let plain_count : length plain ≡ length t.rows = length-others g t.rows row row_inside in
      let left_count : length left ≡ length t.rows = length-others f rows row (omega (arith, rows_count, row_inside)) ∙ rows_count in
      ext_get_or [] left (set plain row (lent_row t row)) (left_count ∙ sym (length-set plain row (lent_row t row) ∙ plain_count)) (λ k below. by_eq k row
      (λ is. ap (λ n. get_or left n []) is ∙ same_row f rows row ∙ at_pivot ∙ sym (ap (λ n. get_or (set plain row (lent_row t row)) n []) is ∙ get_or-set_same plain row (lent_row t row) [] (omega (arith, plain_count, row_inside))))
      (λ not.
      let inside : k < length t.rows = omega (arith, left_count, below) in
      other_row f rows row k (omega (arith, rows_count, inside)) not
      ∙ ap₂ combine at_pivot (at_other k not)
      ∙ sym (get_or-set_other plain row k (lent_row t row) [] not ∙ other_row g t.rows row k inside not)))

  pub pivoted_rows : (others back after : List (List ℤ)) → others ≡ others_combined (combine (row_of rows row)) rows row → back ≡ set others row (exchanged (row_of others row) (t.columns + 2) (t.columns + 1)) → after ≡ set back row (exchanged (row_of back row) place (t.columns + 1)) → after ≡ (condensed_pivot t row column).rows
  pivoted_rows others back after others_is back_is after_is =
      let plain : List (List ℤ) = others_combined (combine (lent_row t row)) t.rows row in
      let plain_count : length plain ≡ length t.rows = length-others (combine (lent_row t row)) t.rows row row_inside in
      let inside : row < length plain = omega (arith, plain_count, row_inside) in
      let others_there : others ≡ set plain row (lent_row t row) = others_is ∙ others_same in
      let lent_there : row_of others row ≡ lent_row t row = ap (λ xs. row_of xs row) others_there ∙ get_or-set_same plain row (lent_row t row) [] inside in
      let back_there : back ≡ set plain row (condensed_row t row) =
      back_is
      ∙ ap₂ (λ xs r. set xs row (exchanged r (t.columns + 2) (t.columns + 1))) others_there lent_there
      ∙ ap (set (set plain row (lent_row t row)) row) (back_from_lent t.columns (condensed_row t row) (sound.condensed row row_inside))
      ∙ set_twice plain row (lent_row t row) (condensed_row t row) in
      let row_there : row_of back row ≡ condensed_row t row = ap (λ xs. row_of xs row) back_there ∙ get_or-set_same plain row (condensed_row t row) [] inside in
      after_is
      ∙ ap₂ (λ xs r. set xs row (exchanged r place (t.columns + 1))) back_there row_there
      ∙ set_twice plain row (condensed_row t row) (exchanged (condensed_row t row) place (t.columns + 1))

-- ---- each row but one is combined, one after the other

pub record IsBetween (f : List ℤ → List ℤ) (before now : List (List ℤ)) (pivot i : ℕ) : Type 0 where
  pub count : length now ≡ length before
  pub pivot_stays : row_of now pivot ≡ row_of before pivot
  pub combined_below : (k : ℕ) → k < i → k ≢ pivot → row_of now k ≡ f (row_of before k)
  pub others_stay : (k : ℕ) → i ≤ k → row_of now k ≡ row_of before k

pub between_start : (f : List ℤ → List ℤ) (before : List (List ℤ)) (pivot : ℕ) → IsBetween f before before pivot 0
between_start f before pivot = record { count = refl; pivot_stays = refl; combined_below = λ k below not. absurd (omega arith); others_stay = λ k from. refl }

pub between_step : (f : List ℤ → List ℤ) (before now after : List (List ℤ)) (pivot i : ℕ) → IsBetween f before now pivot i → i < length before → i ≢ pivot → after ≡ set now i (f (row_of before i)) → IsBetween f before after pivot (i + 1)
between_step f before now after pivot i is within not after_is = record {
  count = ap length after_is ∙ length-set now i (f (row_of before i)) ∙ is.count;
  pivot_stays = elsewhere pivot (λ same. not (sym same)) ∙ is.pivot_stays;
  combined_below = λ k below not_pivot. by_eq k i
      (λ same. ap (row_of after) same ∙ ap (λ xs. row_of xs i) after_is ∙ get_or-set_same now i (f (row_of before i)) [] (omega (arith, is.count, within)) ∙ ap (λ n. f (row_of before n)) (sym same))
      (λ differ. elsewhere k differ ∙ is.combined_below k (omega (arith, below, differ)) not_pivot);
  others_stay = λ k from. elsewhere k (λ same. absurd (omega (arith, same, from))) ∙ is.others_stay k (omega (arith, from));
} where
  elsewhere : (k : ℕ) → k ≢ i → row_of after k ≡ row_of now k
  elsewhere k differ = ap (λ xs. row_of xs k) after_is ∙ get_or-set_other now i k (f (row_of before i)) [] differ

pub between_skip : (f : List ℤ → List ℤ) (before now : List (List ℤ)) (pivot i : ℕ) → IsBetween f before now pivot i → i ≡ pivot → IsBetween f before now pivot (i + 1)
between_skip f before now pivot i is same = record {
  count = is.count;
  pivot_stays = is.pivot_stays;
  combined_below = λ k below not. is.combined_below k (omega (arith, below, same, not)) not;
  others_stay = λ k from. is.others_stay k (omega (arith, from));
}

pub between_end : (f : List ℤ → List ℤ) (before now : List (List ℤ)) (pivot i : ℕ) → IsBetween f before now pivot i → length before ≤ i → pivot < length before → now ≡ others_combined f before pivot
between_end f before now pivot i is all within =
    let right : List (List ℤ) = others_combined f before pivot in
    ext_get_or [] now right (is.count ∙ sym (length-others f before pivot within)) (λ k below. by_eq k pivot
    (λ same. ap (row_of now) same ∙ is.pivot_stays ∙ sym (ap (λ n. get_or right n []) same ∙ same_row f before pivot))
    (λ not.
    let inside : k < length before = omega (arith, is.count, below) in
    is.combined_below k (omega (arith, inside, all)) not ∙ sym (other_row f before pivot k inside not)))

-- ---- what a pivot of a tableau asks, and what follows from it

pub record CanPivot (t : CondensedTableau) (row column : ℕ) : Type 0 where
  pub kept : IsSoundOrEmpty t
  pub within : row < length t.basis
  pub column_within : column < length t.heads
  pub not_basic : ¬ Contains t.basis column
  pub positive : pos 0 <ℤ entry_at (expanded t) row column
  pub fits : HasFittingEntries (expanded t)
  pub primitive : HasPrimitiveRows (expanded t)

pub sound_in : (t : CondensedTableau) (row column : ℕ) → CanPivot t row column → IsSound t
sound_in t row column can = can.kept.sound (omega (arith, can.column_within))

-- the fields and the view are one tableau
pub can_pivot : (t now : CondensedTableau) (row column : ℕ) → t ≡ now → IsSoundOrEmpty t → row < length now.basis → column < length now.heads → (¬ Contains now.basis column) → pos 0 <ℤ entry_at (expanded now) row column → HasFittingEntries (expanded now) → HasPrimitiveRows (expanded now) → CanPivot t row column
can_pivot t now row column same kept within column_within not_basic positive fits primitive =
    let there : CanPivot now row column = record {
      kept = subst IsSoundOrEmpty same kept;
      within = within;
      column_within = column_within;
      not_basic = not_basic;
      positive = positive;
      fits = fits;
      primitive = primitive;
    } in
    subst (λ (s : CondensedTableau). CanPivot s row column) (sym same) there

pub combinable_here : (t : CondensedTableau) (row column : ℕ) → CanPivot t row column → (lent_ones : List (List ℤ)) (at : ℕ) → lent_ones ≡ set t.rows row (exchanged (row_of t.rows row) (t.columns + 2) (t.columns + 1)) → at ≡ get_or t.heads column 0 → AreCombinable lent_ones t.columns row at
combinable_here t row column can lent_ones at lent_is place_is =
    let sound = sound_in t row column can in
    subst₂ (λ rows k. AreCombinable rows t.columns row k) (sym (lent_rows t row column sound can.within can.column_within can.not_basic lent_ones lent_is)) (sym place_is)
    (lent_combinable t row column sound can.within can.column_within can.not_basic can.kept.few_columns can.positive can.fits can.primitive)

pub shown_here : (t : CondensedTableau) (row column : ℕ) → CanPivot t row column → (lent_ones : List (List ℤ)) (at : ℕ) (heads : List ℕ) → lent_ones ≡ set t.rows row (exchanged (row_of t.rows row) (t.columns + 2) (t.columns + 1)) → at ≡ get_or t.heads column 0 → heads ≡ t.heads → ShowPassing lent_ones t.columns heads row at
shown_here t row column can lent_ones at heads lent_is place_is heads_is =
    let sound = sound_in t row column can in
    subst (λ hs. ShowPassing lent_ones t.columns hs row at) (sym heads_is)
    (subst₂ (λ rows k. ShowPassing rows t.columns t.heads row k) (sym (lent_rows t row column sound can.within can.column_within can.not_basic lent_ones lent_is)) (sym place_is)
    (columns_show t row column sound can.within can.column_within can.not_basic))

pub back_here : (t : CondensedTableau) (row column : ℕ) → CanPivot t row column → (lent_ones after : List (List ℤ)) → lent_ones ≡ set t.rows row (exchanged (row_of t.rows row) (t.columns + 2) (t.columns + 1)) → after ≡ set lent_ones row (exchanged (row_of lent_ones row) (t.columns + 2) (t.columns + 1)) → after ≡ t.rows
back_here t row column can lent_ones after lent_is after_is =
    let sound = sound_in t row column can in
    given_back t row column sound can.within can.column_within can.not_basic after
    (after_is ∙ ap (λ xs. set xs row (exchanged (row_of xs row) (t.columns + 2) (t.columns + 1))) (lent_rows t row column sound can.within can.column_within can.not_basic lent_ones lent_is))

pub lent_counts : (t : CondensedTableau) (row column : ℕ) → CanPivot t row column → (lent_ones : List (List ℤ)) → lent_ones ≡ set t.rows row (exchanged (row_of t.rows row) (t.columns + 2) (t.columns + 1)) → length lent_ones ≡ length t.rows
lent_counts t row column can lent_ones lent_is = ap length lent_is ∙ length-set t.rows row (exchanged (row_of t.rows row) (t.columns + 2) (t.columns + 1))

pub row_count_here : (t : CondensedTableau) (row column : ℕ) → CanPivot t row column → (other : ℕ) → other < length t.rows → length (row_of t.rows other) ≡ t.columns + 3
row_count_here t row column can other inside = ((sound_in t row column can).condensed other inside).count

pub fits_here : (t : CondensedTableau) (row column : ℕ) → CanPivot t row column → (lent_ones : List (List ℤ)) (at : ℕ) → lent_ones ≡ set t.rows row (exchanged (row_of t.rows row) (t.columns + 2) (t.columns + 1)) → at ≡ get_or t.heads column 0 → PassNowhereBelow lent_ones row at (length lent_ones) → CondensedFits t row column
fits_here t row column can lent_ones at lent_is place_is nowhere =
    let sound = sound_in t row column can in
    condensed_fits t row column sound can.within can.column_within can.not_basic
    (subst₂ (λ rows k. PassNowhereBelow rows row k (length rows)) (lent_rows t row column sound can.within can.column_within can.not_basic lent_ones lent_is) place_is nowhere)

pub fits_there : (t : CondensedTableau) (row column : ℕ) → CanPivot t row column → (lent_ones : List (List ℤ)) (at : ℕ) → lent_ones ≡ set t.rows row (exchanged (row_of t.rows row) (t.columns + 2) (t.columns + 1)) → at ≡ get_or t.heads column 0 → CondensedFits t row column → PassNowhereBelow lent_ones row at (length lent_ones)
fits_there t row column can lent_ones at lent_is place_is nowhere =
    let sound = sound_in t row column can in
    subst₂ (λ rows k. PassNowhereBelow rows row k (length rows)) (sym (lent_rows t row column sound can.within can.column_within can.not_basic lent_ones lent_is)) (sym place_is)
    (nowhere_back t row column sound can.within can.column_within can.not_basic (length (set t.rows row (lent_row t row))) (λ other below not. nowhere other (omega (arith, length-set t.rows row (lent_row t row), below)) not))

pub place_here : (t : CondensedTableau) (row column : ℕ) → CanPivot t row column → (lent_ones : List (List ℤ)) (at : ℕ) (heads : List ℕ) (at_row at_column : ℕ) → lent_ones ≡ set t.rows row (exchanged (row_of t.rows row) (t.columns + 2) (t.columns + 1)) → at ≡ get_or t.heads column 0 → heads ≡ t.heads → IsFirstPlace lent_ones t.columns heads row at at_row at_column → CondensedPassesFirst t row column at_row at_column
place_here t row column can lent_ones at heads at_row at_column lent_is place_is heads_is is =
    let sound = sound_in t row column can in
    first_place_is t row column sound can.within can.column_within can.not_basic at_row at_column
    (subst₂ (λ rows k. IsFirstPlace rows t.columns t.heads row k at_row at_column) (lent_rows t row column sound can.within can.column_within can.not_basic lent_ones lent_is) place_is
    (subst (λ hs. IsFirstPlace lent_ones t.columns hs row at at_row at_column) heads_is is))

-- the rows after a pivot
pub pivoted_here : (t : CondensedTableau) (row column : ℕ) → CanPivot t row column → (lent_ones others back after : List (List ℤ)) (at : ℕ) → lent_ones ≡ set t.rows row (exchanged (row_of t.rows row) (t.columns + 2) (t.columns + 1)) → at ≡ get_or t.heads column 0 →
    others ≡ others_combined (λ target. moved t.columns at (combined target (row_of lent_ones row) at)) lent_ones row → back ≡ set others row (exchanged (row_of others row) (t.columns + 2) (t.columns + 1)) → after ≡ set back row (exchanged (row_of back row) at (t.columns + 1)) → after ≡ (condensed_pivot t row column).rows
pivoted_here t row column can lent_ones others back after at lent_is place_is others_is back_is after_is =
    let sound = sound_in t row column can in
    let there = lent_rows t row column sound can.within can.column_within can.not_basic lent_ones lent_is in
    pivoted_rows t row column sound can.within can.column_within can.not_basic others back after
    (others_is ∙ ap₂ (λ xs k. others_combined (λ target. moved t.columns k (combined target (row_of xs row) k)) xs row) there place_is)
    back_is
    (after_is ∙ ap (λ k. set back row (exchanged (row_of back row) k (t.columns + 1))) place_is)

-- the rows stay of one length
pub others_count : (t : CondensedTableau) (row column : ℕ) → CanPivot t row column → (lent_ones others : List (List ℤ)) (at : ℕ) → lent_ones ≡ set t.rows row (exchanged (row_of t.rows row) (t.columns + 2) (t.columns + 1)) →
    others ≡ others_combined (λ target. moved t.columns at (combined target (row_of lent_ones row) at)) lent_ones row → (length others ≡ length t.rows) × (length (row_of others row) ≡ t.columns + 3)
others_count t row column can lent_ones others at lent_is others_is =
    let sound = sound_in t row column can in
    let inside : row < length t.rows = omega (arith, sound.row_count, can.within) in
    let count = lent_counts t row column can lent_ones lent_is in
    let f : List ℤ → List ℤ = λ target. moved t.columns at (combined target (row_of lent_ones row) at) in (
      ap length others_is ∙ length-others f lent_ones row (omega (arith, count, inside)) ∙ count,
      ap (λ xs. length (row_of xs row)) others_is ∙ ap length (same_row f lent_ones row)
          ∙ ap (λ xs. length (row_of xs row)) (lent_rows t row column sound can.within can.column_within can.not_basic lent_ones lent_is)
          ∙ ap length (at_pivot t row column sound can.within can.column_within can.not_basic)
          ∙ lent_count t row column sound can.within can.column_within can.not_basic,
    )

pub back_count : (width row : ℕ) (others back : List (List ℤ)) → back ≡ set others row (exchanged (row_of others row) (width + 2) (width + 1)) → row < length others → length (row_of others row) ≡ width + 3 → length (row_of back row) ≡ width + 3
back_count width row others back back_is within count =
    let r : List ℤ = row_of others row in
    ap (λ xs. length (row_of xs row)) back_is
    ∙ ap length (get_or-set_same others row (exchanged r (width + 2) (width + 1)) [] within)
    ∙ length_twice r (width + 2) (width + 1) (entry r (width + 1)) (entry r (width + 2))
    ∙ count

pub place_below_width : (t : CondensedTableau) (row column : ℕ) → CanPivot t row column → (head : ℕ) → head ≡ get_or t.heads column 0 → head < t.columns
place_below_width t row column can head head_is =
    let inside = (can_swap t row column (sound_in t row column can) can.within can.column_within can.not_basic).place_within in
    omega (arith, head_is, inside)

-- the tableau after a pivot
pub pivoted_is : (t : CondensedTableau) (row column : ℕ) (new_rows : List (List ℤ)) (leaving head : ℕ) → new_rows ≡ (condensed_pivot t row column).rows → leaving ≡ get_or t.basis row 0 → head ≡ get_or t.heads column 0 →
    record { columns = t.columns; rows = new_rows; basis = set t.basis row column; heads = set (set t.heads leaving head) column (t.columns + row) } ≡ condensed_pivot t row column
pivoted_is t row column new_rows leaving head rows_is leaving_is head_is =
    let with : List (List ℤ) → ℕ → ℕ → CondensedTableau = λ xs l h. record { columns = t.columns; rows = xs; basis = set t.basis row column; heads = set (set t.heads l h) column (t.columns + row) } in
    ap (λ xs. with xs leaving head) rows_is ∙ ap₂ (λ l h. with (condensed_pivot t row column).rows l h) leaving_is head_is

pub kept_after_pivot : (t : CondensedTableau) (row column : ℕ) → CanPivot t row column → IsSoundOrEmpty (condensed_pivot t row column)
kept_after_pivot t row column can =
    let heads_count : length (condensed_pivot t row column).heads ≡ length t.heads = length-set (set t.heads (get_or t.basis row 0) (get_or t.heads column 0)) column (t.columns + row) ∙ length-set t.heads (get_or t.basis row 0) (get_or t.heads column 0) in
    let basis_count : length (condensed_pivot t row column).basis ≡ length t.basis = length-set t.basis row column in
    record {
      few_columns = can.kept.few_columns;
      few_rows = omega (arith, basis_count, can.kept.few_rows);
      sound = λ some. pivot_stays_sound t row column (sound_in t row column can) can.within can.column_within can.not_basic;
      some_column = λ some. can.kept.some_column (omega (arith, can.column_within));
      some_row = λ some. omega (arith, basis_count, can.within);
      empty = λ none. absurd (omega (arith, heads_count, can.column_within, none));
    }

-- a fact in place of another, if there is no value
pub none_then : {X : Type 0} (o : Option X) {P Q : Type 0} → IfNone o P → (P → Q) → IfNone o Q
none_then None is then = then is
none_then (Some x) is then = tt
