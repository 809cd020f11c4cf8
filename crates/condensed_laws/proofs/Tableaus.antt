-- A pivot of a condensed tableau is one of the tableau that it stands for.
use Rattle.std.proofs.Common.{◌≡◌, ◌≢◌, ℕ, zero, suc, ◌+◌, ◌-◌, ◌<◌, ◌≤◌, ◌⊎◌, inl, inr, true, false, List, [], ◌∷◌, length, get_or, set, ℤ, pos, refl, sym, ap, ap₂, subst, ◌∙◌, arith}
use Rattle.std.specs.Prelude.{◌==◌}
use Rattle.std.specs.List.{Contains}
use Rattle.std.proofs.lemmas.Bool.Decides.{eqb_tells}
use Rattle.std.proofs.lemmas.List.{length-set, get_or-set_same, get_or-set_other, get_or_default, ext_get_or}
use Rattle.row_definitions.specs.Rows.{entry}
use Rattle.row_definitions.specs.Combination.{combined}
use Rattle.pivot_definitions.specs.Tableaus.{SimplexTableau, row_at, others_combined}
use Rattle.pivot_definitions.proofs.Pivots.{length-others, same_row, other_row}
use Rattle.condensed_laws.specs.Wholes.{whole, IsShown}
use Rattle.condensed_laws.specs.Heads.{places, swapped, CanSwap, ArePivotRows}
use Rattle.condensed_laws.specs.Tableaus.{CondensedTableau, wholes, expanded, condensed_row, IsSound, pivoted_row, condensed_pivot}
use Rattle.condensed_laws.specs.Laws.{PivotOfCondensed}
use Rattle.condensed_laws.proofs.Wholes.{below_or}
use Rattle.condensed_laws.proofs.Pivots.{pivot_after}
use Rattle.condensed_laws.proofs.PivotRows.{target_of_pivot}

-- ---- the whole rows

pub length-wholes : (width : ℕ) (heads : List ℕ) (own : ℕ) (rows : List (List ℤ)) → length (wholes width heads own rows) ≡ length rows
length-wholes width heads own [] = refl
length-wholes width heads own (row ∷ rows) = ap suc (length-wholes width heads (suc own) rows)

wholes_from : (width : ℕ) (heads : List ℕ) (own : ℕ) (rows : List (List ℤ)) (k : ℕ) → k < length rows → get_or (wholes width heads own rows) k [] ≡ whole (places width (own + k) heads) (get_or rows k [])
wholes_from width heads own [] k within = absurd (omega arith)
wholes_from width heads own (row ∷ rows) zero within = ap (λ n. whole (places width n heads) row) (let e : own ≡ own + 0 = omega arith in e)
wholes_from width heads own (row ∷ rows) (suc k) within =
    wholes_from width heads (suc own) rows k (omega arith)
    ∙ ap (λ n. whole (places width n heads) (get_or rows k [])) (let e : suc own + k ≡ own + suc k = omega arith in e)

pub whole_row : (width : ℕ) (heads : List ℕ) (rows : List (List ℤ)) (k : ℕ) → k < length rows → get_or (wholes width heads 0 rows) k [] ≡ whole (places width k heads) (get_or rows k [])
whole_row width heads rows k within = wholes_from width heads 0 rows k within ∙ ap (λ n. whole (places width n heads) (get_or rows k [])) (let e : 0 + k ≡ k = omega arith in e)

-- ---- what a pivot may swap

-- a column that is not basic has a place
open_head : (t : CondensedTableau) (column : ℕ) → IsSound t → column < length t.heads → ¬ Contains t.basis column → get_or t.heads column 0 < t.columns
open_head t column sound within not_basic = by_height (below_or (get_or t.heads column 0) t.columns) where
  by_height : (get_or t.heads column 0 < t.columns) ⊎ (t.columns ≤ get_or t.heads column 0) → get_or t.heads column 0 < t.columns
  by_height (inl less) = less
  by_height (inr above) =
      let head : ℕ = get_or t.heads column 0 in
      let row : ℕ = head - t.columns in
      let inside : row < length t.basis = omega (arith, sound.heads_within column within, above) in
      let is : head ≡ t.columns + row = omega (arith, above) in
      let same : get_or t.basis row 0 ≡ column = sound.one_column (get_or t.basis row 0) column (sound.basis_within row inside) within (sound.basic_head row inside ∙ sym is) in
      absurd (not_basic (row, inside, get_or_default t.basis row column 0 inside ∙ same))

pub can_swap : (t : CondensedTableau) (row column : ℕ) → IsSound t → row < length t.basis → column < length t.heads → ¬ Contains t.basis column → CanSwap t.columns row (get_or t.basis row 0) column (get_or t.heads column 0) t.heads
can_swap t row column sound within column_within not_basic = record {
  place_within = open_head t column sound column_within not_basic;
  entering_within = column_within;
  leaving_within = sound.basis_within row within;
  entering_is = refl;
  leaving_is = sound.basic_head row within;
  entering_alone = λ other inside is. sound.one_column other column inside column_within is;
  leaving_alone = λ other inside is. sound.one_column other (get_or t.basis row 0) inside (sound.basis_within row within) (is ∙ sym (sound.basic_head row within));
}

pub pivot_rows : (t : CondensedTableau) (row column : ℕ) → IsSound t → row < length t.basis → column < length t.heads → ¬ Contains t.basis column → (own : ℕ) → own < length t.rows → own ≢ row → ArePivotRows t.columns own row (get_or t.basis row 0) column (get_or t.heads column 0) t.heads (condensed_row t own) (condensed_row t row)
pivot_rows t row column sound within column_within not_basic own inside another = record {
  target_condensed = sound.condensed own inside;
  row_condensed = sound.condensed row (omega (arith, sound.row_count));
  another = another;
  swap = can_swap t row column sound within column_within not_basic;
  places_shown = sound.places_shown;
  own_shown = by_objective (below_or own (length t.basis));
} where
  by_objective : (own < length t.basis) ⊎ (length t.basis ≤ own) → (entry (condensed_row t own) (t.columns + 1) ≡ pos 0) ⊎ IsShown t.heads (t.columns + own)
  by_objective (inl constraint) = inr (record { column = get_or t.basis own 0; within = sound.basis_within own constraint; is = sound.basic_head own constraint })
  by_objective (inr last) =
      let is : own ≡ length t.basis = omega (arith, sound.row_count, last) in
      inl (ap (λ n. entry (condensed_row t n) (t.columns + 1)) is ∙ sound.objective_own)

-- ---- the pivot

pub by_eq : {X : Type 0} (k p : ℕ) → (k ≡ p → X) → (k ≢ p → X) → X
by_eq {X} k p same other = pick (eqb_tells k p) where
  pick : ((k == p ≡ true) × (k ≡ p)) ⊎ ((k == p ≡ false) × (k ≢ p)) → X
  pick (inl is) = same is.1
  pick (inr not) = other not.1

pub length-new_rows : (t : CondensedTableau) (row column : ℕ) → row < length t.rows → length (condensed_pivot t row column).rows ≡ length t.rows
length-new_rows t row column within =
    let f = pivoted_row t.columns (get_or t.heads column 0) (condensed_row t row) in
    length-set (others_combined f t.rows row) row (swapped t.columns (get_or t.heads column 0) (condensed_row t row)) ∙ length-others f t.rows row within

pub new_pivot_row : (t : CondensedTableau) (row column : ℕ) → row < length t.rows → condensed_row (condensed_pivot t row column) row ≡ swapped t.columns (get_or t.heads column 0) (condensed_row t row)
new_pivot_row t row column within =
    let f = pivoted_row t.columns (get_or t.heads column 0) (condensed_row t row) in
    get_or-set_same (others_combined f t.rows row) row (swapped t.columns (get_or t.heads column 0) (condensed_row t row)) [] (subst (λ n. row < n) (sym (length-others f t.rows row within)) within)

pub new_other_row : (t : CondensedTableau) (row column k : ℕ) → k < length t.rows → k ≢ row → condensed_row (condensed_pivot t row column) k ≡ pivoted_row t.columns (get_or t.heads column 0) (condensed_row t row) (condensed_row t k)
new_other_row t row column k within not =
    let f = pivoted_row t.columns (get_or t.heads column 0) (condensed_row t row) in
    get_or-set_other (others_combined f t.rows row) row k (swapped t.columns (get_or t.heads column 0) (condensed_row t row)) [] not ∙ other_row f t.rows row k within not

-- the whole rows after the pivot, one by one
each_row : (t : CondensedTableau) (row column : ℕ) → IsSound t → row < length t.basis → column < length t.heads → ¬ Contains t.basis column → (k : ℕ) → k < length t.rows →
    get_or (wholes t.columns (condensed_pivot t row column).heads 0 (condensed_pivot t row column).rows) k []
    ≡ get_or (others_combined (λ target. combined target (row_at (expanded t) row) column) (expanded t).rows row) k []
each_row t row column sound within column_within not_basic k k_within = by_eq k row same other where
  inside : row < length t.rows
  inside = omega (arith, sound.row_count)

  after : get_or (wholes t.columns (condensed_pivot t row column).heads 0 (condensed_pivot t row column).rows) k [] ≡ whole (places t.columns k (condensed_pivot t row column).heads) (condensed_row (condensed_pivot t row column) k)
  after = whole_row t.columns (condensed_pivot t row column).heads (condensed_pivot t row column).rows k (subst (λ n. k < n) (sym (length-new_rows t row column inside)) k_within)

  same : k ≡ row → get_or (wholes t.columns (condensed_pivot t row column).heads 0 (condensed_pivot t row column).rows) k [] ≡ get_or (others_combined (λ target. combined target (row_at (expanded t) row) column) (expanded t).rows row) k []
  same is =
      after
      ∙ ap (λ n. whole (places t.columns n (condensed_pivot t row column).heads) (condensed_row (condensed_pivot t row column) n)) is
      ∙ ap (whole (places t.columns row (condensed_pivot t row column).heads)) (new_pivot_row t row column inside)
      ∙ pivot_after t.columns row (get_or t.basis row 0) column (get_or t.heads column 0) t.heads (condensed_row t row) (sound.condensed row inside).count (can_swap t row column sound within column_within not_basic)
      ∙ sym (whole_row t.columns t.heads t.rows row inside)
      ∙ sym (same_row (λ target. combined target (row_at (expanded t) row) column) (expanded t).rows row)
      ∙ sym (ap (λ n. get_or (others_combined (λ target. combined target (row_at (expanded t) row) column) (expanded t).rows row) n []) is)

  other : k ≢ row → get_or (wholes t.columns (condensed_pivot t row column).heads 0 (condensed_pivot t row column).rows) k [] ≡ get_or (others_combined (λ target. combined target (row_at (expanded t) row) column) (expanded t).rows row) k []
  other not =
      after
      ∙ ap (whole (places t.columns k (condensed_pivot t row column).heads)) (new_other_row t row column k k_within not)
      ∙ target_of_pivot t.columns k row (get_or t.basis row 0) column (get_or t.heads column 0) t.heads (condensed_row t k) (condensed_row t row) (pivot_rows t row column sound within column_within not_basic k k_within not)
      ∙ sym (ap₂ (λ x y. combined x y column) (whole_row t.columns t.heads t.rows k k_within) (whole_row t.columns t.heads t.rows row inside))
      ∙ sym (other_row (λ target. combined target (row_at (expanded t) row) column) (expanded t).rows row k (subst (λ n. k < n) (sym (length-wholes t.columns t.heads 0 t.rows)) k_within) not)

pub pivot_of_condensed : PivotOfCondensed
pivot_of_condensed t row column sound within column_within not_basic =
    let inside : row < length t.rows = omega (arith, sound.row_count) in
    let f : List ℤ → List ℤ = λ target. combined target (row_at (expanded t) row) column in
    let after : List (List ℤ) = (condensed_pivot t row column).rows in
    let left : List (List ℤ) = wholes t.columns (condensed_pivot t row column).heads 0 after in
    let left_count : length left ≡ length t.rows = length-wholes t.columns (condensed_pivot t row column).heads 0 after ∙ length-new_rows t row column inside in
    let old_count : length (expanded t).rows ≡ length t.rows = length-wholes t.columns t.heads 0 t.rows in
    let right_count : length (others_combined f (expanded t).rows row) ≡ length t.rows = length-others f (expanded t).rows row (subst (λ n. row < n) (sym old_count) inside) ∙ old_count in
    let with_rows : List (List ℤ) → SimplexTableau = λ rows. record { columns = t.columns; rows = rows; basis = set t.basis row column } in
    ap with_rows (ext_get_or [] left (others_combined f (expanded t).rows row) (left_count ∙ sym right_count)
    (λ k below. each_row t row column sound within column_within not_basic k (subst (λ n. k < n) left_count below)))
