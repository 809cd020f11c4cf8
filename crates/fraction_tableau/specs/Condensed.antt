-- A condensed tableau that is kept, and where a pivot of it passes 128 bits.
use Rattle.std.specs.Prelude.{◌≡◌, ◌≢◌, ℕ, ◌+◌, ◌<◌, ◌≤◌, List, [], length, slice_index, ℤ}
use Rattle.row_definitions.specs.Combination.{FitsAt, PassesNowhere}
use Rattle.condensed_laws.specs.Heads.{pivot_places, lent}
use Rattle.condensed_laws.specs.Tableaus.{CondensedTableau, IsSound, condensed_row}
use Rattle.pivot_definitions.specs.declared.limits.TheConstants.{MOST_COLUMNS, MOST_ROWS}

-- a tableau of no columns and no rows
abbrev pub empty_condensed : CondensedTableau
empty_condensed = record { columns = 0; rows = []; basis = []; heads = [] }

-- a sound tableau of 1 to MOST_COLUMNS columns and 1 to MOST_ROWS rows, or the empty one
pub record IsSoundOrEmpty (t : CondensedTableau) : Type 0 where
  pub few_columns : t.columns ≤ MOST_COLUMNS
  pub few_rows : length t.basis ≤ MOST_ROWS
  pub sound : 0 < length t.heads → IsSound t
  pub some_column : 0 < length t.heads → 0 < t.columns
  pub some_row : 0 < length t.heads → 0 < length t.basis
  pub empty : length t.heads ≡ 0 → t ≡ empty_condensed

-- the place of a column that is basic in no row
abbrev pub place_of : CondensedTableau → ℕ → ℕ
place_of t column = slice_index t.heads column

-- a row as the others are combined with it
abbrev pub lent_row : CondensedTableau → ℕ → List ℤ
lent_row t row = lent t.columns (condensed_row t row)

-- in a pivot no product and no difference passes 128 bits
abbrev pub CondensedFits : CondensedTableau → ℕ → ℕ → Type 0
CondensedFits t row column = (other : ℕ) → other < length t.rows → other ≢ row → PassesNowhere (condensed_row t other) (lent_row t row) (place_of t column)

-- the first place where a pivot passes 128 bits: the first row, and in it the first column, each column at the place that it has while the row's basic column leaves
pub record CondensedPassesFirst (t : CondensedTableau) (row column at_row at_column : ℕ) : Type 0 where
  pub within : at_row < length t.rows
  pub another : at_row ≢ row
  pub at_within : at_column < length t.heads + 1
  pub passes : ¬ FitsAt (condensed_row t at_row) (lent_row t row) (place_of t column) (slice_index (pivot_places t.columns at_row row t.heads) at_column)
  pub fits_before : (before : ℕ) → before < at_column → FitsAt (condensed_row t at_row) (lent_row t row) (place_of t column) (slice_index (pivot_places t.columns at_row row t.heads) before)
  pub rows_before : (other : ℕ) → other < at_row → other ≢ row → PassesNowhere (condensed_row t other) (lent_row t row) (place_of t column)
