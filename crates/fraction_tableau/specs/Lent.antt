-- Condensed rows in a pivot, while the pivot row is lent: its own entry stands in the spare place.
use Rattle.std.specs.Prelude.{◌≡◌, ◌≢◌, ℕ, ◌+◌, ◌<◌, List, [], length, slice_index, slice_index_or, ℤ, pos}
use Rattle.row_definitions.specs.Rows.{entry}
use Rattle.row_definitions.specs.Combination.{FitsAt, PassesNowhere}
use Rattle.condensed_laws.specs.Heads.{pivot_places}
use Rattle.fraction_tableau.specs.Combinable.{Combinable}

abbrev pub row_of : List (List ℤ) → ℕ → List ℤ
row_of rows k = slice_index_or rows k []

-- every other row can be combined with the pivot row, which is 0 at their own place, while they are 0 at the spare place
pub record AreCombinable (rows : List (List ℤ)) (width pivot place : ℕ) : Type 0 where
  pub pivot_within : pivot < length rows
  pub place_within : place < width
  pub lengths : (other : ℕ) → other < length rows → length (row_of rows other) ≡ width + 3
  pub combinable : (other : ℕ) → other < length rows → other ≢ pivot → Combinable (row_of rows other) (row_of rows pivot) place
  pub pivot_own : entry (row_of rows pivot) (width + 1) ≡ pos 0
  pub spare : (other : ℕ) → other < length rows → other ≢ pivot → entry (row_of rows other) (width + 2) ≡ pos 0

-- the combinations of the rows below a number pass nowhere
abbrev pub PassNowhereBelow : List (List ℤ) → ℕ → ℕ → ℕ → Type 0
PassNowhereBelow rows pivot place count = (other : ℕ) → other < count → other ≢ pivot → PassesNowhere (row_of rows other) (row_of rows pivot) place

-- the combination of a row fits in a column
abbrev pub FitsInColumn : List (List ℤ) → ℕ → List ℕ → ℕ → ℕ → ℕ → ℕ → Type 0
FitsInColumn rows width heads target pivot place column = FitsAt (row_of rows target) (row_of rows pivot) place (slice_index (pivot_places width target pivot heads) column)

-- the combination of each row that fits in each column passes nowhere
abbrev pub ShowPassing : List (List ℤ) → ℕ → List ℕ → ℕ → ℕ → Type 0
ShowPassing rows width heads pivot place = (other : ℕ) → other < length rows → other ≢ pivot → ((column : ℕ) → column < length heads + 1 → FitsInColumn rows width heads other pivot place column) → PassesNowhere (row_of rows other) (row_of rows pivot) place

-- the first row whose combination passes somewhere
pub record IsFirstRow (rows : List (List ℤ)) (pivot place at : ℕ) : Type 0 where
  pub within : at < length rows
  pub another : at ≢ pivot
  pub passes : ¬ PassesNowhere (row_of rows at) (row_of rows pivot) place
  pub rows_before : PassNowhereBelow rows pivot place at

-- the first column in which a row's combination does not fit
pub record IsFirstColumn (rows : List (List ℤ)) (width : ℕ) (heads : List ℕ) (target pivot place at : ℕ) : Type 0 where
  pub within : at < length heads + 1
  pub passes : ¬ FitsInColumn rows width heads target pivot place at
  pub fits_before : (before : ℕ) → before < at → FitsInColumn rows width heads target pivot place before

-- both
pub record IsFirstPlace (rows : List (List ℤ)) (width : ℕ) (heads : List ℕ) (pivot place at_row at_column : ℕ) : Type 0 where
  pub row : IsFirstRow rows pivot place at_row
  pub column : IsFirstColumn rows width heads at_row pivot place at_column
