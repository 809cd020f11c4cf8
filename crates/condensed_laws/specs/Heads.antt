-- A tableau whose rows are condensed. A row has an entry for each column that is basic in no row, then the right side, then
-- the entry of its own basic column, and last a spare entry, 0 but for the time of a pivot. Each column has a head: below
-- the width it is the place of a column that is not basic, and from the width on it is the width and the row in which the
-- column is basic.
use Rattle.std.specs.Prelude.{◌≡◌, ◌≢◌, ℕ, ◌+◌, ◌<◌, ◌==◌, nat_lt, if◌then◌else◌, ◌⊎◌, List, [], ◌∷◌, ◌++◌, length, map, slice_index, slice_set, ℤ, pos}
use Rattle.row_definitions.specs.Rows.{entry}
use Rattle.condensed_laws.specs.Wholes.{IsShown}

-- the place in a condensed row of a column by its head; past the end of the row, if the column is basic in another row
abbrev pub place_by : ℕ → ℕ → ℕ → ℕ
place_by width own head = if nat_lt head width then head else (if head == width + own then width + 1 else width + 3)

-- the places of all columns, the right side being the last
abbrev pub places : ℕ → ℕ → List ℕ → List ℕ
places width own heads = map (place_by width own) heads ++ width ∷ []

-- the same while a row's basic column leaves: that column has the spare place
abbrev pub pivot_place_by : ℕ → ℕ → ℕ → ℕ → ℕ
pivot_place_by width own leaving head = if nat_lt head width then head else (if head == width + own then width + 1 else (if head == width + leaving then width + 2 else width + 3))

abbrev pub pivot_places : ℕ → ℕ → ℕ → List ℕ → List ℕ
pivot_places width own leaving heads = map (pivot_place_by width own leaving) heads ++ width ∷ []

-- a condensed row, whose spare entry is 0
pub record IsCondensed (width : ℕ) (row : List ℤ) : Type 0 where
  pub count : length row ≡ width + 3
  pub spare : entry row (width + 2) ≡ pos 0

-- the pivot row as the others are combined with it: its own entry stands in the spare place, and it is 0 in every other row's basic column
abbrev pub lent : ℕ → List ℤ → List ℤ
lent width row = slice_set (slice_set row (width + 2) (entry row (width + 1))) (width + 1) (pos 0)

-- a combined row: the leaving column takes the place of the entering one
abbrev pub moved : ℕ → ℕ → List ℤ → List ℤ
moved width place row = slice_set (slice_set row place (entry row (width + 2))) (width + 2) (pos 0)

-- the pivot row: the same, and the entering column is its own
abbrev pub swapped : ℕ → ℕ → List ℤ → List ℤ
swapped width place row = slice_set (slice_set row place (entry row (width + 1))) (width + 1) (entry row place)

-- the heads: the same
abbrev pub moved_heads : ℕ → ℕ → ℕ → ℕ → ℕ → List ℕ → List ℕ
moved_heads width row leaving entering place heads = slice_set (slice_set heads leaving place) entering (width + row)

-- the entering column is not basic and has this place; the leaving one is basic in the row; no other column has these heads
pub record CanSwap (width row leaving entering place : ℕ) (heads : List ℕ) : Type 0 where
  pub place_within : place < width
  pub entering_within : entering < length heads
  pub leaving_within : leaving < length heads
  pub entering_is : slice_index heads entering ≡ place
  pub leaving_is : slice_index heads leaving ≡ width + row
  pub entering_alone : (column : ℕ) → column < length heads → slice_index heads column ≡ place → column ≡ entering
  pub leaving_alone : (column : ℕ) → column < length heads → slice_index heads column ≡ width + row → column ≡ leaving

-- a row and the pivot row before they are combined: each place that is not 0 in both has a column
pub record ArePivotRows (width own pivot leaving entering place : ℕ) (heads : List ℕ) (target row : List ℤ) : Type 0 where
  pub target_condensed : IsCondensed width target
  pub row_condensed : IsCondensed width row
  pub another : own ≢ pivot
  pub swap : CanSwap width pivot leaving entering place heads
  pub places_shown : (open_place : ℕ) → open_place < width → IsShown heads open_place
  pub own_shown : (entry target (width + 1) ≡ pos 0) ⊎ IsShown heads (width + own)
