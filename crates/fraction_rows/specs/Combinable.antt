-- When one row can be combined with another in a column.
use Rattle.std.specs.Prelude.{◌≡◌, ◌≢◌, ℕ, ◌<◌, List, length, ℤ, pos, ◌<ℤ◌}
use Rattle.std.specs.List.{All}
use Rattle.row_definitions.specs.Rows.{entry, primitive_row}
use Rattle.row_definitions.specs.Combination.{FitsEntry}

pub record Combinable (target pivot : List ℤ) (at : ℕ) : Type 0 where
  -- both rows have one length
  pub lengths : length target ≡ length pivot
  -- the column is one of theirs
  pub within : at < length target
  -- the pivot's entry there is above 0
  pub positive : pos 0 <ℤ entry pivot at
  -- no entry of the target is the least number of 128 bits
  pub target_fits : All FitsEntry target
  -- nor is one of the pivot
  pub pivot_fits : All FitsEntry pivot

-- two primitive rows, of which the target is not 0 in a column
pub record IsPrimitivePair (target pivot : List ℤ) (at : ℕ) : Type 0 where
  pub target_primitive : primitive_row target ≡ target
  pub pivot_primitive : primitive_row pivot ≡ pivot
  pub not_zero : entry target at ≢ pos 0

-- the column is one of the row's, and the row is 0 there
abbrev pub IsZeroIn : List ℤ → ℕ → Type 0
IsZeroIn row column = (column < length row) × (entry row column ≡ pos 0)
