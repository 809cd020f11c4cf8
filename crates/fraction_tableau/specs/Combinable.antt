-- When one row of a tableau can be combined with another in a column.
use Rattle.std.specs.Prelude.{◌≡◌, ℕ, ◌<◌, ◌^◌, List, length, Option, ℤ}
use Rattle.std.specs.Option.{ForSome}
use Rattle.row_definitions.specs.Rows.{primitive_row}
use Rattle.fraction_rows.specs.Combinable as fraction_rows

pub record Combinable (target pivot : List ℤ) (column : ℕ) : Type 0 where
  -- as rows of numbers
  pub rows : fraction_rows.Combinable target pivot column
  -- of fewer columns than a `u32` counts
  pub columns : length target < 2 ^ 32
  -- and both are kept divided
  pub primitive : primitive_row target ≡ target
  pub pivot_primitive : primitive_row pivot ≡ pivot
