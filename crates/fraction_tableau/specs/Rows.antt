-- Rows of numbers that stand in a pool.
use Rattle.std.specs.Prelude.{◌≡◌, ◌≢◌, ℕ, ◌<◌, ◌^◌, Option, None, Some, List, [], ◌∷◌, ◌++◌, length, map, ℤ, pos, slice_index_or, slice_set, IsSome}
use Rattle.std.specs.Int.{◌∣◌}
use Rattle.std.specs.List.{All}
use Rattle.row_definitions.specs.Rows.{entry, row_divisor}
use Rattle.row_definitions.specs.Combination.{reduced_combination, PassesNowhere}
use Rattle.fraction_rows.specs.BitLengths.{HasBits}
use Rattle.fraction_rows.specs.Combinable as fraction_rows
use Rattle.row_pool.specs.Pools.{Pool, row_at}
use Rattle.row_pool.specs.declared.pool.RowId.{RowId}

-- the numbers of a row that is out, and none of a row that is free
abbrev pub numbers : Option (List ℤ) → List ℤ
numbers None = []
numbers (Some row) = row

-- the numbers of a row of a pool
abbrev pub row_in : Pool → ℕ → List ℤ
row_in pool row = numbers (row_at pool row)

-- the numbers of each row of a pool
abbrev pub all_rows : Pool → List (List ℤ)
all_rows pool = map numbers pool.rows

-- each id is that of the row of its number, and that row is out
pub record AreIds (pool : Pool) (ids : List RowId) : Type 0 where
  pub numbered : (row : ℕ) (id : RowId) → row < length ids → (slice_index_or ids row id).number ≡ row
  pub out : (row : ℕ) → row < length ids → IsSome (row_at pool row)

-- there is an id for each row of the pool, and for each row bits that are enough for its numbers
pub record AreRows (pool : Pool) (ids : List RowId) (bits : List ℕ) : Type 0 where
  pub id_count : length ids ≡ length pool.rows
  pub bit_count : length bits ≡ length pool.rows
  pub ids_are : AreIds pool ids
  pub enough : (row bit : ℕ) → row < length bits → All (HasBits (slice_index_or bits row bit)) (row_in pool row)

-- a row with two of its numbers exchanged
abbrev pub exchanged : List ℤ → ℕ → ℕ → List ℤ
exchanged row one other = slice_set (slice_set row one (entry row other)) other (entry row one)

-- a constraint row as built: its coefficients, its right side, its own entry and the spare place
abbrev pub filled : List ℤ → ℤ → List ℤ
filled coefs right = coefs ++ right ∷ pos 1 ∷ pos 0 ∷ []

-- a bound for the divisor of the combination of two rows
pub record IsBoundOf (target pivot : List ℤ) (place bound : ℕ) : Type 0 where
  pub divides : row_divisor (reduced_combination target pivot place) ∣ bound
  pub fits : bound < 2 ^ 127

-- what combining two rows asks: they can be combined and pass nowhere, the bits are enough for their numbers, and the bound is one for the combination's divisor
pub record CombinesWithin (target pivot : List ℤ) (target_bits pivot_bits place bound : ℕ) : Type 0 where
  pub combinable : fraction_rows.Combinable target pivot place
  pub passes_nowhere : PassesNowhere target pivot place
  pub target_enough : All (HasBits target_bits) target
  pub pivot_enough : All (HasBits pivot_bits) pivot
  pub bounded : IsBoundOf target pivot place bound
