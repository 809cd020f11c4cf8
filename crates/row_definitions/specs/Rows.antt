-- A row is a list of whole numbers with signs and without bound.
use Rattle.std.specs.Prelude.{◌≡◌, ℕ, zero, suc, ◌%◌, ◌<◌, Bool, true, cond, ◌&&◌, ◌==◌, List, [], ◌∷◌, map, ℤ, pos, ◌*ℤ◌, unsigned_abs, int_div, slice_index_or}
use Rattle.std.specs.List.{sum_by}

-- the entry of a row in a column, and 0 past its end
abbrev pub entry : List ℤ → ℕ → ℤ
entry row column = slice_index_or row column (pos 0)

-- a number divides each entry of a row
abbrev pub divides_each : ℕ → List ℤ → Bool
divides_each divisor [] = true
divides_each divisor (x ∷ row) = (unsigned_abs x % divisor == 0) && divides_each divisor row

-- the greatest number from 1 to a limit that passes a test, and 0 where none does
abbrev pub greatest_to : (ℕ → Bool) → ℕ → ℕ
greatest_to test zero = 0
greatest_to test (suc limit) = cond (test (suc limit)) (suc limit) (greatest_to test limit)

-- the greatest common divisor of the entries of a row, and 0 of a row of zeros; what divides an entry other than 0 is at most the sum of the sizes
unfoldable pub row_divisor : List ℤ → ℕ
row_divisor row = greatest_to (λ divisor. divides_each divisor row) (sum_by unsigned_abs row)

-- the number by a divisor, rounded toward 0
abbrev pub divided : ℕ → ℤ → ℤ
divided divisor x = int_div x (pos divisor)

-- the primitive, or kept form, of a row: each entry divided by the greatest common divisor of all, with its sign; a row of zeros stays
abbrev pub primitive_row : List ℤ → List ℤ
primitive_row row = map (divided (row_divisor row)) row

-- the row with each entry taken so many times
abbrev pub scaled : ℕ → List ℤ → List ℤ
scaled factor row = map (λ x. pos factor *ℤ x) row

-- the row is another one times a whole number above 0
pub record IsPositiveMultiple (row of : List ℤ) : Type 0 where
  pub factor : ℕ
  pub above_zero : 0 < factor
  pub is : row ≡ scaled factor of

-- the rows are the same up to a positive factor: some positive multiple of both is one row
pub record IsProportional (row other : List ℤ) : Type 0 where
  pub row_factor : ℕ
  pub other_factor : ℕ
  pub row_above_zero : 0 < row_factor
  pub other_above_zero : 0 < other_factor
  pub meet : scaled row_factor row ≡ scaled other_factor other
