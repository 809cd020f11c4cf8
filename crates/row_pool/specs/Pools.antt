-- A pool of rows of numbers, some free and some out.
use Rattle.std.specs.Prelude.{◌≡◌, ℕ, ◌<◌, Bool, true, false, if◌then◌else◌, Option, None, Some, List, [], ◌∷◌, length, take, drop, replicate, slice_index_or, slice_set, ℤ, pos, IsSome}

-- a pool: how many numbers each row has, and its rows by their numbers, each `None` while it is free
pub record Pool : Type 0 where
  pub width : ℕ
  pub rows : List (Option (List ℤ))

-- the numbers of a row that is out, and none of a row that is free or that the pool does not have
abbrev pub row_at : Pool → ℕ → Option (List ℤ)
row_at pool row = slice_index_or pool.rows row None

-- the row is out
abbrev pub IsOut : Pool → ℕ → Type 0
IsOut pool row = IsSome (row_at pool row)

-- the pool has the row, and it is free
pub record IsFree (pool : Pool) (row : ℕ) : Type 0 where
  pub within : row < length pool.rows
  pub free : row_at pool row ≡ None

-- the pool with other numbers in one row, or with that row free; every other row stays
abbrev pub with_row : Pool → ℕ → Option (List ℤ) → Pool
with_row pool row numbers = record pool { rows = slice_set pool.rows row numbers }

-- a row of zeros
abbrev pub zeros : ℕ → List ℤ
zeros width = replicate width (pos 0)

-- so many rows of so many numbers, all free
abbrev pub free_rows : ℕ → ℕ → Pool
free_rows rows width = record { width = width; rows = replicate rows None }

-- a pool of no rows
abbrev pub empty_pool : Pool
empty_pool = free_rows 0 0

-- the rows that a block holds one after another, those that are out with their numbers
abbrev pub rows_of : ℕ → List Bool → List ℤ → List (Option (List ℤ))
rows_of width [] block = []
rows_of width (out ∷ outs) block = (if out then Some (take width block) else None) ∷ rows_of width outs (drop width block)

-- every row before this one is marked as out
abbrev pub AreMarked : List Bool → ℕ → Type 0
AreMarked outs upto = (row : ℕ) → row < upto → slice_index_or outs row false ≡ true
