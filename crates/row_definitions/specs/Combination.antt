-- The combination of two rows that a pivot makes, and where it passes 128 bits.
use Rattle.std.specs.Prelude.{ℕ, ◌<◌, ◌^◌, List, [], ◌∷◌, length, ℤ, ◌-ℤ◌, ◌*ℤ◌, unsigned_abs}
use Rattle.row_definitions.specs.Rows.{entry, row_divisor, divided, primitive_row}

-- `a * target - b * pivot`, column by column
abbrev pub combination : ℤ → ℤ → List ℤ → List ℤ → List ℤ
combination a b [] pivot = []
combination a b (t ∷ target) [] = []
combination a b (t ∷ target) (p ∷ pivot) = (a *ℤ t -ℤ b *ℤ p) ∷ combination a b target pivot

-- the combination that makes the target 0 in a column, with nothing divided
abbrev pub plain_combination : List ℤ → List ℤ → ℕ → List ℤ
plain_combination target pivot at = combination (entry pivot at) (entry target at) target pivot

-- the greatest common divisor of the two entries of a column
abbrev pub column_divisor : List ℤ → List ℤ → ℕ → ℕ
column_divisor target pivot at = row_divisor (entry pivot at ∷ entry target at ∷ [])

-- the factor of the target: the pivot's entry of the column, divided by the two entries' greatest common divisor
abbrev pub target_factor : List ℤ → List ℤ → ℕ → ℤ
target_factor target pivot at = divided (column_divisor target pivot at) (entry pivot at)

-- the factor of the pivot: the target's entry of the column, divided likewise
abbrev pub pivot_factor : List ℤ → List ℤ → ℕ → ℤ
pivot_factor target pivot at = divided (column_divisor target pivot at) (entry target at)

-- the combination by the two entries of a column that are divided by their greatest common divisor
abbrev pub reduced_combination : List ℤ → List ℤ → ℕ → List ℤ
reduced_combination target pivot at = combination (target_factor target pivot at) (pivot_factor target pivot at) target pivot

-- the kept form of the combination: what the target becomes
abbrev pub combined : List ℤ → List ℤ → ℕ → List ℤ
combined target pivot at = primitive_row (reduced_combination target pivot at)

-- a number from -(2^127 - 1) to 2^127 - 1: what an entry may be, of as many sizes on either side of 0
abbrev pub FitsEntry : ℤ → Type 0
FitsEntry x = unsigned_abs x < 2 ^ 127

-- the two products of an entry of the combination, and their difference, fit an entry
pub record ProductsFit (a b t p : ℤ) : Type 0 where
  pub target_product : FitsEntry (a *ℤ t)
  pub pivot_product : FitsEntry (b *ℤ p)
  pub difference : FitsEntry (a *ℤ t -ℤ b *ℤ p)

-- in a column the two products of the reduced combination and their difference fit an entry
abbrev pub FitsAt : List ℤ → List ℤ → ℕ → ℕ → Type 0
FitsAt target pivot at column = ProductsFit (target_factor target pivot at) (pivot_factor target pivot at) (entry target column) (entry pivot column)

-- in a column one of the two products or their difference does not fit an entry
abbrev pub PassesAt : List ℤ → List ℤ → ℕ → ℕ → Type 0
PassesAt target pivot at column = ¬ FitsAt target pivot at column

-- the combination passes nowhere
abbrev pub PassesNowhere : List ℤ → List ℤ → ℕ → Type 0
PassesNowhere target pivot at = (column : ℕ) → column < length target → FitsAt target pivot at column

-- the least column where the combination passes
pub record PassesFirst (target pivot : List ℤ) (at column : ℕ) : Type 0 where
  pub within : column < length target
  pub passes : PassesAt target pivot at column
  pub fits_before : (before : ℕ) → before < column → FitsAt target pivot at before
