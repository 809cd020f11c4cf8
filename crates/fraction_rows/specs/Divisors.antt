-- The divisor of a row.
use Rattle.std.specs.Prelude.{ℕ, unsigned_abs}
use Rattle.fraction_rows.specs.declared.division.RowDivisor.{RowDivisor}
use Rattle.fraction_rows.specs.declared.division.RowDivisor.TheVariants.{Narrow, Wide}

-- the number that divides
abbrev pub size_of : RowDivisor → ℕ
size_of (Narrow divisor) = unsigned_abs divisor.divisor
size_of (Wide divisor) = unsigned_abs divisor.divisor
