-- Tests of all numbers below a bound, and of the gains of two offers class by class.
use Rattle.std.specs.Prelude.{ℕ, zero, suc, Bool, true, false, ◌&&◌, ◌||◌, List, take, drop, ◌*◌, ℤ, int_le, int_lt}
use Rattle.row_definitions.specs.Rows.{entry}

-- whether each number below a bound passes
abbrev pub all_below : (ℕ → Bool) → ℕ → Bool
all_below test zero = true
all_below test (suc n) = all_below test n && test n

-- whether some number below a bound passes
abbrev pub any_below : (ℕ → Bool) → ℕ → Bool
any_below test zero = false
any_below test (suc n) = any_below test n || test n

-- whether the one list of gains is nowhere below the other, and somewhere above it or of an earlier offer
abbrev pub row_dominates : List ℤ → List ℤ → ℕ → Bool → Bool
row_dominates other own count is_earlier =
    all_below (λ j. int_le (entry own j) (entry other j)) count && (any_below (λ j. int_lt (entry own j) (entry other j)) count || is_earlier)

-- row `k` of a table of rows of one width
abbrev pub table_row : List ℤ → ℕ → ℕ → List ℤ
table_row table width k = take width (drop (k * width) table)
