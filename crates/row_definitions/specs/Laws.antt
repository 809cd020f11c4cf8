-- Laws of rows, their greatest common divisors, kept forms and combinations.
use Rattle.std.specs.Prelude.{◌≡◌, ◌↔◌, ℕ, ◌<◌, List, length, ℤ, pos, ◌<ℤ◌, unsigned_abs}
use Rattle.std.specs.Int.{◌∣◌}
use Rattle.std.specs.List.{All}
use Rattle.row_definitions.specs.Rows.{entry, row_divisor, primitive_row, scaled, IsPositiveMultiple, IsProportional}
use Rattle.row_definitions.specs.Combination.{plain_combination, reduced_combination, combined, FitsEntry, PassesNowhere, PassesFirst}

-- a number divides each entry of a row
abbrev pub IsCommonDivisor : ℕ → List ℤ → Type 0
IsCommonDivisor divisor row = All (λ x. divisor ∣ unsigned_abs x) row

-- some entry of a row is not 0
abbrev pub IsNonZeroRow : List ℤ → Type 0
IsNonZeroRow row = (column : ℕ) × (0 < unsigned_abs (entry row column))

-- a row's divisor divides each of its entries
abbrev pub DivisorDivides : Type 0
DivisorDivides = (row : List ℤ) → IsCommonDivisor (row_divisor row) row

-- each common divisor of a row's entries divides the row's divisor
abbrev pub DivisorIsGreatest : Type 0
DivisorIsGreatest = (row : List ℤ) (divisor : ℕ) → IsCommonDivisor divisor row → divisor ∣ row_divisor row

-- a row that is not all zeros is a positive multiple of its primitive, by its divisor
abbrev pub RowIsMultipleOfPrimitive : Type 0
RowIsMultipleOfPrimitive = (row : List ℤ) → IsNonZeroRow row → (0 < row_divisor row) × (row ≡ scaled (row_divisor row) (primitive_row row))

-- a row without an entry other than 0 is its own primitive
abbrev pub ZeroRowStays : Type 0
ZeroRowStays = (row : List ℤ) → ¬ IsNonZeroRow row → primitive_row row ≡ row

-- each row is a positive multiple of its primitive
abbrev pub PrimitiveKeepsDirection : Type 0
PrimitiveKeepsDirection = (row : List ℤ) → IsPositiveMultiple row (primitive_row row)

-- a positive multiple has the signs of the row
abbrev pub MultipleKeepsSigns : Type 0
MultipleKeepsSigns = (row of : List ℤ) (column : ℕ) → IsPositiveMultiple row of → (pos 0 <ℤ entry row column ↔ pos 0 <ℤ entry of column) × (entry row column <ℤ pos 0 ↔ entry of column <ℤ pos 0)

-- a primitive row is its own primitive
abbrev pub PrimitiveStays : Type 0
PrimitiveStays = (row : List ℤ) → primitive_row (primitive_row row) ≡ primitive_row row

-- a row with an entry 1 or -1 is its own primitive
abbrev pub UnitEntryIsPrimitive : Type 0
UnitEntryIsPrimitive = (row : List ℤ) (column : ℕ) → unsigned_abs (entry row column) ≡ 1 → primitive_row row ≡ row

-- the entries of a primitive fit where those of the row do
abbrev pub PrimitiveFits : Type 0
PrimitiveFits = (row : List ℤ) → All FitsEntry row → All FitsEntry (primitive_row row)

-- the primitive of a positive multiple of a row is the row's primitive
abbrev pub PrimitiveOfMultiple : Type 0
PrimitiveOfMultiple = (row : List ℤ) (factor : ℕ) → 0 < factor → primitive_row (scaled factor row) ≡ primitive_row row

-- rows that are the same up to a positive factor have one primitive
abbrev pub PrimitiveOfProportional : Type 0
PrimitiveOfProportional = (row other : List ℤ) → IsProportional row other → primitive_row row ≡ primitive_row other

-- dividing the two entries of the column first changes nothing: both give the kept form of the plain combination
abbrev pub CombinedIsPlain : Type 0
CombinedIsPlain = (target pivot : List ℤ) (at : ℕ) → pos 0 <ℤ entry pivot at → combined target pivot at ≡ primitive_row (plain_combination target pivot at)

-- the plain combination is a positive multiple of what the target becomes
abbrev pub CombinedKeepsDirection : Type 0
CombinedKeepsDirection = (target pivot : List ℤ) (at : ℕ) → pos 0 <ℤ entry pivot at → IsPositiveMultiple (plain_combination target pivot at) (combined target pivot at)

-- where the combination passes nowhere, its entries fit
abbrev pub CombinedFits : Type 0
CombinedFits = (target pivot : List ℤ) (at : ℕ) → length target ≡ length pivot → PassesNowhere target pivot at → All FitsEntry (combined target pivot at)

-- to combine kept forms gives the kept form of the plain rows' plain combination
abbrev pub CombinedOfKeptForms : Type 0
CombinedOfKeptForms = (target pivot : List ℤ) (at : ℕ) → pos 0 <ℤ entry pivot at → combined (primitive_row target) (primitive_row pivot) at ≡ primitive_row (plain_combination target pivot at)

-- where the pivot is primitive and 0 in a column, what divides each entry of the combination divides the target's entry there
abbrev pub ContentDividesTarget : Type 0
ContentDividesTarget = (target pivot : List ℤ) (at column : ℕ) → length target ≡ length pivot → pos 0 <ℤ entry pivot at → primitive_row pivot ≡ pivot → entry pivot column ≡ pos 0 → row_divisor (reduced_combination target pivot at) ∣ unsigned_abs (entry target column)

-- where the target is primitive, not all zeros, and 0 in a column, it divides the pivot's entry there
abbrev pub ContentDividesPivot : Type 0
ContentDividesPivot = (target pivot : List ℤ) (at column : ℕ) → length target ≡ length pivot → pos 0 <ℤ entry pivot at → primitive_row target ≡ target → IsNonZeroRow target → entry target column ≡ pos 0 → row_divisor (reduced_combination target pivot at) ∣ unsigned_abs (entry pivot column)

-- the combination is 0 in the column that it is made for
abbrev pub CombinedIsZeroThere : Type 0
CombinedIsZeroThere = (target pivot : List ℤ) (at : ℕ) → length target ≡ length pivot → entry (combined target pivot at) at ≡ pos 0

-- a target that is 0 in the column already becomes its own primitive
abbrev pub ZeroThereStays : Type 0
ZeroThereStays = (target pivot : List ℤ) (at : ℕ) → length target ≡ length pivot → pos 0 <ℤ entry pivot at → entry target at ≡ pos 0 → combined target pivot at ≡ primitive_row target

-- and passes nowhere
abbrev pub ZeroThereFits : Type 0
ZeroThereFits = (target pivot : List ℤ) (at : ℕ) → All FitsEntry target → pos 0 <ℤ entry pivot at → entry target at ≡ pos 0 → PassesNowhere target pivot at

-- there is one first passing column
abbrev pub PassesFirstOnce : Type 0
PassesFirstOnce = (target pivot : List ℤ) (at column other : ℕ) → PassesFirst target pivot at column → PassesFirst target pivot at other → column ≡ other

-- a combination with a passing column does not pass nowhere
abbrev pub PassesFirstOrNowhere : Type 0
PassesFirstOrNowhere = (target pivot : List ℤ) (at column : ℕ) → PassesFirst target pivot at column → ¬ PassesNowhere target pivot at
