-- The tableau of a program as built is a tableau, and its entries fit where the program's numbers do.
use Rattle.std.proofs.Common.{◌≡◌, ℕ, zero, suc, ◌+◌, ◌-◌, ◌*◌, ◌<◌, ◌≤◌, List, [], ◌∷◌, ◌++◌, map, length, drop, replicate, refl, sym, ap, ap₂, ◌∙◌, subst, arith, lit<, mul-le-mul_right}
use Rattle.std.specs.List.{All, range_with_len}
use Rattle.std.proofs.lemmas.List.{length-append, length-replicate, length-take-le, length-drop, map-id}
use Rattle.std.proofs.lemmas.List.Elements.{All-append, All-cons, All-nil, All-map, All-replicate, All-take, All-drop, All-get_or}
use Rattle.std.proofs.lemmas.List.FromFn.{length-map-range_with_len, map-range_with_len_more}
use lib.IntN.{ℤ, pos, nat_abs as unsigned_abs}
use Rattle.std.proofs.lemmas.List.{get_or_at, get_or_append_left, get_or-append_right}
use Rattle.row_definitions.specs.Rows.{entry, primitive_row}
use Rattle.row_definitions.proofs.Primitives.{primitive_row-unit}
use Rattle.row_definitions.specs.Combination.{FitsEntry}
use Rattle.pivot_definitions.specs.Programs.{LinearProgram, IsProgram, FitsEntries, coefficient_row, unit_row}
use Rattle.pivot_definitions.specs.Tableaus.{IsTableau, HasFittingEntries, HasPrimitiveRows, built, built_row, built_objective, column_count}

pub length-range : (a n : ℕ) → length (range_with_len a n) ≡ n
length-range a zero = refl
length-range a (suc n) = ap suc (length-range (a + 1) n)

-- what holds of each number of a range
pub All-range : (P : ℕ → Type 0) (a n : ℕ) → ((k : ℕ) → a ≤ k → k < a + n → P k) → All P (range_with_len a n)
All-range P a zero each = All-nil P
All-range P a (suc n) each = All-cons P a (range_with_len (a + 1) n) (each a (omega arith) (omega arith)) (All-range P (a + 1) n (λ k low high. each k (omega arith) (omega arith)))

pub length-unit : (width column : ℕ) → column < width → length (unit_row width column) ≡ width
length-unit width column within = omega (arith, length-append (replicate column (pos 0)) (pos 1 ∷ replicate (width - 1 - column) (pos 0)), length-replicate column (pos 0), length-replicate (width - 1 - column) (pos 0))

-- the coefficients of each row
pub length-coefficients : (program : LinearProgram) → IsProgram program → (row : ℕ) → row < program.rows → length (coefficient_row program row) ≡ program.columns
length-coefficients program is row within =
    let most : suc row * program.columns ≤ program.rows * program.columns = mul-le-mul_right program.columns within in
    length-take-le program.columns (drop (row * program.columns) program.coefficients) (omega (arith, most, length-drop (row * program.columns) program.coefficients, is.every_coefficient))

pub length-built_row : (program : LinearProgram) → IsProgram program → (row : ℕ) → row < program.rows → length (built_row program row) ≡ program.columns + program.rows + 1
length-built_row program is row within =
    omega (arith, length-append (coefficient_row program row ++ unit_row program.rows row) (entry program.right_sides row ∷ []), length-append (coefficient_row program row) (unit_row program.rows row), length-coefficients program is row within, length-unit program.rows row within)

pub length-built_objective : (program : LinearProgram) → length (built_objective program) ≡ program.columns + program.rows + 1
length-built_objective program = omega (arith, length-replicate (program.columns + program.rows) (pos 0))

pub built-IsTableau : (program : LinearProgram) → IsProgram program → IsTableau (built program)
built-IsTableau program is =
    let count : length (range_with_len program.columns program.rows) ≡ program.rows = length-range program.columns program.rows in
    record {
      row_count = omega (arith, count, length-append (map (built_row program) (range_with_len 0 program.rows)) (built_objective program ∷ []), length-map-range_with_len (built_row program) 0 program.rows);
      widths = All-append (λ row. length row ≡ column_count (built program) + 1) (map (built_row program) (range_with_len 0 program.rows)) (built_objective program ∷ [])
          (All-map (λ row. length row ≡ column_count (built program) + 1) (built_row program) (range_with_len 0 program.rows) (All-range (λ k. length (built_row program k) ≡ column_count (built program) + 1) 0 program.rows (λ k low high. omega (arith, count, length-built_row program is k (omega arith)))))
          (All-cons (λ row. length row ≡ column_count (built program) + 1) (built_objective program) [] (omega (arith, count, length-built_objective program)) (All-nil _));
      basic_columns = All-range (λ column. column < column_count (built program)) program.columns program.rows (λ k low high. omega (arith, count));
    }

pub unit_here : (width column : ℕ) → entry (unit_row width column) column ≡ pos 1
unit_here width column = get_or_at (replicate column (pos 0)) (pos 1) (replicate (width - 1 - column) (pos 0)) (pos 0) column (length-replicate column (pos 0))

-- a slack entry of a row as built
pub built_slack : (program : LinearProgram) → IsProgram program → (i j : ℕ) → i < program.rows → j < program.rows → entry (built_row program i) (program.columns + j) ≡ entry (unit_row program.rows i) j
built_slack program is i j row column =
    get_or_append_left (coefficient_row program i ++ unit_row program.rows i) (entry program.right_sides i ∷ []) (pos 0) (program.columns + j) (omega (arith, length-append (coefficient_row program i) (unit_row program.rows i), length-coefficients program is i row, length-unit program.rows i row))
    ∙ get_or-append_right (coefficient_row program i) (unit_row program.rows i) program.columns (program.columns + j) (pos 0) (length-coefficients program is i row) (omega arith)
    ∙ ap (entry (unit_row program.rows i)) (let e : program.columns + j - program.columns ≡ j = omega arith in e)

fits_unit : (width column : ℕ) → All FitsEntry (unit_row width column)
fits_unit width column = All-append FitsEntry (replicate column (pos 0)) (pos 1 ∷ replicate (width - 1 - column) (pos 0)) (All-replicate FitsEntry column (pos 0) (lit< tt)) (All-cons FitsEntry (pos 1) (replicate (width - 1 - column) (pos 0)) (lit< tt) (All-replicate FitsEntry (width - 1 - column) (pos 0) (lit< tt)))

pub built-HasFittingEntries : (program : LinearProgram) → IsProgram program → FitsEntries program → HasFittingEntries (built program)
built-HasFittingEntries program is fits = All-append (All FitsEntry) (map (built_row program) (range_with_len 0 program.rows)) (built_objective program ∷ [])
    (All-map (All FitsEntry) (built_row program) (range_with_len 0 program.rows) (All-range (λ k. All FitsEntry (built_row program k)) 0 program.rows
    (λ k low high. All-append FitsEntry (coefficient_row program k ++ unit_row program.rows k) (entry program.right_sides k ∷ [])
    (All-append FitsEntry (coefficient_row program k) (unit_row program.rows k) (All-take FitsEntry program.columns (drop (k * program.columns) program.coefficients) (All-drop FitsEntry (k * program.columns) program.coefficients fits.coefficients)) (fits_unit program.rows k))
    (All-cons FitsEntry (entry program.right_sides k) [] (All-get_or FitsEntry program.right_sides k (pos 0) (omega (arith, is.every_right_side)) fits.right_sides) (All-nil FitsEntry)))))
    (All-cons (All FitsEntry) (built_objective program) [] (All-cons FitsEntry (pos 1) (replicate (program.columns + program.rows) (pos 0)) (lit< tt) (All-replicate FitsEntry (program.columns + program.rows) (pos 0) (lit< tt))) (All-nil _))

-- one more number of a range
pub range_more : (a n : ℕ) → range_with_len a (n + 1) ≡ range_with_len a n ++ (a + n) ∷ []
range_more a n = sym (map-id (range_with_len a (n + 1))) ∙ map-range_with_len_more (λ x. x) a n (a + n) refl ∙ ap (λ xs. xs ++ (a + n) ∷ []) (map-id (range_with_len a n))

-- one more row of the tableau as built
pub rows_more : (program : LinearProgram) (n : ℕ) {pushed rows : List (List ℤ)} {row : List ℤ} → pushed ≡ rows ++ row ∷ [] → rows ≡ map (built_row program) (range_with_len 0 n) → row ≡ built_row program n → pushed ≡ map (built_row program) (range_with_len 0 (n + 1))
rows_more program n last before is = last ∙ ap₂ (λ xs x. xs ++ x ∷ []) before is ∙ sym (map-range_with_len_more (built_row program) 0 n n (omega arith))

-- one more basic column
pub basis_more : (a n : ℕ) {pushed basis : List ℕ} {x : ℕ} → pushed ≡ basis ++ x ∷ [] → basis ≡ range_with_len a n → x ≡ a + n → pushed ≡ range_with_len a (n + 1)
basis_more a n last before is = last ∙ ap₂ (λ xs x. xs ++ x ∷ []) before is ∙ sym (range_more a n)

pub built-HasPrimitiveRows : (program : LinearProgram) → IsProgram program → HasPrimitiveRows (built program)
built-HasPrimitiveRows program is = All-append (λ row. primitive_row row ≡ row) (map (built_row program) (range_with_len 0 program.rows)) (built_objective program ∷ [])
    (All-map (λ row. primitive_row row ≡ row) (built_row program) (range_with_len 0 program.rows) (All-range (λ k. primitive_row (built_row program k) ≡ built_row program k) 0 program.rows
    (λ k low high. primitive_row-unit (built_row program k) (program.columns + k) (ap unsigned_abs (built_slack program is k k (omega arith) (omega arith) ∙ unit_here program.rows k)))))
    (All-cons (λ row. primitive_row row ≡ row) (built_objective program) [] (primitive_row-unit (built_objective program) 0 refl) (All-nil _))
