-- The tableau of a program as built: its entries, its basic columns, its right sides and its cap.
use Rattle.std.proofs.Common.{◌≡◌, ◌≢◌, ℕ, zero, suc, ◌+◌, ◌-◌, ◌<◌, ◌≤◌, inl, inr, List, [], ◌∷◌, ◌++◌, map, length, replicate, refl, sym, ap, ap₂, ◌∙◌, subst, arith}
use Rattle.std.specs.List.{range_with_len}
use Rattle.std.proofs.lemmas.List.{length-append, length-replicate, get_or_append_left, get_or-append_right, get_or_at}
use Rattle.std.proofs.lemmas.List.FromFn.{length-map-range_with_len, get_or-map-range_with_len, get_or-range_with_len}
use Rattle.std.proofs.lemmas.Bool.{cases_lt}
use lib.IntN.{ℤ, pos}
use lib.Signed.{◌≤ℤ◌}
use Rattle.row_definitions.specs.Rows.{entry}
use Rattle.pivot_definitions.specs.Programs.{LinearProgram, IsProgram, FitsEntries, IsCapped, coefficient_row, unit_row}
use Rattle.pivot_definitions.specs.Tableaus.{IsKeptTableau, row_at, entry_at, basic_column, right_side, built, built_row, built_objective}
use Rattle.pivot_definitions.specs.Feasible.{IsFeasible}
use borrow.Author.Differences.{same_out}
use Rattle.pivot_definitions.proofs.Ring.{by_eq, linear}
use Rattle.pivot_definitions.proofs.Built.{length-range, length-unit, length-coefficients, built-IsTableau, built-HasFittingEntries, built-HasPrimitiveRows, unit_here, built_slack}
use Rattle.pivot_definitions.proofs.Level.{CapFacts, UnitFacts}

zeros : (n k : ℕ) → entry (replicate n (pos 0)) k ≡ pos 0
zeros zero k = refl
zeros (suc n) zero = refl
zeros (suc n) (suc k) = zeros n k

after_one : (n k : ℕ) → k ≢ 0 → entry (pos 1 ∷ replicate n (pos 0)) k ≡ pos 0
after_one n zero h = absurd (h refl)
after_one n (suc k) h = zeros n k

pub unit_elsewhere : (width column k : ℕ) → k ≢ column → entry (unit_row width column) k ≡ pos 0
unit_elsewhere width column k differ = elim (cases_lt k column) [
  | inl before ↦ get_or_append_left (replicate column (pos 0)) (pos 1 ∷ replicate (width - 1 - column) (pos 0)) (pos 0) k (omega (arith, length-replicate column (pos 0))) ∙ zeros column k
  | inr after ↦ get_or-append_right (replicate column (pos 0)) (pos 1 ∷ replicate (width - 1 - column) (pos 0)) column k (pos 0) (length-replicate column (pos 0)) after ∙ after_one (width - 1 - column) (k - column) (omega arith)
]

pub unit_facts : (program : LinearProgram) → UnitFacts (entry (built_objective program))
unit_facts program = record { at_level = refl; elsewhere = after_one (program.columns + program.rows) }

-- a coefficient of a row as built
pub built_coefficient : (program : LinearProgram) → IsProgram program → (i k : ℕ) → i < program.rows → k < program.columns → entry (built_row program i) k ≡ entry (coefficient_row program i) k
built_coefficient program is i k row column =
    get_or_append_left (coefficient_row program i ++ unit_row program.rows i) (entry program.right_sides i ∷ []) (pos 0) k (omega (arith, length-append (coefficient_row program i) (unit_row program.rows i), length-coefficients program is i row))
    ∙ get_or_append_left (coefficient_row program i) (unit_row program.rows i) (pos 0) k (omega (arith, length-coefficients program is i row))

-- the right side of a row as built
pub built_right_side : (program : LinearProgram) → IsProgram program → (i : ℕ) → i < program.rows → entry (built_row program i) (program.columns + program.rows) ≡ entry program.right_sides i
built_right_side program is i row =
    get_or_at (coefficient_row program i ++ unit_row program.rows i) (entry program.right_sides i) [] (pos 0) (program.columns + program.rows) (omega (arith, length-append (coefficient_row program i) (unit_row program.rows i), length-coefficients program is i row, length-unit program.rows i row))

pub row_built : (program : LinearProgram) (i : ℕ) → i < program.rows → row_at (built program) i ≡ built_row program i
row_built program i row =
    get_or_append_left (map (built_row program) (range_with_len 0 program.rows)) (built_objective program ∷ []) [] i (omega (arith, length-map-range_with_len (built_row program) 0 program.rows))
    ∙ get_or-map-range_with_len (built_row program) 0 program.rows i i [] row (omega arith)

pub objective_built : (program : LinearProgram) → row_at (built program) program.rows ≡ built_objective program
objective_built program = get_or_at (map (built_row program) (range_with_len 0 program.rows)) (built_objective program) [] [] program.rows (length-map-range_with_len (built_row program) 0 program.rows)

pub basic_built : (program : LinearProgram) (i : ℕ) → i < program.rows → basic_column (built program) i ≡ program.columns + i
basic_built program i row = get_or-range_with_len program.columns program.rows i 0 row

pub built_feasible : (program : LinearProgram) → IsProgram program → IsFeasible (built program)
built_feasible program is =
    let count : length (built program).basis ≡ program.rows = length-range program.columns program.rows in
    let shape = built-IsTableau program is in
    record {
      shape = shape;
      canonical = record {
        positive = λ i h.
            (let row : i < program.rows = omega (arith, count) in
            let e : entry_at (built program) i (basic_column (built program) i) ≡ pos 1 = ap₂ entry (row_built program i row) (basic_built program i row) ∙ built_slack program is i i row row ∙ unit_here program.rows i in
            omega (arith, linear, same_out _ _ e));
        zero_elsewhere = λ i j h k differ.
            (let row : i < program.rows = omega (arith, count) in
            by_eq j program.rows
            (λ last. ap₂ entry (ap (row_at (built program)) last ∙ objective_built program) (basic_built program i row) ∙ (unit_facts program).elsewhere (program.columns + i) (let some = is.some_column in omega arith))
            (λ other. let row_j : j < program.rows = omega (arith, count, shape.row_count) in
            ap₂ entry (row_built program j row_j) (basic_built program i row) ∙ built_slack program is j i row_j row ∙ unit_elsewhere program.rows j i (λ e. differ (sym e))));
      };
      right_sides = λ i h.
          (let row : i < program.rows = omega (arith, count) in
          let e : right_side (built program) i ≡ entry program.right_sides i = ap₂ entry (row_built program i row) (ap (λ n. program.columns + n) count) ∙ built_right_side program is i row in
          subst (λ z. pos 0 ≤ℤ z) (sym e) (is.not_negative i (pos 0) (omega (arith, is.every_right_side))));
    }

-- the cap's row as built
pub cap_facts : (program : LinearProgram) → IsProgram program → IsCapped program → CapFacts (entry (built_row program (program.rows - 1))) (program.columns + (program.rows - 1)) (program.columns + program.rows)
cap_facts program is capped =
    let some_row = is.some_row in
    let some_column = is.some_column in
    let last : program.rows - 1 < program.rows = omega arith in
    record {
      at_level = built_coefficient program is (program.rows - 1) 0 last some_column ∙ ap (λ r. entry r 0) capped.cap ∙ unit_here program.columns 0;
      at_slack = built_slack program is (program.rows - 1) (program.rows - 1) last last ∙ unit_here program.rows (program.rows - 1);
      elsewhere = λ k within not_level not_slack. elim (cases_lt k program.columns) [
        | inl column ↦ built_coefficient program is (program.rows - 1) k last column ∙ ap (λ r. entry r k) capped.cap ∙ unit_elsewhere program.columns 0 k not_level
        | inr after ↦
            (let e : program.columns + (k - program.columns) ≡ k = omega arith in
            ap (entry (built_row program (program.rows - 1))) (sym e) ∙ built_slack program is (program.rows - 1) (k - program.columns) last (omega arith) ∙ unit_elsewhere program.rows (program.rows - 1) (k - program.columns) (omega arith))
      ];
    }

-- a tableau whose parts are those of the tableau as built
pub built_facts : (program : LinearProgram) → IsProgram program → FitsEntries program → program.columns ≤ 2048 → program.rows ≤ 2048 → (columns n : ℕ) (rows all : List (List ℤ)) (last : List ℤ) (basis : List ℕ)
    → columns ≡ program.columns → n ≡ program.rows → all ≡ rows ++ last ∷ [] → rows ≡ map (built_row program) (range_with_len 0 n) → last ≡ built_objective program → basis ≡ range_with_len columns n
    → IsKeptTableau (record { columns = columns; rows = all; basis = basis })
built_facts program is fits few_columns few columns n rows all last basis columns_is n_is all_is rows_is last_is basis_is =
    let same_rows : all ≡ (built program).rows = all_is ∙ ap₂ (λ xs x. xs ++ x ∷ []) (rows_is ∙ ap (λ k. map (built_row program) (range_with_len 0 k)) n_is) last_is in
    let same_basis : basis ≡ (built program).basis = basis_is ∙ ap₂ (λ a k. range_with_len a k) columns_is n_is in
    let whole : built program ≡ record { columns = columns; rows = all; basis = basis } = sym (ap₂ (λ xs bs. record { columns = columns; rows = xs; basis = bs }) same_rows same_basis ∙ ap (λ k. record { columns = k; rows = (built program).rows; basis = (built program).basis }) columns_is) in
    let facts : IsKeptTableau (built program) = record { some_column = is.some_column; some_row = omega (arith, length-range program.columns program.rows, is.some_row); few_columns = few_columns; shape = built-IsTableau program is; fits = built-HasFittingEntries program is fits; primitive = built-HasPrimitiveRows program is; canonical = (built_feasible program is).canonical; few_rows = omega (arith, length-range program.columns program.rows) } in
    subst IsKeptTableau whole facts
