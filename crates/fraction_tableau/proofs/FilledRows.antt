-- The rows of a program as built are written one after the other.
use Rattle.std.proofs.Common.{◌≡◌, ℕ, suc, ◌+◌, ◌-◌, ◌*◌, ◌<◌, ◌≤◌, List, [], ◌∷◌, ◌++◌, length, map, get_or, set, take, drop, replicate, ℤ, pos, refl, sym, ap, ap₂, ◌∙◌, arith}
use Rattle.std.specs.List.{range_with_len}
use Rattle.std.proofs.lemmas.List.{append_assoc, length-append, length-replicate, get_or_at, set_at}
use Rattle.std.proofs.lemmas.List.FromFn.{length-map-range_with_len, map-range_with_len_more}
use Rattle.row_pool.specs.Pools.{zeros}
use Rattle.pivot_definitions.specs.Programs.{LinearProgram, IsWithinLimits, coefficient_row}
use Rattle.pivot_definitions.proofs.Built.{length-range}
use Rattle.condensed_laws.specs.Tableaus.{CondensedTableau, condensed_built_row, condensed_built_objective, condensed_built}
use Rattle.condensed_laws.proofs.Built.{built_of_condensed}
use Rattle.fraction_tableau.specs.Condensed.{IsSoundOrEmpty}

-- the first so many rows are written
abbrev pub filled : (ℕ → List ℤ) → List ℤ → ℕ → ℕ → List (List ℤ)
filled f none n k = map f (range_with_len 0 k) ++ replicate (n - k) none

ahead : (f : ℕ → List ℤ) (none : List ℤ) (n k : ℕ) → k < n → filled f none n k ≡ map f (range_with_len 0 k) ++ none ∷ replicate (n - (k + 1)) none
ahead f none n k below = ap (λ m. map f (range_with_len 0 k) ++ replicate m none) (let e : n - k ≡ suc (n - (k + 1)) = omega (arith, below) in e)

pub length-filled : (f : ℕ → List ℤ) (none : List ℤ) (n k : ℕ) (rows : List (List ℤ)) → rows ≡ filled f none n k → k ≤ n → length rows ≡ n
length-filled f none n k rows is below =
    ap length is ∙ length-append (map f (range_with_len 0 k)) (replicate (n - k) none)
    ∙ ap₂ (λ a b. a + b) (length-map-range_with_len f 0 k) (length-replicate (n - k) none)
    ∙ (let e : k + (n - k) ≡ n = omega (arith, below) in e)

pub next_row : (f : ℕ → List ℤ) (none : List ℤ) (n k : ℕ) (rows : List (List ℤ)) → rows ≡ filled f none n k → k < n → get_or rows k [] ≡ none
next_row f none n k rows is below =
    ap (λ xs. get_or xs k []) (is ∙ ahead f none n k below)
    ∙ get_or_at (map f (range_with_len 0 k)) none (replicate (n - (k + 1)) none) [] k (length-map-range_with_len f 0 k)

pub fill_step : (f : ℕ → List ℤ) (none new : List ℤ) (n k : ℕ) (rows after : List (List ℤ)) → rows ≡ filled f none n k → k < n → new ≡ f k → after ≡ set rows k new → after ≡ filled f none n (k + 1)
fill_step f none new n k rows after is below new_is after_is =
    after_is
    ∙ ap₂ (λ xs x. set xs k x) (is ∙ ahead f none n k below) new_is
    ∙ set_at (map f (range_with_len 0 k)) none (replicate (n - (k + 1)) none) (f k) k (length-map-range_with_len f 0 k)
    ∙ sym (append_assoc (map f (range_with_len 0 k)) (f k ∷ []) (replicate (n - (k + 1)) none))
    ∙ ap (λ xs. xs ++ replicate (n - (k + 1)) none) (sym (map-range_with_len_more f 0 k k (omega arith)))

unit_at_head : (n m : ℕ) → n ≡ suc m → set (zeros n) 0 (pos 1) ≡ pos 1 ∷ replicate m (pos 0)
unit_at_head n m is = ap (λ k. set (zeros k) 0 (pos 1)) is

pub filled_with_objective : (program : LinearProgram) (count : ℕ) (rows after : List (List ℤ)) → count ≡ program.rows → rows ≡ filled (condensed_built_row program) (zeros (program.columns + 3)) (program.rows + 1) count → after ≡ set rows count (set (get_or rows count []) 0 (pos 1)) → after ≡ map (condensed_built_row program) (range_with_len 0 program.rows) ++ condensed_built_objective program ∷ []
filled_with_objective program count rows after count_is is after_is =
    let f : ℕ → List ℤ = condensed_built_row program in
    let none : List ℤ = zeros (program.columns + 3) in
    let n : ℕ = program.rows + 1 in
    let below : count < n = omega (arith, count_is) in
    after_is
    ∙ ap₂ (λ xs r. set xs count (set r 0 (pos 1))) (is ∙ ahead f none n count below) (next_row f none n count rows is below)
    ∙ set_at (map f (range_with_len 0 count)) none (replicate (n - (count + 1)) none) (set none 0 (pos 1)) count (length-map-range_with_len f 0 count)
    ∙ ap₂ (λ x m. map f (range_with_len 0 count) ++ x ∷ replicate m none) (unit_at_head (program.columns + 3) (program.columns + 2) (omega arith)) (let e : n - (count + 1) ≡ 0 = omega (arith, count_is) in e)
    ∙ ap (λ k. map f (range_with_len 0 k) ++ condensed_built_objective program ∷ []) count_is

-- the coefficients of a row, cut out of all
pub cut_is : (program : LinearProgram) (columns row : ℕ) (numbers : List ℤ) → columns ≡ program.columns → numbers ≡ program.coefficients → take (row * columns + columns - row * columns) (drop (row * columns) numbers) ≡ coefficient_row program row
cut_is program columns row numbers columns_is numbers_is =
    ap (λ n. take n (drop (row * columns) numbers)) (let e : row * columns + columns - row * columns ≡ columns = omega arith in e)
    ∙ ap₂ (λ n xs. take n (drop (row * n) xs)) columns_is numbers_is

-- what is built, from its parts
pub built_is : (program : LinearProgram) (columns count : ℕ) (rows : List (List ℤ)) (basis heads no_basis no_heads : List ℕ) → columns ≡ program.columns → count ≡ program.rows → rows ≡ (condensed_built program).rows → basis ≡ no_basis ++ range_with_len columns count → no_basis ≡ [] → heads ≡ no_heads ++ range_with_len 0 (columns + count) → no_heads ≡ [] →
    record { columns = columns; rows = rows; basis = basis; heads = heads } ≡ condensed_built program
built_is program columns count rows basis heads no_basis no_heads columns_is count_is rows_is basis_is no_basis_is heads_is no_heads_is =
    let with : ℕ → List (List ℤ) → List ℕ → List ℕ → CondensedTableau = λ c xs b h. record { columns = c; rows = xs; basis = b; heads = h } in
    let basis_there : basis ≡ range_with_len program.columns program.rows = basis_is ∙ ap (λ xs. xs ++ range_with_len columns count) no_basis_is ∙ ap₂ range_with_len columns_is count_is in
    let heads_there : heads ≡ range_with_len 0 (program.columns + program.rows) = heads_is ∙ ap (λ xs. xs ++ range_with_len 0 (columns + count)) no_heads_is ∙ ap₂ (λ a b. range_with_len 0 (a + b)) columns_is count_is in
    ap₂ (λ c xs. with c xs basis heads) columns_is rows_is ∙ ap₂ (λ b h. with program.columns (condensed_built program).rows b h) basis_there heads_there

pub kept_built : (program : LinearProgram) → IsWithinLimits program → IsSoundOrEmpty (condensed_built program)
kept_built program limits =
    let is = limits.program_holds in
    let basis_count : length (condensed_built program).basis ≡ program.rows = length-range program.columns program.rows in
    let heads_count : length (condensed_built program).heads ≡ program.columns + program.rows = length-range 0 (program.columns + program.rows) in
    record {
      few_columns = limits.few_columns;
      few_rows = omega (arith, basis_count, limits.few_rows);
      sound = λ some. (built_of_condensed program is).1;
      some_column = λ some. is.some_column;
      some_row = λ some. omega (arith, basis_count, is.some_row);
      empty = λ none. absurd (omega (arith, heads_count, is.some_row, none));
    }
