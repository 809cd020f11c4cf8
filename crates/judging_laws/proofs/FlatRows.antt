-- The rows of a program whose coefficients are written one row after another.
use Rattle.std.proofs.Common.{◌≡◌, ℕ, zero, suc, ◌+◌, ◌*◌, ◌<◌, List, [], ◌∷◌, ◌++◌, length, map, take, drop, refl, sym, ap, ◌∙◌, arith}
use Rattle.std.specs.Prelude.{slice_index_or}
use Rattle.std.specs.List.{All, flat_map}
use Rattle.std.proofs.lemmas.List.{take_at, drop_at, drop-drop, length-append}
use Rattle.std.proofs.lemmas.List.Concat.{flat_map-append}
use Rattle.std.proofs.lemmas.List.Elements.{All-head, All-tail}
use lib.IntN.{ℤ}
use Rattle.pivot_definitions.specs.Programs.{LinearProgram, coefficient_row}

-- rows one after another
abbrev pub flat : List (List ℤ) → List ℤ
flat rows = flat_map (λ row. row) rows

pub flat-map : {X : Type 0} (f : X → List ℤ) (xs : List X) → flat_map f xs ≡ flat (map f xs)
flat-map f [] = refl
flat-map f (x ∷ xs) = ap (λ r. f x ++ r) (flat-map f xs)

pub flat-append : (xs ys : List (List ℤ)) → flat (xs ++ ys) ≡ flat xs ++ flat ys
flat-append xs ys = flat_map-append (λ row. row) xs ys

pub length-flat : (width : ℕ) (rows : List (List ℤ)) → All (λ row. length row ≡ width) rows → length (flat rows) ≡ width * length rows
length-flat width [] each = omega arith
length-flat width (row ∷ rows) each =
    let here = All-head (λ r. length r ≡ width) row rows each in
    let rest = length-flat width rows (All-tail (λ r. length r ≡ width) row rows each) in
    omega (arith, length-append row (flat rows), here, rest)

-- row `k` of rows of one width stands so many widths from the front
pub row-flat : (width : ℕ) (rows : List (List ℤ)) (k : ℕ) → All (λ row. length row ≡ width) rows → k < length rows → take width (drop (k * width) (flat rows)) ≡ slice_index_or rows k []
row-flat width [] k each within = absurd (omega arith)
row-flat width (row ∷ rows) zero each within =
    let here = All-head (λ r. length r ≡ width) row rows each in
    ap (λ n. take width (drop n (row ++ flat rows))) (let e : zero * width ≡ 0 = omega arith in e) ∙ take_at row (flat rows) width here
row-flat width (row ∷ rows) (suc k) each within =
    let here = All-head (λ r. length r ≡ width) row rows each in
    ap (λ n. take width (drop n (row ++ flat rows))) (let e : suc k * width ≡ width + k * width = omega arith in e)
    ∙ ap (take width) (sym (drop-drop (k * width) width (row ++ flat rows)))
    ∙ ap (λ xs. take width (drop (k * width) xs)) (drop_at row (flat rows) width here)
    ∙ row-flat width rows k (All-tail (λ r. length r ≡ width) row rows each) (omega (arith, within))

-- a program whose coefficients are these rows, one after another
pub record IsMadeOf (program : LinearProgram) (rows : List (List ℤ)) : Type 0 where
  pub flat_is : program.coefficients ≡ flat rows
  pub widths : All (λ row. length row ≡ program.columns) rows
  pub count : length rows ≡ program.rows

pub row_of : (program : LinearProgram) (rows : List (List ℤ)) (k : ℕ) → IsMadeOf program rows → k < program.rows → coefficient_row program k ≡ slice_index_or rows k []
row_of program rows k made within =
    ap (λ cs. take program.columns (drop (k * program.columns) cs)) made.flat_is ∙ row-flat program.columns rows k made.widths (omega (arith, within, made.count))

pub coefficient_count : (program : LinearProgram) (rows : List (List ℤ)) → IsMadeOf program rows → length program.coefficients ≡ program.columns * program.rows
coefficient_count program rows made = ap length made.flat_is ∙ length-flat program.columns rows made.widths ∙ ap (λ n. program.columns * n) made.count
