-- The kept form of a plain pivot is the pivot of the kept form.
use Rattle.std.proofs.Common.{◌≡◌, ℕ, zero, suc, List, [], ◌∷◌, map, get_or, set, refl, sym, ap, ap₂, ◌∙◌}
use lib.IntN.{ℤ}
use Rattle.row_definitions.specs.Rows.{primitive_row}
use Rattle.row_definitions.specs.Combination.{plain_combination, combined}
use Rattle.row_definitions.specs.Laws.{CombinedOfKeptForms}
use Rattle.pivot_definitions.specs.Tableaus.{row_at, others_combined}
use Rattle.pivot_definitions.specs.Laws.{KeptPivot}

map_both : (f g h : List ℤ → List ℤ) → ((row : List ℤ) → f (g row) ≡ h (f row)) → (rows : List (List ℤ)) → map f (map g rows) ≡ map h (map f rows)
map_both f g h same [] = refl
map_both f g h same (row ∷ rows) = ap₂ (λ x xs. x ∷ xs) (same row) (map_both f g h same rows)

-- what is done to the others before and after a map
map_others : (f g h : List ℤ → List ℤ) → f [] ≡ [] → ((row : List ℤ) → f (g row) ≡ h (f row)) → (rows : List (List ℤ)) (p : ℕ) → map f (others_combined g rows p) ≡ others_combined h (map f rows) p
map_others f g h none same [] zero = ap (λ x. x ∷ []) none
map_others f g h none same [] (suc p) = ap (λ x. x ∷ []) none
map_others f g h none same (row ∷ rows) zero = ap (λ xs. f row ∷ xs) (map_both f g h same rows)
map_others f g h none same (row ∷ rows) (suc p) = ap₂ (λ x xs. x ∷ xs) (same row) (map_others f g h none same rows p)

-- a row of the kept form is the kept form of the row
pub row_kept : (rows : List (List ℤ)) (p : ℕ) → get_or (map primitive_row rows) p [] ≡ primitive_row (get_or rows p [])
row_kept [] zero = refl
row_kept [] (suc p) = refl
row_kept (row ∷ rows) zero = refl
row_kept (row ∷ rows) (suc p) = row_kept rows p

pub kept_pivot_lem : CombinedOfKeptForms → KeptPivot
kept_pivot_lem law plain p q within positive =
    let pivot = row_at plain p in
    let same : (row : List ℤ) → primitive_row (plain_combination row pivot q) ≡ combined (primitive_row row) (get_or (map primitive_row plain.rows) p []) q =
    λ row. sym (law row pivot q positive) ∙ ap (λ kept_row. combined (primitive_row row) kept_row q) (sym (row_kept plain.rows p)) in
    ap (λ rows. record { columns = plain.columns; rows = rows; basis = set plain.basis p q }) (map_others primitive_row _ _ refl same plain.rows p)
