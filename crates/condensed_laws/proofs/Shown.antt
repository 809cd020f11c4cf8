-- What holds of a whole row holds of the condensed row whose entries it shows.
use Rattle.std.proofs.Common.{◌≡◌, ℕ, ◌+◌, ◌<◌, ◌≤◌, ◌⊎◌, inl, inr, List, [], length, get_or, ℤ, pos, sym, ap, subst, ◌∙◌, arith, lit<, All}
use Rattle.std.proofs.lemmas.List.{length-map, ext_get_or}
use Rattle.std.proofs.lemmas.List.Elements.{All-from_get_or}
use Rattle.row_definitions.specs.Rows.{entry, row_divisor, divided, primitive_row}
use Rattle.row_definitions.specs.Combination.{FitsEntry}
use Rattle.row_definitions.proofs.Numbers.{divided-zero}
use Rattle.row_definitions.proofs.Combinations.{entry-divided}
use Rattle.condensed_laws.specs.Wholes.{whole, IsShown}
use Rattle.condensed_laws.specs.Heads.{place_by, places, pivot_places, lent}
use Rattle.condensed_laws.specs.Tableaus.{CondensedTableau, condensed_row, IsSound}
use Rattle.condensed_laws.specs.Laws.{CondensedRowsFit, CondensedRowsArePrimitive, LentRowIsLikeWhole}
use Rattle.condensed_laws.proofs.Wholes.{ShowsEach, entry-whole, primitive_row-whole, below_or}
use Rattle.condensed_laws.proofs.Heads.{place_below, place_own}
use Rattle.condensed_laws.proofs.Pivots.{pivot_before}
use Rattle.condensed_laws.proofs.PivotRows.{shown_by, right_shown, pivot_rows_show, lengths_of, entering_place, entering_within}
use Rattle.condensed_laws.proofs.Tableaus.{length-wholes, whole_row}

zero_fits : FitsEntry (pos 0)
zero_fits = lit< tt

fits_back : (places : List ℕ) (row : List ℤ) → ShowsEach places row → All FitsEntry (whole places row) → All FitsEntry row
fits_back places row shows fits = All-from_get_or FitsEntry row (pos 0) (λ k below. by_place k (shows k below)) where
  by_place : (k : ℕ) → (entry row k ≡ pos 0) ⊎ IsShown places k → FitsEntry (entry row k)
  by_place k (inl none) = subst FitsEntry (sym none) zero_fits
  by_place k (inr shown) = subst FitsEntry (entry-whole places row shown.column shown.within ∙ ap (entry row) shown.is) (fits shown.column (pos 0) (subst (λ n. shown.column < n) (sym (length-map places (entry row))) shown.within))

primitive_back : (places : List ℕ) (row : List ℤ) → ShowsEach places row → primitive_row (whole places row) ≡ whole places row → primitive_row row ≡ row
primitive_back places row shows primitive =
    let g = row_divisor row in
    ext_get_or (pos 0) (primitive_row row) row (length-map row (divided g)) (λ k below. by_place k (shows k (subst (λ n. k < n) (length-map row (divided g)) below)))
  where
    by_place : (k : ℕ) → (entry row k ≡ pos 0) ⊎ IsShown places k → entry (primitive_row row) k ≡ entry row k
    by_place k (inl none) = entry-divided (row_divisor row) row k ∙ ap (divided (row_divisor row)) none ∙ divided-zero (row_divisor row) ∙ sym none
    by_place k (inr shown) =
        sym (ap (entry (primitive_row row)) shown.is)
        ∙ sym (entry-whole places (primitive_row row) shown.column shown.within)
        ∙ sym (ap (λ xs. entry xs shown.column) (primitive_row-whole places row shows))
        ∙ ap (λ xs. entry xs shown.column) primitive
        ∙ entry-whole places row shown.column shown.within ∙ ap (entry row) shown.is

-- a row of a sound condensed tableau is shown by its whole row
sound_shows : (t : CondensedTableau) → IsSound t → (own : ℕ) → own < length t.rows → ShowsEach (places t.columns own t.heads) (condensed_row t own)
sound_shows t sound own inside k within = by_width (below_or k t.columns) where
  last : k < t.columns + 3
  last = subst (λ n. k < n) (sound.condensed own inside).count within

  by_objective : k ≡ t.columns + 1 → (own < length t.basis) ⊎ (length t.basis ≤ own) → (entry (condensed_row t own) k ≡ pos 0) ⊎ IsShown (places t.columns own t.heads) k
  by_objective is (inl constraint) = inr (shown_by (place_by t.columns own) t.columns t.heads k (get_or t.basis own 0) (sound.basis_within own constraint) (place_own t.columns own (get_or t.heads (get_or t.basis own 0) 0) (sound.basic_head own constraint) ∙ sym is))
  by_objective is (inr more) =
      let own_is : own ≡ length t.basis = omega (arith, sound.row_count, more) in
      inl (ap (entry (condensed_row t own)) is ∙ ap (λ n. entry (condensed_row t n) (t.columns + 1)) own_is ∙ sound.objective_own)

  by_own : t.columns + 1 ≤ k → (k < t.columns + 2) ⊎ (t.columns + 2 ≤ k) → (entry (condensed_row t own) k ≡ pos 0) ⊎ IsShown (places t.columns own t.heads) k
  by_own above (inl less) = by_objective (omega arith) (below_or own (length t.basis))
  by_own above (inr more) = let is : k ≡ t.columns + 2 = omega (arith, last) in inl (ap (entry (condensed_row t own)) is ∙ (sound.condensed own inside).spare)

  by_right : t.columns ≤ k → (k < t.columns + 1) ⊎ (t.columns + 1 ≤ k) → (entry (condensed_row t own) k ≡ pos 0) ⊎ IsShown (places t.columns own t.heads) k
  by_right above (inl less) = let is : t.columns ≡ k = omega arith in inr (subst (λ n. IsShown (places t.columns own t.heads) n) is (right_shown (place_by t.columns own) t.columns t.heads))
  by_right above (inr more) = by_own more (below_or k (t.columns + 2))

  by_width : (k < t.columns) ⊎ (t.columns ≤ k) → (entry (condensed_row t own) k ≡ pos 0) ⊎ IsShown (places t.columns own t.heads) k
  by_width (inl less) =
      let shown = sound.places_shown k less in
      inr (shown_by (place_by t.columns own) t.columns t.heads k shown.column shown.within (ap (place_by t.columns own) shown.is ∙ place_below t.columns own k less))
  by_width (inr above) = by_right above (below_or k (t.columns + 1))

pub condensed_rows_fit : CondensedRowsFit
condensed_rows_fit t sound fits = All-from_get_or (λ row. All FitsEntry row) t.rows [] (λ own inside.
    fits_back (places t.columns own t.heads) (condensed_row t own) (sound_shows t sound own inside)
    (subst (λ row. All FitsEntry row) (whole_row t.columns t.heads t.rows own inside) (fits own [] (subst (λ n. own < n) (sym (length-wholes t.columns t.heads 0 t.rows)) inside))))

pub condensed_rows_are_primitive : CondensedRowsArePrimitive
condensed_rows_are_primitive t sound primitive = All-from_get_or (λ row. primitive_row row ≡ row) t.rows [] (λ own inside.
    primitive_back (places t.columns own t.heads) (condensed_row t own) (sound_shows t sound own inside)
    (subst (λ row. primitive_row row ≡ row) (whole_row t.columns t.heads t.rows own inside) (primitive own [] (subst (λ n. own < n) (sym (length-wholes t.columns t.heads 0 t.rows)) inside))))

pub lent_row_is_like_whole : LentRowIsLikeWhole
lent_row_is_like_whole width own pivot leaving entering place heads target row rows =
    let pp = pivot_places width own pivot heads in
    let is = pivot_before width own pivot heads row rows.row_condensed rows.another in (
      λ fits. fits_back pp (lent width row) shows (subst (λ r. All FitsEntry r) is fits),
      λ primitive. primitive_back pp (lent width row) shows (subst (λ r. primitive_row r ≡ r) is primitive),
      sym (ap (λ r. entry r entering) is
          ∙ entry-whole pp (lent width row) entering (entering_within width own pivot leaving entering place heads target row rows)
          ∙ ap (entry (lent width row)) (entering_place width own pivot leaving entering place heads target row rows)),
    )
  where
    counts : length (lent width row) ≡ length target
    counts = sym (lengths_of width own pivot leaving entering place heads target row rows)

    by_both : (k : ℕ) → ((entry target k ≡ pos 0) × (entry (lent width row) k ≡ pos 0)) ⊎ IsShown (pivot_places width own pivot heads) k → (entry (lent width row) k ≡ pos 0) ⊎ IsShown (pivot_places width own pivot heads) k
    by_both k (inl none) = inl none.1
    by_both k (inr shown) = inr shown

    shows : ShowsEach (pivot_places width own pivot heads) (lent width row)
    shows k within = by_both k (pivot_rows_show width own pivot leaving entering place heads target row rows k (subst (λ n. k < n) counts within))
