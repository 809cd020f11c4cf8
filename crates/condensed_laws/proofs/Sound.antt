-- A pivot of a sound condensed tableau is sound.
use Rattle.std.proofs.Common.{◌≡◌, ◌≢◌, ℕ, ◌+◌, ◌<◌, List, length, get_or, set, ℤ, pos, ◌*ℤ◌, ◌-ℤ◌, refl, sym, ap, ap₂, subst, ◌∙◌, arith}
use Rattle.std.specs.Prelude.{◌==◌, if◌then◌else◌}
use Rattle.std.specs.List.{Contains}
use Rattle.std.proofs.lemmas.Bool.{eq-eqb, ne_eqb}
use Rattle.std.proofs.lemmas.List.{length-set, get_or-set_same, get_or-set_other, get_or_default}
use Rattle.row_definitions.specs.Rows.{entry, row_divisor, divided}
use Rattle.row_definitions.specs.Combination.{combined, reduced_combination, target_factor, pivot_factor}
use Rattle.row_definitions.proofs.Numbers.{divided-zero}
use Rattle.row_definitions.proofs.Combinations.{entry-combination, entry-divided}
use Rattle.condensed_laws.specs.Wholes.{IsShown}
use Rattle.condensed_laws.specs.Heads.{IsCondensed, lent, swapped, moved_heads, CanSwap}
use Rattle.condensed_laws.specs.Tableaus.{CondensedTableau, condensed_row, IsSound, pivoted_row, condensed_pivot}
use Rattle.condensed_laws.specs.Laws.{PivotStaysSound}
use Rattle.condensed_laws.proofs.Wholes.{zero_difference}
use Rattle.condensed_laws.proofs.Pivots.{length_twice, twice_second, twice_elsewhere}
use Rattle.condensed_laws.proofs.PivotRows.{length-combined}
use Rattle.condensed_laws.proofs.Tableaus.{by_eq, can_swap, length-new_rows, new_pivot_row, new_other_row}

-- ---- the column that had a column's new head

abbrev partner : ℕ → ℕ → ℕ → ℕ
partner leaving entering column = if column == entering then leaving else (if column == leaving then entering else column)

partner_entering : (leaving entering : ℕ) → partner leaving entering entering ≡ leaving
partner_entering leaving entering = ap (λ b. if b then leaving else (if entering == leaving then entering else entering)) (eq-eqb entering entering refl)

partner_leaving : (leaving entering : ℕ) → leaving ≢ entering → partner leaving entering leaving ≡ entering
partner_leaving leaving entering differ =
    ap (λ b. if b then leaving else (if leaving == leaving then entering else leaving)) (ne_eqb leaving entering differ)
    ∙ ap (λ b. if b then entering else leaving) (eq-eqb leaving leaving refl)

partner_other : (leaving entering column : ℕ) → column ≢ leaving → column ≢ entering → partner leaving entering column ≡ column
partner_other leaving entering column not not_entering =
    ap (λ b. if b then leaving else (if column == leaving then entering else column)) (ne_eqb column entering not_entering)
    ∙ ap (λ b. if b then entering else column) (ne_eqb column leaving not)

partner_twice : (leaving entering column : ℕ) → leaving ≢ entering → partner leaving entering (partner leaving entering column) ≡ column
partner_twice leaving entering column differ =
    by_eq column entering
    (λ is. ap (λ c. partner leaving entering (partner leaving entering c)) is ∙ ap (partner leaving entering) (partner_entering leaving entering) ∙ partner_leaving leaving entering differ ∙ sym is)
    (λ not_entering. by_eq column leaving
    (λ is. ap (λ c. partner leaving entering (partner leaving entering c)) is ∙ ap (partner leaving entering) (partner_leaving leaving entering differ) ∙ partner_entering leaving entering ∙ sym is)
    (λ not. ap (partner leaving entering) (partner_other leaving entering column not not_entering) ∙ partner_other leaving entering column not not_entering))

partner_within : (leaving entering column count : ℕ) → leaving < count → entering < count → column < count → partner leaving entering column < count
partner_within leaving entering column count leaving_within entering_within within =
    let P : ℕ → Type 0 = λ c. c < count in
    by_eq column entering
    (λ is. subst P (sym (ap (partner leaving entering) is ∙ partner_entering leaving entering)) leaving_within)
    (λ not_entering. by_eq column leaving
    (λ is. subst P (sym (ap (partner leaving entering) is ∙ partner_leaving leaving entering (λ same. not_entering (is ∙ same)))) entering_within)
    (λ not. subst P (sym (partner_other leaving entering column not not_entering)) within))

-- after a pivot a column has the head that its partner had
new_head : (width row leaving entering place : ℕ) (heads : List ℕ) → CanSwap width row leaving entering place heads → (column : ℕ) → get_or (moved_heads width row leaving entering place heads) column 0 ≡ get_or heads (partner leaving entering column) 0
new_head width row leaving entering place heads swap column =
    by_eq column entering
    (λ is. ap (λ c. get_or (moved_heads width row leaving entering place heads) c 0) is
    ∙ get_or-set_same (set heads leaving place) entering (width + row) 0 (subst (λ n. entering < n) (sym (length-set heads leaving place)) swap.entering_within)
    ∙ sym swap.leaving_is
    ∙ sym (ap (λ c. get_or heads (partner leaving entering c) 0) is ∙ ap (λ c. get_or heads c 0) (partner_entering leaving entering)))
    (λ not_entering. get_or-set_other (set heads leaving place) entering column (width + row) 0 not_entering ∙ by_eq column leaving
    (λ is. ap (λ c. get_or (set heads leaving place) c 0) is
    ∙ get_or-set_same heads leaving place 0 swap.leaving_within
    ∙ sym swap.entering_is
    ∙ sym (ap (λ c. get_or heads (partner leaving entering c) 0) is ∙ ap (λ c. get_or heads c 0) (partner_leaving leaving entering (λ same. not_entering (is ∙ same)))))
    (λ not. get_or-set_other heads leaving column place 0 not ∙ sym (ap (λ c. get_or heads c 0) (partner_other leaving entering column not not_entering))))

-- ---- an entry that is 0 in both rows is 0 in the combination

zero_stays : (target row : List ℤ) (at k : ℕ) → length target ≡ length row → entry target k ≡ pos 0 → entry row k ≡ pos 0 → entry (combined target row at) k ≡ pos 0
zero_stays target row at k lengths no_target no_row =
    let a = target_factor target row at in
    let b = pivot_factor target row at in
    let g = row_divisor (reduced_combination target row at) in
    entry-divided g (reduced_combination target row at) k
    ∙ ap (divided g) (entry-combination a b target row k lengths ∙ ap₂ (λ t p. a *ℤ t -ℤ b *ℤ p) no_target no_row ∙ zero_difference a b)
    ∙ divided-zero g

-- ---- each fact

module _ (t : CondensedTableau) (row column : ℕ) (sound : IsSound t) (within : row < length t.basis) (column_within : column < length t.heads) (not_basic : ¬ Contains t.basis column) where
  abbrev width : ℕ
  width = t.columns

  abbrev place : ℕ
  place = get_or t.heads column 0

  abbrev leaving : ℕ
  leaving = get_or t.basis row 0

  abbrev after : CondensedTableau
  after = condensed_pivot t row column

  swap : CanSwap t.columns row (get_or t.basis row 0) column (get_or t.heads column 0) t.heads
  swap = can_swap t row column sound within column_within not_basic

  row_inside : row < length t.rows
  row_inside = omega (arith, sound.row_count, within)

  not_same : get_or t.basis row 0 ≢ column
  not_same is = not_basic (row, within, get_or_default t.basis row column 0 within ∙ is)

  length-basis : length after.basis ≡ length t.basis
  length-basis = length-set t.basis row column

  length-heads : length after.heads ≡ length t.heads
  length-heads = length-set (set t.heads leaving place) column (width + row) ∙ length-set t.heads leaving place

  lengths : (k : ℕ) → k < length t.rows → length (condensed_row t k) ≡ length (lent width (condensed_row t row))
  lengths k inside = (sound.condensed k inside).count ∙ sym (length_twice (condensed_row t row) (width + 2) (width + 1) (entry (condensed_row t row) (width + 1)) (pos 0) ∙ (sound.condensed row row_inside).count)

  swapped_is : IsCondensed width (swapped width place (condensed_row t row))
  swapped_is =
      let old = sound.condensed row row_inside in
      let own = entry (condensed_row t row) (width + 1) in
      let there = entry (condensed_row t row) place in
      let below_spare : width + 2 ≢ place = λ is. absurd (omega (arith, is, swap.place_within)) in
      let not_own : width + 2 ≢ width + 1 = λ is. absurd (omega (arith, is)) in
      record {
        count = length_twice (condensed_row t row) place (width + 1) own there ∙ old.count;
        spare = twice_elsewhere (condensed_row t row) place (width + 1) (width + 2) own there below_spare not_own ∙ old.spare;
      }

  moved_is : (k : ℕ) → k < length t.rows → IsCondensed width (pivoted_row width place (condensed_row t row) (condensed_row t k))
  moved_is k inside =
      let new = combined (condensed_row t k) (lent width (condensed_row t row)) place in
      let count : length new ≡ width + 3 = length-combined (condensed_row t k) (lent width (condensed_row t row)) place (lengths k inside) ∙ (sound.condensed k inside).count in
      record {
        count = length_twice new place (width + 2) (entry new (width + 2)) (pos 0) ∙ count;
        spare = twice_second new place (width + 2) (entry new (width + 2)) (pos 0) (omega (arith, count));
      }

  rows_condensed : (k : ℕ) → k < length after.rows → IsCondensed width (condensed_row after k)
  rows_condensed k below =
      let inside : k < length t.rows = subst (λ n. k < n) (length-new_rows t row column row_inside) below in
      by_eq k row
      (λ is. subst (IsCondensed width) (sym (ap (condensed_row after) is ∙ new_pivot_row t row column row_inside)) swapped_is)
      (λ not. subst (IsCondensed width) (sym (new_other_row t row column k inside not)) (moved_is k inside))

  head_is : (c : ℕ) → get_or after.heads c 0 ≡ get_or t.heads (partner leaving column c) 0
  head_is = new_head width row leaving column place t.heads swap

  partner_in : (c : ℕ) → c < length t.heads → partner leaving column c < length t.heads
  partner_in c inside = partner_within leaving column c (length t.heads) swap.leaving_within column_within inside

  one_column : (c d : ℕ) → c < length after.heads → d < length after.heads → get_or after.heads c 0 ≡ get_or after.heads d 0 → c ≡ d
  one_column c d c_within d_within same =
      let c_inside = subst (λ n. c < n) length-heads c_within in
      let d_inside = subst (λ n. d < n) length-heads d_within in
      let partners = sound.one_column (partner leaving column c) (partner leaving column d) (partner_in c c_inside) (partner_in d d_inside) (sym (head_is c) ∙ same ∙ head_is d) in
      sym (partner_twice leaving column c not_same) ∙ ap (partner leaving column) partners ∙ partner_twice leaving column d not_same

  places_shown : (k : ℕ) → k < width → IsShown after.heads k
  places_shown k below =
      let old = sound.places_shown k below in
      record {
        column = partner leaving column old.column;
        within = subst (λ n. partner leaving column old.column < n) (sym length-heads) (partner_in old.column old.within);
        is = head_is (partner leaving column old.column) ∙ ap (λ c. get_or t.heads c 0) (partner_twice leaving column old.column not_same) ∙ old.is;
      }

  basic_at : (k : ℕ) → k ≢ row → get_or after.basis k 0 ≡ get_or t.basis k 0
  basic_at k not = get_or-set_other t.basis row k column 0 not

  basic_here : get_or after.basis row 0 ≡ column
  basic_here = get_or-set_same t.basis row column 0 within

  basis_within : (k : ℕ) → k < length after.basis → get_or after.basis k 0 < length after.heads
  basis_within k below =
      let inside : k < length t.basis = subst (λ n. k < n) length-basis below in
      by_eq k row
      (λ is. let e : get_or after.basis k 0 ≡ column = ap (λ n. get_or after.basis n 0) is ∙ basic_here in omega (arith, e, length-heads, column_within))
      (λ not. omega (arith, basic_at k not, length-heads, sound.basis_within k inside))

  basic_head : (k : ℕ) → k < length after.basis → get_or after.heads (get_or after.basis k 0) 0 ≡ width + k
  basic_head k below =
      let inside : k < length t.basis = subst (λ n. k < n) length-basis below in
      by_eq k row
      (λ is.
      ap (λ n. get_or after.heads (get_or after.basis n 0) 0) is ∙ ap (λ c. get_or after.heads c 0) basic_here
      ∙ head_is column ∙ ap (λ c. get_or t.heads c 0) (partner_entering leaving column) ∙ swap.leaving_is ∙ ap (λ n. width + n) (sym is))
      (λ not.
      let c = get_or t.basis k 0 in
      let not_column : c ≢ column = λ same. not_basic (k, inside, get_or_default t.basis k column 0 inside ∙ same) in
      let not_leaving : c ≢ leaving = λ same. not (let e : width + k ≡ width + row = sym (sound.basic_head k inside) ∙ ap (λ n. get_or t.heads n 0) same ∙ sound.basic_head row within in omega (arith, e)) in
      ap (λ n. get_or after.heads n 0) (basic_at k not) ∙ head_is c ∙ ap (λ n. get_or t.heads n 0) (partner_other leaving column c not_leaving not_column) ∙ sound.basic_head k inside)

  objective_own : entry (condensed_row after (length after.basis)) (width + 1) ≡ pos 0
  objective_own =
      let last = length t.basis in
      let inside : last < length t.rows = omega (arith, sound.row_count) in
      let not : last ≢ row = λ is. absurd (omega (arith, is, within)) in
      let pivot = condensed_row t row in
      let new = combined (condensed_row t last) (lent width pivot) place in
      let lent_zero = twice_second pivot (width + 2) (width + 1) (entry pivot (width + 1)) (pos 0) (omega (arith, (sound.condensed row row_inside).count)) in
      let not_place : width + 1 ≢ place = λ is. absurd (omega (arith, is, swap.place_within)) in
      let not_spare : width + 1 ≢ width + 2 = λ is. absurd (omega (arith, is)) in
      ap (λ n. entry (condensed_row after n) (width + 1)) length-basis
      ∙ ap (λ r. entry r (width + 1)) (new_other_row t row column last inside not)
      ∙ twice_elsewhere new place (width + 2) (width + 1) (entry new (width + 2)) (pos 0) not_place not_spare
      ∙ zero_stays (condensed_row t last) (lent width pivot) place (width + 1) (lengths last inside) sound.objective_own lent_zero

  stays : IsSound after
  stays = record {
    row_count = length-new_rows t row column row_inside ∙ sound.row_count ∙ ap (λ n. n + 1) (sym length-basis);
    head_count = length-heads ∙ sound.head_count ∙ ap (λ n. width + n) (sym length-basis);
    condensed = rows_condensed;
    heads_within = λ c below.
        let inside = subst (λ n. c < n) length-heads below in
        omega (arith, head_is c, sound.heads_within (partner leaving column c) (partner_in c inside), length-basis);
    one_column = one_column;
    places_shown = places_shown;
    basis_within = basis_within;
    basic_head = basic_head;
    objective_own = objective_own;
  }

pub pivot_stays_sound : PivotStaysSound
pivot_stays_sound t row column sound within column_within not_basic = stays t row column sound within column_within not_basic
