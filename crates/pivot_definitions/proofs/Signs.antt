-- Tableaus whose rows are the same up to positive factors have the same signs and ratios, and so the same choices; a plain tableau
-- and its kept form are such.
use Rattle.std.proofs.Common.{◌≡◌, ℕ, ◌<◌, List, inl, inr, length, sym, ap, ap₂, ◌∙◌, subst, arith}
use lib.IntN.{ℤ, pos, ◌*ℤ◌}
use lib.Signed.{◌<ℤ◌, ◌≤ℤ◌}
use Rattle.row_definitions.specs.Rows.{entry, primitive_row}
use Rattle.row_definitions.proofs.Primitives.{IsPositiveMultiple-primitive_row, entry-scaled}
use Rattle.pivot_definitions.specs.Tableaus.{SimplexTableau, row_at, entry_at, right_side, column_count, kept}
use Rattle.pivot_definitions.specs.Runs.{ComesBefore, Leaves, Enters, IsChoice, IsBest}
use Rattle.pivot_definitions.specs.Feasible.{HasNoNegativeRightSide}
use Rattle.pivot_definitions.specs.Laws.{KeptRowsAreMultiples, SameChoices, SameBest}
use Rattle.pivot_definitions.proofs.Ring.{dif_is, difs, dif_same, linear, mul_pos, mul_not_positive, mul_not_negative, positive_from_product, not_positive_from_product, not_negative_from_product, same_from_product, mul_below, below_from_product, one_times, times_zero}
use Rattle.pivot_definitions.proofs.KeptForms.{row_kept}

-- ---- tableaus of the same columns and basic columns, with rows that are the same up to positive factors

-- the tableau with other rows
abbrev pub with_rows : SimplexTableau → List (List ℤ) → SimplexTableau
with_rows t rows = record { columns = t.columns; rows = rows; basis = t.basis }

-- some positive multiple of both rows is one row
pub record RowsMeet (t u : SimplexTableau) (row : ℕ) : Type 0 where
  pub factor : ℤ
  pub other_factor : ℤ
  pub positive : pos 0 <ℤ factor
  pub other_positive : pos 0 <ℤ other_factor
  pub meet : (k : ℕ) → factor *ℤ entry_at t row k ≡ other_factor *ℤ entry_at u row k

abbrev pub AllRowsMeet : SimplexTableau → SimplexTableau → Type 0
AllRowsMeet t u = (row : ℕ) → RowsMeet t u row

turned : (t u : SimplexTableau) (row : ℕ) → RowsMeet t u row → RowsMeet u t row
turned t u row m = record {
  factor = m.other_factor;
  other_factor = m.factor;
  positive = m.other_positive;
  other_positive = m.positive;
  meet = λ k. sym (m.meet k);
}

positive_there : (t u : SimplexTableau) (row k : ℕ) → RowsMeet t u row → pos 0 <ℤ entry_at t row k → pos 0 <ℤ entry_at u row k
positive_there t u row k m h = positive_from_product m.other_factor (entry_at u row k) m.other_positive (subst (λ z. pos 0 <ℤ z) (m.meet k) (mul_pos m.factor (entry_at t row k) m.positive h))

not_positive_there : (t u : SimplexTableau) (row k : ℕ) → RowsMeet t u row → entry_at t row k ≤ℤ pos 0 → entry_at u row k ≤ℤ pos 0
not_positive_there t u row k m h = let y = m.positive in not_positive_from_product m.other_factor (entry_at u row k) m.other_positive (subst (λ z. z ≤ℤ pos 0) (m.meet k) (mul_not_positive m.factor (entry_at t row k) (omega (arith, linear, y)) h))

not_negative_there : (t u : SimplexTableau) (row k : ℕ) → RowsMeet t u row → pos 0 ≤ℤ entry_at t row k → pos 0 ≤ℤ entry_at u row k
not_negative_there t u row k m h = let y = m.positive in not_negative_from_product m.other_factor (entry_at u row k) m.other_positive (subst (λ z. pos 0 ≤ℤ z) (m.meet k) (mul_not_negative m.factor (entry_at t row k) (omega (arith, linear, y)) h))

zero_there : (t u : SimplexTableau) (row k : ℕ) → RowsMeet t u row → entry_at t row k ≡ pos 0 → entry_at u row k ≡ pos 0
zero_there t u row k m e = same_from_product m.other_factor (entry_at u row k) (pos 0) m.other_positive (sym (m.meet k) ∙ ap (λ z. m.factor *ℤ z) e ∙ times_zero m.factor ∙ sym (times_zero m.other_factor))

enters_there : (t : SimplexTableau) (rows : List (List ℤ)) (q : ℕ) → AllRowsMeet t (with_rows t rows) → Enters t q → Enters (with_rows t rows) q
enters_there t rows q meet enters =
    let u = with_rows t rows in
    let last = length t.basis in
    record {
      within = enters.within;
      positive = positive_there t u last q (meet last) enters.positive;
      lowest = λ lower h. not_positive_there t u last lower (meet last) (enters.lowest lower h);
    }

regroup : (g h a b : ℤ) → (g *ℤ h) *ℤ (a *ℤ b) ≡ (g *ℤ a) *ℤ (h *ℤ b)
regroup g h a b = rw (dif_is g, dif_is h, dif_is a, dif_is b) (simp difs (dif_same _ _ _ _ (omega arith)))

-- a product of entries of two rows, and of the same two rows of the other tableau
products_meet : (t u : SimplexTableau) (i j k l : ℕ) (m : RowsMeet t u i) (n : RowsMeet t u j) → (m.factor *ℤ n.factor) *ℤ (entry_at t i k *ℤ entry_at t j l) ≡ (m.other_factor *ℤ n.other_factor) *ℤ (entry_at u i k *ℤ entry_at u j l)
products_meet t u i j k l m n =
    regroup m.factor n.factor (entry_at t i k) (entry_at t j l) ∙ ap₂ (λ x y. x *ℤ y) (m.meet k) (n.meet l) ∙ sym (regroup m.other_factor n.other_factor (entry_at u i k) (entry_at u j l))

swapped : (g h a b : ℤ) → (g *ℤ h) *ℤ (b *ℤ a) ≡ (h *ℤ g) *ℤ (b *ℤ a)
swapped g h a b = rw (dif_is g, dif_is h, dif_is a, dif_is b) (simp difs (dif_same _ _ _ _ (omega arith)))

comes_before_there : (t : SimplexTableau) (rows : List (List ℤ)) (q p i : ℕ) → AllRowsMeet t (with_rows t rows) → ComesBefore t q p i → ComesBefore (with_rows t rows) q p i
comes_before_there t rows q p i meet before =
    let u = with_rows t rows in
    let m = meet p in
    let n = meet i in
    let right = column_count t in
    let f = m.factor *ℤ n.factor in
    let g = m.other_factor *ℤ n.other_factor in
    let here : f *ℤ (right_side t p *ℤ entry_at t i q) ≡ g *ℤ (right_side u p *ℤ entry_at u i q) = products_meet t u p i right q m n in
    let there : f *ℤ (right_side t i *ℤ entry_at t p q) ≡ g *ℤ (right_side u i *ℤ entry_at u p q) =
    swapped m.factor n.factor (entry_at t p q) (right_side t i) ∙ products_meet t u i p right q n m ∙ swapped n.other_factor m.other_factor (entry_at u p q) (right_side u i) in
    let above : pos 0 <ℤ g = mul_pos m.other_factor n.other_factor m.other_positive n.other_positive in
    elim before [
      | inl less ↦ inl (below_from_product g (right_side u p *ℤ entry_at u i q) (right_side u i *ℤ entry_at u p q) above
          (subst (λ z. z <ℤ (g *ℤ (right_side u i *ℤ entry_at u p q))) here (subst (λ z. (f *ℤ (right_side t p *ℤ entry_at t i q)) <ℤ z) there (mul_below f _ _ (mul_pos m.factor n.factor m.positive n.positive) less))))
      | inr same ↦ inr (same_from_product g (right_side u p *ℤ entry_at u i q) (right_side u i *ℤ entry_at u p q) above (sym here ∙ ap (λ z. f *ℤ z) same.0 ∙ there), same.1)
    ]

leaves_there : (t : SimplexTableau) (rows : List (List ℤ)) (q p : ℕ) → AllRowsMeet t (with_rows t rows) → Leaves t q p → Leaves (with_rows t rows) q p
leaves_there t rows q p meet leaves =
    let u = with_rows t rows in
    record {
      candidate = record { within = leaves.candidate.within; positive = positive_there t u p q (meet p) leaves.candidate.positive };
      least = λ other candidate differ.
          comes_before_there t rows q p other meet (leaves.least other (record { within = candidate.within; positive = positive_there u t other q (turned t u other (meet other)) candidate.positive }) differ);
    }

choice_there : (t : SimplexTableau) (rows : List (List ℤ)) (p q : ℕ) → AllRowsMeet t (with_rows t rows) → IsChoice t p q → IsChoice (with_rows t rows) p q
choice_there t rows p q meet choice = record { enters = enters_there t rows q meet choice.enters; leaves = leaves_there t rows q p meet choice.leaves }

best_there : (t : SimplexTableau) (rows : List (List ℤ)) → AllRowsMeet t (with_rows t rows) → IsBest t → IsBest (with_rows t rows)
best_there t rows meet best k within = not_positive_there t (with_rows t rows) (length t.basis) k (meet (length t.basis)) (best k within)

-- ---- a plain tableau and its kept form

-- a row is a positive multiple of its kept form
pub multiple : KeptRowsAreMultiples
multiple plain row =
    let m = IsPositiveMultiple-primitive_row (row_at plain row) in
    let above : 0 < m.factor = m.above_zero in
    record {
      factor = pos m.factor;
      positive = omega (arith, linear, above);
      entries = λ k. ap (λ r. entry r k) m.is ∙ entry-scaled m.factor (primitive_row (row_at plain row)) k ∙ ap (λ r. pos m.factor *ℤ entry r k) (sym (row_kept plain.rows row));
    }

to_kept : (plain : SimplexTableau) → AllRowsMeet plain (kept plain)
to_kept plain row =
    let m = multiple plain row in
    record {
      factor = pos 1;
      other_factor = m.factor;
      positive = omega (arith, linear);
      other_positive = m.positive;
      meet = λ k. one_times (entry_at plain row k) ∙ m.entries k;
    }

to_plain : (plain : SimplexTableau) → AllRowsMeet (kept plain) plain
to_plain plain row = turned plain (kept plain) row (to_kept plain row)

pub positive_plain : (plain : SimplexTableau) (row k : ℕ) → pos 0 <ℤ entry_at (kept plain) row k → pos 0 <ℤ entry_at plain row k
positive_plain plain row k = positive_there (kept plain) plain row k (to_plain plain row)

pub positive_kept : (plain : SimplexTableau) (row k : ℕ) → pos 0 <ℤ entry_at plain row k → pos 0 <ℤ entry_at (kept plain) row k
positive_kept plain row k = positive_there plain (kept plain) row k (to_kept plain row)

pub not_negative_kept : (plain : SimplexTableau) (row k : ℕ) → pos 0 ≤ℤ entry_at plain row k → pos 0 ≤ℤ entry_at (kept plain) row k
not_negative_kept plain row k = not_negative_there plain (kept plain) row k (to_kept plain row)

pub zero_kept : (plain : SimplexTableau) (row k : ℕ) → entry_at plain row k ≡ pos 0 → entry_at (kept plain) row k ≡ pos 0
zero_kept plain row k = zero_there plain (kept plain) row k (to_kept plain row)

pub right_sides_kept : (plain : SimplexTableau) → HasNoNegativeRightSide plain → HasNoNegativeRightSide (kept plain)
right_sides_kept plain right row within = not_negative_kept plain row (column_count plain) (right row within)

pub enters_plain : (plain : SimplexTableau) (q : ℕ) → Enters (kept plain) q → Enters plain q
enters_plain plain q = enters_there (kept plain) plain.rows q (to_plain plain)

-- a choice of the kept form is one of the plain tableau
pub choice_plain : (plain : SimplexTableau) (p q : ℕ) → IsChoice (kept plain) p q → IsChoice plain p q
choice_plain plain p q = choice_there (kept plain) plain.rows p q (to_plain plain)

pub same_choices : SameChoices
same_choices plain p q = (choice_there plain (kept plain).rows p q (to_kept plain), choice_plain plain p q)

-- where nothing is left to choose in the kept form, nothing is in the plain tableau
pub best_plain : (plain : SimplexTableau) → IsBest (kept plain) → IsBest plain
best_plain plain = best_there (kept plain) plain.rows (to_plain plain)

pub same_best : SameBest
same_best plain = (best_there plain (kept plain).rows (to_kept plain), best_plain plain)
