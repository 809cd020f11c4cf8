-- The objective row never passes first. While it is a multiple of the one as built, its kept form is 1 and zeros: a pivot in
-- another column leaves it, and one in column 0 makes of it nothing larger than the pivot row. Else its kept form is, but for column
-- 0, that of the row in which column 0 is basic, divided by a whole number and with its signs turned: a pivot comes to that row
-- first, or that row is the pivot row, and the products are its entries.
use Rattle.std.proofs.Common.{◌≡◌, ◌≢◌, ℕ, zero, suc, ◌+◌, ◌*◌, ◌<◌, inl, inr, [], length, All, refl, sym, ap, ap₂, ◌∙◌, subst, arith, mul-pos}
use Rattle.std.proofs.lemmas.Bool.{cases_lt}
use Rattle.std.proofs.lemmas.List.{length-map}
use lib.IntN.{ℤ, pos, negsuc, ◌-ℤ◌, ◌*ℤ◌, neg_ℤ}
use lib.Signed.{◌<ℤ◌}
use Rattle.row_definitions.specs.Rows.{entry, row_divisor, divided, primitive_row, scaled}
use Rattle.row_definitions.specs.Combination.{FitsEntry, PassesNowhere, PassesFirst}
use Rattle.row_definitions.proofs.Primitives.{entry-scaled, primitive_row-primitive_row, primitive_row-proportional, primitive_row-unit}
use Rattle.row_definitions.proofs.Combinations.{fits-zero}
use Rattle.pivot_definitions.specs.Programs.{LinearProgram}
use Rattle.pivot_definitions.specs.Tableaus.{SimplexTableau, IsTableau, row_at, entry_at, objective, column_count, built_objective, kept}
use Rattle.pivot_definitions.specs.Runs.{IsChoice, RunsTo}
use Rattle.pivot_definitions.proofs.Ring.{by_eq, dif_is, difs, dif_same, linear}
use Rattle.pivot_definitions.proofs.Built.{length-built_objective}
use Rattle.pivot_definitions.proofs.Pivots.{width}
use Rattle.pivot_definitions.proofs.Start.{unit_facts}
use Rattle.pivot_definitions.proofs.Signs.{multiple, positive_kept, zero_kept}
use Rattle.pivot_definitions.proofs.KeptForms.{row_kept}
use Rattle.pivot_definitions.proofs.Level.{objective_of_basic}
use Rattle.pivot_laws.specs.Laws.{CanPivot, PivotsTo, ObjectiveNeverPassesFirst, ObjectiveNeverPassesFirstByAnyRule}
use Rattle.pivot_laws.proofs.Phases.{IsUnitMultiple, HasLevelRow, enters_another, Pivoted, pivoted}
use Rattle.pivot_laws.proofs.Shares.{same_rows, length-scaled, turned_multiple, nowhere_in_share, nowhere_in_unit, nowhere_in_turned, IsTurnedMultiple}

natural : (z : ℤ) → pos 0 <ℤ z → (n : ℕ) × (0 < n) × (z ≡ pos n)
natural (pos n) h = (n, omega (arith, linear, h), refl)
natural (negsuc n) h = absurd (omega (arith, linear, h))

-- ---- the rows of a kept form

kept_primitive : (t : SimplexTableau) (i : ℕ) → primitive_row (row_at (kept t) i) ≡ row_at (kept t) i
kept_primitive t i = ap primitive_row (row_kept t.rows i) ∙ primitive_row-primitive_row (row_at t i) ∙ sym (row_kept t.rows i)

kept_width : (t : SimplexTableau) → IsTableau t → (i : ℕ) → i < length t.rows → length (row_at (kept t) i) ≡ column_count t + 1
kept_width t is i within = ap (λ r. length r) (row_kept t.rows i) ∙ length-map (row_at t i) (divided (row_divisor (row_at t i))) ∙ width t is i within

-- an entry of the kept form fits
kept_fits : (program : LinearProgram) (t : SimplexTableau) → Pivoted program t → (i : ℕ) → i < length t.rows → All FitsEntry (row_at (kept t) i)
kept_fits program t held i h = held.fits i [] (omega (arith, h, length-map t.rows primitive_row))

-- ---- while the objective row is a multiple of the one as built

-- its kept form is the row as built
whole_unit : (program : LinearProgram) (t : SimplexTableau) → Pivoted program t → IsUnitMultiple t (entry (built_objective program)) → row_at (kept t) (length t.basis) ≡ built_objective program
whole_unit program t held phase =
    let n = length t.basis in
    let unit = built_objective program in
    let c = natural phase.c phase.positive_c in
    let f = natural phase.f phase.positive_f in
    let last : n < length t.rows = omega (arith, held.shape.row_count) in
    let lengths : length (row_at t n) ≡ length unit = width t held.shape n last ∙ ap₂ (λ x y. x + y + 1) held.columns held.count ∙ sym (length-built_objective program) in
    let meet : scaled c.0 (row_at t n) ≡ scaled f.0 unit = same_rows (scaled c.0 (row_at t n)) (scaled f.0 unit) (length-scaled c.0 (row_at t n) ∙ lengths ∙ sym (length-scaled f.0 unit))
    (λ k. entry-scaled c.0 (row_at t n) k ∙ ap (λ z. z *ℤ objective t k) (sym c.2) ∙ phase.objective_is k ∙ ap (λ z. z *ℤ entry unit k) f.2 ∙ sym (entry-scaled f.0 unit k)) in
    row_kept t.rows n ∙ primitive_row-proportional (row_at t n) unit (record { row_factor = c.0; other_factor = f.0; row_above_zero = c.1; other_above_zero = f.1; meet = meet }) ∙ primitive_row-unit unit 0 refl

nowhere_unit : (program : LinearProgram) (t : SimplexTableau) (p q : ℕ) → Pivoted program t → IsUnitMultiple t (entry (built_objective program)) → CanPivot t p q → PassesNowhere (row_at (kept t) (length t.basis)) (row_at (kept t) p) q
nowhere_unit program t p q held phase can =
    let n = length t.basis in
    let rows = held.shape.row_count in
    let last : n < length t.rows = omega (arith, rows) in
    let row : p < length t.rows = omega (arith, rows, can.candidate.within) in
    let whole = whole_unit program t held phase in
    let positive = positive_kept t p q can.candidate.positive in
    let zeros : (k : ℕ) → k ≢ 0 → entry_at (kept t) n k ≡ pos 0 = λ k differ. ap (λ r. entry r k) whole ∙ (unit_facts program).elsewhere k differ in
    let widths : length (row_at (kept t) n) ≡ length (row_at (kept t) p) = kept_width t held.shape n last ∙ sym (kept_width t held.shape p row) in
    by_eq q 0
    (λ e. subst (λ k. PassesNowhere (row_at (kept t) n) (row_at (kept t) p) k) (sym e)
    (nowhere_in_unit (row_at (kept t) n) (row_at (kept t) p) (ap (λ r. entry r 0) whole ∙ (unit_facts program).at_level) zeros (subst (λ k. pos 0 <ℤ entry_at (kept t) p k) e positive)
    (λ k below. kept_fits program t held p row k (pos 0) (omega (arith, below, widths)))))
    (λ differ. fits-zero (row_at (kept t) n) (row_at (kept t) p) q (kept_fits program t held n last) positive (zeros q differ))

-- ---- while column 0 is basic in a row

unit_gone : (c f u e m n o r : ℤ) → u ≡ pos 0 → c *ℤ (m *ℤ o) ≡ f *ℤ u -ℤ e *ℤ (n *ℤ r) → (c *ℤ m) *ℤ o ≡ neg_ℤ ((e *ℤ n) *ℤ r)
unit_gone c f u e m n o r z same = before c m o ∙ same ∙ ap (λ v. f *ℤ v -ℤ e *ℤ (n *ℤ r)) z ∙ after f e n r
  where
    before : (c m o : ℤ) → (c *ℤ m) *ℤ o ≡ c *ℤ (m *ℤ o)
    before c m o = rw (dif_is c, dif_is m, dif_is o) (simp difs (dif_same _ _ _ _ (omega arith)))

    after : (f e n r : ℤ) → f *ℤ pos 0 -ℤ e *ℤ (n *ℤ r) ≡ neg_ℤ ((e *ℤ n) *ℤ r)
    after f e n r = rw (dif_is f, dif_is e, dif_is n, dif_is r) (simp difs (dif_same _ _ _ _ (omega arith)))

-- the objective row's kept form has 0 in column 0
zero_in_level : (program : LinearProgram) (t : SimplexTableau) → Pivoted program t → (level : HasLevelRow t (entry (built_objective program))) → (j : ℕ) → j < length t.rows → j ≢ level.level_row → entry_at (kept t) j 0 ≡ pos 0
zero_in_level program t held level j h ne = zero_kept t j 0 (ap (entry_at t j) (sym level.basic) ∙ held.canonical.zero_elsewhere level.level_row j level.within h ne)

-- the level's row is a multiple of it with its signs turned
level_share : (program : LinearProgram) (t : SimplexTableau) → Pivoted program t → (level : HasLevelRow t (entry (built_objective program))) → (factor : ℕ) × IsTurnedMultiple (row_at (kept t) level.level_row) (row_at (kept t) (length t.basis)) factor
level_share program t held level =
    let i = level.level_row in
    let n = length t.basis in
    let unit = entry (built_objective program) in
    let rows = held.shape.row_count in
    let within = level.within in
    let last : n < length t.rows = omega (arith, rows) in
    let m = multiple t n in
    let k = multiple t i in
    let c = natural level.c level.positive_c in
    let e = natural level.e level.positive_e in
    let f = natural m.factor m.positive in
    let g = natural k.factor k.positive in
    let meet : (j : ℕ) → j ≢ 0 → pos (c.0 * f.0) *ℤ entry_at (kept t) n j ≡ neg_ℤ (pos (e.0 * g.0) *ℤ entry_at (kept t) i j) = λ j differ.
    ap₂ (λ x y. (x *ℤ y) *ℤ entry_at (kept t) n j) (sym c.2) (sym f.2)
    ∙ unit_gone level.c level.f (unit j) level.e m.factor k.factor (entry_at (kept t) n j) (entry_at (kept t) i j) ((unit_facts program).elsewhere j differ) (ap (λ z. level.c *ℤ z) (sym (m.entries j)) ∙ level.objective_is j ∙ ap (λ z. level.f *ℤ unit j -ℤ level.e *ℤ z) (k.entries j))
    ∙ ap₂ (λ x y. neg_ℤ ((x *ℤ y) *ℤ entry_at (kept t) i j)) e.2 g.2 in
    turned_multiple (row_at (kept t) i) (row_at (kept t) n) (c.0 * f.0) (e.0 * g.0) (mul-pos c.1 f.1) (mul-pos e.1 g.1)
    (kept_width t held.shape i (omega (arith, rows, within)) ∙ sym (kept_width t held.shape n last))
    (kept_primitive t n) (zero_in_level program t held level n last (omega (arith, within))) meet

-- where the level's row is the pivot row
nowhere_at_level : (program : LinearProgram) (t : SimplexTableau) (p q : ℕ) → Pivoted program t → (level : HasLevelRow t (entry (built_objective program))) → CanPivot t p q → level.level_row ≡ p → PassesNowhere (row_at (kept t) (length t.basis)) (row_at (kept t) p) q
nowhere_at_level program t p q held level can same =
    let n = length t.basis in
    let rows = held.shape.row_count in
    let last : n < length t.rows = omega (arith, rows) in
    let row : p < length t.rows = omega (arith, rows, can.candidate.within) in
    let positive = positive_kept t p q can.candidate.positive in
    let share = level_share program t held level in
    let widths : length (row_at (kept t) n) ≡ length (row_at (kept t) p) = kept_width t held.shape n last ∙ sym (kept_width t held.shape p row) in
    by_eq q 0
    (λ e. fits-zero (row_at (kept t) n) (row_at (kept t) p) q (kept_fits program t held n last) positive
    (zero_kept t n q (ap (objective t) (e ∙ sym level.basic) ∙ objective_of_basic t held.shape held.canonical level.level_row level.within)))
    (λ differ. nowhere_in_turned (row_at (kept t) n) (row_at (kept t) p) q share.0 (subst (λ i. IsTurnedMultiple (row_at (kept t) i) (row_at (kept t) n) share.0) same share.1) differ positive
    (λ k below. kept_fits program t held p row k (pos 0) (omega (arith, below, widths))))

-- where the level's row passes nowhere, the objective row does not either
nowhere_level : (program : LinearProgram) (t : SimplexTableau) (p q : ℕ) → Pivoted program t → HasLevelRow t (entry (built_objective program)) → CanPivot t p q
    → ((i : ℕ) → i < length t.basis → i ≢ p → PassesNowhere (row_at (kept t) i) (row_at (kept t) p) q) → PassesNowhere (row_at (kept t) (length t.basis)) (row_at (kept t) p) q
nowhere_level program t p q held level can fits_before =
    let i = level.level_row in
    let share = level_share program t held level in
    by_eq i p
    (nowhere_at_level program t p q held level can)
    (λ differ. nowhere_in_share (row_at (kept t) i) (row_at (kept t) (length t.basis)) (row_at (kept t) p) q share.0 share.1
    (enters_another t p q i held.shape held.canonical level.within level.basic can differ)
    (positive_kept t p q can.candidate.positive)
    (zero_in_level program t held level p (omega (arith, held.shape.row_count, can.candidate.within)) (λ s. differ (sym s)))
    (fits_before i level.within differ))

-- ---- the laws

pub objective_never_passes_first_by_any_rule : ObjectiveNeverPassesFirstByAnyRule
objective_never_passes_first_by_any_rule program is fits pivots row column at_row at_column end made can first =
    let held = pivoted program is fits pivots end made in
    let rows = held.shape.row_count in
    let n = length end.basis in
    elim (cases_lt at_row n) [
      | inl before ↦ before
      | inr after ↦
          (let inside : at_row < length (kept end).rows = first.within in
          let last : at_row ≡ n = omega (arith, inside, length-map end.rows primitive_row, rows, after) in
          let passes : PassesFirst (row_at (kept end) n) (row_at (kept end) row) column at_column = subst (λ i. PassesFirst (row_at (kept end) i) (row_at (kept end) row) column at_column) last first.passes in
          let nowhere : PassesNowhere (row_at (kept end) n) (row_at (kept end) row) column = elim held.phase [
            | inl phase ↦ nowhere_unit program end row column held phase can
            | inr level ↦ nowhere_level program end row column held level can (λ i h differ. first.fits_before i (omega (arith, h, last)) differ)
          ] in
          absurd (passes.passes (nowhere at_column passes.within)))
    ]

can_pivot : (t : SimplexTableau) (row column : ℕ) → IsChoice t row column → CanPivot t row column
can_pivot t row column choice = record { within = choice.enters.within; candidate = choice.leaves.candidate }

-- a run is made of such pivots
as_pivots : (start : SimplexTableau) (n : ℕ) (end : SimplexTableau) → RunsTo start n end → PivotsTo start n end
as_pivots start zero end run = run
as_pivots start (suc n) end (before, run, row, column, choice, fits, end_is) = (before, as_pivots start n before run, row, column, can_pivot before row column choice, fits, end_is)

pub objective_never_passes_first : ObjectiveNeverPassesFirst
objective_never_passes_first program is capped fits budget pivots at_row at_column end wide =
    objective_never_passes_first_by_any_rule program is fits pivots wide.row wide.column at_row at_column end (as_pivots _ pivots end wide.run) (can_pivot end wide.row wide.column wide.choice) wide.passes
