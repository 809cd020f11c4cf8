-- What any pivots keep of the objective row: it is a positive multiple of the one as built, or column 0 is basic in some row and the
-- objective row is, but for column 0, a multiple of that row with its signs turned.
use Rattle.std.proofs.Common.{◌≡◌, ◌≢◌, ℕ, zero, suc, ◌+◌, ◌<◌, ◌⊎◌, inl, inr, List, [], length, All, refl, sym, ap, ap₂, ◌∙◌, subst, arith}
use Rattle.std.proofs.lemmas.List.{length-map}
use Rattle.std.proofs.lemmas.List.Elements.{All-map, All-weaker}
use lib.IntN.{ℤ, pos, ◌-ℤ◌, ◌*ℤ◌}
use lib.Signed.{◌<ℤ◌}
use borrow.Author.Differences.{same_out}
use Rattle.row_definitions.specs.Rows.{entry, primitive_row}
use Rattle.row_definitions.specs.Combination.{FitsEntry, combined}
use Rattle.row_definitions.proofs.Primitives.{FitsEntry-primitive_row}
use Rattle.row_definitions.proofs.Combinations.{combined_of_kept_forms}
use Rattle.pivot_definitions.specs.Programs.{LinearProgram, IsProgram, FitsEntries}
use Rattle.pivot_definitions.specs.Tableaus.{SimplexTableau, IsTableau, IsCanonical, HasFittingEntries, row_at, entry_at, objective, basic_column, plain_pivot, built, built_objective, kept, PivotFits}
use Rattle.pivot_definitions.proofs.Ring.{by_eq, dif_is, difs, dif_same, linear, mul_pos}
use Rattle.pivot_definitions.proofs.Built.{length-range, built-HasFittingEntries}
use Rattle.pivot_definitions.proofs.Pivots.{PivotFacts, pivot_facts, width}
use Rattle.pivot_definitions.proofs.Feasible.{canonical_step}
use Rattle.pivot_definitions.proofs.Start.{built_feasible, objective_built, unit_facts}
use Rattle.pivot_definitions.proofs.Level.{UnitFacts, apart, objective_after, objective_of_basic}
use Rattle.pivot_definitions.proofs.KeptForms.{kept_pivot_lem}
use Rattle.pivot_definitions.proofs.KeptPivots.{All-others, fits_combined}
use Rattle.pivot_definitions.proofs.KeptFeasible.{kept_shape}
use Rattle.pivot_laws.specs.Laws.{CanPivot, PivotsTo}

pub record IsUnitMultiple (t : SimplexTableau) (unit : ℕ → ℤ) : Type 0 where
  pub c : ℤ
  pub f : ℤ
  pub positive_c : pos 0 <ℤ c
  pub positive_f : pos 0 <ℤ f
  pub objective_is : (k : ℕ) → c *ℤ objective t k ≡ f *ℤ unit k

pub record HasLevelRow (t : SimplexTableau) (unit : ℕ → ℤ) : Type 0 where
  pub level_row : ℕ
  pub within : level_row < length t.basis
  pub basic : basic_column t level_row ≡ 0
  pub c : ℤ
  pub e : ℤ
  pub f : ℤ
  pub positive_c : pos 0 <ℤ c
  pub positive_e : pos 0 <ℤ e
  pub positive_f : pos 0 <ℤ f
  pub objective_is : (k : ℕ) → c *ℤ objective t k ≡ f *ℤ unit k -ℤ e *ℤ entry_at t level_row k

abbrev pub Phase : SimplexTableau → (ℕ → ℤ) → Type 0
Phase t unit = IsUnitMultiple t unit ⊎ HasLevelRow t unit

-- ---- one pivot

unit_stays : (P f u p : ℤ) → P *ℤ (f *ℤ u) -ℤ (f *ℤ pos 0) *ℤ p ≡ (P *ℤ f) *ℤ u
unit_stays P f u p = rw (dif_is P, dif_is f, dif_is u, dif_is p) (simp difs (dif_same _ _ _ _ (omega arith)))

level_begins : (P f u p : ℤ) → P *ℤ (f *ℤ u) -ℤ (f *ℤ pos 1) *ℤ p ≡ (P *ℤ f) *ℤ u -ℤ f *ℤ p
level_begins P f u p = rw (dif_is P, dif_is f, dif_is u, dif_is p) (simp difs (dif_same _ _ _ _ (omega arith)))

level_again : (P c e f u p : ℤ) → P *ℤ (f *ℤ u -ℤ e *ℤ p) -ℤ (c *ℤ pos 0) *ℤ p ≡ (P *ℤ f) *ℤ u -ℤ (P *ℤ e) *ℤ p
level_again P c e f u p = rw (dif_is P, dif_is c, dif_is e, dif_is f, dif_is u, dif_is p) (simp difs (dif_same _ _ _ _ (omega arith)))

level_ends : (P e f u p : ℤ) → P *ℤ (f *ℤ u -ℤ e *ℤ p) -ℤ (f *ℤ pos 0 -ℤ e *ℤ P) *ℤ p ≡ (P *ℤ f) *ℤ u
level_ends P e f u p = rw (dif_is P, dif_is e, dif_is f, dif_is u, dif_is p) (simp difs (dif_same _ _ _ _ (omega arith)))

-- the objective row after a pivot, taken so many times
objective_times : (t u : SimplexTableau) (p q : ℕ) → IsTableau t → PivotFacts t u p q → p < length t.basis → (c : ℤ) (k : ℕ) → c *ℤ objective u k ≡ entry_at t p q *ℤ (c *ℤ objective t k) -ℤ (c *ℤ objective t q) *ℤ entry_at t p k
objective_times t u p q is facts within c k =
    ap (λ z. c *ℤ z) (ap (λ n. entry_at u n k) facts.count ∙ facts.other (length t.basis) k (omega (arith, is.row_count)) (omega (arith, within)))
    ∙ apart c (entry_at t p q) (objective t k) (objective t q) (entry_at t p k)

unit_step : (t u : SimplexTableau) (unit : ℕ → ℤ) (p q : ℕ) → IsTableau t → PivotFacts t u p q → UnitFacts unit → CanPivot t p q → IsUnitMultiple t unit → Phase u unit
unit_step t u unit p q is facts unit_facts can phase =
    let P = entry_at t p q in
    let within = can.candidate.within in
    let f_after = mul_pos P phase.f can.candidate.positive phase.positive_f in
    by_eq q 0
    (λ e. inr (record {
      level_row = p;
      within = omega (arith, within, facts.count);
      basic = facts.enters ∙ e;
      c = phase.c;
      e = phase.f;
      f = P *ℤ phase.f;
      positive_c = phase.positive_c;
      positive_e = phase.positive_f;
      positive_f = f_after;
      objective_is = λ k. objective_times t u p q is facts within phase.c k
          ∙ ap₂ (λ y z. P *ℤ y -ℤ z *ℤ entry_at t p k) (phase.objective_is k) (phase.objective_is q ∙ ap (λ z. phase.f *ℤ z) (ap unit e ∙ unit_facts.at_level))
          ∙ level_begins P phase.f (unit k) (entry_at t p k) ∙ ap (λ z. (P *ℤ phase.f) *ℤ unit k -ℤ phase.f *ℤ z) (sym (facts.same k));
    }))
    (λ differ. inl (record {
      c = phase.c;
      f = P *ℤ phase.f;
      positive_c = phase.positive_c;
      positive_f = f_after;
      objective_is = λ k. objective_times t u p q is facts within phase.c k
          ∙ ap₂ (λ y z. P *ℤ y -ℤ z *ℤ entry_at t p k) (phase.objective_is k) (phase.objective_is q ∙ ap (λ z. phase.f *ℤ z) (unit_facts.elsewhere q differ))
          ∙ unit_stays P phase.f (unit k) (entry_at t p k);
    }))

-- where column 0 is basic in another row than the pivot row, it does not enter
pub enters_another : (t : SimplexTableau) (p q i : ℕ) → IsTableau t → IsCanonical t → i < length t.basis → basic_column t i ≡ 0 → CanPivot t p q → i ≢ p → q ≢ 0
enters_another t p q i is canonical within basic can differ e =
    let z : entry_at t p q ≡ pos 0 = ap (entry_at t p) (e ∙ sym basic) ∙ canonical.zero_elsewhere i p within (omega (arith, is.row_count, can.candidate.within)) (λ s. differ (sym s)) in
    let y = can.candidate.positive in
    omega (arith, linear, same_out _ _ z, y)

level_stays : (t u : SimplexTableau) (unit : ℕ → ℤ) (p q : ℕ) → IsTableau t → IsCanonical t → PivotFacts t u p q → UnitFacts unit → CanPivot t p q → (level : HasLevelRow t unit) → level.level_row ≢ p → HasLevelRow u unit
level_stays t u unit p q is canonical facts unit_facts can level differ =
    let P = entry_at t p q in
    let i = level.level_row in
    let rows : length t.rows ≡ length t.basis + 1 = is.row_count in
    let within = can.candidate.within in
    let not_zero = enters_another t p q i is canonical level.within level.basic can differ in
    let o : (k : ℕ) → objective u k ≡ P *ℤ objective t k -ℤ objective t q *ℤ entry_at t p k = λ k. ap (λ n. entry_at u n k) facts.count ∙ facts.other (length t.basis) k (omega (arith, rows)) (omega (arith, within)) in
    record {
      level_row = i;
      within = omega (arith, level.within, facts.count);
      basic = facts.stays i differ ∙ level.basic;
      c = level.c;
      e = level.e;
      f = P *ℤ level.f;
      positive_c = level.positive_c;
      positive_e = level.positive_e;
      positive_f = mul_pos P level.f can.candidate.positive level.positive_f;
      objective_is = λ k. ap (λ z. level.c *ℤ z) (o k)
          ∙ objective_after level.c level.e level.f P (objective t k) (objective t q) (entry_at t i k) (entry_at t i q) (entry_at t p k) (unit k) (unit q) (level.objective_is k) (level.objective_is q) (unit_facts.elsewhere q not_zero)
          ∙ ap (λ z. (P *ℤ level.f) *ℤ unit k -ℤ level.e *ℤ z) (sym (facts.other i k (omega (arith, rows, level.within)) differ));
    }

-- where the pivot row is the level's row, column 0 enters there again, or leaves
level_left : (t u : SimplexTableau) (unit : ℕ → ℤ) (p q : ℕ) → IsTableau t → IsCanonical t → PivotFacts t u p q → UnitFacts unit → CanPivot t p q → (level : HasLevelRow t unit) → level.level_row ≡ p → Phase u unit
level_left t u unit p q is canonical facts unit_facts can level same =
    let P = entry_at t p q in
    let within = can.candidate.within in
    let is_at : (k : ℕ) → level.c *ℤ objective t k ≡ level.f *ℤ unit k -ℤ level.e *ℤ entry_at t p k = λ k. level.objective_is k ∙ ap (λ n. level.f *ℤ unit k -ℤ level.e *ℤ entry_at t n k) same in
    let f_after = mul_pos P level.f can.candidate.positive level.positive_f in
    by_eq q 0
    (λ e.
    let none : objective t q ≡ pos 0 = ap (objective t) (e ∙ sym level.basic) ∙ objective_of_basic t is canonical level.level_row level.within in
    inr (record {
      level_row = p;
      within = omega (arith, within, facts.count);
      basic = facts.enters ∙ e;
      c = level.c;
      e = P *ℤ level.e;
      f = P *ℤ level.f;
      positive_c = level.positive_c;
      positive_e = mul_pos P level.e can.candidate.positive level.positive_e;
      positive_f = f_after;
      objective_is = λ k. objective_times t u p q is facts within level.c k
          ∙ ap₂ (λ y z. P *ℤ y -ℤ z *ℤ entry_at t p k) (is_at k) (ap (λ z. level.c *ℤ z) none)
          ∙ level_again P level.c level.e level.f (unit k) (entry_at t p k) ∙ ap (λ z. (P *ℤ level.f) *ℤ unit k -ℤ (P *ℤ level.e) *ℤ z) (sym (facts.same k));
    }))
    (λ differ. inl (record {
      c = level.c;
      f = P *ℤ level.f;
      positive_c = level.positive_c;
      positive_f = f_after;
      objective_is = λ k. objective_times t u p q is facts within level.c k
          ∙ ap₂ (λ y z. P *ℤ y -ℤ z *ℤ entry_at t p k) (is_at k) (is_at q ∙ ap (λ z. level.f *ℤ z -ℤ level.e *ℤ P) (unit_facts.elsewhere q differ))
          ∙ level_ends P level.e level.f (unit k) (entry_at t p k);
    }))

phase_step : (t u : SimplexTableau) (unit : ℕ → ℤ) (p q : ℕ) → IsTableau t → IsCanonical t → PivotFacts t u p q → UnitFacts unit → CanPivot t p q → Phase t unit → Phase u unit
phase_step t u unit p q is canonical facts unit_facts can phase = elim phase [
  | inl one ↦ unit_step t u unit p q is facts unit_facts can one
  | inr level ↦ by_eq level.level_row p (level_left t u unit p q is canonical facts unit_facts can level) (λ differ. inr (level_stays t u unit p q is canonical facts unit_facts can level differ))
]

-- the entries of the kept form after a pivot that passes nowhere
fits_step : (t : SimplexTableau) (p q : ℕ) → IsTableau t → CanPivot t p q → HasFittingEntries (kept t) → PivotFits (kept t) p q → HasFittingEntries (kept (plain_pivot t p q))
fits_step t p q is can fits pivot_fits =
    let within : p < length t.rows = omega (arith, is.row_count, can.candidate.within) in
    let inside : p < length (kept t).rows = omega (arith, within, length-map t.rows primitive_row) in
    let shape = kept_shape t is in
    let f : List ℤ → List ℤ = λ target. combined target (row_at (kept t) p) q in
    subst HasFittingEntries (sym (kept_pivot_lem combined_of_kept_forms t p q within can.candidate.positive))
    (All-others (All FitsEntry) f (kept t).rows p inside (fits p [] inside)
    (λ i h ne. fits_combined (row_at (kept t) i) (row_at (kept t) p) q (width (kept t) shape i h ∙ sym (width (kept t) shape p inside)) (pivot_fits i h ne)))

-- ---- any pivots

pub record Pivoted (program : LinearProgram) (t : SimplexTableau) : Type 0 where
  pub shape : IsTableau t
  pub canonical : IsCanonical t
  pub columns : t.columns ≡ program.columns
  pub count : length t.basis ≡ program.rows
  pub fits : HasFittingEntries (kept t)
  pub phase : Phase t (entry (built_objective program))

pivoted_built : (program : LinearProgram) → IsProgram program → FitsEntries program → Pivoted program (built program)
pivoted_built program is fits =
    let feasible = built_feasible program is in
    let count = length-range program.columns program.rows in
    record {
      shape = feasible.shape;
      canonical = feasible.canonical;
      columns = refl;
      count = count;
      fits = All-map (All FitsEntry) primitive_row (built program).rows (All-weaker (All FitsEntry) (λ r. All FitsEntry (primitive_row r)) FitsEntry-primitive_row (built program).rows (built-HasFittingEntries program is fits));
      phase = inl (record {
        c = pos 1;
        f = pos 1;
        positive_c = omega (arith, linear);
        positive_f = omega (arith, linear);
        objective_is = λ k. ap (λ z. pos 1 *ℤ z) (ap (λ n. entry_at (built program) n k) count ∙ ap (λ r. entry r k) (objective_built program));
      });
    }

pivoted_step : (program : LinearProgram) (t : SimplexTableau) (p q : ℕ) → Pivoted program t → CanPivot t p q → PivotFits (kept t) p q → Pivoted program (plain_pivot t p q)
pivoted_step program t p q held can pivot_fits =
    let within = can.candidate.within in
    let facts = pivot_facts t held.shape p q within can.within in
    record {
      shape = facts.shape;
      canonical = canonical_step t (plain_pivot t p q) p q held.shape facts within can.candidate.positive held.canonical;
      columns = held.columns;
      count = facts.count ∙ held.count;
      fits = fits_step t p q held.shape can held.fits pivot_fits;
      phase = phase_step t (plain_pivot t p q) (entry (built_objective program)) p q held.shape held.canonical facts (unit_facts program) can held.phase;
    }

-- any pivots that pass nowhere lead to such tableaus alone
pub pivoted : (program : LinearProgram) → IsProgram program → FitsEntries program → (n : ℕ) (t : SimplexTableau) → PivotsTo (built program) n t → Pivoted program t
pivoted program is fits zero t pivots = subst (Pivoted program) (sym pivots) (pivoted_built program is fits)
pivoted program is fits (suc n) t pivots =
    let before = pivots.0 in
    subst (Pivoted program) (sym pivots.6) (pivoted_step program before pivots.2 pivots.3 (pivoted program is fits n before pivots.1) pivots.4 pivots.5)
