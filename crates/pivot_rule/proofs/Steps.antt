-- The steps and the ends of a run.
use Rattle.std.proofs.Common.{◌≡◌, ℕ, ◌+◌, ◌<◌, ◌≤◌, List, [], ◌∷◌, map, refl, sym, ap, ap₂, ◌∙◌, subst, arith, add-one}
use Rattle.std.specs.List.{All, Contains}
use Rattle.std.proofs.lemmas.List.{get_or_default}
use Rattle.std.proofs.lemmas.List.Elements.{All-head, All-tail}
use lib.IntN.{ℤ, pos}
use lib.Signed.{◌<ℤ◌}
use borrow.Author.Differences.{same_out}
use Rattle.row_definitions.specs.Rows.{primitive_row}
use Rattle.pivot_definitions.specs.Programs.{LinearProgram, IsProgram, IsCapped}
use Rattle.pivot_definitions.specs.Tableaus.{SimplexTableau, IsTableau, IsCanonical, entry_at, basic_column, built, kept, plain_pivot, IsKeptPivot, PivotFits, PivotPassesFirst}
use Rattle.pivot_definitions.specs.Runs.{IsChoice, IsBest, RunsTo, EndsBest, EndsWide, EndsOutOfPivots}
use Rattle.pivot_definitions.proofs.Ring.{linear}
use Rattle.pivot_definitions.proofs.Built.{built-HasPrimitiveRows}
use Rattle.pivot_definitions.proofs.KeptFeasible.{reached_is_feasible}
use Rattle.pivot_definitions.proofs.Level.{enters_not_basic}
use Rattle.pivot_definitions.proofs.Reached.{Reached, reached, bounded}
use Rattle.pivot_definitions.proofs.Signs.{right_sides_kept, enters_plain, positive_kept, choice_plain, best_plain}
use Rattle.pivot_rule.specs.Choosable.{HasDistinctBasis, IsChoosable}
use Rattle.pivot_rule.specs.Ends.{IsCappedStart}

distinct_basis : (t : SimplexTableau) → IsTableau t → IsCanonical t → HasDistinctBasis t
distinct_basis t is canonical i j hi hj differ same =
    let z : entry_at t j (basic_column t i) ≡ pos 0 = canonical.zero_elsewhere i j hi (omega (arith, is.row_count)) (λ e. differ (sym e)) in
    let p : pos 0 <ℤ entry_at t j (basic_column t i) = subst (λ k. pos 0 <ℤ entry_at t j k) (sym same) (canonical.positive j hj) in
    omega (arith, linear, same_out _ _ z, p)

choosable : (program : LinearProgram) → IsProgram program → IsCapped program → (plain : SimplexTableau) → Reached program plain → IsChoosable (kept plain)
choosable program is capped plain held = record {
  right_sides = right_sides_kept plain held.feasible.right_sides;
  distinct = distinct_basis plain held.feasible.shape held.feasible.canonical;
  bounded = λ q enters.
      (let there = enters_plain plain q enters in
      let found = bounded program is capped plain q held there.within there.positive in
      (found.0, record { within = found.1.within; positive = positive_kept plain found.0 q found.1.positive }));
}

map_same : (f : List ℤ → List ℤ) (rows : List (List ℤ)) → All (λ row. f row ≡ row) rows → map f rows ≡ rows
map_same f [] all = refl
map_same f (row ∷ rows) all = ap₂ (λ x xs. x ∷ xs) (All-head (λ r. f r ≡ r) row rows all) (map_same f rows (All-tail (λ r. f r ≡ r) row rows all))

-- a run that was made so far, and what is kept of it
abbrev pub RunSoFar : SimplexTableau → ℕ → SimplexTableau → Type 0
RunSoFar start pivots tableau = (plain : SimplexTableau) × (tableau ≡ kept plain) × RunsTo start pivots plain

pub run_none : (start : SimplexTableau) → IsCappedStart start → RunSoFar start 0 start
run_none start (program, is, capped, start_is) =
    let whole : kept (built program) ≡ built program = ap (λ rows. record { columns = program.columns; rows = rows; basis = (built program).basis }) (map_same primitive_row (built program).rows (built-HasPrimitiveRows program is)) in
    (start, start_is ∙ sym whole ∙ ap kept (sym start_is), refl)

pub run_choosable : (start tableau : SimplexTableau) (n : ℕ) → IsCappedStart start → RunSoFar start n tableau → IsChoosable tableau
run_choosable start tableau n (program, is, capped, start_is) (plain, kept_is, run) =
    subst IsChoosable (sym kept_is) (choosable program is capped plain (reached program is capped n plain (subst (λ s. RunsTo s n plain) start_is run)))

-- the column that enters is not basic
pub run_not_basic : (start tableau : SimplexTableau) (n row column : ℕ) → IsCappedStart start → RunSoFar start n tableau → IsChoice tableau row column → ¬ Contains tableau.basis column
run_not_basic start tableau n row column (program, is, capped, start_is) (plain, kept_is, run) choice (k, within, basic) =
    let feasible = reached_is_feasible program tableau (is, capped, n, plain, subst (λ s. RunsTo s n plain) start_is run, kept_is) in
    enters_not_basic tableau column k feasible.shape feasible.canonical within choice.enters.positive (sym (get_or_default tableau.basis k 0 column within ∙ basic))

pub run_more : (start tableau after : SimplexTableau) (n row column : ℕ) → RunSoFar start n tableau → IsChoice tableau row column → PivotFits tableau row column → IsKeptPivot tableau row column after → RunSoFar start (n + 1) after
run_more start tableau after n row column (plain, kept_is, run) choice fits pivot = (
  plain_pivot plain row column,
  pivot plain (sym kept_is),
  subst (λ k. RunsTo start k (plain_pivot plain row column)) (sym (add-one n)) (plain, run, row, column, choice_plain plain row column (subst (λ s. IsChoice s row column) kept_is choice), subst (λ s. PivotFits s row column) kept_is fits, refl),
)

pub ends_best : (start tableau : SimplexTableau) (budget n : ℕ) → n ≤ budget → RunSoFar start n tableau → IsBest tableau → (plain : SimplexTableau) × (tableau ≡ kept plain) × EndsBest start budget n plain
ends_best start tableau budget n within (plain, kept_is, run) best = (plain, kept_is, record { within_budget = within; run = run; best = best_plain plain (subst IsBest kept_is best) })

pub ends_wide : (start tableau after : SimplexTableau) (budget n row column at_row at_column : ℕ) → n < budget → RunSoFar start n tableau → after ≡ tableau → IsChoice tableau row column → PivotPassesFirst tableau row column at_row at_column → (plain : SimplexTableau) × (after ≡ kept plain) × EndsWide start budget n at_row at_column plain
ends_wide start tableau after budget n row column at_row at_column within (plain, kept_is, run) same choice passes =
    (plain, same ∙ kept_is, record { within_budget = within; run = run; row = row; column = column; choice = choice_plain plain row column (subst (λ s. IsChoice s row column) kept_is choice); passes = subst (λ s. PivotPassesFirst s row column at_row at_column) kept_is passes })

pub ends_out : (start tableau : SimplexTableau) (budget n row column : ℕ) → n ≡ budget → RunSoFar start n tableau → IsChoice tableau row column → (plain : SimplexTableau) × (tableau ≡ kept plain) × EndsOutOfPivots start budget budget plain
ends_out start tableau budget n row column whole (plain, kept_is, run) choice =
    (plain, kept_is, record { whole_budget = refl; run = subst (λ k. RunsTo start k plain) whole run; choice = (row, column, choice_plain plain row column (subst (λ s. IsChoice s row column) kept_is choice)) })
