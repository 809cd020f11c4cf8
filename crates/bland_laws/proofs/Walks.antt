-- A run as a walk: its tableaus by number, what is known of each, and what each pivot does, over the columns and the rows of the program.
use Rattle.std.proofs.Common.{◌≡◌, ◌≢◌, ℕ, zero, suc, ◌+◌, ◌<◌, ◌≤◌, ◌⊎◌, ◌==◌, cond, refl, sym, ap, ap₂, ◌∙◌, subst, arith}
use lib.IntN.{pos, ◌-ℤ◌, ◌*ℤ◌}
use lib.Signed.{◌<ℤ◌, ◌≤ℤ◌}
use borrow.Author.Differences.{same_out}
use Rattle.pivot_definitions.specs.Programs.{LinearProgram, IsProgram, IsCapped}
use Rattle.pivot_definitions.specs.Tableaus.{SimplexTableau, entry_at, basic_column, column_count, plain_pivot, built}
use Rattle.pivot_definitions.specs.Runs.{IsChoice, RunsTo}
use Rattle.bland_laws.specs.PlainRuns.{PlainRunsTo}
use Rattle.pivot_definitions.proofs.Ring.{by_eq, linear}
use Rattle.pivot_definitions.proofs.One.{choice_is_one}
use Rattle.pivot_definitions.proofs.Pivots.{PivotFacts, pivot_facts}
use Rattle.pivot_definitions.proofs.Reached.{Reached, reached_built, reached_step}
use Rattle.bland_laws.proofs.NumberTests.{cond_same, cond_other}

-- how many columns there are before the right side
abbrev pub N : LinearProgram → ℕ
N program = program.columns + program.rows

-- ---- plain runs

-- a run of which no pivot passes 128 bits is one
pub plain_run : (start : SimplexTableau) (n : ℕ) (end : SimplexTableau) → RunsTo start n end → PlainRunsTo start n end
plain_run start zero end run = run
plain_run start (suc n) end run = (run.0, plain_run start n run.0 run.1, run.2, run.3, run.4, run.6)

-- so many pivots lead to one tableau
pub run_is_one : (start : SimplexTableau) (n : ℕ) (t u : SimplexTableau) → PlainRunsTo start n t → PlainRunsTo start n u → t ≡ u
run_is_one start zero t u first second = first ∙ sym second
run_is_one start (suc n) t u first second =
    let before : first.0 ≡ second.0 = run_is_one start n first.0 second.0 first.1 second.1 in
    let one = choice_is_one first.0 first.2 first.3 second.2 second.3 first.4 (subst (λ s. IsChoice s second.2 second.3) (sym before) second.4) in
    first.5 ∙ ap (λ s. plain_pivot s first.2 first.3) before ∙ ap₂ (λ p q. plain_pivot second.0 p q) one.0 one.1 ∙ sym second.5

pub reached : (program : LinearProgram) → IsProgram program → IsCapped program → (n : ℕ) (t : SimplexTableau) → PlainRunsTo (built program) n t → Reached program t
reached program is capped zero t run = subst (Reached program) (sym run) (reached_built program is)
reached program is capped (suc n) t run =
    subst (Reached program) (sym run.5) (reached_step program is capped run.0 run.2 run.3 (reached program is capped n run.0 run.1) run.4)

-- ---- what is known of each tableau

-- the objective row has the number of the program's rows, and the right side that of its columns and rows
pub record Known (program : LinearProgram) (t : SimplexTableau) : Type 0 where
  pub own_positive : (i : ℕ) → i < program.rows → pos 0 <ℤ entry_at t i (basic_column t i)
  pub zero_elsewhere : (i j : ℕ) → i < program.rows → j ≤ program.rows → j ≢ i → entry_at t j (basic_column t i) ≡ pos 0
  pub within : (i : ℕ) → i < program.rows → basic_column t i < N program
  pub not_negative : (i : ℕ) → i < program.rows → pos 0 ≤ℤ entry_at t i (N program)

wide : (program : LinearProgram) (t : SimplexTableau) → Reached program t → column_count t ≡ N program
wide program t held = ap₂ (λ a b. a + b) held.columns held.count

pub known_of : (program : LinearProgram) (t : SimplexTableau) → Reached program t → Known program t
known_of program t held =
    let count = held.count in
    let rows = held.feasible.shape.row_count in
    let is_wide = wide program t held in
    record {
      own_positive = λ i h. held.feasible.canonical.positive i (omega (arith, count));
      zero_elsewhere = λ i j h k ne. held.feasible.canonical.zero_elsewhere i j (omega (arith, count)) (omega (arith, rows, count)) ne;
      within = λ i h. (let b : basic_column t i < column_count t = held.feasible.shape.basic_columns i 0 (omega (arith, count)) in omega (arith, b, is_wide));
      not_negative = λ i h. subst (λ n. pos 0 ≤ℤ entry_at t i n) is_wide (held.feasible.right_sides i (omega (arith, count)));
    }

-- no two rows have one basic column
pub row_is_one : (program : LinearProgram) (t : SimplexTableau) → Known program t → (i j : ℕ) → i < program.rows → j < program.rows → basic_column t i ≡ basic_column t j → i ≡ j
row_is_one program t known i j hi hj same = by_eq i j (λ e. e) (λ ne.
    let z : entry_at t j (basic_column t i) ≡ pos 0 = known.zero_elsewhere i j hi (omega arith) (λ e. ne (sym e)) in
    let p : pos 0 <ℤ entry_at t j (basic_column t i) = subst (λ k. pos 0 <ℤ entry_at t j k) (sym same) (known.own_positive j hj) in
    absurd (omega (arith, linear, same_out _ _ z, p)))

-- ---- what a pivot does

pub record Step (program : LinearProgram) (t u : SimplexTableau) (p q : ℕ) : Type 0 where
  pub row : p < program.rows
  pub column : q < N program
  pub entry_positive : pos 0 <ℤ entry_at t p q
  pub enters : pos 0 <ℤ entry_at t program.rows q
  pub lowest : (k : ℕ) → k < q → entry_at t program.rows k ≤ℤ pos 0
  pub least : (i : ℕ) → i < program.rows → pos 0 <ℤ entry_at t i q → i ≢ p → ((entry_at t p (N program) *ℤ entry_at t i q) <ℤ (entry_at t i (N program) *ℤ entry_at t p q)) ⊎ (((entry_at t p (N program) *ℤ entry_at t i q) ≡ (entry_at t i (N program) *ℤ entry_at t p q)) × (basic_column t p < basic_column t i))
  pub same : (k : ℕ) → entry_at u p k ≡ entry_at t p k
  pub other : (i k : ℕ) → i ≤ program.rows → i ≢ p → entry_at u i k ≡ entry_at t p q *ℤ entry_at t i k -ℤ entry_at t i q *ℤ entry_at t p k
  pub basic : basic_column u p ≡ q
  pub stays : (i : ℕ) → i ≢ p → basic_column u i ≡ basic_column t i

-- Bland's pivot leads from the one tableau to the other
abbrev Made : SimplexTableau → SimplexTableau → ℕ → ℕ → Type 0
Made t u p q = IsChoice t p q × (u ≡ plain_pivot t p q)

step_of : (program : LinearProgram) (t u : SimplexTableau) (p q : ℕ) → Reached program t → Made t u p q → Step program t u p q
step_of program t u p q held (choice, made) =
    let count = held.count in
    let rows = held.feasible.shape.row_count in
    let is_wide = wide program t held in
    let facts : PivotFacts t u p q = subst (λ s. PivotFacts t s p q) (sym made) (pivot_facts t held.feasible.shape p q choice.leaves.candidate.within choice.enters.within) in
    record {
      row = (let h = choice.leaves.candidate.within in omega (arith, h, count));
      column = (let h = choice.enters.within in omega (arith, h, is_wide));
      entry_positive = choice.leaves.candidate.positive;
      enters = subst (λ i. pos 0 <ℤ entry_at t i q) count choice.enters.positive;
      lowest = λ k h. subst (λ i. entry_at t i k ≤ℤ pos 0) count (choice.enters.lowest k h);
      least = λ i h positive differ. subst (λ n. ((entry_at t p n *ℤ entry_at t i q) <ℤ (entry_at t i n *ℤ entry_at t p q)) ⊎ (((entry_at t p n *ℤ entry_at t i q) ≡ (entry_at t i n *ℤ entry_at t p q)) × (basic_column t p < basic_column t i))) is_wide
          (choice.leaves.least i (record { within = omega (arith, count); positive = positive }) differ);
      same = facts.same;
      other = λ i k h ne. facts.other i k (omega (arith, rows, count)) ne;
      basic = facts.enters;
      stays = facts.stays;
    }

-- ---- the walk

pub record Walk (program : LinearProgram) (n : ℕ) : Type 0 where
  pub at : ℕ → SimplexTableau
  pub row : ℕ → ℕ
  pub column : ℕ → ℕ
  pub run : (k : ℕ) → k ≤ n → PlainRunsTo (built program) k (at k)
  pub known : (k : ℕ) → k ≤ n → Known program (at k)
  pub step : (k : ℕ) → k < n → Step program (at k) (at (suc k)) (row k) (column k)

tableau_of : (start : SimplexTableau) (n : ℕ) (end : SimplexTableau) → PlainRunsTo start n end → ℕ → SimplexTableau
tableau_of start zero end run k = end
tableau_of start (suc n) end run k = cond (k == suc n) end (tableau_of start n run.0 run.1 k)

row_of : (start : SimplexTableau) (n : ℕ) (end : SimplexTableau) → PlainRunsTo start n end → ℕ → ℕ
row_of start zero end run k = 0
row_of start (suc n) end run k = cond (k == n) run.2 (row_of start n run.0 run.1 k)

column_of : (start : SimplexTableau) (n : ℕ) (end : SimplexTableau) → PlainRunsTo start n end → ℕ → ℕ
column_of start zero end run k = 0
column_of start (suc n) end run k = cond (k == n) run.3 (column_of start n run.0 run.1 k)

tableau_of_last : (start : SimplexTableau) (n : ℕ) (end : SimplexTableau) (run : PlainRunsTo start n end) → tableau_of start n end run n ≡ end
unfolding tableau_of
tableau_of_last start zero end run = refl
tableau_of_last start (suc n) end run = cond_same end (tableau_of start n run.0 run.1 (suc n)) (suc n) (suc n) refl

tableau_of_run : (start : SimplexTableau) (n : ℕ) (end : SimplexTableau) (run : PlainRunsTo start n end) (k : ℕ) → k ≤ n → PlainRunsTo start k (tableau_of start n end run k)
unfolding tableau_of
tableau_of_run start zero end run k h = (let e : 0 ≡ k = omega arith in subst (λ j. PlainRunsTo start j end) e run)
tableau_of_run start (suc n) end run k h = by_eq k (suc n)
    (λ e. subst (PlainRunsTo start k) (sym (ap (λ j. cond (j == suc n) end (tableau_of start n run.0 run.1 k)) e ∙ cond_same end (tableau_of start n run.0 run.1 k) (suc n) (suc n) refl)) (subst (λ j. PlainRunsTo start j end) (sym e) run))
    (λ ne. subst (PlainRunsTo start k) (sym (cond_other end (tableau_of start n run.0 run.1 k) k (suc n) ne)) (tableau_of_run start n run.0 run.1 k (omega arith)))

moved : (t t' u u' : SimplexTableau) (p p' q q' : ℕ) → t ≡ t' → u ≡ u' → p ≡ p' → q ≡ q' → Made t u p q → Made t' u' p' q'
moved t t' u u' p p' q q' a b c d made = subst (λ x. Made t' u' p' x) d (subst (λ x. Made t' u' x q) c (subst (λ x. Made t' x p q) b (subst (λ x. Made x u p q) a made)))

made_of : (start : SimplexTableau) (n : ℕ) (end : SimplexTableau) (run : PlainRunsTo start n end) (k : ℕ) → k < n → Made (tableau_of start n end run k) (tableau_of start n end run (suc k)) (row_of start n end run k) (column_of start n end run k)
unfolding tableau_of row_of column_of
made_of start zero end run k h = absurd (omega arith)
made_of start (suc n) end run k h =
    let before = tableau_of start n run.0 run.1 in by_eq k n
    (λ e. subst (λ j. Made (cond (j == suc n) end (before j)) (cond (suc j == suc n) end (before (suc j))) (cond (j == n) run.2 (row_of start n run.0 run.1 j)) (cond (j == n) run.3 (column_of start n run.0 run.1 j))) (sym e)
    (moved run.0 (cond (n == suc n) end (before n)) end (cond (suc n == suc n) end (before (suc n))) run.2 (cond (n == n) run.2 (row_of start n run.0 run.1 n)) run.3 (cond (n == n) run.3 (column_of start n run.0 run.1 n))
    (sym (cond_other end (before n) n (suc n) (omega arith) ∙ tableau_of_last start n run.0 run.1))
    (sym (cond_same end (before (suc n)) (suc n) (suc n) refl))
    (sym (cond_same run.2 (row_of start n run.0 run.1 n) n n refl))
    (sym (cond_same run.3 (column_of start n run.0 run.1 n) n n refl))
    (run.4, run.5)))
    (λ ne.
    moved (before k) (cond (k == suc n) end (before k)) (before (suc k)) (cond (suc k == suc n) end (before (suc k))) (row_of start n run.0 run.1 k) (cond (k == n) run.2 (row_of start n run.0 run.1 k)) (column_of start n run.0 run.1 k) (cond (k == n) run.3 (column_of start n run.0 run.1 k))
    (sym (cond_other end (before k) k (suc n) (omega arith)))
    (sym (cond_other end (before (suc k)) (suc k) (suc n) (omega arith)))
    (sym (cond_other run.2 (row_of start n run.0 run.1 k) k n ne))
    (sym (cond_other run.3 (column_of start n run.0 run.1 k) k n ne))
    (made_of start n run.0 run.1 k (omega arith)))

pub walk_of : (program : LinearProgram) → IsProgram program → IsCapped program → (n : ℕ) (end : SimplexTableau) → PlainRunsTo (built program) n end → Walk program n
walk_of program is capped n end run =
    let held : (k : ℕ) → k ≤ n → Reached program (tableau_of (built program) n end run k) = λ k h. reached program is capped k (tableau_of (built program) n end run k) (tableau_of_run (built program) n end run k h) in
    record {
      at = tableau_of (built program) n end run;
      row = row_of (built program) n end run;
      column = column_of (built program) n end run;
      run = tableau_of_run (built program) n end run;
      known = λ k h. known_of program (tableau_of (built program) n end run k) (held k h);
      step = λ k h. step_of program (tableau_of (built program) n end run k) (tableau_of (built program) n end run (suc k)) (row_of (built program) n end run k) (column_of (built program) n end run k) (held k (omega arith)) (made_of (built program) n end run k h);
    }
