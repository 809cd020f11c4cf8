-- A run from a tableau with a budget is one run, with one end.
use Rattle.std.proofs.Common.{◌≡◌, ℕ, zero, suc, ◌<◌, ◌⊎◌, inl, inr, sym, ap, ◌∙◌, subst, arith}
use Rattle.std.proofs.lemmas.Bool.{cases_order}
use lib.IntN.{ℤ, ◌*ℤ◌}
use lib.Signed.{◌<ℤ◌}
use borrow.Author.Differences.{same_out}
use Rattle.pivot_definitions.specs.Tableaus.{SimplexTableau, entry_at, right_side, basic_column, plain_pivot, kept, PivotFits, PivotPassesFirst}
use Rattle.pivot_definitions.specs.Runs.{IsBest, Enters, Leaves, IsChoice, RunsTo, EndsBest, EndsWide, EndsOutOfPivots, ChoiceIsOne, RunIsOne}
use Rattle.pivot_definitions.proofs.Ring.{by_eq, linear}

by_order : {P : Type 0} (a b : ℕ) → (a ≡ b → P) → (a < b → P) → (b < a → P) → P
by_order a b same less more = elim (cases_order a b) [ inl e ↦ same e | inr h ↦ elim h [ inl x ↦ less x | inr y ↦ more y ] ]

enters_one : (t : SimplexTableau) (q r : ℕ) → Enters t q → Enters t r → q ≡ r
enters_one t q r first second = by_order q r (λ e. e)
    (λ h. let x = second.lowest q h in let y = first.positive in absurd (omega (arith, linear, x, y)))
    (λ h. let x = first.lowest r h in let y = second.positive in absurd (omega (arith, linear, x, y)))

not_both : (a b : ℤ) (m n : ℕ) → ((a <ℤ b) ⊎ ((a ≡ b) × (m < n))) → ((b <ℤ a) ⊎ ((b ≡ a) × (n < m))) → ⊥
not_both a b m n first second = elim first [
  | inl less ↦ elim second [ inl more ↦ omega (arith, linear, less, more) | inr same ↦ omega (arith, linear, less, same_out _ _ same.0) ]
  | inr same ↦ elim second [ inl more ↦ omega (arith, linear, more, same_out _ _ same.0) | inr other ↦ omega (arith, same.1, other.1) ]
]

leaves_one : (t : SimplexTableau) (q p r : ℕ) → Leaves t q p → Leaves t q r → p ≡ r
leaves_one t q p r first second = by_eq p r (λ e. e) (λ ne.
    absurd (not_both (right_side t p *ℤ entry_at t r q) (right_side t r *ℤ entry_at t p q) (basic_column t p) (basic_column t r) (first.least r second.candidate (λ e. ne (sym e))) (second.least p first.candidate ne)))

pub choice_is_one : ChoiceIsOne
choice_is_one t p q r s first second =
    let column : q ≡ s = enters_one t q s first.enters second.enters in
    (leaves_one t q p r first.leaves (subst (λ k. Leaves t k r) (sym column) second.leaves), column)

pub run_is_one : RunIsOne
run_is_one start zero t u first second = first ∙ sym second
run_is_one start (suc n) t u first second =
    let before : first.0 ≡ second.0 = run_is_one start n first.0 second.0 first.1 second.1 in
    let one = choice_is_one first.0 first.2 first.3 second.2 second.3 first.4 (subst (λ s. IsChoice s second.2 second.3) (sym before) second.4) in
    first.6 ∙ ap (λ s. plain_pivot s first.2 first.3) before ∙ ap (λ p. plain_pivot second.0 p first.3) one.0 ∙ ap (λ q. plain_pivot second.0 second.2 q) one.1 ∙ sym second.6

-- a tableau on the way of a run, and its choice
record OnTheWay (start : SimplexTableau) (n : ℕ) : Type 0 where
  tableau : SimplexTableau
  run : RunsTo start n tableau
  row : ℕ
  column : ℕ
  choice : IsChoice tableau row column
  fits : PivotFits (kept tableau) row column

on_the_way : (start : SimplexTableau) (k n : ℕ) (end : SimplexTableau) → n < k → RunsTo start k end → OnTheWay start n
on_the_way start zero n end less run = absurd (omega arith)
on_the_way start (suc k) n end less run = by_eq n k
    (λ e. subst (OnTheWay start) (sym e) (record { tableau = run.0; run = run.1; row = run.2; column = run.3; choice = run.4; fits = run.5 }))
    (λ ne. on_the_way start k n run.0 (omega arith) run.1)

not_best : (t : SimplexTableau) (row column : ℕ) → IsBest t → IsChoice t row column → ⊥
not_best t row column best choice = let x = best column choice.enters.within in let y = choice.enters.positive in omega (arith, linear, x, y)

not_passing : (t : SimplexTableau) (p q row column : ℕ) → PivotFits t p q → PivotPassesFirst t p q row column → ⊥
not_passing t p q row column fits passes = passes.passes.passes (fits row passes.within passes.another column passes.passes.within)

place_one : (t : SimplexTableau) (p q r c r' c' : ℕ) → PivotPassesFirst t p q r c → PivotPassesFirst t p q r' c' → (r ≡ r') × (c ≡ c')
place_one t p q r c r' c' first second =
    let row : r ≡ r' = by_order r r' (λ e. e)
    (λ h. absurd (first.passes.passes (second.fits_before r h first.another c first.passes.within)))
    (λ h. absurd (second.passes.passes (first.fits_before r' h second.another c' second.passes.within))) in
    let there = subst (λ k. PivotPassesFirst t p q k c') (sym row) second in (
      row,
      by_order c c' (λ e. e)
          (λ h. absurd (first.passes.passes (there.passes.fits_before c h)))
          (λ h. absurd (there.passes.passes (first.passes.fits_before c' h))),
    )

-- ---- the ends exclude one another

best_before : (start : SimplexTableau) (n k : ℕ) (t u : SimplexTableau) → RunsTo start n t → IsBest t → n < k → RunsTo start k u → ⊥
best_before start n k t u run best less other =
    let way = on_the_way start k n u less other in
    not_best t way.row way.column best (subst (λ s. IsChoice s way.row way.column) (run_is_one start n way.tableau t way.run run) way.choice)

pub best_best : (start : SimplexTableau) (budget n k : ℕ) (t u : SimplexTableau) → EndsBest start budget n t → EndsBest start budget k u → n ≡ k
best_best start budget n k t u first second = by_order n k (λ e. e) (λ h. absurd (best_before start n k t u first.run first.best h second.run)) (λ h. absurd (best_before start k n u t second.run second.best h first.run))

wide_before : (start : SimplexTableau) (budget n r c k : ℕ) (t u : SimplexTableau) → EndsWide start budget n r c t → n < k → RunsTo start k u → ⊥
wide_before start budget n r c k t u wide less other =
    let way = on_the_way start k n u less other in
    let same = run_is_one start n way.tableau t way.run wide.run in
    let one = choice_is_one t way.row way.column wide.row wide.column (subst (λ s. IsChoice s way.row way.column) same way.choice) wide.choice in
    let fits = subst (λ s. PivotFits (kept s) way.row way.column) same way.fits in
    not_passing (kept t) wide.row wide.column r c (subst (λ q. PivotFits (kept t) wide.row q) one.1 (subst (λ p. PivotFits (kept t) p way.column) one.0 fits)) wide.passes

pub best_wide : (start : SimplexTableau) (budget n k r c : ℕ) (t u : SimplexTableau) → EndsBest start budget n t → EndsWide start budget k r c u → ⊥
best_wide start budget n k r c t u best wide = by_order n k
    (λ e. not_best t wide.row wide.column best.best (subst (λ s. IsChoice s wide.row wide.column) (run_is_one start n u t (subst (λ j. RunsTo start j u) (sym e) wide.run) best.run) wide.choice))
    (λ h. best_before start n k t u best.run best.best h wide.run)
    (λ h. wide_before start budget k r c n u t wide h best.run)

pub best_out : (start : SimplexTableau) (budget n k : ℕ) (t u : SimplexTableau) → EndsBest start budget n t → EndsOutOfPivots start budget k u → ⊥
best_out start budget n k t u best out = by_order n budget
    (λ e. not_best t out.choice.0 out.choice.1 best.best (subst (λ s. IsChoice s out.choice.0 out.choice.1) (run_is_one start n u t (subst (λ j. RunsTo start j u) (sym e) out.run) best.run) out.choice.2))
    (λ h. best_before start n budget t u best.run best.best h out.run)
    (λ h. let x = best.within_budget in omega arith)

pub wide_out : (start : SimplexTableau) (budget n r c k : ℕ) (t u : SimplexTableau) → EndsWide start budget n r c t → EndsOutOfPivots start budget k u → ⊥
wide_out start budget n r c k t u wide out = wide_before start budget n r c budget t u wide wide.within_budget out.run

pub wide_wide : (start : SimplexTableau) (budget n r c k r' c' : ℕ) (t u : SimplexTableau) → EndsWide start budget n r c t → EndsWide start budget k r' c' u → (n ≡ k) × (r ≡ r') × (c ≡ c')
wide_wide start budget n r c k r' c' t u first second =
    let pivots : n ≡ k = by_order n k (λ e. e) (λ h. absurd (wide_before start budget n r c k t u first h second.run)) (λ h. absurd (wide_before start budget k r' c' n u t second h first.run)) in
    let same : u ≡ t = run_is_one start n u t (subst (λ j. RunsTo start j u) (sym pivots) second.run) first.run in
    let one = choice_is_one t second.row second.column first.row first.column (subst (λ s. IsChoice s second.row second.column) same second.choice) first.choice in
    let passes = subst (λ s. PivotPassesFirst (kept s) second.row second.column r' c') same second.passes in
    let place = place_one (kept t) first.row first.column r c r' c' first.passes (subst (λ q. PivotPassesFirst (kept t) first.row q r' c') one.1 (subst (λ p. PivotPassesFirst (kept t) p second.column r' c') one.0 passes)) in
    (pivots, place.0, place.1)
