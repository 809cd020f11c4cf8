use Rattle.std.proofs.Common.{◌≡◌, ◌∙◌, ℕ, ◌+◌, ◌<◌, length, get_or, refl, sym, subst, arith, below_more}
use Rattle.row_definitions.specs.Combination.{FitsAt}
use Rattle.condensed_laws.specs.Heads.{pivot_place_by, pivot_places}
use Rattle.condensed_laws.proofs.PivotRows.{place_at}
use Rattle.fraction_tableau.specs.Lent.{row_of, FitsInColumn}
use Rattle.fraction_tableau.proofs.lent.first_column.Goals as goal

pub returns-then-not-fits_in : goal.returns-then-not-fits_in
returns-then-not-fits_in c =
    let a = c.args in
    let is : get_or (pivot_places a.width a.target a.pivot a.heads.now) c.loop-column.column 0 ≡ c.lent_place-at.result = place_at (pivot_place_by a.width a.target a.pivot) a.width a.heads.now c.loop-column.column c.loop-column-test.true ∙ sym c.lent_place-at.ensures in
    let P : ℕ → Type 0 = λ at. FitsAt (row_of a.rows.now a.target) (row_of a.rows.now a.pivot) a.place at in
    record {
      within = omega (arith, c.loop-column-test.true);
      passes = λ fit. let holds = c.if-not-fits_in.ensures.1 (subst P is fit) in absurd (cc);
      fits_before = c.loop-column.invariant;
    }

pub loop-column-preserved : goal.loop-column-preserved
loop-column-preserved c =
    let a = c.args in
    let is : get_or (pivot_places a.width a.target a.pivot a.heads.now) c.loop-column.column 0 ≡ c.lent_place-at.result = place_at (pivot_place_by a.width a.target a.pivot) a.width a.heads.now c.loop-column.column c.loop-column-test.true ∙ sym c.lent_place-at.ensures in
    let P : ℕ → Type 0 = λ at. FitsAt (row_of a.rows.now a.target) (row_of a.rows.now a.pivot) a.place at in
    let fit : P c.lent_place-at.result = c.if-not-fits_in.ensures.0 refl in
    below_more (λ k. FitsInColumn a.rows.now a.width a.heads.now a.target a.pivot a.place k) c.loop-column.column c.loop-column.invariant (subst P (sym is) fit)

pub returns : goal.returns
returns c =
    let a = c.args in
    let last : c.loop-column.column ≡ length a.heads.now = omega (arith, c.loop-column-test.false, c.loop-column.auto.column-end) in
    let before : (k : ℕ) → k < length a.heads.now → FitsInColumn a.rows.now a.width a.heads.now a.target a.pivot a.place k = λ k less. c.loop-column.invariant k (omega (arith, last, less)) in
    record {
      within = omega arith;
      passes = λ fit. c.requires.passes (λ k below. below_more (λ j. FitsInColumn a.rows.now a.width a.heads.now a.target a.pivot a.place j) (length a.heads.now) before fit k below);
      fits_before = before;
    }
