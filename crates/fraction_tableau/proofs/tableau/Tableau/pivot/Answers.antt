use Rattle.std.proofs.Common.{◌≡◌, sym, ap, subst, ◌∙◌}
use Rattle.pivot_definitions.specs.Tableaus.{SimplexTableau, IsKeptPivot, PivotFits, PivotPassesFirst}
use Rattle.condensed_laws.specs.Tableaus.{CondensedTableau, expanded, condensed_pivot}
use Rattle.fraction_tableau.specs.Kept.{StandsForKept}
use Rattle.fraction_tableau.proofs.Lifted.{IsPivot, is_pivot, fits_lifted, passes_lifted, pivot_is_kept, stands_after}
use Rattle.fraction_tableau.proofs.tableau.Tableau.pivot.Goals as goal

pub returns-in-Some-clause-passes_first : goal.returns-in-Some-clause-passes_first
returns-in-Some-clause-passes_first c =
    let t : CondensedTableau = c.self.inside.condensed in
    let is : IsPivot t c.args.row c.args.column = is_pivot t c.args.self.now c.args.row c.args.column c.self.view_is c.self.invariant c.requires.row c.requires.column c.requires.not_basic c.requires.positive in
    subst (λ (s : SimplexTableau). PivotPassesFirst s c.args.row c.args.column c.in-Some.place.row c.in-Some.place.column) c.self.view_is
    (passes_lifted t c.args.row c.args.column c.in-Some.place.row c.in-Some.place.column is c.in-Some.ensures.some)

pub invariant_of-self-2 : goal.invariant_of-self-2
invariant_of-self-2 c =
    let t : CondensedTableau = c.self.inside.condensed in
    let is : IsPivot t c.args.row c.args.column = is_pivot t c.args.self.now c.args.row c.args.column c.self.view_is c.self.invariant c.requires.row c.requires.column c.requires.not_basic c.requires.positive in
    subst StandsForKept (sym (c.pivot.ensures ∙ ap (λ (s : CondensedTableau). condensed_pivot s c.args.row c.args.column) c.first_passing.ensures.unchanged))
    (stands_after t c.args.row c.args.column is c.in_default.ensures.none)

pub returns-clause-ok : goal.returns-clause-ok
returns-clause-ok c =
    let t : CondensedTableau = c.self.inside.condensed in
    let is : IsPivot t c.args.row c.args.column = is_pivot t c.args.self.now c.args.row c.args.column c.self.view_is c.self.invariant c.requires.row c.requires.column c.requires.not_basic c.requires.positive in
    subst (λ (s : SimplexTableau). IsKeptPivot s c.args.row c.args.column (expanded c.pivot.new.self)) c.self.view_is
    (subst (λ (s : CondensedTableau). IsKeptPivot (expanded t) c.args.row c.args.column (expanded s)) (sym (c.pivot.ensures ∙ ap (λ (s : CondensedTableau). condensed_pivot s c.args.row c.args.column) c.first_passing.ensures.unchanged))
    (pivot_is_kept t c.args.row c.args.column is))

pub returns-clause-fits : goal.returns-clause-fits
returns-clause-fits c =
    let t : CondensedTableau = c.self.inside.condensed in
    let is : IsPivot t c.args.row c.args.column = is_pivot t c.args.self.now c.args.row c.args.column c.self.view_is c.self.invariant c.requires.row c.requires.column c.requires.not_basic c.requires.positive in
    subst (λ (s : SimplexTableau). PivotFits s c.args.row c.args.column) c.self.view_is (fits_lifted t c.args.row c.args.column is c.in_default.ensures.none)
