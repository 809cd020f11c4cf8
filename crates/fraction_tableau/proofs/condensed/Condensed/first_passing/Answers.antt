use Rattle.std.proofs.Common.{◌≡◌, ◌∙◌, ℕ, ℤ, List, get_or, sym, ap, subst}
use Rattle.std.proofs.lemmas.List.{get_or_default}
use Rattle.std.proofs.lemmas.Option.{IfSome_then}
use Rattle.condensed_laws.specs.Tableaus.{CondensedTableau}
use Rattle.fraction_tableau.specs.Condensed.{IsSoundOrEmpty, CondensedFits, CondensedPassesFirst}
use Rattle.fraction_tableau.proofs.LentRows.{CanPivot, can_pivot, combinable_here, shown_here, back_here, fits_here, place_here, none_then}
use Rattle.fraction_tableau.proofs.condensed.Condensed.first_passing.Goals as goal

pub first_place-passing-requires-clause-combinable : goal.first_place-passing-requires-clause-combinable
first_place-passing-requires-clause-combinable c =
    let t : CondensedTableau = record { columns = c.self.inside.columns; rows = c.self.inside.rows; basis = c.self.inside.basis.items; heads = c.self.inside.heads.items } in
    let r = c.requires in
    let can : CanPivot t c.args.row c.args.column = can_pivot t c.args.self.now c.args.row c.args.column c.self.view_is c.self.invariant r.row r.column r.not_basic r.positive r.fits r.primitive in
    let place_is : c.index.result.now ≡ get_or t.heads c.args.column 0 = c.index.ensures ∙ get_or_default t.heads c.args.column c.index.result.now 0 can.column_within in
    combinable_here t c.args.row c.args.column can c.swap.new.self c.index.result.now c.swap.ensures place_is

pub first_place-passing-requires-clause-shown : goal.first_place-passing-requires-clause-shown
first_place-passing-requires-clause-shown c =
    let t : CondensedTableau = record { columns = c.self.inside.columns; rows = c.self.inside.rows; basis = c.self.inside.basis.items; heads = c.self.inside.heads.items } in
    let r = c.requires in
    let can : CanPivot t c.args.row c.args.column = can_pivot t c.args.self.now c.args.row c.args.column c.self.view_is c.self.invariant r.row r.column r.not_basic r.positive r.fits r.primitive in
    let place_is : c.index.result.now ≡ get_or t.heads c.args.column 0 = c.index.ensures ∙ get_or_default t.heads c.args.column c.index.result.now 0 can.column_within in
    shown_here t c.args.row c.args.column can c.swap.new.self c.index.result.now c.deref.result.now c.swap.ensures place_is c.deref.ensures.value

pub invariant_of-self : goal.invariant_of-self
invariant_of-self c =
    let t : CondensedTableau = record { columns = c.self.inside.columns; rows = c.self.inside.rows; basis = c.self.inside.basis.items; heads = c.self.inside.heads.items } in
    let r = c.requires in
    let can : CanPivot t c.args.row c.args.column = can_pivot t c.args.self.now c.args.row c.args.column c.self.view_is c.self.invariant r.row r.column r.not_basic r.positive r.fits r.primitive in
    let back = back_here t c.args.row c.args.column can c.swap.new.self c.swap-2.new.self c.swap.ensures c.swap-2.ensures in
    subst (λ (rows : List (List ℤ)). IsSoundOrEmpty (record { columns = t.columns; rows = rows; basis = t.basis; heads = t.heads })) (sym back) c.self.invariant

pub returns-clause-some : goal.returns-clause-some
returns-clause-some c =
    let t : CondensedTableau = record { columns = c.self.inside.columns; rows = c.self.inside.rows; basis = c.self.inside.basis.items; heads = c.self.inside.heads.items } in
    let r = c.requires in
    let can : CanPivot t c.args.row c.args.column = can_pivot t c.args.self.now c.args.row c.args.column c.self.view_is c.self.invariant r.row r.column r.not_basic r.positive r.fits r.primitive in
    let place_is : c.index.result.now ≡ get_or t.heads c.args.column 0 = c.index.ensures ∙ get_or_default t.heads c.args.column c.index.result.now 0 can.column_within in
    IfSome_then c.first_place-passing.result c.first_place-passing.ensures.some
    (λ at is. subst (λ (s : CondensedTableau). CondensedPassesFirst s c.args.row c.args.column at.row at.column) c.self.view_is
    (place_here t c.args.row c.args.column can c.swap.new.self c.index.result.now c.deref.result.now at.row at.column c.swap.ensures place_is c.deref.ensures.value is))

pub returns-clause-none : goal.returns-clause-none
returns-clause-none c =
    let t : CondensedTableau = record { columns = c.self.inside.columns; rows = c.self.inside.rows; basis = c.self.inside.basis.items; heads = c.self.inside.heads.items } in
    let r = c.requires in
    let can : CanPivot t c.args.row c.args.column = can_pivot t c.args.self.now c.args.row c.args.column c.self.view_is c.self.invariant r.row r.column r.not_basic r.positive r.fits r.primitive in
    let place_is : c.index.result.now ≡ get_or t.heads c.args.column 0 = c.index.ensures ∙ get_or_default t.heads c.args.column c.index.result.now 0 can.column_within in
    none_then c.first_place-passing.result c.first_place-passing.ensures.none
    (λ is. subst (λ (s : CondensedTableau). CondensedFits s c.args.row c.args.column) c.self.view_is
    (fits_here t c.args.row c.args.column can c.swap.new.self c.index.result.now c.swap.ensures place_is is))

pub returns-clause-unchanged : goal.returns-clause-unchanged
returns-clause-unchanged c =
    let t : CondensedTableau = record { columns = c.self.inside.columns; rows = c.self.inside.rows; basis = c.self.inside.basis.items; heads = c.self.inside.heads.items } in
    let r = c.requires in
    let can : CanPivot t c.args.row c.args.column = can_pivot t c.args.self.now c.args.row c.args.column c.self.view_is c.self.invariant r.row r.column r.not_basic r.positive r.fits r.primitive in
    let back = back_here t c.args.row c.args.column can c.swap.new.self c.swap-2.new.self c.swap.ensures c.swap-2.ensures in
    let with_rows : List (List ℤ) → CondensedTableau = λ rows. record { columns = t.columns; rows = rows; basis = t.basis; heads = t.heads } in
    ap with_rows back ∙ c.self.view_is
