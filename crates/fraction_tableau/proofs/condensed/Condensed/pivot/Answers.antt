use Rattle.std.proofs.Common.{◌≡◌, ◌∙◌, ℕ, ◌+◌, ◌<◌, length, get_or, sym, ap, subst, arith}
use Rattle.std.proofs.lemmas.List.{get_or_default}
use Rattle.condensed_laws.specs.Tableaus.{CondensedTableau, condensed_pivot}
use Rattle.fraction_tableau.specs.Condensed.{IsSoundOrEmpty, CondensedFits}
use Rattle.fraction_tableau.specs.Lent.{row_of}
use Rattle.fraction_tableau.proofs.LentRows.{CanPivot, can_pivot, sound_in, combinable_here, fits_there, others_count, back_count, place_below_width, pivoted_here, pivoted_is, kept_after_pivot}
use Rattle.fraction_tableau.proofs.condensed.Condensed.pivot.Goals as goal

pub combine_others-requires-clause-combinable : goal.combine_others-requires-clause-combinable
combine_others-requires-clause-combinable c =
    let t : CondensedTableau = record { columns = c.self.inside.columns; rows = c.self.inside.rows; basis = c.self.inside.basis.items; heads = c.self.inside.heads.items } in
    let r = c.requires in
    let can : CanPivot t c.args.row c.args.column = can_pivot t c.args.self.now c.args.row c.args.column c.self.view_is c.self.invariant r.row r.column r.not_basic r.positive r.fits r.primitive in
    let place_is : c.index-place.result.now ≡ get_or t.heads c.args.column 0 = c.index-place.ensures ∙ get_or_default t.heads c.args.column c.index-place.result.now 0 can.column_within in
    combinable_here t c.args.row c.args.column can c.swap.new.self c.index-place.result.now c.swap.ensures place_is

pub combine_others-requires-clause-passes_nowhere : goal.combine_others-requires-clause-passes_nowhere
combine_others-requires-clause-passes_nowhere c =
    let t : CondensedTableau = record { columns = c.self.inside.columns; rows = c.self.inside.rows; basis = c.self.inside.basis.items; heads = c.self.inside.heads.items } in
    let r = c.requires in
    let can : CanPivot t c.args.row c.args.column = can_pivot t c.args.self.now c.args.row c.args.column c.self.view_is c.self.invariant r.row r.column r.not_basic r.positive r.fits r.primitive in
    let place_is : c.index-place.result.now ≡ get_or t.heads c.args.column 0 = c.index-place.ensures ∙ get_or_default t.heads c.args.column c.index-place.result.now 0 can.column_within in
    fits_there t c.args.row c.args.column can c.swap.new.self c.index-place.result.now c.swap.ensures place_is (subst (λ (s : CondensedTableau). CondensedFits s c.args.row c.args.column) (sym c.self.view_is) r.passes_nowhere)

pub swap-requires-2-clause-one : goal.swap-requires-2-clause-one
swap-requires-2-clause-one c =
    let t : CondensedTableau = record { columns = c.self.inside.columns; rows = c.self.inside.rows; basis = c.self.inside.basis.items; heads = c.self.inside.heads.items } in
    let r = c.requires in
    let can : CanPivot t c.args.row c.args.column = can_pivot t c.args.self.now c.args.row c.args.column c.self.view_is c.self.invariant r.row r.column r.not_basic r.positive r.fits r.primitive in
    let place_is : c.index-place.result.now ≡ get_or t.heads c.args.column 0 = c.index-place.ensures ∙ get_or_default t.heads c.args.column c.index-place.result.now 0 can.column_within in
    let counts = others_count t c.args.row c.args.column can c.swap.new.self c.combine_others.new.rows c.index-place.result.now c.swap.ensures c.combine_others.ensures in
    let wide : length (row_of c.combine_others.new.rows c.args.row) ≡ t.columns + 3 = counts.1 in
    omega (arith, wide)

pub swap-requires-2-clause-other : goal.swap-requires-2-clause-other
swap-requires-2-clause-other c =
    let t : CondensedTableau = record { columns = c.self.inside.columns; rows = c.self.inside.rows; basis = c.self.inside.basis.items; heads = c.self.inside.heads.items } in
    let r = c.requires in
    let can : CanPivot t c.args.row c.args.column = can_pivot t c.args.self.now c.args.row c.args.column c.self.view_is c.self.invariant r.row r.column r.not_basic r.positive r.fits r.primitive in
    let place_is : c.index-place.result.now ≡ get_or t.heads c.args.column 0 = c.index-place.ensures ∙ get_or_default t.heads c.args.column c.index-place.result.now 0 can.column_within in
    let counts = others_count t c.args.row c.args.column can c.swap.new.self c.combine_others.new.rows c.index-place.result.now c.swap.ensures c.combine_others.ensures in
    let wide : length (row_of c.combine_others.new.rows c.args.row) ≡ t.columns + 3 = counts.1 in
    omega (arith, wide)

pub swap-requires-3-clause-one : goal.swap-requires-3-clause-one
swap-requires-3-clause-one c =
    let t : CondensedTableau = record { columns = c.self.inside.columns; rows = c.self.inside.rows; basis = c.self.inside.basis.items; heads = c.self.inside.heads.items } in
    let r = c.requires in
    let can : CanPivot t c.args.row c.args.column = can_pivot t c.args.self.now c.args.row c.args.column c.self.view_is c.self.invariant r.row r.column r.not_basic r.positive r.fits r.primitive in
    let place_is : c.index-place.result.now ≡ get_or t.heads c.args.column 0 = c.index-place.ensures ∙ get_or_default t.heads c.args.column c.index-place.result.now 0 can.column_within in
    let counts = others_count t c.args.row c.args.column can c.swap.new.self c.combine_others.new.rows c.index-place.result.now c.swap.ensures c.combine_others.ensures in
    let wide : length (row_of c.combine_others.new.rows c.args.row) ≡ t.columns + 3 = counts.1 in
    let sound = sound_in t c.args.row c.args.column can in
    let inside : c.args.row < length c.combine_others.new.rows = omega (arith, counts.0, sound.row_count, can.within) in
    let again : length (row_of c.swap-2.new.self c.args.row) ≡ t.columns + 3 = back_count t.columns c.args.row c.combine_others.new.rows c.swap-2.new.self c.swap-2.ensures inside wide in
    omega (arith, again, place_below_width t c.args.row c.args.column can c.index-place.result.now place_is)

pub swap-requires-3-clause-other : goal.swap-requires-3-clause-other
swap-requires-3-clause-other c =
    let t : CondensedTableau = record { columns = c.self.inside.columns; rows = c.self.inside.rows; basis = c.self.inside.basis.items; heads = c.self.inside.heads.items } in
    let r = c.requires in
    let can : CanPivot t c.args.row c.args.column = can_pivot t c.args.self.now c.args.row c.args.column c.self.view_is c.self.invariant r.row r.column r.not_basic r.positive r.fits r.primitive in
    let place_is : c.index-place.result.now ≡ get_or t.heads c.args.column 0 = c.index-place.ensures ∙ get_or_default t.heads c.args.column c.index-place.result.now 0 can.column_within in
    let counts = others_count t c.args.row c.args.column can c.swap.new.self c.combine_others.new.rows c.index-place.result.now c.swap.ensures c.combine_others.ensures in
    let wide : length (row_of c.combine_others.new.rows c.args.row) ≡ t.columns + 3 = counts.1 in
    let sound = sound_in t c.args.row c.args.column can in
    let inside : c.args.row < length c.combine_others.new.rows = omega (arith, counts.0, sound.row_count, can.within) in
    let again : length (row_of c.swap-2.new.self c.args.row) ≡ t.columns + 3 = back_count t.columns c.args.row c.combine_others.new.rows c.swap-2.new.self c.swap-2.ensures inside wide in
    omega (arith, again)

pub index_mut-requires : goal.index_mut-requires
index_mut-requires c =
    let t : CondensedTableau = record { columns = c.self.inside.columns; rows = c.self.inside.rows; basis = c.self.inside.basis.items; heads = c.self.inside.heads.items } in
    let r = c.requires in
    let can : CanPivot t c.args.row c.args.column = can_pivot t c.args.self.now c.args.row c.args.column c.self.view_is c.self.invariant r.row r.column r.not_basic r.positive r.fits r.primitive in
    let place_is : c.index-place.result.now ≡ get_or t.heads c.args.column 0 = c.index-place.ensures ∙ get_or_default t.heads c.args.column c.index-place.result.now 0 can.column_within in
    let sound = sound_in t c.args.row c.args.column can in
    let leaving_is : c.index.result.now ≡ get_or t.basis c.args.row 0 = c.index.ensures ∙ get_or_default t.basis c.args.row c.index.result.now 0 can.within in
    omega (arith, leaving_is, sound.basis_within c.args.row can.within, c.self.inside.heads.ok.0)

pub invariant_of-self : goal.invariant_of-self
invariant_of-self c =
    let t : CondensedTableau = record { columns = c.self.inside.columns; rows = c.self.inside.rows; basis = c.self.inside.basis.items; heads = c.self.inside.heads.items } in
    let r = c.requires in
    let can : CanPivot t c.args.row c.args.column = can_pivot t c.args.self.now c.args.row c.args.column c.self.view_is c.self.invariant r.row r.column r.not_basic r.positive r.fits r.primitive in
    let place_is : c.index-place.result.now ≡ get_or t.heads c.args.column 0 = c.index-place.ensures ∙ get_or_default t.heads c.args.column c.index-place.result.now 0 can.column_within in
    let leaving_is : c.index.result.now ≡ get_or t.basis c.args.row 0 = c.index.ensures ∙ get_or_default t.basis c.args.row c.index.result.now 0 can.within in
    let rows_are = pivoted_here t c.args.row c.args.column can c.swap.new.self c.combine_others.new.rows c.swap-2.new.self c.swap-3.new.self c.index-place.result.now c.swap.ensures place_is c.combine_others.ensures c.swap-2.ensures c.swap-3.ensures in
    let same = pivoted_is t c.args.row c.args.column c.swap-3.new.self c.index.result.now c.index-place.result.now rows_are leaving_is place_is in
    subst IsSoundOrEmpty (sym same) (kept_after_pivot t c.args.row c.args.column can)

pub returns : goal.returns
returns c =
    let t : CondensedTableau = record { columns = c.self.inside.columns; rows = c.self.inside.rows; basis = c.self.inside.basis.items; heads = c.self.inside.heads.items } in
    let r = c.requires in
    let can : CanPivot t c.args.row c.args.column = can_pivot t c.args.self.now c.args.row c.args.column c.self.view_is c.self.invariant r.row r.column r.not_basic r.positive r.fits r.primitive in
    let place_is : c.index-place.result.now ≡ get_or t.heads c.args.column 0 = c.index-place.ensures ∙ get_or_default t.heads c.args.column c.index-place.result.now 0 can.column_within in
    let leaving_is : c.index.result.now ≡ get_or t.basis c.args.row 0 = c.index.ensures ∙ get_or_default t.basis c.args.row c.index.result.now 0 can.within in
    let rows_are = pivoted_here t c.args.row c.args.column can c.swap.new.self c.combine_others.new.rows c.swap-2.new.self c.swap-3.new.self c.index-place.result.now c.swap.ensures place_is c.combine_others.ensures c.swap-2.ensures c.swap-3.ensures in
    let same = pivoted_is t c.args.row c.args.column c.swap-3.new.self c.index.result.now c.index-place.result.now rows_are leaving_is place_is in
    same ∙ ap (λ (s : CondensedTableau). condensed_pivot s c.args.row c.args.column) c.self.view_is
