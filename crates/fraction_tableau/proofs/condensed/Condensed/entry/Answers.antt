use Rattle.std.proofs.Common.{◌≡◌, ◌∙◌, ap, ap₂, sym, subst, SFits, to_z-of_z, rules}
use Rattle.std.specs.Int.{w128}
use Rattle.row_definitions.specs.Rows.{entry}
use Rattle.condensed_laws.specs.Tableaus.{CondensedTableau, IsSound, condensed_row}
use Rattle.fraction_tableau.specs.Condensed.{IsSoundOrEmpty}
use Rattle.fraction_tableau.proofs.LentRows.{entry_is}
use Rattle.fraction_tableau.proofs.condensed.Condensed.entry.Goals as goal

pub returns : goal.returns
returns c =
    let f : SFits w128 c.number_at.result = search rules in
    let kept : IsSoundOrEmpty c.args.self.now = subst IsSoundOrEmpty c.self.view_is c.self.invariant in
    to_z-of_z f ∙ c.number_at.ensures
    ∙ ap₂ entry (c.row.ensures ∙ ap (λ (t : CondensedTableau). condensed_row t c.args.row) c.self.view_is) c.place.ensures
    ∙ sym (entry_is c.args.self.now c.args.row c.args.column (kept.sound c.requires.some) c.requires.row c.requires.column)
