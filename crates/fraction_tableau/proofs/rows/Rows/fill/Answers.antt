use Rattle.std.proofs.Common.{SFits, to_z-of_z, ap, rules}
use Rattle.std.specs.Int.{w128}
use Rattle.fraction_tableau.specs.Rows.{filled}
use Rattle.fraction_tableau.proofs.PoolRows.{is_row_of, view_written}
use Rattle.fraction_tableau.proofs.rows.Rows.fill.Goals as goal

pub returns : goal.returns
returns c =
    let i = c.self.inside in
    let a = c.args in
    let row = is_row_of i.pool i.ids.items i.bits.items a.self.now a.row c.index.result.now c.self.invariant c.self.view_is c.requires.within c.index.ensures in
    let fits : SFits w128 a.right = search rules in
    view_written i.pool c.fill_row.new.pool a.self.now a.row c.index.result.now _ (filled a.coefs.now a.right) row c.self.view_is c.fill_row.ensures.value (ap (filled a.coefs.now) (to_z-of_z fits))
