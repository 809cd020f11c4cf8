use Rattle.std.proofs.Common.{ap, List, [], get_or}
use lib.IntN.{ℤ}
use Rattle.fraction_tableau.specs.Rows.{row_in, exchanged}
use Rattle.fraction_tableau.proofs.PoolRows.{is_row_of, view_written}
use Rattle.fraction_tableau.proofs.rows.Rows.swap.Goals as goal

pub returns : goal.returns
returns c =
    let i = c.self.inside in
    let a = c.args in
    let id = c.index.result.now in
    let row = is_row_of i.pool i.ids.items i.bits.items a.self.now a.row id c.self.invariant c.self.view_is c.requires.row c.index.ensures in
    view_written i.pool c.swap_numbers.new.pool a.self.now a.row id (exchanged (row_in i.pool id.number) a.one a.other) (exchanged (get_or a.self.now a.row []) a.one a.other) row c.self.view_is c.swap_numbers.ensures (ap (λ (xs : List ℤ). exchanged xs a.one a.other) row.row_is)
