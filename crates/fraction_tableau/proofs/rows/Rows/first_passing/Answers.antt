use Rattle.std.proofs.Common.{sym, subst, All}
use Rattle.fraction_rows.specs.BitLengths.{HasBits}
use Rattle.fraction_tableau.proofs.PoolRows.{bits_of_row}
use Rattle.fraction_tableau.proofs.rows.Rows.first_passing.Goals as goal

pub first_passing_place-requires-clause-target_bits : goal.first_passing_place-requires-clause-target_bits
first_passing_place-requires-clause-target_bits c =
    let i = c.self.inside in
    subst (All (HasBits c.index.result.now)) (sym c.row.ensures) (bits_of_row i.pool i.ids.items i.bits.items c.args.self.now c.args.target c.index.result.now c.self.invariant c.self.view_is c.requires.target c.index.ensures)

pub first_passing_place-requires-clause-pivot_bits : goal.first_passing_place-requires-clause-pivot_bits
first_passing_place-requires-clause-pivot_bits c =
    let i = c.self.inside in
    subst (All (HasBits c.index-2.result.now)) (sym c.row-2.ensures) (bits_of_row i.pool i.ids.items i.bits.items c.args.self.now c.args.pivot c.index-2.result.now c.self.invariant c.self.view_is c.requires.pivot c.index-2.ensures)
