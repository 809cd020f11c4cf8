use Rattle.std.proofs.Common.{◌∙◌, ap, ap₂, sym, subst, List, [], ◌∷◌, get_or, set, All, SFits, to_z-of_z, rules}
use Rattle.std.specs.Prelude.{Some}
use Rattle.std.specs.Int.{w128}
use Rattle.row_pool.specs.Pools.{with_row}
use lib.IntN.{ℤ}
use Rattle.fraction_rows.specs.BitLengths.{HasBits}
use Rattle.fraction_tableau.specs.Rows.{row_in}
use Rattle.fraction_tableau.proofs.PoolRows.{is_row_of, bits_of_row, view_written, rows_written, put_has}
use Rattle.fraction_tableau.proofs.rows.Rows.put.Goals as goal

pub invariant_of-self : goal.invariant_of-self
invariant_of-self c =
    let i = c.self.inside in
    let a = c.args in
    let row = is_row_of i.pool i.ids.items i.bits.items a.self.now a.row c.index-2.result.now c.self.invariant c.self.view_is c.requires.row c.index-2.ensures in
    let old : List ℤ = row_in i.pool c.index-2.result.now.number in
    let fits : SFits w128 a.number = search rules in
    let has = bits_of_row i.pool i.ids.items i.bits.items a.self.now a.row c.index.result.now c.self.invariant c.self.view_is c.requires.row c.index.ensures in
    rows_written i.pool c.put_number.new.pool i.ids.items i.bits.items a.self.now a.row c.most.result c.index-2.result.now (set old a.place a.number) c.self.invariant row (c.put_number.ensures ∙ ap (λ z. with_row i.pool c.index-2.result.now.number (Some (set old a.place z))) (to_z-of_z fits))
    (put_has old a.place c.index.result.now c.bit_length.result c.most.result a.number (subst (All (HasBits c.index.result.now)) (sym row.row_is) has) (subst (λ z. All (HasBits c.bit_length.result) (z ∷ [])) (to_z-of_z fits) c.bit_length.ensures.enough) c.most.ensures.one c.most.ensures.other)

pub returns : goal.returns
returns c =
    let i = c.self.inside in
    let a = c.args in
    let id = c.index-2.result.now in
    let row = is_row_of i.pool i.ids.items i.bits.items a.self.now a.row id c.self.invariant c.self.view_is c.requires.row c.index-2.ensures in
    let fits : SFits w128 a.number = search rules in
    view_written i.pool c.put_number.new.pool a.self.now a.row id _ (set (get_or a.self.now a.row []) a.place a.number) row c.self.view_is c.put_number.ensures (ap₂ (λ (xs : List ℤ) z. set xs a.place z) row.row_is (to_z-of_z fits))
