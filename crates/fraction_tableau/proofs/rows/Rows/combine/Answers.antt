use Rattle.std.proofs.Common.{ap₂, sym, subst₂, List, [], get_or}
use lib.IntN.{ℤ}
use Rattle.row_definitions.specs.Combination.{combined}
use Rattle.fraction_tableau.specs.Rows.{row_in, IsBoundOf, CombinesWithin}
use Rattle.fraction_tableau.proofs.PoolRows.{is_row_of, bits_of_row, view_written, rows_written}
use Rattle.fraction_tableau.proofs.rows.Rows.combine.Goals as goal

pub combine_pair-requires-clause-combines : goal.combine_pair-requires-clause-combines
combine_pair-requires-clause-combines c =
    let i = c.self.inside in
    let a = c.args in
    let target = is_row_of i.pool i.ids.items i.bits.items a.self.now a.target c.index.result.now c.self.invariant c.self.view_is c.requires.target c.index.ensures in
    let pivot = is_row_of i.pool i.ids.items i.bits.items a.self.now a.pivot c.index-3.result.now c.self.invariant c.self.view_is c.requires.pivot c.index-3.ensures in
    subst₂ (λ (x y : List ℤ). CombinesWithin x y c.index-2.result.now c.index-4.result.now a.place c.in-Some.bound) (sym target.row_is) (sym pivot.row_is) (record {
      combinable = c.requires.combinable.rows;
      passes_nowhere = c.requires.passes_nowhere;
      target_enough = bits_of_row i.pool i.ids.items i.bits.items a.self.now a.target c.index-2.result.now c.self.invariant c.self.view_is c.requires.target c.index-2.ensures;
      pivot_enough = bits_of_row i.pool i.ids.items i.bits.items a.self.now a.pivot c.index-4.result.now c.self.invariant c.self.view_is c.requires.pivot c.index-4.ensures;
      bounded = subst₂ (λ (x y : List ℤ). IsBoundOf x y a.place c.in-Some.bound) c.row.ensures c.row-2.ensures c.in-Some.ensures.bound;
    })

pub invariant_of-self : goal.invariant_of-self
invariant_of-self c =
    let i = c.self.inside in
    let a = c.args in
    let target = is_row_of i.pool i.ids.items i.bits.items a.self.now a.target c.index.result.now c.self.invariant c.self.view_is c.requires.target c.index.ensures in
    rows_written i.pool c.combine_pair.new.pool i.ids.items i.bits.items a.self.now a.target c.combine_pair.result c.index.result.now
    (combined (row_in i.pool c.index.result.now.number) (row_in i.pool c.index-3.result.now.number) a.place) c.self.invariant target c.combine_pair.ensures.value c.combine_pair.ensures.bits

pub returns : goal.returns
returns c =
    let i = c.self.inside in
    let a = c.args in
    let target = is_row_of i.pool i.ids.items i.bits.items a.self.now a.target c.index.result.now c.self.invariant c.self.view_is c.requires.target c.index.ensures in
    let pivot = is_row_of i.pool i.ids.items i.bits.items a.self.now a.pivot c.index-3.result.now c.self.invariant c.self.view_is c.requires.pivot c.index-3.ensures in
    view_written i.pool c.combine_pair.new.pool a.self.now a.target c.index.result.now
    (combined (row_in i.pool c.index.result.now.number) (row_in i.pool c.index-3.result.now.number) a.place) (combined (get_or a.self.now a.target []) (get_or a.self.now a.pivot []) a.place)
    target c.self.view_is c.combine_pair.ensures.value (ap₂ (λ (x y : List ℤ). combined x y a.place) target.row_is pivot.row_is)
