use Rattle.std.proofs.Common.{◌≡◌, ◌∙◌, ◌<◌, sym, ap, subst, List, length}
use Rattle.std.specs.Prelude.{Some}
use lib.IntN.{ℤ}
use Rattle.row_pool.specs.Pools.{with_row}
use Rattle.fraction_tableau.specs.Rows.{row_in, exchanged}
use Rattle.fraction_tableau.proofs.PoolRows.{row_in_is}
use Rattle.fraction_tableau.proofs.pooled.swap_numbers.Goals as goal

pub row_mut-requires-clause-callable : goal.row_mut-requires-clause-callable
row_mut-requires-clause-callable c numbers was first shows =
    let is = sym (shows ∙ row_in_is c.args.pool.now c.args.id.now.number numbers was) in
    (subst (λ (row : List ℤ). c.args.one < length row) is c.requires.one, subst (λ (row : List ℤ). c.args.other < length row) is c.requires.other)

pub returns : goal.returns
returns c =
    let a = c.args in
    let e = c.row_mut.ensures in
    let r = e.returned in
    let m = r.met in
    let is : e.new ≡ exchanged (row_in a.pool.now a.id.now.number) a.one a.other =
    sym r.leaves ∙ m ∙ ap (λ (row : List ℤ). exchanged row a.one a.other) (r.shows ∙ row_in_is a.pool.now a.id.now.number e.old e.was) in
    e.is ∙ ap (λ (row : List ℤ). with_row a.pool.now a.id.now.number (Some row)) is
