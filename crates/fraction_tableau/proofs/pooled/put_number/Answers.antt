use Rattle.std.proofs.Common.{◌≡◌, ◌∙◌, ◌<◌, sym, ap, subst, List, length, set, SFits, to_z-of_z, rules}
use Rattle.std.specs.Int.{w128}
use Rattle.std.specs.Prelude.{Some}
use lib.IntN.{ℤ}
use Rattle.row_pool.specs.Pools.{with_row}
use Rattle.fraction_tableau.specs.Rows.{row_in}
use Rattle.fraction_tableau.proofs.PoolRows.{row_in_is}
use Rattle.fraction_tableau.proofs.pooled.put_number.Goals as goal

pub row_mut-requires-clause-callable : goal.row_mut-requires-clause-callable
row_mut-requires-clause-callable c numbers was first shows =
    subst (λ (row : List ℤ). c.args.place < length row) (sym (shows ∙ row_in_is c.args.pool.now c.args.id.now.number numbers was)) c.requires.place

pub returns : goal.returns
returns c =
    let a = c.args in
    let fits : SFits w128 a.number = search rules in
    let e = c.row_mut.ensures in
    let r = e.returned in
    let m = r.met in
    let is : e.new ≡ set (row_in a.pool.now a.id.now.number) a.place a.number =
    sym r.leaves ∙ m ∙ ap (λ z. set r.shown.now a.place z) (to_z-of_z fits) ∙ ap (λ (row : List ℤ). set row a.place a.number) (r.shows ∙ row_in_is a.pool.now a.id.now.number e.old e.was) in
    e.is ∙ ap (λ (row : List ℤ). with_row a.pool.now a.id.now.number (Some row)) is
