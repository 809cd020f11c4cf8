use Rattle.std.proofs.Common.{◌≡◌, ◌∙◌, sym, ap, subst, List, All, SFits, to_z-of_z, rules}
use Rattle.std.specs.Int.{w128}
use Rattle.std.specs.Prelude.{Some}
use lib.IntN.{ℤ}
use Rattle.fraction_rows.specs.BitLengths.{HasBits}
use Rattle.row_pool.specs.Pools.{with_row}
use Rattle.fraction_tableau.specs.Rows.{filled}
use Rattle.fraction_tableau.proofs.PoolRows.{row_in_is}
use Rattle.fraction_tableau.proofs.pooled.fill_row.Goals as goal

pub row_mut-requires-clause-callable : goal.row_mut-requires-clause-callable
row_mut-requires-clause-callable c numbers was first shows =
    shows ∙ row_in_is c.args.pool.now c.args.id.now.number numbers was ∙ c.requires.zeros

pub returns-clause-value : goal.returns-clause-value
returns-clause-value c =
    let a = c.args in
    let fits : SFits w128 a.right = search rules in
    let e = c.row_mut.ensures in
    let r = e.returned in
    let m = r.met in
    let is : e.new ≡ filled a.coefs.now a.right = sym r.leaves ∙ m.0 ∙ ap (filled a.coefs.now) (to_z-of_z fits) in
    e.is ∙ ap (λ (row : List ℤ). with_row a.pool.now a.id.now.number (Some row)) is

pub returns-clause-bits : goal.returns-clause-bits
returns-clause-bits c =
    let fits : SFits w128 c.args.right = search rules in
    let m = c.row_mut.ensures.returned.met in
    subst (All (HasBits c.row_mut.result)) (m.0 ∙ ap (filled c.args.coefs.now) (to_z-of_z fits)) m.1
