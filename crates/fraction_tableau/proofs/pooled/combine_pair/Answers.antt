use Rattle.std.proofs.Common.{◌≡◌, ◌∙◌, sym, ap, ap₂, subst, subst₂, List, All}
use Rattle.std.specs.Prelude.{Some}
use lib.IntN.{ℤ}
use Rattle.row_definitions.specs.Combination.{combined}
use Rattle.fraction_rows.specs.BitLengths.{HasBits}
use Rattle.row_pool.specs.Pools.{with_row}
use Rattle.fraction_tableau.specs.Rows.{row_in, CombinesWithin}
use Rattle.fraction_tableau.proofs.PoolRows.{row_in_is}
use Rattle.fraction_tableau.proofs.pooled.combine_pair.Goals as goal

pub pair_mut-requires-clause-callable : goal.pair_mut-requires-clause-callable
pair_mut-requires-clause-callable c numbers others was other_was first second shows shows_second =
    let a = c.args in
    subst₂ (λ (t p : List ℤ). CombinesWithin t p a.target_bits a.pivot_bits a.place a.bound)
    (sym (shows ∙ row_in_is a.pool.now a.target.now.number numbers was))
    (sym (shows_second ∙ row_in_is a.pool.now a.pivot.now.number others other_was))
    c.requires.combines

pub returns-clause-value : goal.returns-clause-value
returns-clause-value c =
    let a = c.args in
    let e = c.pair_mut.ensures in
    let r = e.returned in
    let m = r.met in
    let is : e.new ≡ combined (row_in a.pool.now a.target.now.number) (row_in a.pool.now a.pivot.now.number) a.place =
    sym r.leaves ∙ m.0 ∙ ap₂ (λ (t p : List ℤ). combined t p a.place) (r.shows ∙ row_in_is a.pool.now a.target.now.number e.old e.was) (r.shows_second ∙ row_in_is a.pool.now a.pivot.now.number e.other e.other_was) in
    e.is ∙ ap (λ (row : List ℤ). with_row a.pool.now a.target.now.number (Some row)) is

pub returns-clause-bits : goal.returns-clause-bits
returns-clause-bits c =
    let a = c.args in
    let e = c.pair_mut.ensures in
    let r = e.returned in
    let m = r.met in
    let is : r.left.now ≡ combined (row_in a.pool.now a.target.now.number) (row_in a.pool.now a.pivot.now.number) a.place =
    m.0 ∙ ap₂ (λ (t p : List ℤ). combined t p a.place) (r.shows ∙ row_in_is a.pool.now a.target.now.number e.old e.was) (r.shows_second ∙ row_in_is a.pool.now a.pivot.now.number e.other e.other_was) in
    subst (All (HasBits c.pair_mut.result)) is m.1
