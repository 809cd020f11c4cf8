use Rattle.std.proofs.Common.{◌≡◌, ℕ, ◌+◌, ◌*◌, ◌≤◌, Bool, false, ◌||◌, nat_lt, length, sym, ap, ap₂, ◌∙◌, arith, add-one, mul-le-mul_right}
use Rattle.coherence_lp.specs.Comparisons.{any_below, row_dominates, table_row}
use Rattle.coherence_lp.proofs.Below.{any_passes}
use Rattle.coherence_lp.proofs.Tables.{length-table_row}
use Rattle.coherence_lp.proofs.gains.is_dominated.Goals as goal

fits : (k count width total : ℕ) → k + 1 ≤ count → count * width ≤ total → k * width + width ≤ total
fits k count width total h all = (let x : (k + 1) * width ≤ count * width = mul-le-mul_right width h in omega (arith, x, all))

one_more : (test : ℕ → Bool) (k : ℕ) → any_below test k ≡ false → test k ≡ false → any_below test (k + 1) ≡ false
one_more test k none here = ap (any_below test) (add-one k) ∙ ap₂ (λ a b. a || b) none here

pub returns-then-dominates : goal.returns-then-dominates
returns-then-dominates c =
    let table = c.args.table.now in
    let width = c.args.width in
    let i = c.args.i in
    let k = c.loop-k.k in
    let own = c.row_of-own.ensures in
    let here = c.row_of.ensures in
    let long = ap length own ∙ length-table_row table width i (fits i c.args.count width (length table) (omega arith) c.requires.table) in
    let same = ap₂ (λ x y. row_dominates x y width (nat_lt k i)) here own in
    let found = c.dominates.ensures ∙ ap (λ n. row_dominates c.row_of.result.now c.row_of-own.result.now n (nat_lt k i)) long ∙ same in
    sym (any_passes (λ m. row_dominates (table_row table width m) (table_row table width i) width (nat_lt m i)) c.args.count k c.loop-k-test.true (sym found ∙ c.if-dominates.true))

pub loop-k-preserved : goal.loop-k-preserved
loop-k-preserved c =
    let table = c.args.table.now in
    let width = c.args.width in
    let i = c.args.i in
    let k = c.loop-k.k in
    let own = c.row_of-own.ensures in
    let here = c.row_of.ensures in
    let long = ap length own ∙ length-table_row table width i (fits i c.args.count width (length table) (omega arith) c.requires.table) in
    let same = ap₂ (λ x y. row_dominates x y width (nat_lt k i)) here own in
    let found = c.dominates.ensures ∙ ap (λ n. row_dominates c.row_of.result.now c.row_of-own.result.now n (nat_lt k i)) long ∙ same in
    one_more (λ m. row_dominates (table_row table width m) (table_row table width i) width (nat_lt m i)) k c.loop-k.invariant (sym found ∙ c.if-dominates.false)
