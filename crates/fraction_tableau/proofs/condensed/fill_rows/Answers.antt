use Rattle.std.proofs.Common.{◌≡◌, ◌∙◌, ℕ, ◌+◌, ◌<◌, ◌≤◌, List, [], ◌∷◌, ◌++◌, length, get_or, ℤ, pos, sym, ap, ap₂, subst, arith, rules, SFits, to_z-of_z}
use Rattle.std.specs.Int.{w128}
use Rattle.std.proofs.lemmas.List.{length-replicate}
use Rattle.row_pool.specs.Pools.{zeros}
use Rattle.pivot_definitions.proofs.Built.{length-coefficients}
use Rattle.condensed_laws.specs.Tableaus.{condensed_built_row}
use Rattle.fraction_tableau.proofs.FilledRows.{filled, next_row, fill_step, filled_with_objective, length-filled, cut_is}
use Rattle.fraction_tableau.proofs.condensed.fill_rows.Goals as goal

pub fill-requires-clause-within : goal.fill-requires-clause-within
fill-requires-clause-within c =
    let program = c.args.program.now in
    let f : ℕ → List ℤ = condensed_built_row program in
    let none : List ℤ = zeros (program.columns + 3) in
    let n : ℕ = program.rows + 1 in
    let k = c.loop-row.row in
    let count_is : c.rows-count.result ≡ program.rows = c.rows-count.ensures.value in
    let below : k < n = omega (arith, count_is, c.loop-row-test.true) in
    omega (arith, length-filled f none n k c.loop-row.rows c.loop-row.invariant (omega (arith, below)), below)

pub fill-requires-clause-zeros : goal.fill-requires-clause-zeros
fill-requires-clause-zeros c =
    let program = c.args.program.now in
    let f : ℕ → List ℤ = condensed_built_row program in
    let none : List ℤ = zeros (program.columns + 3) in
    let n : ℕ = program.rows + 1 in
    let k = c.loop-row.row in
    let count_is : c.rows-count.result ≡ program.rows = c.rows-count.ensures.value in
    let below : k < n = omega (arith, count_is, c.loop-row-test.true) in
    let cut = cut_is program c.columns-columns.result k c.coefs.result.now c.columns-columns.ensures.value c.coefs.ensures in
    let within : k < program.rows = omega (arith, count_is, c.loop-row-test.true) in
    next_row f none n k c.loop-row.rows c.loop-row.invariant below
    ∙ ap (λ m. zeros (m + 3)) (sym (ap length cut ∙ length-coefficients program c.columns-columns.ensures.limits.program_holds k within))

pub loop-row-preserved : goal.loop-row-preserved
loop-row-preserved c =
    let program = c.args.program.now in
    let f : ℕ → List ℤ = condensed_built_row program in
    let none : List ℤ = zeros (program.columns + 3) in
    let n : ℕ = program.rows + 1 in
    let k = c.loop-row.row in
    let count_is : c.rows-count.result ≡ program.rows = c.rows-count.ensures.value in
    let below : k < n = omega (arith, count_is, c.loop-row-test.true) in
    let cut = cut_is program c.columns-columns.result k c.coefs.result.now c.columns-columns.ensures.value c.coefs.ensures in
    let fits : SFits w128 (get_or c.right.result.now k (pos 0)) = search rules in
    fill_step f none _ n k c.loop-row.rows c.fill.new.self c.loop-row.invariant below (ap₂ (λ xs x. xs ++ x ∷ pos 1 ∷ pos 0 ∷ []) cut (to_z-of_z fits ∙ ap (λ xs. get_or xs k (pos 0)) c.right.ensures)) c.fill.ensures

pub put-requires-clause-row : goal.put-requires-clause-row
put-requires-clause-row c =
    let program = c.args.program.now in
    let f : ℕ → List ℤ = condensed_built_row program in
    let none : List ℤ = zeros (program.columns + 3) in
    let n : ℕ = program.rows + 1 in
    let k = c.loop-row.row in
    let count_is : c.rows-count.result ≡ program.rows = c.rows-count.ensures.value in
    let last : k ≡ c.rows-count.result = omega (arith, c.loop-row-test.false, c.loop-row.auto.row-end) in
    let here : c.loop-row.rows ≡ filled f none n c.rows-count.result = subst (λ (m : ℕ). c.loop-row.rows ≡ filled f none n m) last c.loop-row.invariant in
    let below : c.rows-count.result < n = omega (arith, count_is) in
    omega (arith, length-filled f none n c.rows-count.result c.loop-row.rows here (omega (arith, below)), below)

pub put-requires-clause-place : goal.put-requires-clause-place
put-requires-clause-place c =
    let program = c.args.program.now in
    let f : ℕ → List ℤ = condensed_built_row program in
    let none : List ℤ = zeros (program.columns + 3) in
    let n : ℕ = program.rows + 1 in
    let k = c.loop-row.row in
    let count_is : c.rows-count.result ≡ program.rows = c.rows-count.ensures.value in
    let last : k ≡ c.rows-count.result = omega (arith, c.loop-row-test.false, c.loop-row.auto.row-end) in
    let here : c.loop-row.rows ≡ filled f none n c.rows-count.result = subst (λ (m : ℕ). c.loop-row.rows ≡ filled f none n m) last c.loop-row.invariant in
    let below : c.rows-count.result < n = omega (arith, count_is) in
    let wide : length (get_or c.loop-row.rows c.rows-count.result []) ≡ program.columns + 3 = ap length (next_row f none n c.rows-count.result c.loop-row.rows here below) ∙ length-replicate (program.columns + 3) (pos 0) in
    omega (arith, wide)

pub returns : goal.returns
returns c =
    let program = c.args.program.now in
    let f : ℕ → List ℤ = condensed_built_row program in
    let none : List ℤ = zeros (program.columns + 3) in
    let n : ℕ = program.rows + 1 in
    let k = c.loop-row.row in
    let count_is : c.rows-count.result ≡ program.rows = c.rows-count.ensures.value in
    let last : k ≡ c.rows-count.result = omega (arith, c.loop-row-test.false, c.loop-row.auto.row-end) in
    let here : c.loop-row.rows ≡ filled f none n c.rows-count.result = subst (λ (m : ℕ). c.loop-row.rows ≡ filled f none n m) last c.loop-row.invariant in
    let below : c.rows-count.result < n = omega (arith, count_is) in
    filled_with_objective program c.rows-count.result c.loop-row.rows c.put.new.self count_is here c.put.ensures
