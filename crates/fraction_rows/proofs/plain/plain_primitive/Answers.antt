use Rattle.std.proofs.Common.{◌≡◌, map, unsigned_abs, set, All, ap, subst, sym, ◌∙◌, SFits, to_z, of_z, to_z-of_z, rules, arith}
use Rattle.std.specs.Int.{w128}
use Rattle.std.proofs.lemmas.List.{length-map}
use Rattle.row_definitions.specs.Rows.{entry, divided, row_divisor}
use Rattle.row_definitions.specs.Combination.{FitsEntry}
use Rattle.row_definitions.proofs.Primitives.{primitive_row-undivided, FitsEntry-primitive_row}
use Rattle.row_definitions.proofs.Combinations.{entry-divided}
use Rattle.fraction_rows.proofs.Written.{set-written, entry-written, written-all}
use Rattle.fraction_rows.proofs.plain.plain_primitive.Goals as goal

pub returns-then-divisor-eq0-clause-value : goal.returns-then-divisor-eq0-clause-value
returns-then-divisor-eq0-clause-value c =
    let none : row_divisor c.args.row.now ≡ 0 = ap (of_z w128) (sym c.plain_divisor-divisor.ensures) ∙ c.if-divisor-eq0.true in
    sym (primitive_row-undivided c.args.row.now (omega arith))

pub loop-x-preserved : goal.loop-x-preserved
loop-x-preserved c =
    let i = c.loop-x.x-index in
    let old = c.args.row.now in
    let d = row_divisor old in
    let new = map (divided d) old in
    let same_length = length-map old (divided d) in
    let x_fits : SFits w128 (entry c.loop-x.row i) = search rules in
    let y_fits : SFits w128 c.quotient.result = search rules in
    let d_fits : SFits w128 c.plain_divisor-divisor.result = search rules in
    let x_is = to_z-of_z x_fits ∙ ap (λ row. entry row i) c.loop-x.invariant ∙ entry-written new old i same_length c.loop-x-test.true in
    let d_is = ap unsigned_abs (to_z-of_z d_fits ∙ c.plain_divisor-divisor.ensures) in
    let y_is = to_z-of_z y_fits ∙ c.quotient.ensures ∙ ap (λ n. divided n (to_z w128 (of_z w128 (entry c.loop-x.row i)))) d_is ∙ ap (divided d) x_is ∙ sym (entry-divided d old i) in
    ap (λ row. set row i (to_z w128 (of_z w128 c.quotient.result))) c.loop-x.invariant
    ∙ set-written new old i _ same_length c.loop-x-test.true y_is

pub returns-clause-value : goal.returns-clause-value
returns-clause-value c =
    let old = c.args.row.now in
    c.loop-x.invariant ∙ written-all (map (divided (row_divisor old)) old) old c.loop-x.x-index (length-map old (divided (row_divisor old))) c.loop-x-test.false

pub returns-clause-fits : goal.returns-clause-fits
returns-clause-fits c =
    let old = c.args.row.now in
    let value = c.loop-x.invariant ∙ written-all (map (divided (row_divisor old)) old) old c.loop-x.x-index (length-map old (divided (row_divisor old))) c.loop-x-test.false in
    subst (All FitsEntry) (sym value) (FitsEntry-primitive_row old c.requires)
