use Rattle.std.proofs.Common.{◌*ℤ◌, pos, map, set, ap, subst, ◌∙◌, sym, SFits, to_z, of_z, to_z-of_z, rules}
use Rattle.std.specs.Int.{w128}
use Rattle.std.proofs.lemmas.Int.{fits_signed_from_abs}
use Rattle.std.proofs.lemmas.List.{length-map, get_or-map}
use Rattle.row_definitions.specs.Rows.{entry}
use Rattle.fraction_rows.proofs.Written.{set-written, entry-written}
use Rattle.fraction_rows.proofs.division.multiply.Goals as goal

pub loop-x-preserved : goal.loop-x-preserved
loop-x-preserved c =
    let i = c.loop-x.x-index in
    let old = c.args.row.now in
    let factor = to_z w128 (of_z w128 c.args.factor) in
    let new = map (λ x. x *ℤ factor) old in
    let n = length-map old (λ x. x *ℤ factor) in
    let x_fits : SFits w128 (entry c.loop-x.row i) = search rules in
    let read = to_z-of_z x_fits ∙ ap (λ row. entry row i) c.loop-x.invariant ∙ entry-written new old i n c.loop-x-test.true in
    let y_fits : SFits w128 (entry old i *ℤ factor) = subst (λ z. SFits w128 (entry old i *ℤ z)) (sym (to_z-of_z c.ranges.factor)) (fits_signed_from_abs w128 (entry old i *ℤ c.args.factor) (c.requires i (pos 0) c.loop-x-test.true)) in
    let y_is = ap (λ x. to_z w128 (of_z w128 (x *ℤ factor))) read ∙ to_z-of_z y_fits ∙ sym (get_or-map (λ x. x *ℤ factor) old i (pos 0) (pos 0) c.loop-x-test.true) in
    ap (λ row. set row i (to_z w128 (of_z w128 (to_z w128 (of_z w128 (entry c.loop-x.row i)) *ℤ factor)))) c.loop-x.invariant ∙ set-written new old i _ n c.loop-x-test.true y_is
