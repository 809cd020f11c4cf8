use Rattle.std.proofs.Common.{◌*ℤ◌, ◌-ℤ◌, SFits, to_z-of_z, rules}
use Rattle.std.specs.Int.{w128}
use Rattle.std.proofs.lemmas.Int.{fits_signed_from_abs}
use Rattle.fraction_rows.proofs.writing.fitting_entry.Goals as goal

pub overflow_sub-result : goal.overflow_sub-result
overflow_sub-result c =
    let a : SFits w128 c.args.factors.target = search rules in
    let b : SFits w128 c.args.factors.pivot = search rules in
    let t = c.ranges.target in
    let p = c.ranges.pivot in
    let u = fits_signed_from_abs w128 (c.args.factors.target *ℤ c.args.target) c.requires.target_product in
    let v = fits_signed_from_abs w128 (c.args.factors.pivot *ℤ c.args.pivot) c.requires.pivot_product in
    let w = fits_signed_from_abs w128 (c.args.factors.target *ℤ c.args.target -ℤ c.args.factors.pivot *ℤ c.args.pivot) c.requires.difference in
    simp to_z-of_z w

pub returns : goal.returns
returns c =
    let a : SFits w128 c.args.factors.target = search rules in
    let b : SFits w128 c.args.factors.pivot = search rules in
    let t = c.ranges.target in
    let p = c.ranges.pivot in
    let u = fits_signed_from_abs w128 (c.args.factors.target *ℤ c.args.target) c.requires.target_product in
    let v = fits_signed_from_abs w128 (c.args.factors.pivot *ℤ c.args.pivot) c.requires.pivot_product in
    let w = fits_signed_from_abs w128 (c.args.factors.target *ℤ c.args.target -ℤ c.args.factors.pivot *ℤ c.args.pivot) c.requires.difference in
    simp to_z-of_z
