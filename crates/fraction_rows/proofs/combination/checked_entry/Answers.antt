use Rattle.std.proofs.Common.{SFits, to_z-of_z, rules}
use Rattle.std.specs.Int.{w128}
use Rattle.fraction_rows.proofs.Columns.{entry_from_products}
use Rattle.fraction_rows.proofs.combination.checked_entry.Goals as goal

pub returns : goal.returns
returns c =
    let a : SFits w128 c.args.factors.target = search rules in
    let b : SFits w128 c.args.factors.pivot = search rules in
    let t = c.ranges.target in
    let p = c.ranges.pivot in
    let u : SFits w128 c.in_ok-target_product.target_product = search rules in
    let v : SFits w128 c.in_ok-pivot_product.pivot_product = search rules in
    let first = simp to_z-of_z at (c.in_ok-target_product.ensures) in
    let second = simp to_z-of_z at (c.in_ok-pivot_product.ensures) in
    let last = simp to_z-of_z at c.difference.ensures in
    entry_from_products _ _ _ _ _ _ _ first.0 first.1 second.0 second.1 last
