use Rattle.std.proofs.Common.{◌≡◌, ◌<◌, ◌≤◌, ◌^◌, ℤ, ◌*ℤ◌, ◌-ℤ◌, unsigned_abs, SFits, to_z-of_z, lt_of_lt_of_le, lit<, rules, arith}
use Rattle.std.specs.Int.{w64, w128}
use Rattle.std.proofs.lemmas.Int.{fits_signed_from_abs}
use Rattle.fraction_rows.specs.BitLengths.{IsShortBy}
use Rattle.fraction_rows.proofs.ShortProducts.{difference-le}
use Rattle.fraction_rows.proofs.writing.narrow_entry.Goals as goal

-- what fits 62 bits fits 64, and so does a difference
fits_narrow : (x : ℤ) → unsigned_abs x < 2 ^ 62 → SFits w64 x
fits_narrow x few = fits_signed_from_abs w64 x (omega arith)

difference_fits : (x y : ℤ) → unsigned_abs x < 2 ^ 62 → unsigned_abs y < 2 ^ 62 → SFits w64 (x -ℤ y)
difference_fits x y first second = let sum = difference-le x y in fits_signed_from_abs w64 (x -ℤ y) (omega arith)

pub overflow_sub-result : goal.overflow_sub-result
overflow_sub-result c =
    let a : SFits w64 c.args.factors.target = search rules in
    let b : SFits w64 c.args.factors.pivot = search rules in
    let t_wide = c.ranges.target in
    let p_wide = c.ranges.pivot in
    let t = fits_narrow c.args.target c.requires.target.number in
    let p = fits_narrow c.args.pivot c.requires.pivot.number in
    let u = fits_narrow (c.args.factors.target *ℤ c.args.target) c.requires.target.product in
    let v = fits_narrow (c.args.factors.pivot *ℤ c.args.pivot) c.requires.pivot.product in
    let w = difference_fits (c.args.factors.target *ℤ c.args.target) (c.args.factors.pivot *ℤ c.args.pivot) c.requires.target.product c.requires.pivot.product in
    simp to_z-of_z w

pub returns : goal.returns
returns c =
    let a : SFits w64 c.args.factors.target = search rules in
    let b : SFits w64 c.args.factors.pivot = search rules in
    let t_wide = c.ranges.target in
    let p_wide = c.ranges.pivot in
    let t = fits_narrow c.args.target c.requires.target.number in
    let p = fits_narrow c.args.pivot c.requires.pivot.number in
    let u = fits_narrow (c.args.factors.target *ℤ c.args.target) c.requires.target.product in
    let v = fits_narrow (c.args.factors.pivot *ℤ c.args.pivot) c.requires.pivot.product in
    let w = difference_fits (c.args.factors.target *ℤ c.args.target) (c.args.factors.pivot *ℤ c.args.pivot) c.requires.target.product c.requires.pivot.product in
    simp to_z-of_z
