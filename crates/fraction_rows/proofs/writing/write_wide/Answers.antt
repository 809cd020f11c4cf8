use Rattle.std.proofs.Common.{◌≡◌, ◌<◌, ◌-ℤ◌, ◌*ℤ◌, length, unsigned_abs, SFits, ap, ◌∙◌, to_z-of_z, rules, arith}
use Rattle.std.specs.Int.{w128}
use Rattle.row_definitions.specs.Rows.{entry}
use Rattle.fraction_rows.proofs.WrittenCombination.{next-entry, next-written, next-together, all-written, all-together}
use Rattle.fraction_rows.proofs.writing.write_wide.Goals as goal

pub fitting_entry-entry-requires : goal.fitting_entry-entry-requires
fitting_entry-entry-requires c =
    let target = c.args.target.now in
    let pivot = c.args.pivot.now in
    let i = c.loop-column.column in
    let in_pivot : i < length pivot = omega arith in
    let a : SFits w128 c.args.factors.target = search rules in
    let b : SFits w128 c.args.factors.pivot = search rules in
    let t : SFits w128 (entry c.loop-column.target i) = search rules in
    let p : SFits w128 (entry pivot i) = search rules in
    let read = next-entry c.args.factors.target c.args.factors.pivot target pivot c.loop-column.target i c.requires.lengths c.loop-column.invariant.so_far c.loop-column-test.true in
    simp to_z-of_z (simp read (c.requires.fits i c.loop-column-test.true))

pub loop-column-preserved : goal.loop-column-preserved
loop-column-preserved c =
    let target = c.args.target.now in
    let pivot = c.args.pivot.now in
    let i = c.loop-column.column in
    let y = c.fitting_entry-entry.result in
    let in_pivot : i < length pivot = omega arith in
    let a : SFits w128 c.args.factors.target = search rules in
    let b : SFits w128 c.args.factors.pivot = search rules in
    let t : SFits w128 (entry c.loop-column.target i) = search rules in
    let p : SFits w128 (entry pivot i) = search rules in
    let y_fits : SFits w128 y = search rules in
    let read = next-entry c.args.factors.target c.args.factors.pivot target pivot c.loop-column.target i c.requires.lengths c.loop-column.invariant.so_far c.loop-column-test.true in
    let is : y ≡ c.args.factors.target *ℤ entry target i -ℤ c.args.factors.pivot *ℤ entry pivot i = simp read at (simp to_z-of_z at c.fitting_entry-entry.ensures) in
    record {
      so_far = next-written c.args.factors.target c.args.factors.pivot target pivot c.loop-column.target i c.requires.lengths c.loop-column.invariant.so_far c.loop-column-test.true _ (to_z-of_z y_fits ∙ is);
      sizes = next-together c.args.factors.target c.args.factors.pivot target pivot c.loop-column.target i c.requires.lengths c.loop-column.invariant.so_far c.loop-column-test.true y is c.loop-column.sizes c.unsigned_abs-sizes.result
          (c.unsigned_abs-sizes.ensures.value ∙ ap unsigned_abs (to_z-of_z y_fits)) c.loop-column.invariant.sizes;
    }

pub returns-clause-value : goal.returns-clause-value
returns-clause-value c =
    all-written c.args.factors.target c.args.factors.pivot c.args.target.now c.args.pivot.now c.loop-column.target c.loop-column.column c.requires.lengths c.loop-column.invariant.so_far c.loop-column-test.false

pub returns-clause-bits : goal.returns-clause-bits
returns-clause-bits c =
    all-together c.args.factors.target c.args.factors.pivot c.args.target.now c.args.pivot.now c.loop-column.target c.loop-column.column c.requires.lengths c.loop-column.invariant.so_far c.loop-column-test.false c.loop-column.sizes c.bits_of.result
    c.loop-column.invariant.sizes c.bits_of.ensures.enough
