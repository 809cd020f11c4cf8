use Rattle.std.proofs.Common.{◌<◌, unsigned_abs, map, All, ap, ap₂, subst, subst₂, sym, ◌∙◌, arith, SFits, to_z-of_z, rules}
use Rattle.std.specs.Int.{◌∣◌, w128}
use Rattle.row_definitions.specs.Rows.{divided}
use Rattle.row_definitions.proofs.Divisors.{Divides-from_All}
use Rattle.row_definitions.specs.Combination.{FitsEntry}
use Rattle.row_definitions.proofs.Primitives.{FitsEntry-primitive_row}
use Rattle.fraction_rows.specs.BitLengths.{HasBits}
use Rattle.fraction_rows.specs.Divisors.{size_of}
use Rattle.fraction_rows.proofs.Quotients.{All-quotients, primitive-from_quotients, multiple-lowered, lowered, lowered-some, primitive-undivided}
use Rattle.fraction_rows.proofs.division.divide_by_content.Goals as goal

pub returns-in-Ok-clause-value : goal.returns-in-Ok-clause-value
returns-in-Ok-clause-value c =
    primitive-from_quotients c.args.row.now c.loop-divisor.row _ (size_of c.of.result) c.loop-divisor.divisor c.loop-divisor.invariant.same c.loop-divisor.invariant.multiple c.of.ensures
    c.in-Ok.ensures.divides c.in-Ok.ensures.value

pub returns-in-Ok-clause-fits : goal.returns-in-Ok-clause-fits
returns-in-Ok-clause-fits c =
    let value =
    primitive-from_quotients c.args.row.now c.loop-divisor.row _ (size_of c.of.result) c.loop-divisor.divisor c.loop-divisor.invariant.same c.loop-divisor.invariant.multiple c.of.ensures
    c.in-Ok.ensures.divides c.in-Ok.ensures.value in
    subst (All FitsEntry) (sym value) (FitsEntry-primitive_row c.args.row.now c.requires.fits)

pub returns-in-Ok-clause-bits : goal.returns-in-Ok-clause-bits
returns-in-Ok-clause-bits c =
    let old = c.args.row.now in
    let d = c.loop-divisor.divisor in
    let divides = Divides-from_All d old (subst₂ (λ n r. All (λ x. n ∣ unsigned_abs x) r) c.of.ensures c.loop-divisor.invariant.same c.in-Ok.ensures.divides) in
    let value = c.in-Ok.ensures.value ∙ ap₂ (λ n r. map (divided n) r) c.of.ensures c.loop-divisor.invariant.same in
    subst (All (HasBits c.bits_divided.result)) (sym value) (All-quotients d c.args.bits c.bits_divided.result old c.bits_divided.ensures c.requires.bits divides)

pub loop-divisor-smaller : goal.loop-divisor-smaller
loop-divisor-smaller c =
    let x = c.in-Err.entry in
    let x_fits : SFits w128 x = search rules in
    let size = c.unsigned_abs.ensures.value ∙ ap unsigned_abs (to_z-of_z x_fits) in
    lowered x (size_of c.of.result) c.unsigned_abs.result c.loop-divisor.divisor c.common_divisor-divisor.result c.loop-divisor-test.true c.of.ensures c.in-Err.ensures.not_divided size c.common_divisor-divisor.ensures

pub loop-divisor-preserved : goal.loop-divisor-preserved
loop-divisor-preserved c =
    let x = c.in-Err.entry in
    let d = c.loop-divisor.divisor in
    let g = c.common_divisor-divisor.result in
    let x_fits : SFits w128 x = search rules in
    let size = c.unsigned_abs.ensures.value ∙ ap unsigned_abs (to_z-of_z x_fits) in
    let less : g < d = lowered x (size_of c.of.result) c.unsigned_abs.result d g c.loop-divisor-test.true c.of.ensures c.in-Err.ensures.not_divided size c.common_divisor-divisor.ensures in
    record {
      same = c.in-Err.ensures.unchanged ∙ c.loop-divisor.invariant.same;
      multiple = multiple-lowered c.args.row.now c.loop-divisor.row x c.unsigned_abs.result d g c.loop-divisor.invariant.same c.loop-divisor.invariant.multiple c.in-Err.ensures.entry size c.common_divisor-divisor.ensures;
      fits = omega (arith, less, c.loop-divisor.invariant.fits);
      zeros = λ none. absurd (lowered-some c.unsigned_abs.result d g c.loop-divisor-test.true c.common_divisor-divisor.ensures none);
    }

pub returns-clause-value : goal.returns-clause-value
returns-clause-value c =
    primitive-undivided c.args.row.now c.loop-divisor.row c.loop-divisor.divisor c.loop-divisor.invariant.same c.loop-divisor.invariant.multiple c.loop-divisor.invariant.zeros (omega arith)
