use Rattle.std.proofs.Common.{ℕ, ◌/◌, ◌<◌, sym, subst}
use Rattle.std.proofs.Math.Nat.{pos_of_dvd_of_pos}
use Rattle.coherence_lp.specs.Ratios.{fraction_of, by_divisor, IsLowestForm}
use Rattle.coherence_lp.proofs.Multiples.{lowest_by_number, one_denominator}
use Rattle.coherence_lp.proofs.ratios.ratio_by.Goals as goal

pub nonzero_div-divisor : goal.nonzero_div-divisor
nonzero_div-divisor c = pos_of_dvd_of_pos c.common_divisor-common.ensures.1 c.requires.divisor

pub nonzero_div-result : goal.nonzero_div-result
nonzero_div-result c = pos_of_dvd_of_pos c.common_divisor-common.ensures.1 c.requires.divisor

pub returns-in_default-clause-none : goal.returns-in_default-clause-none
returns-in_default-clause-none c lowest other =
    let value = c.lowest_ratio-value.result in
    let g = c.common_divisor-common.result in
    let is = lowest_by_number (fraction_of c.args.value) value.numerator value.denominator c.args.divisor g c.requires.divisor c.lowest_ratio-value.ensures c.common_divisor-common.ensures in
    let P : ℕ → Type 0 = λ n. c.args.most < n in
    subst P (one_denominator (by_divisor (fraction_of c.args.value) c.args.divisor) _ lowest is other) c.in_default.ensures.none

pub returns-clause-lowest : goal.returns-clause-lowest
returns-clause-lowest c =
    let value = c.lowest_ratio-value.result in
    let g = c.common_divisor-common.result in
    let is = lowest_by_number (fraction_of c.args.value) value.numerator value.denominator c.args.divisor g c.requires.divisor c.lowest_ratio-value.ensures c.common_divisor-common.ensures in
    let P : ℕ → Type 0 = λ d. IsLowestForm (by_divisor (fraction_of c.args.value) c.args.divisor) (record { numerator = value.numerator / g; denominator = d }) in
    subst P (sym c.in-Some.ensures.value) is
