use Rattle.std.proofs.Common.{ℕ, subst, arith}
use Rattle.std.proofs.lemmas.Nat.Gcd.{le_of_dvd}
use Rattle.coherence_lp.specs.Ratios.{fraction_of, by_divisor, IsLeastCommonMultiple}
use Rattle.coherence_lp.proofs.Multiples.{one_denominator}
use Rattle.coherence_lp.proofs.ratios.step_stake.Goals as goal

pub returns-in_default-clause-none : goal.returns-in_default-clause-none
returns-in_default-clause-none c lowest is multiple least =
    let above = c.in_default.ensures.none lowest is in
    let within = le_of_dvd least.above_zero least.second in
    omega (arith, above, within)

pub returns-in_default-common_multiple_within-clause-none : goal.returns-in_default-common_multiple_within-clause-none
returns-in_default-common_multiple_within-clause-none c lowest is multiple least =
    let same = one_denominator (by_divisor (fraction_of c.args.value) c.args.divisor) lowest (fraction_of c.in-Some.ratio) is c.in-Some.ensures.lowest in
    let P : ℕ → Type 0 = λ d. IsLeastCommonMultiple c.args.before d multiple in
    c.in_default-common_multiple_within.ensures.none multiple (subst P same least)
