use Rattle.std.proofs.Math.Nat.{pos_of_dvd_of_pos}
use Rattle.coherence_lp.proofs.Multiples.{lowest_by_divisor}
use Rattle.coherence_lp.proofs.ratios.lowest_ratio.Goals as goal

pub nonzero_div-result : goal.nonzero_div-result
nonzero_div-result c = pos_of_dvd_of_pos c.common_divisor-divisor.ensures.1 c.requires

pub nonzero_div-result-2 : goal.nonzero_div-result-2
nonzero_div-result-2 c = pos_of_dvd_of_pos c.common_divisor-divisor.ensures.1 c.requires

pub returns : goal.returns
returns c = lowest_by_divisor c.args.value.numerator c.args.value.denominator c.common_divisor-divisor.result c.requires c.common_divisor-divisor.ensures
