use Rattle.std.proofs.Common.{ℕ, ◌*◌, ◌/◌, ◌<◌, subst}
use Rattle.std.proofs.Math.Nat.{pos_of_dvd_of_pos}
use Rattle.coherence_lp.specs.Ratios.{IsLeastCommonMultiple}
use Rattle.coherence_lp.proofs.Multiples.{multiple_by_divisor, one_multiple, if_same, if_none}
use Rattle.coherence_lp.proofs.factors.common_multiple_within.Goals as goal

pub nonzero_div-a : goal.nonzero_div-a
nonzero_div-a c = pos_of_dvd_of_pos c.common_divisor-divisor.ensures.0 c.requires.first

pub returns-clause-value : goal.returns-clause-value
returns-clause-value c =
    let a = c.args.a in
    let b = c.args.b in
    let g = c.common_divisor-divisor.result in
    if_same (λ m. IsLeastCommonMultiple a b m) c.product_within.result (a / g * b) c.product_within.ensures.value (multiple_by_divisor a b g c.requires.first c.requires.second c.common_divisor-divisor.ensures)

pub returns-clause-none : goal.returns-clause-none
returns-clause-none c =
    let a = c.args.a in
    let b = c.args.b in
    let g = c.common_divisor-divisor.result in
    let is = multiple_by_divisor a b g c.requires.first c.requires.second c.common_divisor-divisor.ensures in
    if_none (c.args.most < a / g * b) ((m : ℕ) → IsLeastCommonMultiple a b m → c.args.most < m) c.product_within.result c.product_within.ensures.none
    (λ above m other. let P : ℕ → Type 0 = λ n. c.args.most < n in subst P (one_multiple a b (a / g * b) m is other) above)
