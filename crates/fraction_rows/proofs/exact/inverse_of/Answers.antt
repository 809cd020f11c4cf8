use Rattle.std.proofs.Common.{◌≡◌, ◌<◌, ◌^◌, pos, ◌*ℤ◌, ◌-ℤ◌, neg_ℤ, ap, sym, ◌∙◌, arith, refl, of_z, to_z, to_z-of_z, rules}
use Rattle.std.specs.Int.{w128, int_wrap}
use Rattle.std.proofs.lemmas.Int.{ints}
use Rattle.row_definitions.proofs.Numbers.{*ℤ-neg}
use Rattle.fraction_rows.proofs.Inverses.{times-one, round_on_bits, more_bits, all_wide_bits}
use Rattle.fraction_rows.proofs.exact.inverse_of.Goals as goal

pub loop-init : goal.loop-init
loop-init c =
    let half = c.requires.0 in
    let turned : pos 1 -ℤ pos 2 *ℤ neg_ℤ half ≡ c.args.odd = ap (λ z. pos 1 -ℤ z) (*ℤ-neg (pos 2) half) ∙ omega (arith, ints, c.requires.1) in
    (neg_ℤ half, ap (int_wrap w128) (times-one (to_z w128 (of_z w128 c.args.odd)) ∙ to_z-of_z c.ranges.odd ∙ sym turned))

pub loop-preserved : goal.loop-preserved
loop-preserved c =
    let odd = of_z w128 c.args.odd in
    let k = c.loop.invariant.0 in
    let odd_fits : odd < 2 ^ 128 = search rules in
    let inverse_fits : c.loop.inverse-bits < 2 ^ 128 = search rules in
    (k *ℤ k, ap (λ z. int_wrap w128 (to_z w128 odd *ℤ z)) (round_on_bits w128 (omega arith) refl odd c.loop.inverse-bits odd_fits inverse_fits) ∙ more_bits w128 (to_z w128 odd) (to_z w128 c.loop.inverse-bits) k c.loop.counter c.loop.invariant.1)

pub returns : goal.returns
returns c =
    let k = c.loop.invariant.0 in
    let seven : c.loop.counter ≡ 7 = omega arith in
    ap (λ z. int_wrap w128 (z *ℤ to_z w128 c.loop.inverse-bits)) (sym (to_z-of_z c.ranges.odd)) ∙ c.loop.invariant.1 ∙ ap (λ n. int_wrap w128 (pos 1 -ℤ pos (2 ^ (2 ^ n)) *ℤ k)) seven ∙ all_wide_bits k
