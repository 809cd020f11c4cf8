use Rattle.std.proofs.Common.{◌+◌, ◌-◌, ◌<◌, ◌≤◌, ◌^◌, SFits, to_z-of_z, subst, rules, arith, lt_of_lt_of_le, pow_mono, unsigned_abs}
use Rattle.std.specs.Int.{w128}
use Rattle.std.proofs.lemmas.Bool.{leb-true}
use Rattle.fraction_rows.proofs.ShortProducts.{product-short}
use Rattle.fraction_rows.proofs.bits.products_are_short.Goals as goal

pub returns-then-factor_bits-most-clause-product : goal.returns-then-factor_bits-most-clause-product
returns-then-factor_bits-most-clause-product c short x has =
    let fits : SFits w128 c.args.factor = search rules in
    let size = simp (to_z-of_z fits) at c.unsigned_abs.ensures.value in
    let bits = c.bits_of-factor_bits.result in
    let few : c.args.bits ≤ c.args.most - bits = leb-true c.args.bits (c.args.most - bits) short in
    product-short c.args.factor x bits c.args.bits c.args.most (subst (λ n. n < 2 ^ bits) size c.bits_of-factor_bits.ensures.enough) has (omega arith)

pub returns-then-factor_bits-most-clause-factor : goal.returns-then-factor_bits-most-clause-factor
returns-then-factor_bits-most-clause-factor c short =
    let fits : SFits w128 c.args.factor = search rules in
    let size = simp (to_z-of_z fits) at c.unsigned_abs.ensures.value in
    let bits = c.bits_of-factor_bits.result in
    lt_of_lt_of_le (subst (λ n. n < 2 ^ bits) size c.bits_of-factor_bits.ensures.enough) (pow_mono c.if-factor_bits-most.true)

pub returns-then-factor_bits-most-clause-bits : goal.returns-then-factor_bits-most-clause-bits
returns-then-factor_bits-most-clause-bits c short =
    let few : c.args.bits ≤ c.args.most - c.bits_of-factor_bits.result = leb-true c.args.bits (c.args.most - c.bits_of-factor_bits.result) short in
    omega arith
