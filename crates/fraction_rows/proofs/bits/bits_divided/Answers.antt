use Rattle.std.proofs.Common.{◌-◌, subst, sym}
use Rattle.row_definitions.specs.Rows.{divided}
use Rattle.fraction_rows.specs.BitLengths.{HasBits}
use Rattle.fraction_rows.proofs.BitLengths.{quotient-bits, highest_bit}
use Rattle.fraction_rows.proofs.bits.bits_divided.Goals as goal

pub returns : goal.returns
returns c x has divides =
    let bits = c.bits_of.result in
    subst (λ n. HasBits n (divided c.args.divisor x)) (sym c.saturating_sub.ensures)
    (quotient-bits c.args.divisor c.args.bits (bits - 1) x (highest_bit c.args.divisor bits c.requires c.bits_of.ensures.enough c.bits_of.ensures.least) has divides)
