use Rattle.std.proofs.Common.{ℕ, ◌<◌, ◌≤◌, ◌^◌, subst, sym}
use Rattle.fraction_rows.proofs.BitLengths.{bit_length-is}
use Rattle.fraction_rows.proofs.bits.bits_of.Goals as goal

pub returns-clause-enough : goal.returns-clause-enough
returns-clause-enough c =
    let t = bit_length-is c.args.size c.ranges.size.fits in
    subst (λ bits. c.args.size < 2 ^ bits) (sym t.1) t.2

pub returns-clause-least : goal.returns-clause-least
returns-clause-least c =
    let t = bit_length-is c.args.size c.ranges.size.fits in
    subst (λ bits. (fewer : ℕ) → c.args.size < 2 ^ fewer → bits ≤ fewer) (sym t.1) t.3
