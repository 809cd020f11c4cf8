use Rattle.std.proofs.Common.{◌≡◌, get_or, true, false, arith, add-one}
use Rattle.std.specs.Char.{is_ascii_digit}
use Rattle.odds_fixed.proofs.Numbers.{not_all_digits, number_not_digits, digits_below, digits_more, digit_after}
use Rattle.odds_fixed.proofs.number.read_number.Goals as goal

pub returns-then-not-is_ascii_digit-clause-value : goal.returns-then-not-is_ascii_digit-clause-value
returns-then-not-is_ascii_digit-clause-value c =
    let other : is_ascii_digit (get_or c.args.text.now c.loop-byte.byte-index 0) ≡ false = cc in
    number_not_digits c.args.most c.args.text.now (not_all_digits c.args.text.now c.loop-byte.byte-index (omega arith) other)

pub overflow_mul-number : goal.overflow_mul-number
overflow_mul-number c =
    omega (arith, digits_below c.args.text.now c.loop-byte.byte-index 8 (omega arith) (omega arith) c.loop-byte.invariant.digits)

pub overflow_add-number : goal.overflow_add-number
overflow_add-number c =
    omega (arith, digits_below c.args.text.now c.loop-byte.byte-index 8 (omega arith) (omega arith) c.loop-byte.invariant.digits)

pub loop-byte-preserved : goal.loop-byte-preserved
loop-byte-preserved c =
    let digit : is_ascii_digit (get_or c.args.text.now c.loop-byte.byte-index 0) ≡ true = cc in
    record {
      number = digit_after c.args.text.now c.loop-byte.byte-index c.loop-byte.number c.from.result (omega arith) c.loop-byte.invariant.number (omega (arith, c.from.ensures)) digit;
      digits = rw add-one (digits_more c.args.text.now c.loop-byte.byte-index (omega arith) c.loop-byte.invariant.digits digit);
    }

pub returns-clause-small : goal.returns-clause-small
returns-clause-small c =
    omega (arith, c.loop-byte.invariant.number, digits_below c.args.text.now c.loop-byte.byte-index c.args.most (omega arith) (omega arith) c.loop-byte.invariant.digits)
