use Rattle.std.proofs.Common.{◌≡◌, ◌^◌, ℤ, pos, ◌*ℤ◌, ◌-ℤ◌}
use Rattle.std.specs.Int.{w64, int_wrap}
use Rattle.fraction_rows.proofs.exact.narrow_inverse_of.Given as goal

abbrev pub invariant-loop : goal.invariant-loop
invariant-loop l = (k : ℤ) × (int_wrap w64 (l.odd *ℤ l.inverse) ≡ int_wrap w64 (pos 1 -ℤ pos (2 ^ (2 ^ l.counter)) *ℤ k))
