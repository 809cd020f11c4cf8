use Rattle.std.proofs.Common.{ℕ, ℤ, ◌≤◌, pos, negsuc, ◌+ℤ◌, ◌≤ℤ◌, w64, to_z, of_z, arith}
use Rattle.std.proofs.Math.Nat.{mul-le-mul_left}
use Rattle.std.specs.Prelude.{unsigned_abs}
use Rattle.std.proofs.lemmas.Int.{ints}
use Rattle.void_rules.proofs.paid.Goals as goal

unsigned_abs-le : (z : ℤ) (n : ℕ) → pos 0 ≤ℤ z → z ≤ℤ pos n → unsigned_abs z ≤ n
unsigned_abs-le (pos m) n low high = omega (arith, ints)
unsigned_abs-le (negsuc m) n low high = absurd (omega (arith, ints))

pub returns-clause-at_most : goal.returns-clause-at_most
returns-clause-at_most c =
    let returned = to_z w64 (of_z w64 (pos 2000 +ℤ to_z w64 (of_z w64 c.gain.result))) in
    let few : unsigned_abs returned ≤ 2000000 = unsigned_abs-le returned 2000000 (omega (arith, ints)) (omega (arith, ints)) in
    let most = mul-le-mul_left c.from.result few in
    omega (arith, most)
