use Rattle.std.proofs.Common.{◌≡◌, ◌%◌, ℤ, pos, negsuc, neg_ℤ, ◌<ℤ◌, unsigned_abs, suc, ap, ap₂, ◌∙◌, of_z, to_z-of_z, arith}
use Rattle.std.specs.Int.{◌∣◌, w128}
use Rattle.std.proofs.lemmas.Int.{ints}
use Rattle.std.proofs.lemmas.Nat.Gcd.{mod-eq-zero_of_dvd}
use lib.Signed.{rem_z}
use Rattle.fraction_rows.proofs.division.plain_quotient.Goals as goal

-- what divides a number leaves nothing of it
rem_z-multiple : (x d : ℤ) → pos 0 <ℤ d → unsigned_abs d ∣ unsigned_abs x → rem_z x d ≡ pos 0
rem_z-multiple (pos n) (pos m) above divides = ap pos (mod-eq-zero_of_dvd m divides)
rem_z-multiple (negsuc n) (pos m) above divides = ap (λ k. neg_ℤ (pos k)) (mod-eq-zero_of_dvd m divides)
rem_z-multiple x (negsuc m) above divides = absurd (omega (arith, ints))

pub returns-else-x-divisor-eq0 : goal.returns-else-x-divisor-eq0
returns-else-x-divisor-eq0 c divides =
    c.if-x-divisor-eq0.false (ap (of_z w128) (ap₂ rem_z (to_z-of_z c.ranges.x) (to_z-of_z c.ranges.divisor) ∙ rem_z-multiple c.args.x c.args.divisor c.requires divides))
