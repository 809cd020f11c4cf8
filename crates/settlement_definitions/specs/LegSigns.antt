use Rattle.std.proofs.Common.{ℤ, pos, negsuc, zero, suc, ◌≡◌, ◌<ℤ◌, ◌≤ℤ◌, neg_ℤ, refl, arith}
use Rattle.std.specs.Prelude.{unsigned_abs}
use Rattle.std.proofs.lemmas.Int.{ints}
use Rattle.settlement_definitions.specs.declared.leg_result.LegResult.TheVariants.{Win, Lose}
use Rattle.settlement_definitions.specs.Legs.{by_sign}

pub by_sign-above : (z : ℤ) → pos 0 <ℤ z → by_sign z ≡ Win
by_sign-above (pos zero) h = absurd (omega (arith, ints))
by_sign-above (pos (suc n)) h = refl
by_sign-above (negsuc n) h = absurd (omega (arith, ints))

pub by_sign-below : (z : ℤ) → z <ℤ pos 0 → by_sign z ≡ Lose
by_sign-below (pos n) h = absurd (omega (arith, ints))
by_sign-below (negsuc n) h = refl

pub by_sign-not_above : (z : ℤ) → z ≤ℤ pos 0 → by_sign z ≡ Win → ⊥
by_sign-not_above (pos zero) h e = cc
by_sign-not_above (pos (suc n)) h e = omega (arith, ints)
by_sign-not_above (negsuc n) h e = cc

pub by_sign-not_below : (z : ℤ) → pos 0 ≤ℤ z → by_sign z ≡ Lose → ⊥
by_sign-not_below (pos zero) h e = cc
by_sign-not_below (pos (suc n)) h e = cc
by_sign-not_below (negsuc n) h e = omega (arith, ints)

-- a number is at most its absolute value, and at least the negative of it
pub within_abs : (z : ℤ) → (neg_ℤ (pos (unsigned_abs z)) ≤ℤ z) × (z ≤ℤ pos (unsigned_abs z))
within_abs (pos n) = (omega (arith, ints), omega (arith, ints))
within_abs (negsuc n) = (omega (arith, ints), omega (arith, ints))
