-- Amounts of money as fractions in lowest terms, in minor units: top over bottom.
use Rattle.std.specs.Prelude.{ℕ, ℤ, pos, ◌≡◌, ◌*◌, ◌*ℤ◌, ◌<ℤ◌, List, unsigned_abs}
use Rattle.std.specs.Int.{IsGcd}
use Rattle.scan_types.specs.declared.offer.Offer.{Offer}
use Rattle.scan_types.specs.declared.outcome.Outcome.{Outcome}
use Rattle.finding_definitions.specs.Verdicts.{reach}
use Rattle.finding_definitions.specs.Best.{final_need, IsLeastGain}

-- the fraction of two numbers in lowest terms: its bottom is above 0, and no number above 1 divides both of its own
pub record IsLowest (top bottom : ℤ) (fraction : ℤ × ℤ) : Type 0 where
  pub positive : pos 0 <ℤ fraction.1
  pub lowest : IsGcd (unsigned_abs fraction.0) (unsigned_abs fraction.1) 1
  pub equal : fraction.0 *ℤ bottom ≡ top *ℤ fraction.1

-- the sure gain of parts over a divisor
pub record IsSureGain (offers : List Offer) (divisor : ℕ) (parts : List ℕ) (amount : ℤ × ℤ) : Type 0 where
  pub gain : ℤ
  pub least : IsLeastGain offers parts gain
  pub lowest : IsLowest gain (pos (2000 * divisor)) amount

-- the most that any stakes can win for sure by a measure
abbrev pub IsBound : List Offer → List (Outcome × ℕ) → ℤ × ℤ → Type 0
IsBound offers measure amount = IsLowest (reach offers measure) (final_need measure) amount
