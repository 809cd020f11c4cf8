-- The first offer that gains on average.
use Rattle.std.specs.Prelude.{ℕ, ℤ, pos, ◌≡◌, ◌≤ℤ◌, Option, None, Some, List, slice_get}
use Rattle.scan_types.specs.declared.offer.Offer.{Offer}
use Rattle.scan_types.specs.declared.outcome.Outcome.{Outcome}
use Rattle.finding_definitions.specs.Measure.{mean}
use Rattle.cert_checker.specs.Places.{AllHold, IsFirstFailure}

-- an offer has no gain on average
abbrev pub GainsNothing : List (Outcome × ℕ) → ℕ → Offer → Type 0
GainsNothing measure _ offer = mean measure offer ≤ℤ pos 0

-- the place of the first offer with a gain on average, and its mean
abbrev pub IsGain : List Offer → List (Outcome × ℕ) → ℕ → ℤ → Type 0
IsGain offers measure i gained =
    IsFirstFailure (GainsNothing measure) offers i × (offer : Offer) × (slice_get offers i ≡ Some offer) × (gained ≡ mean measure offer)

-- such an offer if there is one
abbrev pub FindsGain : List Offer → List (Outcome × ℕ) → Option (ℕ × ℤ) → Type 0
FindsGain offers measure None = AllHold (GainsNothing measure) offers
FindsGain offers measure (Some found) = IsGain offers measure found.0 found.1
