-- The first stand-in at which stakes win too little.
use Rattle.std.specs.Prelude.{ℕ, ℤ, ◌≡◌, ◌≤ℤ◌, Option, None, Some, slice_get}
use Rattle.scan_types.specs.declared.outcome.Outcome.{Outcome}
use Rattle.settlement_definitions.specs.StandIns.{stand_ins}
use Rattle.finding_definitions.specs.Arbitrage.{need}
use Rattle.cert_checker.specs.Places.{AllHold, IsFirstFailure}

-- the stakes win what is needed at an outcome
abbrev pub Meets : (Outcome → ℤ) → ℕ → Outcome → Type 0
Meets total _ x = need x ≤ℤ total x

-- the first stand-in in class order at which the stakes win less than is needed, and what they win there
abbrev pub IsLoss : (Outcome → ℤ) → Outcome → ℤ → Type 0
IsLoss total x won =
    (k : ℕ) × IsFirstFailure (Meets total) stand_ins k × (slice_get stand_ins k ≡ Some x) × (won ≡ total x)

-- such a stand-in if there is one
abbrev pub FindsLoss : (Outcome → ℤ) → Option (Outcome × ℤ) → Type 0
FindsLoss total None = AllHold (Meets total) stand_ins
FindsLoss total (Some loss) = IsLoss total loss.0 loss.1
