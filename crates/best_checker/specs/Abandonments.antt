-- The first stand-in of an abandonment at which parts lose.
use Rattle.std.specs.Prelude.{ℕ, ℤ, pos, ◌≡◌, ◌≤ℤ◌, Option, None, Some, slice_get}
use Rattle.scan_types.specs.declared.outcome.Outcome.{Outcome}
use Rattle.scan_types.specs.declared.outcome.Outcome.TheVariants.{Full, Abandoned}
use Rattle.settlement_definitions.specs.StandIns.{stand_ins}
use Rattle.cert_checker.specs.Places.{AllHold, IsFirstFailure}

-- nothing is lost at an outcome if it is an abandonment; of final scores this says nothing
abbrev pub KeepsAll : (Outcome → ℤ) → ℕ → Outcome → Type 0
KeepsAll total _ (Full home away) = Unit {0}
KeepsAll total _ (Abandoned home away) = pos 0 ≤ℤ total (Abandoned home away)

-- the first abandonment among the stand-ins, in class order, at which something is lost, and the sum there
abbrev pub IsLossAbandoned : (Outcome → ℤ) → Outcome → ℤ → Type 0
IsLossAbandoned total x won =
    (k : ℕ) × IsFirstFailure (KeepsAll total) stand_ins k × (slice_get stand_ins k ≡ Some x) × (won ≡ total x)

-- such a stand-in if there is one
abbrev pub FindsLossAbandoned : (Outcome → ℤ) → Option (Outcome × ℤ) → Type 0
FindsLossAbandoned total None = AllHold (KeepsAll total) stand_ins
FindsLossAbandoned total (Some loss) = IsLossAbandoned total loss.0 loss.1
