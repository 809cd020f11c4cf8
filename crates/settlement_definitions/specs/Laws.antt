use Rattle.std.specs.Prelude.{ℕ, ℤ, pos, negsuc, ◌≡◌, ◌<◌, ◌+◌, ◌*◌, ◌-ℤ◌, ◌*ℤ◌, ◌≤ℤ◌, ◌<ℤ◌, ◌↔◌, if◌then◌else◌}
use Rattle.scan_types.specs.declared.selection.Selection.{Selection}
use Rattle.scan_types.specs.Selections.{IsOnResult, IsOnTotal}
use Rattle.scan_types.specs.declared.rule.VoidRule.TheVariants.{Void, Decided}
use Rattle.scan_types.specs.declared.outcome.Outcome.{Outcome}
use Rattle.scan_types.specs.declared.outcome.Outcome.TheVariants.{Full, Abandoned}
use Rattle.scan_types.specs.declared.offer.Offer.{Offer}
use Rattle.settlement_definitions.specs.declared.leg_result.LegResult.{LegResult}
use Rattle.settlement_definitions.specs.declared.leg_result.LegResult.TheVariants.{Push}
use Rattle.settlement_definitions.specs.Legs.{leg_result}
use Rattle.settlement_definitions.specs.Decided.{IsDecided, exceeds_line}
use Rattle.settlement_definitions.specs.Abandonment.{leg_at}
use Rattle.settlement_definitions.specs.Gain.{gain}

-- a bet on the result gains at every final score what it gains at 1-0, 0-0 or 0-1
abbrev pub ResultByDifference : Type 0
ResultByDifference =
    (offer : Offer) (h a : ℕ) → IsOnResult offer.selection
    → (a < h → gain offer (Full h a) ≡ gain offer (Full 1 0)) × (h ≡ a → gain offer (Full h a) ≡ gain offer (Full 0 0)) × (h < a → gain offer (Full h a) ≡ gain offer (Full 0 1))

-- a `void` book gives all stakes back if the match is abandoned
abbrev pub VoidGivesBack : Type 0
VoidGivesBack = (offer : Offer) (h a : ℕ) → offer.rule ≡ Void → gain offer (Abandoned h a) ≡ pos 0

-- under `decided` a leg has the result that every later score gives it
abbrev pub DecidedStands : Type 0
DecidedStands =
    (selection : Selection) (leg : ℤ) (h a : ℕ) (r : LegResult) → IsDecided selection leg h a r → leg_at Decided selection leg (Abandoned h a) ≡ r

-- and is a push if later scores differ
abbrev pub UndecidedPushes : Type 0
UndecidedPushes =
    (selection : Selection) (leg : ℤ) (h a : ℕ) → ((r : LegResult) → IsDecided selection leg h a r → ⊥) → leg_at Decided selection leg (Abandoned h a) ≡ Push

-- whether every later score agrees is told by the goals: they exceed the line of an over or under leg
abbrev pub GoalsDecide : Type 0
GoalsDecide =
    (selection : Selection) (leg : ℤ) (h a : ℕ)
    → leg_at Decided selection leg (Abandoned h a) ≡ (if exceeds_line selection leg h a then leg_result selection leg h a else Push)

-- an over or under leg is decided exactly once the goals exceed its line
abbrev pub TotalDecidedAboveLine : Type 0
TotalDecidedAboveLine =
    (selection : Selection) (leg : ℤ) (h a : ℕ) → IsOnTotal selection → ((r : LegResult) × IsDecided selection leg h a r) ↔ (leg <ℤ pos (4 * (h + a)))

-- no bet on the result and no handicap leg is decided before the end
abbrev pub OthersStayOpen : Type 0
OthersStayOpen =
    (selection : Selection) (leg : ℤ) (h a : ℕ) (r : LegResult) → (IsOnTotal selection → ⊥) → IsDecided selection leg h a r → ⊥

-- a bet loses at most its stake, and gains at most the odds less the stake
abbrev pub GainInRange : Type 0
GainInRange =
    (offer : Offer) (x : Outcome) → (negsuc 1999 ≤ℤ gain offer x) × (gain offer x ≤ℤ (pos 2 *ℤ (pos offer.odds.thousandths -ℤ pos 1000)))
