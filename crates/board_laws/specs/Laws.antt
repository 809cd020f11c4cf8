-- What a legal history of several callers says of one of them.
use Rattle.std.specs.Prelude.{ℕ, ◌≡◌, ◌+◌, false, true, List, [], ◌++◌, Option, Some, slice_get}
use Rattle.scan_types.specs.declared.rule.VoidRule.{VoidRule}
use Rattle.scan_types.specs.declared.offer.Offer.{Offer}
use Rattle.finding_definitions.specs.declared.finding.Finding.{Finding}
use Rattle.board_definitions.specs.declared.event.Entry.{Entry}
use Rattle.board_definitions.specs.declared.pin.Pin.{Pin}
use Rattle.board_definitions.specs.Pins.{IsLive, HasNoPin, has_ended}
use Rattle.board_definitions.specs.Legal.{IsLegal}
use Rattle.board_laws.specs.Callers.{calls, holds_pin, is_of_feed}

-- a live pin stays live while its own caller adds nothing, whatever others add
abbrev pub OthersKeepPins : {W : Type 0} → (W → List Offer → Finding → Type 0) → Type 0
OthersKeepPins {W} allows = (rules : List (Option VoidRule)) (law : W) (history more : List Entry) (pin : Pin) →
    IsLegal rules (allows law) (history ++ more) → IsLive history pin → calls pin.caller more ≡ [] → IsLive (history ++ more) pin

-- a caller has at most one live pin
abbrev pub HasOnePin : {W : Type 0} → (W → List Offer → Finding → Type 0) → Type 0
HasOnePin {W} allows = (rules : List (Option VoidRule)) (law : W) (history : List Entry) (one other : Pin) →
    IsLegal rules (allows law) history → IsLive history one → IsLive history other → one.caller ≡ other.caller → one ≡ other

-- a caller whose own entries hold no pin has no live pin
abbrev pub CallsTellOfPins : {W : Type 0} → (W → List Offer → Finding → Type 0) → Type 0
CallsTellOfPins {W} allows = (rules : List (Option VoidRule)) (law : W) (history : List Entry) (caller : ℕ) →
    IsLegal rules (allows law) history → holds_pin (calls caller history) ≡ false → HasNoPin history caller

-- entries of a feed are its own caller's
abbrev pub FeedsAreTheirCallers : {W : Type 0} → (W → List Offer → Finding → Type 0) → Type 0
FeedsAreTheirCallers {W} allows = (rules : List (Option VoidRule)) (law : W) (history : List Entry) (place : ℕ) (entry : Entry) (feed : ℕ) →
    IsLegal rules (allows law) history → slice_get history place ≡ Some entry → is_of_feed feed entry.event ≡ true → entry.caller ≡ feed + 1

-- a feed has ended once its own caller's entries end it
abbrev pub CallsTellOfEnds : {W : Type 0} → (W → List Offer → Finding → Type 0) → Type 0
CallsTellOfEnds {W} allows = (rules : List (Option VoidRule)) (law : W) (history : List Entry) (feed : ℕ) →
    IsLegal rules (allows law) history → has_ended history feed ≡ has_ended (calls (feed + 1) history) feed
