-- Which matches are due, and which pins are live.
use Rattle.std.specs.Prelude.{ℕ, ◌≡◌, ◌≤◌, Bool, true, false, IsTrue, List, drop, Some, slice_get, IsSomeAnd, IsSome, Option}
use Rattle.std.specs.List.{list_any}
use Rattle.scan_types.specs.declared.rule.VoidRule.{VoidRule}
use Rattle.board_definitions.specs.declared.event.Event.TheVariants.{Pinned}
use Rattle.board_definitions.specs.declared.event.Entry.{Entry}
use Rattle.board_definitions.specs.declared.pin.Pin.{Pin}
use Rattle.board_definitions.specs.Entries.{changes, pins, closes, ends, rule_of}

-- an entry quotes or withdraws an offer on the match, and no later entry pins the match
pub record IsUnpinnedChange (history : List Entry) (match_name : List ℕ) (place : ℕ) : Type 0 where
  pub change : IsSomeAnd (slice_get history place) (λ entry. IsTrue (changes match_name entry.event))
  pub unpinned : list_any (λ entry. pins match_name entry.event) (drop place history) ≡ false

-- the match is due: an offer on it was quoted or withdrawn since it was last pinned
abbrev pub IsDue : List Entry → List ℕ → Type 0
IsDue history match_name = (place : ℕ) × IsUnpinnedChange history match_name place

-- the match is due since this entry, the first such
pub record IsDueSince (history : List Entry) (match_name : List ℕ) (place : ℕ) : Type 0 where
  pub change : IsUnpinnedChange history match_name place
  pub first : (other : ℕ) → IsUnpinnedChange history match_name other → place ≤ other

-- of the due matches, this one is due since the earliest entry
pub record IsLongestDue (history : List Entry) (match_name : List ℕ) : Type 0 where
  pub since : ℕ
  pub due : IsDueSince history match_name since
  pub earliest : (other : List ℕ) (place : ℕ) → IsDueSince history other place → since ≤ place

-- the pin is an entry of the history, and it was neither filed nor released
pub record IsLive (history : List Entry) (pin : Pin) : Type 0 where
  pub pinned : slice_get history pin.version ≡ Some (record { caller = pin.caller; event = Pinned pin.match_name })
  pub open_ : list_any (λ entry. closes pin.version entry.event) (drop pin.version history) ≡ false

-- the caller holds no pin
abbrev pub HasNoPin : List Entry → ℕ → Type 0
HasNoPin history caller = (pin : Pin) → pin.caller ≡ caller → IsLive history pin → ⊥

-- the feed has ended
abbrev pub has_ended : List Entry → ℕ → Bool
has_ended history feed = list_any (λ entry. ends feed entry.event) history

-- every feed has ended
abbrev pub HaveAllEnded : List (Option VoidRule) → List Entry → Type 0
HaveAllEnded rules history = (feed : ℕ) → IsSome (rule_of rules feed) → has_ended history feed ≡ true
