-- Legal histories: each entry may follow those before it.
use Rattle.std.specs.Prelude.{ℕ, ◌≡◌, ◌≢◌, ◌+◌, ◌<◌, ◌⊎◌, false, IsTrue, List, take, All, Option, Some, slice_get, IsSome}
use Rattle.scan_types.specs.declared.limits.TheConstants.{MOST_STANDING}
use Rattle.scan_types.specs.declared.offer.Offer.{Offer}
use Rattle.scan_types.specs.declared.rule.VoidRule.{VoidRule}
use Rattle.scan_types.specs.Ranges.{IsLimitRange}
use Rattle.scan_types.specs.Selections.{selection_number}
use Rattle.finding_definitions.specs.declared.finding.Finding.{Finding}
use Rattle.board_definitions.specs.declared.key.Key.{Key}
use Rattle.board_definitions.specs.declared.event.FeedStop.TheVariants.{BadHeader}
use Rattle.board_definitions.specs.declared.event.Event.TheVariants.{Quoted, Withdrawn, Ended, Pinned, Filed, Released}
use Rattle.board_definitions.specs.declared.event.Entry.{Entry}
use Rattle.board_definitions.specs.declared.pin.Pin.{Pin}
use Rattle.board_definitions.specs.Entries.{rule_of, IsBeforeLine}
use Rattle.board_definitions.specs.Sheets.{stands, standing_count, sheet}
use Rattle.board_definitions.specs.Pins.{IsLive, HasNoPin, has_ended}

-- the caller is that of the feed, the feed exists, and it has not ended
pub record IsOpenFeed (rules : List (Option VoidRule)) (before : List Entry) (caller feed : ℕ) : Type 0 where
  pub caller_is : caller ≡ feed + 1
  pub exists : IsSome (rule_of rules feed)
  pub not_ended : has_ended before feed ≡ false

-- the line comes after all lines of the feed so far
abbrev pub IsLater : List Entry → ℕ → ℕ → Type 0
IsLater before feed line = All (λ entry. IsBeforeLine feed line entry.event) before

-- the key stands
abbrev pub Stands : List Entry → Key → Type 0
Stands before key = IsTrue (stands before key.match_name key.feed (selection_number key.selection))

-- a feed may quote the key
pub record MayQuote (rules : List (Option VoidRule)) (before : List Entry) (caller : ℕ) (key : Key) (limit line : ℕ) : Type 0 where
  pub feed : IsOpenFeed rules before caller key.feed
  pub later : IsLater before key.feed line
  pub in_range : IsLimitRange limit
  pub room : Stands before key ⊎ (standing_count before key.match_name key.feed < MOST_STANDING)

-- a feed may withdraw the key
pub record MayWithdraw (rules : List (Option VoidRule)) (before : List Entry) (caller : ℕ) (key : Key) (line : ℕ) : Type 0 where
  pub feed : IsOpenFeed rules before caller key.feed
  pub later : IsLater before key.feed line
  pub stands : Stands before key

-- the pin is live, and the finding is allowed for the sheet of its match at its version
pub record MayFile (rules : List (Option VoidRule)) (allows : List Offer → Finding → Type 0) (before : List Entry) (pin : Pin) (finding : Finding) : Type 0 where
  pub live : IsLive before pin
  pub allowed : allows (sheet rules before pin.version pin.match_name) finding

-- the entry may follow those before it
abbrev pub MayFollow : List (Option VoidRule) → (List Offer → Finding → Type 0) → List Entry → Entry → Type 0
MayFollow rules allows before entry = elim entry.event [
  | Quoted key odds limit line ↦ MayQuote rules before entry.caller key limit line
  | Withdrawn key line ↦ MayWithdraw rules before entry.caller key line
  | Ended feed stop ↦ IsOpenFeed rules before entry.caller feed × (stop ≢ BadHeader)
  | Pinned match_name ↦ HasNoPin before entry.caller
  | Filed version finding ↦ (match_name : List ℕ) × MayFile rules allows before (record { caller = entry.caller; version = version; match_name = match_name }) finding
  | Released version ↦ (match_name : List ℕ) × IsLive before (record { caller = entry.caller; version = version; match_name = match_name })
]

-- each entry may follow those before it
unfoldable pub IsLegal : List (Option VoidRule) → (List Offer → Finding → Type 0) → List Entry → Type 0
IsLegal rules allows history = (place : ℕ) (entry : Entry) → slice_get history place ≡ Some entry → MayFollow rules allows (take place history) entry
