-- The answers of a board.
use Rattle.std.specs.Prelude.{ℕ, ◌≡◌, ◌≤◌, ◌-◌, ◌++◌, false, List, length, take, drop, min, IsSome, Option, slice_get}
use Rattle.scan_types.specs.declared.rule.VoidRule.{VoidRule}
use Rattle.scan_types.specs.declared.offer.Offer.{Offer}
use Rattle.board_definitions.specs.declared.event.Event.TheVariants as event
use Rattle.board_definitions.specs.declared.event.Entry.{Entry}
use Rattle.board_definitions.specs.declared.pin.Pin.{Pin}
use Rattle.board_definitions.specs.declared.pin.Pick.{Pick}
use Rattle.board_definitions.specs.declared.pin.Pick.TheVariants as pick
use Rattle.board_definitions.specs.Entries.{rule_of}
use Rattle.board_definitions.specs.Pins.{IsDue, IsLongestDue, HaveAllEnded, has_ended}
use Rattle.board_definitions.specs.Legal.{IsLegal}
use Rattle.finding_definitions.specs.declared.finding.Finding.{Finding}
use Rattle.quote_board.specs.Views.{BoardView, with_entry}

-- each feed has the rule of its number, and there are no further feeds
abbrev pub AreRulesOf : List VoidRule → List (Option VoidRule) → Type 0
AreRulesOf given rules = (feed : ℕ) → rule_of rules feed ≡ slice_get given feed

-- the history is legal under the board's rules and its law
abbrev pub HasLegalHistory : {W : Type 0} → (W → List Offer → Finding → Type 0) → BoardView W → Type 0
HasLegalHistory allows board = IsLegal board.fixed.rules (allows board.fixed.law) board.history

-- the pin that an entry of this caller and match makes
abbrev pub next_pin : List Entry → ℕ → List ℕ → Pin
next_pin history caller match_name = record { caller = caller; version = length history; match_name = match_name }

-- no match is due
abbrev pub NoneIsDue : List Entry → Type 0
NoneIsDue history = (match_name : List ℕ) → IsDue history match_name → ⊥

-- some feed has not ended
abbrev pub HasOpenFeed : List (Option VoidRule) → List Entry → Type 0
HasOpenFeed rules history = (feed : ℕ) × IsSome (rule_of rules feed) × (has_ended history feed ≡ false)

-- the answer to a request for a pin: the match that is due longest is pinned; or none is due, and some feed has not ended; or none is
-- due, and all have
abbrev pub IsPick : {W : Type 0} → BoardView W → ℕ → BoardView W → Pick → Type 0
IsPick before caller after (pick.Pinned pin) =
    IsLongestDue before.history pin.match_name × (pin ≡ next_pin before.history caller pin.match_name) × (after ≡ with_entry before caller (event.Pinned pin.match_name))
IsPick before caller after pick.Idle = NoneIsDue before.history × HasOpenFeed before.fixed.rules before.history × (after ≡ before)
IsPick before caller after pick.Finished = NoneIsDue before.history × HaveAllEnded before.fixed.rules before.history × (after ≡ before)

-- the answer if no match is due and so many feeds have not ended
abbrev pub IsEmptyPick : ℕ → Pick → Type 0
IsEmptyPick open_feeds (pick.Pinned pin) = ⊥
IsEmptyPick open_feeds pick.Idle = 1 ≤ open_feeds
IsEmptyPick open_feeds pick.Finished = open_feeds ≡ 0

-- the offers from a place on are copied, as many as there are and as fit; the places behind them stay
pub record IsCopied (offers : List Offer) (from : ℕ) (old new : List Offer) (count : ℕ) : Type 0 where
  pub count_is : count ≡ min (length old) (length offers - from)
  pub copied : new ≡ take count (drop from offers) ++ drop count old
