-- What the board keeps besides its history, and how it agrees with it.
use Rattle.std.specs.Prelude.{ℕ, ◌≡◌, ◌+◌, ◌≤◌, ◌&&◌, Bool, not, List, length, count_by, Option, Some, MatchOption}
use Rattle.std.specs.Option.{is_some}
use Rattle.std.specs.List.{range_with_len}
use Rattle.std.specs.BTreeMap.{BTreeMap, get, btree_map_len}
use Rattle.std.specs.Ordering.{nat_cmp}
use Rattle.scan_types.specs.declared.limits.TheConstants.{MOST_FEEDS}
use Rattle.scan_types.specs.declared.rule.VoidRule.{VoidRule}
use Rattle.scan_types.specs.declared.offer.Offer.{Offer}
use Rattle.finding_definitions.specs.declared.finding.Finding.{Finding}
use Rattle.indexmap.specs.IndexMap.{IndexMap}
use Rattle.board_definitions.specs.declared.event.Entry.{Entry}
use Rattle.board_definitions.specs.declared.pin.Pin.{Pin}
use Rattle.board_definitions.specs.Entries.{rule_of}
use Rattle.board_definitions.specs.Sheets.{standing, sheet}
use Rattle.board_definitions.specs.Pins.{IsLive, IsDue, IsDueSince, HasNoPin, has_ended}
use Rattle.board_definitions.specs.Legal.{IsLegal}
use Rattle.quote_board.specs.declared.book.Book.{Book}
use Rattle.quote_board.specs.declared.held.Held.{Held}
use Rattle.quote_board.specs.Books.{offer_of, due_of, waits_for}

-- the caller's one live pin, with its sheet
pub record IsHeld (rules : List (Option VoidRule)) (history : List Entry) (caller : ℕ) (held : Held) : Type 0 where
  pub live : IsLive history (record { caller = caller; version = held.version; match_name = held.match_name })
  pub only : (pin : Pin) → pin.caller ≡ caller → IsLive history pin → pin.version ≡ held.version
  pub sheet_is : held.offers.items ≡ sheet rules history held.version held.match_name

-- the feed has not ended
abbrev pub is_open : List (Option VoidRule) → List Entry → ℕ → Bool
is_open rules history feed = is_some (rule_of rules feed) && not (has_ended history feed)

-- how many feeds have not ended
unfoldable pub open_count : List (Option VoidRule) → List Entry → ℕ
open_count rules history = count_by (is_open rules history) (range_with_len 0 MOST_FEEDS)

-- what is kept agrees with the history
pub record Agrees {S : Type 0} (rules : List (Option VoidRule)) (history : List Entry) (books : IndexMap (List ℕ) Book S) (waiting : BTreeMap ℕ (List ℕ)) (pins : BTreeMap ℕ Held) : Type 0 where
  pub offers : (match_name : List ℕ) (feed number : ℕ) → offer_of books match_name feed number ≡ standing rules history match_name feed number
  pub due : (match_name : List ℕ) → MatchOption (due_of books match_name) (IsDue history match_name → ⊥) (IsDueSince history match_name)
  pub waits : (place : ℕ) → MatchOption (waits_for waiting place) ((match_name : List ℕ) → due_of books match_name ≡ Some place → ⊥) (λ match_name. due_of books match_name ≡ Some place)
  pub pins_are : (caller : ℕ) → MatchOption (get nat_cmp pins caller) (HasNoPin history caller) (IsHeld rules history caller)

-- the history is legal, what is kept agrees with it, and there is room for the entries that must not want memory: one for each
-- live pin and one for each feed that has not ended
pub record IsSound {S : Type 0} (allows : List Offer → Finding → Type 0) (rules : List (Option VoidRule)) (history : List Entry) (capacity : ℕ)
    (books : IndexMap (List ℕ) Book S) (waiting : BTreeMap ℕ (List ℕ)) (pins : BTreeMap ℕ Held) (open_feeds : ℕ) : Type 0 where
  pub legal : IsLegal rules allows history
  pub agrees : Agrees rules history books waiting pins
  pub eight : length rules ≡ MOST_FEEDS
  pub open_is : open_feeds ≡ open_count rules history
  pub room : length history + btree_map_len pins + open_feeds ≤ capacity
