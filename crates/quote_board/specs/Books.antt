-- What is kept of each match: the offers that stand by their slots, and since when the match is due.
use Rattle.std.specs.Prelude.{ℕ, ◌≡◌, ◌<◌, List, [], Option, Some, None, MatchOption, option_and_then}
use Rattle.std.specs.BTreeMap.{BTreeMap, get, values}
use Rattle.std.specs.Option.{option_map_or}
use Rattle.std.specs.Str.{bytes_eq}
use Rattle.indexmap.specs.IndexMap.{IndexMap, get as entry_of}
use Rattle.std.specs.Ordering.{nat_cmp, ordering_then}
use Rattle.std.specs.declared.cmp.Ordering.{Ordering}
use Rattle.scan_types.specs.declared.offer.Offer.{Offer}
use Rattle.quote_board.specs.declared.book.Slot.{Slot}
use Rattle.quote_board.specs.declared.book.Book.{Book}

-- slots by feed, and within a feed by selection
abbrev pub slot_cmp : Slot → Slot → Ordering
slot_cmp a b = ordering_then (nat_cmp a.feed b.feed) (nat_cmp a.number b.number)

-- the offer that stands in a slot
abbrev pub offer_in : Book → ℕ → ℕ → Option Offer
offer_in book feed number = get slot_cmp book.offers (record { feed = feed; number = number })

-- the match that is due since an entry
abbrev pub waits_for : BTreeMap ℕ (List ℕ) → ℕ → Option (List ℕ)
waits_for waiting place = get nat_cmp waiting place

-- the same matches are due since the same entries
abbrev pub SameWaiting : BTreeMap ℕ (List ℕ) → BTreeMap ℕ (List ℕ) → Type 0
SameWaiting a b = (place : ℕ) → waits_for b place ≡ waits_for a place

-- the match that is due since the earliest entry, and none if no match is due
abbrev pub IsFirstWaiting : BTreeMap ℕ (List ℕ) → Option (List ℕ) → Type 0
IsFirstWaiting waiting first = MatchOption first ((place : ℕ) → waits_for waiting place ≡ None)
    (λ match_name. (since : ℕ) × (waits_for waiting since ≡ Some match_name) × ((place : ℕ) → place < since → waits_for waiting place ≡ None))

module _ {S : Type 0} where
  -- the offer that stands in a slot on a match
  abbrev pub offer_of : IndexMap (List ℕ) Book S → List ℕ → ℕ → ℕ → Option Offer
  offer_of books match_name feed number = option_and_then (λ book. offer_in book feed number) (entry_of bytes_eq books match_name)

  -- the entry since which the match is due
  abbrev pub due_of : IndexMap (List ℕ) Book S → List ℕ → Option ℕ
  due_of books match_name = option_and_then (λ book. book.due) (entry_of bytes_eq books match_name)

  -- the offers that stand on a match, by their slots
  abbrev pub offers_on : IndexMap (List ℕ) Book S → List ℕ → List Offer
  offers_on books match_name = option_map_or (λ book. values book.offers) (entry_of bytes_eq books match_name) []
