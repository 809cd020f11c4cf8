-- What stands after some entries of the history, and the sheet of a match at a version.
use Rattle.std.specs.Prelude.{ℕ, ◌<◌, ◌≤◌, ◌⊎◌, Bool, false, List, take, reverse, find, count_by, Option, Some, None, option_and_then}
use Rattle.std.specs.List.{filter_map, flat_map, range_with_len}
use Rattle.std.specs.Option.{option_map_or}
use Rattle.std.proofs.Common.{inl, inr}
use Rattle.std.proofs.lemmas.Bool.{cases_lt}
use Rattle.scan_types.specs.declared.limits.TheConstants.{MOST_FEEDS, MOST_LIMIT}
use Rattle.scan_types.specs.declared.odds.Odds.{Odds}
use Rattle.scan_types.specs.declared.offer.Offer.{Offer}
use Rattle.scan_types.specs.declared.rule.VoidRule.{VoidRule}
use Rattle.scan_types.specs.declared.selection.Selection.{Selection}
use Rattle.board_definitions.specs.declared.key.TheConstants.{SELECTIONS}
use Rattle.board_definitions.specs.declared.event.Event.{Event}
use Rattle.board_definitions.specs.declared.event.Event.TheVariants.{Quoted}
use Rattle.board_definitions.specs.declared.event.Entry.{Entry}
use Rattle.board_definitions.specs.Entries.{rule_of, is_about, is_quote}

-- the offer with these terms, once it is decided whether they are in range
abbrev pub offer_within : (feed : ℕ) → Selection → Odds → (limit : ℕ) → VoidRule →
    (feed < MOST_FEEDS) ⊎ (MOST_FEEDS ≤ feed) → (limit < 1) ⊎ (1 ≤ limit) → (MOST_LIMIT < limit) ⊎ (limit ≤ MOST_LIMIT) → Option Offer
offer_within feed selection odds limit rule (inl fits) (inr some) (inr few) =
    Some (record {
      feed = feed;
      selection = selection;
      odds = odds;
      limit = limit;
      rule = rule;
      feed_at_most = fits;
      limit_at_least = some;
      limit_at_most = few;
    })
offer_within feed selection odds limit rule _ _ _ = None

-- the offer with these terms, and none if the feed or the limit is out of range
unfoldable pub offer_with : ℕ → Selection → Odds → ℕ → VoidRule → Option Offer
offer_with feed selection odds limit rule =
    offer_within feed selection odds limit rule (cases_lt feed MOST_FEEDS) (cases_lt limit 1) (cases_lt MOST_LIMIT limit)

-- the offer that an entry makes: a quote's, under the rule of its feed
abbrev pub offer_of : List (Option VoidRule) → Event → Option Offer
offer_of rules (Quoted key odds limit line) = option_and_then (offer_with key.feed key.selection odds limit) (rule_of rules key.feed)
offer_of rules _ = None

-- the last entry about a selection of a feed at a match
abbrev pub last_about : List Entry → List ℕ → ℕ → ℕ → Option Entry
last_about entries match_name feed number = find (λ entry. is_about match_name feed number entry.event) (reverse entries)

-- a selection of a feed stands at a match: the last entry about it is a quote
abbrev pub stands : List Entry → List ℕ → ℕ → ℕ → Bool
stands entries match_name feed number = option_map_or (λ entry. is_quote entry.event) (last_about entries match_name feed number) false

-- the offer that stands there: that of the last entry about it
abbrev pub standing : List (Option VoidRule) → List Entry → List ℕ → ℕ → ℕ → Option Offer
standing rules entries match_name feed number =
    option_and_then (λ entry. offer_of rules entry.event) (last_about entries match_name feed number)

-- how many selections of a feed stand at a match
unfoldable pub standing_count : List Entry → List ℕ → ℕ → ℕ
standing_count entries match_name feed = count_by (stands entries match_name feed) (range_with_len 0 SELECTIONS)

-- what stands at a match after these entries, by feed, and within a feed by selection
unfoldable pub standing_sheet : List (Option VoidRule) → List Entry → List ℕ → List Offer
standing_sheet rules entries match_name =
    flat_map (λ feed. filter_map (standing rules entries match_name feed) (range_with_len 0 SELECTIONS)) (range_with_len 0 MOST_FEEDS)

-- the sheet of a match at a version, which is a number of entries
abbrev pub sheet : List (Option VoidRule) → List Entry → ℕ → List ℕ → List Offer
sheet rules history version match_name = standing_sheet rules (take version history) match_name
