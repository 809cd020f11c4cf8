-- The feeds as a report sees them, and what stands on a match after all their accepted lines.
use Rattle.std.specs.Prelude.{ℕ, ◌≡◌, Bool, true, ◌&&◌, List, [], reverse, find, Option, None, option_map, option_and_then, slice_get}
use Rattle.std.specs.List.{filter_map, flat_map, list_any, range_with_len}
use Rattle.std.specs.Option.{option_map_or}
use Rattle.std.specs.Str.{bytes_eq}
use Rattle.scan_types.specs.declared.limits.TheConstants.{MOST_FEEDS, MOST_SELECTIONS}
use Rattle.scan_types.specs.declared.offer.Offer.{Offer}
use Rattle.scan_types.specs.declared.rule.VoidRule.{VoidRule}
use Rattle.scan_types.specs.declared.selection.Selection.{Selection}
use Rattle.feed_definitions.specs.declared.accepted.Accepted.{Accepted}
use Rattle.feed_definitions.specs.declared.accepted.Change.{Change}
use Rattle.feed_definitions.specs.declared.accepted.Change.TheVariants.{Quote, Withdraw}
use Rattle.feed_definitions.specs.Standing.{is_about, is_quote}
use Rattle.board_definitions.specs.Sheets.{offer_with}
use Rattle.report_definitions.specs.declared.feed_part.FeedPart.{FeedPart}

-- a feed that was read: what the report says of it, and its accepted lines in order
pub record SeenFeed : Type 0 where
  pub part : FeedPart
  pub accepted : List Accepted

-- the rule by which the book of the feed of this number settles abandoned matches, and none beyond the last feed
abbrev pub rule_of : List SeenFeed → ℕ → Option VoidRule
rule_of feeds feed = option_map (λ seen. seen.part.header.rule) (slice_get feeds feed)

-- the accepted lines of the feed of this number, and none beyond the last feed
abbrev pub lines_of : List SeenFeed → ℕ → List Accepted
lines_of feeds feed = option_map_or (λ seen. seen.accepted) (slice_get feeds feed) []

-- the line quotes the match
abbrev pub quotes : List ℕ → Accepted → Bool
quotes match_name line = is_quote line.change && bytes_eq line.match_name match_name

-- a quote of the match is among the accepted lines of some feed
pub record IsQuoted (feeds : List SeenFeed) (match_name : List ℕ) : Type 0 where
  pub feed : ℕ
  pub quoted : list_any (quotes match_name) (lines_of feeds feed) ≡ true

-- the offer that a feed of this number makes by the change, under the rule of its book: a quote's, and none by a withdrawal
abbrev pub change_offer : ℕ → Option VoidRule → Selection → Change → Option Offer
change_offer feed rule selection (Quote odds limit) = option_and_then (offer_with feed selection odds limit) rule
change_offer feed rule selection Withdraw = None

abbrev pub line_offer : ℕ → Option VoidRule → Accepted → Option Offer
line_offer feed rule line = change_offer feed rule line.selection line.change

-- the last accepted line of the feed about the selection of this number on the match
abbrev pub last_line : List SeenFeed → List ℕ → ℕ → ℕ → Option Accepted
last_line feeds match_name feed number = find (is_about match_name number) (reverse (lines_of feeds feed))

-- the offer that stands there: the last accepted quote, unless an accepted withdrawal follows it
abbrev pub standing_offer : List SeenFeed → List ℕ → ℕ → ℕ → Option Offer
standing_offer feeds match_name feed number =
    option_and_then (line_offer feed (rule_of feeds feed)) (last_line feeds match_name feed number)

-- the sheet of a match: what stands on it, by feed, and within a feed by selection
unfoldable pub sheet_of : List SeenFeed → List ℕ → List Offer
sheet_of feeds match_name =
    flat_map (λ feed. filter_map (standing_offer feeds match_name feed) (range_with_len 0 MOST_SELECTIONS)) (range_with_len 0 MOST_FEEDS)
