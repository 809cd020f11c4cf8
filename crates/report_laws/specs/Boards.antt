-- The history of a board that holds the lines of the feeds, against the report.
use Rattle.std.specs.Prelude.{ℕ, ◌≡◌, ◌↔◌, Bool, true, ◌==◌, ◌&&◌, List, length, Option, Some, None, if◌then◌else◌}
use Rattle.std.specs.List.{filter_map, list_any}
use Rattle.scan_types.specs.declared.rule.VoidRule.{VoidRule}
use Rattle.feed_definitions.specs.declared.accepted.Accepted.{Accepted}
use Rattle.feed_definitions.specs.declared.accepted.Change.TheVariants.{Quote, Withdraw}
use Rattle.board_definitions.specs.declared.event.Event.{Event}
use Rattle.board_definitions.specs.declared.event.Event.TheVariants.{Quoted, Withdrawn}
use Rattle.board_definitions.specs.declared.event.Entry.{Entry}
use Rattle.board_definitions.specs.Entries as entries
use Rattle.board_definitions.specs.Sheets.{sheet}
use Rattle.report_definitions.specs.Seen.{SeenFeed, rule_of, lines_of, IsQuoted, sheet_of}

-- the accepted line of the feed of this number that the event puts on the board, if it does
abbrev pub line_in : ℕ → Event → Option Accepted
line_in feed (Quoted key odds limit line) =
    if key.feed == feed then Some (record { line = line; match_name = key.match_name; selection = key.selection; change = Quote odds limit }) else None
line_in feed (Withdrawn key line) =
    if key.feed == feed then Some (record { line = line; match_name = key.match_name; selection = key.selection; change = Withdraw }) else None
line_in feed _ = None

-- the quotes and withdrawals of the history are, feed by feed and in order, the accepted lines, and the rules are those of the headers
pub record HoldsLinesOf (feeds : List SeenFeed) (rules : List (Option VoidRule)) (history : List Entry) : Type 0 where
  pub rules_are : (feed : ℕ) → entries.rule_of rules feed ≡ rule_of feeds feed
  pub lines_are : (feed : ℕ) → filter_map (λ (entry : Entry). line_in feed entry.event) history ≡ lines_of feeds feed

-- the entry quotes the match
abbrev pub quotes_match : List ℕ → Entry → Bool
quotes_match match_name entry = entries.is_quote entry.event && entries.changes match_name entry.event

-- the sheet of each match after the whole history is the report's
abbrev pub SheetsAreTheReports : Type 0
SheetsAreTheReports = (feeds : List SeenFeed) (rules : List (Option VoidRule)) (history : List Entry) → HoldsLinesOf feeds rules history →
    (match_name : List ℕ) → sheet rules history (length history) match_name ≡ sheet_of feeds match_name

-- the matches quoted in the history are those that the report has
abbrev pub MatchesAreTheReports : Type 0
MatchesAreTheReports = (feeds : List SeenFeed) (rules : List (Option VoidRule)) (history : List Entry) → HoldsLinesOf feeds rules history →
    (match_name : List ℕ) → list_any (quotes_match match_name) history ≡ true ↔ IsQuoted feeds match_name
