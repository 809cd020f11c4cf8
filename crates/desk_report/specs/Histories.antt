-- What the lines of feeds and judging put into a history.
use Rattle.std.specs.Prelude.{ℕ, ◌≡◌, false, ◌==◌, List, [], if◌then◌else◌}
use Rattle.std.specs.List.{filter_map, list_any}
use Rattle.feed_definitions.specs.declared.accepted.Accepted.{Accepted}
use Rattle.board_definitions.specs.declared.event.FeedStop.{FeedStop}
use Rattle.board_definitions.specs.declared.event.Entry.{Entry}
use Rattle.board_definitions.specs.Entries.{pins}
use Rattle.report_laws.specs.Boards.{line_in}
use Rattle.desk_definitions.specs.Lines.{body_of}

-- the accepted lines of the feed of this number that the history holds
abbrev pub lines_in : ℕ → List Entry → List Accepted
lines_in feed history = filter_map (λ (entry : Entry). line_in feed entry.event) history

-- no entry pins a match
abbrev pub HasNoPins : List Entry → Type 0
HasNoPins history = (match_name : List ℕ) → list_any (λ (entry : Entry). pins match_name entry.event) history ≡ false

-- the body of a feed holds its lines and those of no other feed
abbrev pub BodiesHoldTheirLines : Type 0
BodiesHoldTheirLines = (feed other : ℕ) (lines : List Accepted) (stop : FeedStop) →
    lines_in other (body_of feed lines stop) ≡ (if feed == other then lines else [])

-- the body of a feed pins no match
abbrev pub BodiesHaveNoPins : Type 0
BodiesHaveNoPins = (feed : ℕ) (lines : List Accepted) (stop : FeedStop) → HasNoPins (body_of feed lines stop)
