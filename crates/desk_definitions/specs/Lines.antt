-- The entries that the accepted lines of a feed become on the board.
use Rattle.std.specs.Prelude.{ℕ, ◌+◌, List, [], ◌∷◌, ◌++◌, map}
use Rattle.feed_definitions.specs.declared.accepted.Accepted.{Accepted}
use Rattle.feed_definitions.specs.declared.accepted.Change.{Change}
use Rattle.feed_definitions.specs.declared.accepted.Change.TheVariants.{Quote, Withdraw}
use Rattle.board_definitions.specs.declared.key.Key.{Key}
use Rattle.board_definitions.specs.declared.event.Event.{Event}
use Rattle.board_definitions.specs.declared.event.Event.TheVariants.{Quoted, Withdrawn, Ended}
use Rattle.board_definitions.specs.declared.event.Entry.{Entry}
use Rattle.board_definitions.specs.declared.event.FeedStop.{FeedStop}

-- the key of a line of the feed
abbrev pub key_of : ℕ → Accepted → Key
key_of feed line = record { feed = feed; match_name = line.match_name; selection = line.selection }

-- what a line of this number with this key does on the board
abbrev pub event_of : Key → ℕ → Change → Event
event_of key number (Quote odds limit) = Quoted key odds limit number
event_of key number Withdraw = Withdrawn key number

-- the entry of an accepted line of the feed
abbrev pub entry_of : ℕ → Accepted → Entry
entry_of feed line = record { caller = feed + 1; event = event_of (key_of feed line) line.line line.change }

-- the entries of accepted lines of the feed
abbrev pub entries_of : ℕ → List Accepted → List Entry
entries_of feed lines = map (entry_of feed) lines

-- the entry that ends the feed
abbrev pub ended_entry : ℕ → FeedStop → Entry
ended_entry feed stop = record { caller = feed + 1; event = Ended feed stop }

-- the entries of a whole body: of the accepted lines, and of the end
abbrev pub body_of : ℕ → List Accepted → FeedStop → List Entry
body_of feed lines stop = entries_of feed lines ++ ended_entry feed stop ∷ []
