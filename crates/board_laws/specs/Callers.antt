-- The entries of one caller, and what they say of its pins and of its feed.
use Rattle.std.specs.Prelude.{ℕ, Bool, true, false, ◌==◌, List, filter, find, reverse}
use Rattle.std.specs.Option.{option_map_or}
use Rattle.board_definitions.specs.declared.event.Event.{Event}
use Rattle.board_definitions.specs.declared.event.Event.TheVariants.{Quoted, Withdrawn, Ended, Pinned, Filed, Released}
use Rattle.board_definitions.specs.declared.event.Entry.{Entry}

-- the entries that this caller added, in order
abbrev pub calls : ℕ → List Entry → List Entry
calls caller history = filter (λ entry. entry.caller == caller) history

-- the entry makes a pin
abbrev pub is_pin : Event → Bool
is_pin (Pinned match_name) = true
is_pin _ = false

-- the entry makes, files or releases a pin
abbrev pub is_about_pins : Event → Bool
is_about_pins (Pinned match_name) = true
is_about_pins (Filed version finding) = true
is_about_pins (Released version) = true
is_about_pins _ = false

-- a caller with these entries holds a pin: the last of them about pins makes one
abbrev pub holds_pin : List Entry → Bool
holds_pin entries = option_map_or (λ entry. is_pin entry.event) (find (λ entry. is_about_pins entry.event) (reverse entries)) false

-- the entry quotes or withdraws an offer of the feed, or ends the feed
abbrev pub is_of_feed : ℕ → Event → Bool
is_of_feed feed (Quoted key odds limit line) = key.feed == feed
is_of_feed feed (Withdrawn key line) = key.feed == feed
is_of_feed feed (Ended ended stop) = ended == feed
is_of_feed feed _ = false
