-- How a feed of a report may end.
use Rattle.std.specs.Prelude.{Bool, true, false}
use Rattle.board_definitions.specs.declared.event.FeedStop.{FeedStop}
use Rattle.board_definitions.specs.declared.event.FeedStop.TheVariants.{End, Cut, ReadFault, NoMemory, BadHeader}

-- the feed was read to its end, to a limit of size, or to a fault of reading
abbrev pub is_reported : FeedStop → Bool
is_reported End = true
is_reported Cut = true
is_reported ReadFault = true
is_reported NoMemory = false
is_reported BadHeader = false
