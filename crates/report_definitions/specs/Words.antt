-- How a report spells what it names beside bets (`bet_definitions`). Fields are separated by one space, and each line ends with a line feed.
use Rattle.std.specs.Prelude.{ℕ, List, [], ◌∷◌, ◌++◌, codes}
use Rattle.std.specs.List.{join_with_byte}
use Rattle.feed_definitions.specs.declared.cause.Cause.{Cause}
use Rattle.feed_definitions.specs.declared.cause.Cause.TheVariants as cause
use Rattle.board_definitions.specs.declared.event.FeedStop.{FeedStop}
use Rattle.board_definitions.specs.declared.event.FeedStop.TheVariants as stop

-- a line of these fields
abbrev pub line_of : List (List ℕ) → List ℕ
line_of fields = join_with_byte 32 fields ++ 10 ∷ []

-- how a feed ended; the last two occur in no report, and a feed without a header has no word anywhere
abbrev pub stop_text : FeedStop → List ℕ
stop_text stop.End = codes "end"
stop_text stop.Cut = codes "cut"
stop_text stop.ReadFault = codes "fault"
stop_text stop.NoMemory = codes "memory"
stop_text stop.BadHeader = []

-- why a line was refused
abbrev pub cause_text : Cause → List ℕ
cause_text cause.Missing = codes "Missing"
cause_text cause.Extra = codes "Extra"
cause_text cause.UnknownWord = codes "UnknownWord"
cause_text cause.BadName = codes "BadName"
cause_text cause.BadLine = codes "BadLine"
cause_text cause.LineRange = codes "LineRange"
cause_text cause.BadOdds = codes "BadOdds"
cause_text cause.OddsRange = codes "OddsRange"
cause_text cause.BadLimit = codes "BadLimit"
cause_text cause.LimitRange = codes "LimitRange"
cause_text cause.TooLong = codes "TooLong"
cause_text cause.NotAscii = codes "NotAscii"
cause_text cause.TooManyMatches = codes "TooManyMatches"
cause_text cause.TooManyOffers = codes "TooManyOffers"
cause_text cause.NotQuoted = codes "NotQuoted"
