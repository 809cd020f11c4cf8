-- What a run of the process is, by its arguments.
use Rattle.std.specs.Prelude.{ℕ, List, Option, drop}
use Rattle.clap.specs.Words.{Text}
use Rattle.board_definitions.specs.declared.event.Entry.{Entry}
use Rattle.desk_words.specs.Commands.{command_of}
use Rattle.desk_definitions.specs.declared.feed_end.FeedEnd.{FeedEnd}
use Rattle.desk_definitions.specs.Seen.{OpenerSeen, SinkSeen}
use Rattle.desk_definitions.specs.Causes.{AreCounted}
use Rattle.scan_desk.specs.Desk.{IsRunOf}

-- the words behind the program's name, which is the first argument
abbrev pub words_of : List Text → List Text
words_of arguments = drop 1 arguments

-- the desk ran on these words, and this is the status of its end. The source of a feed has counted no failed read, unless the feed stopped so
abbrev pub EndsWith : {S : Type 0} → (S → Option (List ℕ)) → (S → ℕ) → List Text → OpenerSeen → ℕ → SinkSeen → Type 0
EndsWith {S} left faults words opener status sink =
    (ends : List (FeedEnd S)) × (history : List Entry) × IsRunOf left faults (command_of words) opener ends history status sink × AreCounted faults ends
