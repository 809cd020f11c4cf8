-- What is said of feeds of which one has no header.
use Rattle.std.specs.Prelude.{ℕ, ◌≡◌}
use Rattle.desk_opening.specs.declared.begun.HeaderStop.{HeaderStop}
use Rattle.desk_opening.specs.declared.begun.HeaderStop.TheVariants.{ReadFault, BadHeader, NoMemory}
use Rattle.desk_definitions.specs.declared.status.TheConstants.{NOT_READ, BAD_HEADER, WANT_OF_MEMORY}
use Rattle.desk_definitions.specs.Seen.{SinkSeen, IsWritten}
use Rattle.desk_definitions.specs.Texts.{cannot_be_read, is_no_header}
use Rattle.desk_definitions.specs.Course.{WritesNothing}

-- the line of the feed of this number was written; or no memory was left, and nothing was
abbrev pub IsSaidOf : HeaderStop → ℕ → ℕ → SinkSeen → Type 0
IsSaidOf ReadFault number status sink = IsWritten (record { status = NOT_READ; text = cannot_be_read number }) status sink
IsSaidOf (BadHeader refusal) number status sink =
    IsWritten (record { status = BAD_HEADER; text = is_no_header number refusal.place.column refusal.cause }) status sink
IsSaidOf NoMemory number status sink = (status ≡ WANT_OF_MEMORY) × WritesNothing sink
