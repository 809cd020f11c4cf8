-- What a report takes of the ends of feeds, and gives back.
use Rattle.std.specs.Prelude.{ℕ, ◌≡◌, Bool, MatchBool, List, [], map, zip, Some}
use Rattle.std.specs.Io.KnownBytes.{Appends}
use Rattle.outside_definitions.specs.Faults.{Rose}
use Rattle.outside_definitions.specs.Sink.{AppendsPrefix}
use Rattle.report_definitions.specs.declared.feed_part.FeedPart.{FeedPart}
use Rattle.desk_definitions.specs.declared.feed_end.FeedEnd.{FeedEnd}
use Rattle.desk_definitions.specs.Seen.{SinkSeen}

-- what the report says of a feed with this end
pub record IsPartOf {S : Type 0} (end : FeedEnd S) (part : FeedPart) : Type 0 where
  pub header : end.header ≡ Some part.header
  pub lines : part.lines ≡ end.lines
  pub refusals : part.refusals ≡ end.refusals
  pub stop : part.stop ≡ end.stop

-- the end without its refused lines
abbrev pub emptied : {S : Type 0} → FeedEnd S → FeedEnd S
emptied end = record end { refusals = [] }

-- the end with the refused lines of a part
abbrev pub filled : {S : Type 0} → FeedEnd S × FeedPart → FeedEnd S
filled both = record both.0 { refusals = both.1.refusals }

-- whether a text was written, whole or cut short by a failed write
abbrev pub IsPut : List ℕ → SinkSeen → Bool → Type 0
IsPut text sink is_whole =
    MatchBool is_whole
    (Appends sink.written_before sink.written_after text × (sink.faults_after ≡ sink.faults_before))
    (AppendsPrefix sink.written_before sink.written_after text × Rose sink.faults_before sink.faults_after)
