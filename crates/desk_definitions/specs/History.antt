-- The history of a run on one thread: the bodies of the feeds, one after another, and then the findings of the due matches (`Judged`).
use Rattle.std.specs.Prelude.{ℕ, ◌≡◌, ◌+◌, List, [], ◌∷◌, ◌++◌}
use Rattle.scan_types.specs.declared.offer.Offer.{Offer}
use Rattle.finding_definitions.specs.declared.finding.Finding.{Finding}
use Rattle.feed_definitions.specs.declared.accepted.Accepted.{Accepted}
use Rattle.feed_definitions.specs.Feed.{accepted_in}
use Rattle.judging_definitions.specs.ExactFinding.{IsFindingOf}
use Rattle.board_definitions.specs.declared.event.Entry.{Entry}
use Rattle.board_definitions.specs.declared.event.FeedStop.TheVariants as stops
use Rattle.desk_definitions.specs.declared.feed_end.FeedEnd.{FeedEnd}
use Rattle.desk_definitions.specs.Lines.{body_of, ended_entry, entries_of}
use Rattle.desk_definitions.specs.Reads.{FeedRead}

-- the bodies of the feeds from this number on
abbrev pub bodies_of : {S : Type 0} → ℕ → List (FeedEnd S) → List FeedRead → List Entry
bodies_of number (end ∷ ends) (read ∷ reads) = body_of number (accepted_in read.lines) end.stop ++ bodies_of (number + 1) ends reads
bodies_of number _ _ = []

-- the findings that are filed with this budget of pivots for each run
abbrev pub findings_with : ℕ → List Offer → Finding → Type 0
findings_with budget offers finding = IsFindingOf offers budget finding

-- some first accepted lines of the feed of this number are on the board, and then its end for want of memory
pub record IsCutBody (number : ℕ) (read : FeedRead) (entries : List Entry) : Type 0 where
  pub put : List Accepted
  pub left_out : List Accepted
  pub accepted : accepted_in read.lines ≡ put ++ left_out
  pub are : entries ≡ entries_of number put ++ ended_entry number stops.NoMemory ∷ []
