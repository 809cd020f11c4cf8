-- What reading the body of a feed adds to a board, and how the feed ends.
use Rattle.std.specs.Prelude.{ℕ, ◌≡◌, ◌≢◌, ◌+◌, ◌<◌, true, false, List, [], ◌∷◌, ◌++◌, length, Option, Some, None, if◌then◌else◌}
use Rattle.std.specs.Io.KnownBytes.{IsAtEnd}
use Rattle.feed_definitions.specs.declared.accepted.Accepted.{Accepted}
use Rattle.feed_definitions.specs.declared.cause.Refusal.{Refusal}
use Rattle.feed_definitions.specs.declared.header.Header.{Header}
use Rattle.feed_definitions.specs.declared.step.Step.{Step}
use Rattle.feed_definitions.specs.declared.step.Step.TheVariants as step
use Rattle.feed_definitions.specs.Feed.{accepted_in}
use Rattle.board_definitions.specs.declared.event.FeedStop.{FeedStop}
use Rattle.board_definitions.specs.declared.event.FeedStop.TheVariants as stops
use Rattle.board_definitions.specs.declared.event.Entry.{Entry}
use Rattle.board_definitions.specs.Entries.{rule_of}
use Rattle.board_definitions.specs.Pins.{has_ended}
use Rattle.quote_board.specs.Views.{BoardView}
use Rattle.desk_definitions.specs.declared.feed_end.FeedEnd.{FeedEnd}
use Rattle.desk_definitions.specs.Ends.{header_in, refused_in, IsStopOf, AreKept, IsEndOf}
use Rattle.desk_definitions.specs.Lines.{entries_of, body_of}
use Rattle.feed_board_laws.specs.Bodies.{lines_in, HoldsLines}
use Rattle.feed_lines.specs.Taking.{GoesOn}
use Rattle.feed_lines.specs.Reader.{ReaderView, answered}

-- how a feed stops at a step, if it does
abbrev pub stop_of : Step → Option FeedStop
stop_of step.End = Some stops.End
stop_of step.Cut = Some stops.Cut
stop_of step.ReadFault = Some stops.ReadFault
stop_of _ = None

-- the board with these entries added
abbrev pub with_entries : {W : Type 0} → BoardView W → List Entry → BoardView W
with_entries board entries = record { history = board.history ++ entries; fixed = board.fixed }

-- the board has the feed under the rule of its header, and the feed has neither a line on it nor an end
pub record IsReadyFor {W : Type 0} (board : BoardView W) (feed : ℕ) (header : Header) : Type 0 where
  pub rule : rule_of board.fixed.rules feed ≡ Some header.rule
  pub running : has_ended board.history feed ≡ false
  pub no_lines : lines_in board.history feed ≡ []

-- the accepted lines that became entries: all, and with the stop `NoMemory` the first of them
abbrev pub ArePut : FeedStop → List Accepted → List Accepted → Type 0
ArePut stops.NoMemory put accepted = (more : List Accepted) × (accepted ≡ put ++ more)
ArePut _ put accepted = put ≡ accepted

module _ {S : Type 0} (left : S → Option (List ℕ)) where
  -- the reader was made for this feed, and has answered this header and nothing else
  pub record IsBegun (feed : ℕ) (header : Header) (reader : ReaderView S) : Type 0 where
    pub feed_is : reader.feed ≡ feed
    pub answered_is : answered reader ≡ step.Header header ∷ []
    pub one_answer : reader.answers ≡ 1
    pub not_ended : reader.ended ≡ false
    pub not_over : reader.over ≡ false
    pub at_end : reader.drained ≡ true → IsAtEnd (left reader.source)

  -- between two steps: each accepted line so far is on the board, and each refused one is kept
  pub record IsBetween {W : Type 0} (feed : ℕ) (header : Header) (before now : BoardView W) (refusals : List Refusal) (reader : ReaderView S) : Type 0 where
    pub begins : header_in (answered reader) ≡ Some header
    pub each_answer : reader.answers ≡ length (answered reader)
    pub some : 0 < reader.answers
    pub not_ended : reader.ended ≡ false
    pub not_over : reader.over ≡ false
    pub at_end : reader.drained ≡ true → IsAtEnd (left reader.source)
    pub holds : HoldsLines now.fixed.rules now.history feed (accepted_in (answered reader))
    pub added : now ≡ with_entries before (entries_of feed (accepted_in (answered reader)))
    pub kept : refusals ≡ refused_in (answered reader)

  -- between two steps of a feed, whatever its header, and whatever was on the board before
  abbrev pub IsSomewhere : {W : Type 0} → ℕ → BoardView W → List Refusal → ReaderView S → Type 0
  IsSomewhere {W} feed now refusals reader = (header : Header) × (before : BoardView W) × IsBetween feed header before now refusals reader

  module _ (faults : S → ℕ) where
    -- after the last step: these steps of lines were answered, and these accepted lines are on the board
    pub record IsOver {W : Type 0} (feed : ℕ) (header : Header) (before now : BoardView W) (refusals : List Refusal) (reader : ReaderView S) (stop : FeedStop) : Type 0 where
      pub lines : List Step
      pub put : List Accepted
      pub begins : header_in lines ≡ Some header
      pub stop_is : IsStopOf stop (left reader.source) (faults reader.source) reader.taken lines
      pub header_read : stop ≢ stops.BadHeader
      pub each_answer : reader.answers ≡ length lines + (if reader.ended then 1 else 0)
      pub put_is : ArePut stop put (accepted_in lines)
      pub kept : AreKept stop refusals (refused_in lines)
      pub running : has_ended now.history feed ≡ false
      pub added : now ≡ with_entries before (entries_of feed put)

    module _ (Later : S → S → Type 0) (NeverFails : S → Type 0) where
      -- what the reader did to its source: what it took was appended to the bytes taken, no count of faults fell, the source is later, and
      -- keeps its promise
      abbrev pub SourceGoesOn : S → List ℕ → S → List ℕ → Type 0
      SourceGoesOn old taken new text = GoesOn (left old) (left new) taken text (faults old) (faults new) (Later old new) (NeverFails old → NeverFails new)

      abbrev pub ReadsOn : ReaderView S → ReaderView S → Type 0
      ReadsOn old new = SourceGoesOn old.source old.taken new.source new.taken

      -- the body was read so: these bytes were taken in all, these steps of lines answered, and these accepted lines became entries, and then
      -- the end of the feed; nothing else of the board changed
      pub record IsBodyRead {W : Type 0} (feed : ℕ) (header : Header) (reader : ReaderView S) (end : FeedEnd S) (before after : BoardView W) : Type 0 where
        pub text : List ℕ
        pub lines : List Step
        pub put : List Accepted
        pub goes_on : SourceGoesOn reader.source reader.taken end.source text
        pub begins : header_in lines ≡ Some header
        pub is_end : IsEndOf left faults feed end text lines
        pub header_read : end.stop ≢ stops.BadHeader
        pub put_is : ArePut end.stop put (accepted_in lines)
        pub after_is : after ≡ with_entries before (body_of feed put end.stop)
