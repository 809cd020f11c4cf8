-- What a feed's thread has read, and what it has put on the board.
use Rattle.std.specs.Prelude.{ℕ, ◌≡◌, ◌≢◌, List, [], ◌∷◌, ◌++◌, Option, Some, None}
use Rattle.scan_types.specs.declared.rule.VoidRule.{VoidRule}
use Rattle.feed_definitions.specs.declared.accepted.Accepted.{Accepted}
use Rattle.feed_definitions.specs.declared.cause.Refusal.{Refusal}
use Rattle.feed_definitions.specs.declared.header.Header.{Header}
use Rattle.feed_definitions.specs.declared.step.Step.{Step}
use Rattle.feed_definitions.specs.Feed.{accepted_in}
use Rattle.board_definitions.specs.declared.event.FeedStop.{FeedStop}
use Rattle.board_definitions.specs.declared.event.FeedStop.TheVariants as stops
use Rattle.board_definitions.specs.declared.event.Entry.{Entry}
use Rattle.turn_lock.specs.Passes.{Known}
use Rattle.quote_board.specs.Views.{BoardView}
use Rattle.desk_definitions.specs.declared.feed_end.FeedEnd.{FeedEnd}
use Rattle.desk_definitions.specs.Ends.{header_in, IsEndOf}
use Rattle.desk_definitions.specs.Lines.{entries_of, body_of}
use Rattle.feed_board_laws.specs.Bodies.{IsAcceptedAfter}
use Rattle.feed_lines.specs.Reader.{ReaderView, answered}
use Rattle.feed_bodies.specs.Bodies.{ArePut, IsBetween, IsOver, SourceGoesOn}

-- these entries were added, and are the pass's own
abbrev pub with_all : Known Entry → List Entry → Known Entry
with_all k entries = record k { seen = k.seen ++ entries; own = k.own ++ entries }

-- each of these lines may be accepted after those before it
abbrev pub AreAccepted : List Accepted → List Accepted → Type 0
AreAccepted before [] = Unit {0}
AreAccepted before (line ∷ lines) = IsAcceptedAfter before line × AreAccepted (before ++ line ∷ []) lines

-- a board of these entries alone, under these rules
abbrev pub alone : List (Option VoidRule) → List Entry → BoardView (Unit {0})
alone rules entries = record { history = entries; fixed = record { rules = rules; law = tt } }

module _ {S : Type 0} (left : S → Option (List ℕ)) (feed : ℕ) (rules : List (Option VoidRule)) (header : Header) where
  -- between two steps: these accepted lines are on the board, and these in hand
  pub record IsGathered (put lines : List Accepted) (refusals : List Refusal) (reader : ReaderView S) : Type 0 where
    pub between : IsBetween left feed header (alone rules []) (alone rules (entries_of feed (accepted_in (answered reader)))) refusals reader
    pub all : accepted_in (answered reader) ≡ put ++ lines
    pub next : AreAccepted put lines

  -- after the last step
  pub record IsGatheredOver (faults : S → ℕ) (put lines : List Accepted) (refusals : List Refusal) (reader : ReaderView S) (stop : FeedStop) : Type 0 where
    pub over : IsOver left faults feed header (alone rules []) (alone rules (entries_of feed (put ++ lines))) refusals reader stop
    pub next : AreAccepted put lines

  -- how gathering goes on, or ends
  abbrev pub Gathers : (S → ℕ) → List Accepted → List Accepted → List Refusal → ReaderView S → Option FeedStop → Type 0
  Gathers faults put lines refusals reader None = IsGathered put lines refusals reader
  Gathers faults put lines refusals reader (Some stop) = IsGatheredOver faults put lines refusals reader stop

  -- between two rounds: the pass's own entries are those of the accepted lines so far
  abbrev pub IsPut : List Entry → List Refusal → ReaderView S → Type 0
  IsPut own refusals reader = (put : List Accepted) × IsGathered put [] refusals reader × (own ≡ entries_of feed put)

  -- after the last round
  abbrev pub IsPutOver : (S → ℕ) → List Entry → List Refusal → ReaderView S → FeedStop → Type 0
  IsPutOver faults own refusals reader stop =
      (put : List Accepted) × IsOver left faults feed header (alone rules []) (alone rules (entries_of feed put)) refusals reader stop × (own ≡ entries_of feed put)

  -- how a round ends
  abbrev pub Rounds : (S → ℕ) → List Entry → List Refusal → ReaderView S → Option FeedStop → Type 0
  Rounds faults own refusals reader None = IsPut own refusals reader
  Rounds faults own refusals reader (Some stop) = IsPutOver faults own refusals reader stop

-- between two steps of a feed, whatever its header and its rules, and whatever lines were put
abbrev pub IsSomewhereIn : {S : Type 0} → (S → Option (List ℕ)) → ℕ → List Accepted → List Refusal → ReaderView S → Type 0
IsSomewhereIn left feed lines refusals reader =
    (rules : List (Option VoidRule)) × (header : Header) × (put : List Accepted) × IsGathered left feed rules header put lines refusals reader

module _ {S : Type 0} (left : S → Option (List ℕ)) (faults : S → ℕ) (Later : S → S → Type 0) (NeverFails : S → Type 0) where
  -- the body was read so: these bytes were taken in all, these steps of lines answered, and these accepted lines, and then the end of the
  -- feed, are the entries that the pass added
  pub record IsBodyRun (feed : ℕ) (header : Header) (reader : ReaderView S) (end : FeedEnd S) (own : List Entry) : Type 0 where
    pub text : List ℕ
    pub lines : List Step
    pub put : List Accepted
    pub goes_on : SourceGoesOn left faults Later NeverFails reader.source reader.taken end.source text
    pub begins : header_in lines ≡ Some header
    pub is_end : IsEndOf left faults feed end text lines
    pub header_read : end.stop ≢ stops.BadHeader
    pub put_is : ArePut end.stop put (accepted_in lines)
    pub own_is : own ≡ body_of feed put end.stop
