-- Why a run has its status, in the words of its causes.
use Rattle.std.specs.Prelude.{ℕ, ◌≡◌, ◌≢◌, ◌<◌, ◌+◌, ◌⊎◌, false, List, [], ◌∷◌, ◌++◌, length, Option, Some, None, IsSome, All, AllPairs, Any}
use Rattle.std.specs.Io.KnownBytes.{Appends}
use Rattle.outside_definitions.specs.Faults.{Rose}
use Rattle.feed_definitions.specs.declared.header.Header.{Header}
use Rattle.feed_definitions.specs.declared.step.Step.{Step}
use Rattle.feed_definitions.specs.declared.step.Step.TheVariants as step
use Rattle.feed_definitions.specs.Feed.{steps}
use Rattle.board_definitions.specs.declared.event.FeedStop.{FeedStop}
use Rattle.board_definitions.specs.declared.event.FeedStop.TheVariants as stops
use Rattle.desk_definitions.specs.declared.feed_end.FeedEnd.{FeedEnd}
use Rattle.desk_definitions.specs.declared.status.TheConstants.{DONE, NOT_OPENED, NOT_READ, NOT_WRITTEN, BAD_HEADER, WANT_OF_MEMORY, CUT}
use Rattle.desk_definitions.specs.Seen.{OpenerSeen, SinkSeen, Due}
use Rattle.desk_definitions.specs.Opening.{told_bytes, FailsAt, LacksSource}
use Rattle.desk_definitions.specs.Reads.{AreFirstTwins, AreOfDifferentBooks}
use Rattle.desk_definitions.specs.Course.{HasReport, IsUnbegun, Outcome, WritesNothing}

-- the status is this one, or gives way to a failed write or to want of memory
abbrev pub IsOrYields : ℕ → ℕ → Type 0
IsOrYields due status = (status ≡ due) ⊎ ((status ≡ NOT_WRITTEN) ⊎ (status ≡ WANT_OF_MEMORY))

-- no fault was counted: the count did not rise, and is not at its type's end, where it stands still
abbrev pub HasNotRisen : ℕ → ℕ → Type 0
HasNotRisen old new = Rose old new → ⊥

module _ {S : Type 0} where
  -- all named feeds were begun, each has a header, and they are of different books: their bodies were read
  pub record HaveRun (names : ℕ) (ends : List (FeedEnd S)) : Type 0 where
    pub all_named : length ends ≡ names
    pub headers : All (λ end. IsSome end.header) ends
    pub different : AreOfDifferentBooks ends

  -- one of the feeds stopped so
  abbrev pub SomeStop : FeedStop → List (FeedEnd S) → Type 0
  SomeStop stop ends = Any (λ end. end.stop ≡ stop) ends

  -- none of them did
  abbrev pub NoneStops : FeedStop → List (FeedEnd S) → Type 0
  NoneStops stop ends = All (λ end. end.stop ≢ stop) ends

  -- a read of one of the feeds failed, and its source has counted it
  abbrev pub HasFailedRead : (S → ℕ) → List (FeedEnd S) → Type 0
  HasFailedRead faults ends = Any (λ end. (end.stop ≡ stops.ReadFault) × (0 < faults end.source)) ends

  -- no source has counted a failed read but that of a feed that stopped so
  abbrev pub AreCounted : (S → ℕ) → List (FeedEnd S) → Type 0
  AreCounted faults ends = All (λ end. end.stop ≢ stops.ReadFault → faults end.source ≡ 0) ends

  -- the last feed begun has no header: it stopped so
  pub record EndsWithout (stop : FeedStop) (ends : List (FeedEnd S)) : Type 0 where
    pub front : List (FeedEnd S)
    pub last : FeedEnd S
    pub are : ends ≡ front ++ last ∷ []
    pub no_header : last.header ≡ None
    pub stop_is : last.stop ≡ stop

  -- all headers were read, and two feeds are of one book
  pub record HaveTwins (names : ℕ) (ends : List (FeedEnd S)) : Type 0 where
    pub all_named : length ends ≡ names
    pub headers : All (λ end. IsSome end.header) ends
    pub earlier : ℕ
    pub later : ℕ
    pub twins : AreFirstTwins ends earlier later

  -- each named feed was read to its end, and the sink got the report of what was read
  pub record IsReported (left : S → Option (List ℕ)) (faults : S → ℕ) (told : ℕ → Option (List ℕ)) (names budget : ℕ) (out : Outcome S) (sink : SinkSeen)
      : Type 0 where
    pub due : Due
    pub has : HasReport left faults told names budget out due
    pub ended : All (λ end. end.stop ≡ stops.End) out.ends
    pub written : Appends sink.written_before sink.written_after due.text

  -- no opening failed, or the opener promised that one fails only under a name that has no source left; no read of the feeds that were
  -- begun failed, and no write
  pub record HasNoFault (faults : S → ℕ) (opener : OpenerSeen) (ends : List (FeedEnd S)) (sink : SinkSeen) : Type 0 where
    pub opened : HasNotRisen opener.faults_before opener.faults_after ⊎ opener.opens_told
    pub read : All (λ end. faults end.source ≡ 0) ends
    pub written : HasNotRisen sink.faults_before sink.faults_after

-- the text of a feed with a header and within the limits, read to its end
pub record IsGoodText (text : List ℕ) : Type 0 where
  pub header : Header
  pub lines : List Step
  pub steps_are : steps false text ≡ step.Header header ∷ (lines ++ step.End ∷ [])

-- the sources from this number on have these texts, as is told
abbrev pub HaveTexts : (ℕ → Option (List ℕ)) → ℕ → List (List ℕ) → Type 0
HaveTexts told number [] = Unit {0}
HaveTexts told number (text ∷ texts) = (told number ≡ Some text) × HaveTexts told (number + 1) texts

-- so many feeds are told of; each is good, and no two of them are of one book
pub record AreGoodFeeds (told : ℕ → Option (List ℕ)) (names : ℕ) : Type 0 where
  pub texts : List (List ℕ)
  pub each : length texts ≡ names
  pub are_told : HaveTexts told 0 texts
  pub good : All IsGoodText texts
  pub different : AllPairs (λ text later. (a : IsGoodText text) (b : IsGoodText later) → a.header.book ≢ b.header.book) texts

-- an opening failed under one of the names
pub record HasFailedOpening (names : List (List ℕ)) (opener : OpenerSeen) : Type 0 where
  pub feed : ℕ
  pub fails : FailsAt names opener feed

-- why a run over the feeds of these names has its status: each status has its cause, and each cause its status, which yields only to a
-- failed write and to want of memory
pub record HasCauses {S : Type 0} (left : S → Option (List ℕ)) (faults : S → ℕ) (names : List (List ℕ)) (budget : ℕ) (opener : OpenerSeen)
    (out : Outcome S) (status : ℕ) (sink : SinkSeen) : Type 0 where
  -- status 0 comes only if each named feed was read to its end; the sink then got the report of what the sources gave
  pub done : status ≡ DONE → IsReported left faults (told_bytes opener.told names) (length names) budget out sink
  -- the converse: good feeds of different books give status 0, unless an opening, a read or a write fails or no memory is left
  pub complete : AreGoodFeeds (told_bytes opener.told names) (length names) → HasNoFault faults opener out.ends sink →
      (status ≡ DONE) ⊎ (status ≡ WANT_OF_MEMORY)
  -- status 3 comes only if an opening failed
  pub not_opened : status ≡ NOT_OPENED → HasFailedOpening names opener
  -- it is due if the opener has no source for one of the names
  pub not_opened_due : (k : ℕ) → k < length names → LacksSource opener.told names k → IsOrYields NOT_OPENED status
  -- no feed is begun then
  pub none_begun : (k : ℕ) → k < length names → LacksSource opener.told names k → IsUnbegun out
  -- the opener's count of faults rises with no other status
  pub opener_faults : (opener.faults_after ≡ opener.faults_before) ⊎ (HasFailedOpening names opener × IsOrYields NOT_OPENED status)
  -- status 4 comes only if a read of a feed failed
  pub not_read : status ≡ NOT_READ → HasFailedRead faults out.ends
  -- it is due if a feed that was begun stopped so
  pub not_read_due : SomeStop stops.ReadFault out.ends → IsOrYields NOT_READ status
  -- it never comes if the opener promised that no read of a source fails
  pub read_as_promised : opener.promises → status ≢ NOT_READ
  -- no failed read is hidden: the source of a feed with another stop counted none
  pub source_faults : AreCounted faults out.ends
  -- status 5 comes only if a write failed
  pub not_written : status ≡ NOT_WRITTEN → Rose sink.faults_before sink.faults_after
  -- the sink's count of faults rises with no other status
  pub else_written : status ≢ NOT_WRITTEN → sink.faults_after ≡ sink.faults_before
  -- status 6 comes only if the first line of a feed is no header, or two feeds are of one book
  pub bad_header : status ≡ BAD_HEADER → EndsWithout stops.BadHeader out.ends ⊎ HaveTwins (length names) out.ends
  -- it is due if the last feed begun has no header
  pub bad_header_due : EndsWithout stops.BadHeader out.ends → IsOrYields BAD_HEADER status
  -- and if two feeds are of one book
  pub one_book_due : HaveTwins (length names) out.ends → IsOrYields BAD_HEADER status
  -- at status 7 nothing was written
  pub no_memory : status ≡ WANT_OF_MEMORY → WritesNothing sink
  -- status 8 comes only if the bodies were read, no read failed, and a limit of size was passed
  pub cut : status ≡ CUT → HaveRun (length names) out.ends × NoneStops stops.ReadFault out.ends × SomeStop stops.Cut out.ends
  -- it is due then
  pub cut_due : HaveRun (length names) out.ends → NoneStops stops.ReadFault out.ends → SomeStop stops.Cut out.ends → IsOrYields CUT status

-- why a run that reads no feed has its status
pub record HasTextCauses (due : Due) (opener : OpenerSeen) (status : ℕ) (sink : SinkSeen) : Type 0 where
  -- the status is that of its text, which yields only to a failed write and to want of memory
  pub one_of : IsOrYields due.status status
  -- at that status the whole text was written
  pub done : status ≡ due.status → Appends sink.written_before sink.written_after due.text
  -- no opening failed
  pub opener_faults : opener.faults_after ≡ opener.faults_before
  -- status 5 comes only if a write failed
  pub not_written : status ≡ NOT_WRITTEN → Rose sink.faults_before sink.faults_after
  -- the sink's count of faults rises with no other status
  pub else_written : status ≢ NOT_WRITTEN → sink.faults_after ≡ sink.faults_before
  -- at status 7 nothing was written
  pub no_memory : status ≡ WANT_OF_MEMORY → WritesNothing sink
