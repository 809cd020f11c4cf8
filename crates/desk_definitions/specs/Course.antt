-- What a run over the feeds of some names is, whole: what is due, how it was written, and what is handed out.
use Rattle.std.specs.Prelude.{ℕ, ◌≡◌, ◌<◌, ◌≤◌, ◌+◌, ◌⊎◌, Bool, true, false, List, [], ◌∷◌, ◌++◌, length, take, Option, Some, None, IsSome, All, slice_get, if◌then◌else◌}
use Rattle.std.specs.List.{list_any}
use Rattle.std.specs.Io.KnownBytes.{Keeps}
use Rattle.scan_types.specs.declared.rule.VoidRule.{VoidRule}
use Rattle.feed_definitions.specs.declared.cause.Refusal.{Refusal}
use Rattle.feed_definitions.specs.declared.step.Step.TheVariants as step
use Rattle.board_definitions.specs.declared.event.Entry.{Entry}
use Rattle.board_definitions.specs.declared.event.FeedStop.{FeedStop}
use Rattle.board_definitions.specs.declared.event.FeedStop.TheVariants as stops
use Rattle.board_definitions.specs.Entries as entries
use Rattle.report_definitions.specs.Seen.{SeenFeed}
use Rattle.report_definitions.specs.Report.{IsReport}
use Rattle.desk_definitions.specs.declared.feed_end.FeedEnd.{FeedEnd}
use Rattle.desk_definitions.specs.declared.status.TheConstants.{DONE, NOT_OPENED, NOT_READ, BAD_HEADER, WANT_OF_MEMORY, CUT}
use Rattle.desk_definitions.specs.Texts.{cannot_be_opened, cannot_be_read, is_no_header, have_one_name}
use Rattle.desk_definitions.specs.Seen.{OpenerSeen, SinkSeen, Due, IsWritten}
use Rattle.desk_definitions.specs.Opening.{told_bytes, OpensAll, FailsAt, StopsAt}
use Rattle.desk_definitions.specs.Ends.{header_in, IsReadSo}
use Rattle.desk_definitions.specs.Reads.{FeedRead, AreBegun, AreFirstTwins, AreOfDifferentBooks, AreRead, AreReadSo, AreSeenAs, rule_at}
use Rattle.desk_definitions.specs.History.{IsCutBody, bodies_of, findings_with}
use Rattle.desk_definitions.specs.Judged.{IsAllJudged, IsJudgedInPart}

-- what a run hands out beside its status
pub record Outcome (S : Type 0) : Type 0 where
  pub ends : List (FeedEnd S)
  pub history : List Entry

-- what a command hands out: its status alone, or, of a command that reads feeds, their ends and the history too
pub data Handed (S : Type 0) : Type 0 where
  StatusAlone : Handed S
  OfFeeds : Outcome S → Handed S

-- the ends of feeds among it
abbrev pub ends_of : {S : Type 0} → Handed S → List (FeedEnd S)
ends_of StatusAlone = []
ends_of (OfFeeds out) = out.ends

-- the history among it
abbrev pub history_of : {S : Type 0} → Handed S → List Entry
history_of StatusAlone = []
history_of (OfFeeds out) = out.history

-- nothing was begun
pub record IsUnbegun {S : Type 0} (out : Outcome S) : Type 0 where
  pub no_feed : out.ends ≡ []
  pub no_history : out.history ≡ []

-- a feed could not be opened
pub record IsNotOpened {S : Type 0} (names : List (List ℕ)) (opener : OpenerSeen) (out : Outcome S) (due : Due) : Type 0 where
  pub feed : ℕ
  pub fails : FailsAt names opener feed
  pub unbegun : IsUnbegun out
  pub due_is : due ≡ record { status = NOT_OPENED; text = cannot_be_opened feed }

-- what is due for a feed of this number that stopped so instead of a header
abbrev pub IsDueForHeader : FeedStop → ℕ → FeedRead → Due → Type 0
IsDueForHeader stops.ReadFault number read due = due ≡ record { status = NOT_READ; text = cannot_be_read number }
IsDueForHeader stops.BadHeader number read due =
    (refusal : Refusal) × (read.lines ≡ step.BadHeader refusal ∷ [])
    × (due ≡ record { status = BAD_HEADER; text = is_no_header number refusal.place.column refusal.cause })
IsDueForHeader _ number read due = ⊥

abbrev pub is_read_fault : FeedStop → Bool
is_read_fault stops.ReadFault = true
is_read_fault _ = false

abbrev pub is_cut : FeedStop → Bool
is_cut stops.Cut = true
is_cut _ = false

-- the status of feeds with these ends: a failed read counts before a limit of size
abbrev pub status_of : {S : Type 0} → List (FeedEnd S) → ℕ
status_of ends =
    if list_any (λ end. is_read_fault end.stop) ends then NOT_READ
    else (if list_any (λ end. is_cut end.stop) ends then CUT else DONE)

module _ {S : Type 0} (left : S → Option (List ℕ)) (faults : S → ℕ) (told : ℕ → Option (List ℕ)) (names : ℕ) where
  -- the headers of the feeds before the last were read, and the last one has none: a read of it failed, or it is malformed
  pub record HasNoHeader (out : Outcome S) (due : Due) : Type 0 where
    pub front : List (FeedEnd S)
    pub last : FeedEnd S
    pub begun_are : out.ends ≡ front ++ last ∷ []
    pub is_named : length front < names
    pub reads : List FeedRead
    pub begun : AreBegun left faults told 0 front reads
    pub read : FeedRead
    pub last_read : IsReadSo left faults (told (length front)) (length front) last read.text read.lines
    pub no_header : header_in read.lines ≡ None
    pub no_history : out.history ≡ []
    pub due_is : IsDueForHeader last.stop (length front) read due

  -- all headers were read, and two feeds are of one book
  pub record HaveOneBook (out : Outcome S) (due : Due) : Type 0 where
    pub reads : List FeedRead
    pub begun : AreBegun left faults told 0 out.ends reads
    pub all_named : length out.ends ≡ names
    pub earlier : ℕ
    pub later : ℕ
    pub twins : AreFirstTwins out.ends earlier later
    pub no_history : out.history ≡ []
    pub due_is : due ≡ record { status = BAD_HEADER; text = have_one_name earlier later }

  -- the bodies of all feeds were read, and put on the board one after another; the rules are those of the headers
  pub record HaveBodies (ends : List (FeedEnd S)) (reads : List FeedRead) (rules : List (Option VoidRule)) : Type 0 where
    pub read : AreReadSo left faults told 0 ends reads
    pub all_named : length ends ≡ names
    pub headers : All (λ end. IsSome end.header) ends
    pub different : AreOfDifferentBooks ends
    pub stopped : AreRead ends
    pub rules_are : (feed : ℕ) → entries.rule_of rules feed ≡ rule_at ends feed

  -- the bodies of all feeds were read, each due match was judged, and the report is due
  pub record HasReport (budget : ℕ) (out : Outcome S) (due : Due) : Type 0 where
    pub reads : List FeedRead
    pub rules : List (Option VoidRule)
    pub bodies : HaveBodies out.ends reads rules
    pub judged : IsAllJudged rules (findings_with budget) (names + 1) (bodies_of 0 out.ends reads) out.history
    pub seen : List SeenFeed
    pub seen_are : AreSeenAs out.ends reads seen
    pub status_is : due.status ≡ status_of out.ends
    pub report : IsReport budget seen due.text

  -- the bodies of the first feeds are on the board, and perhaps a part of the next one; of the others nothing is
  pub record StopsInBodies (out : Outcome S) : Type 0 where
    pub reads : List FeedRead
    pub read : AreReadSo left faults told 0 out.ends reads
    pub few : length out.ends ≤ names
    pub whole : ℕ
    pub stopped : AreRead (take whole out.ends)
    pub part : List Entry
    pub history_is : out.history ≡ bodies_of 0 (take whole out.ends) (take whole reads) ++ part
    pub part_is : (part ≡ []) ⊎ ((next : FeedRead) × (slice_get reads whole ≡ Some next) × IsCutBody whole next part)

  -- all bodies are on the board, and some of the due matches were judged; a last pin was perhaps given back
  pub record StopsInJudging (budget : ℕ) (out : Outcome S) : Type 0 where
    pub reads : List FeedRead
    pub rules : List (Option VoidRule)
    pub bodies : HaveBodies out.ends reads rules
    pub judged : IsJudgedInPart rules (findings_with budget) (names + 1) (bodies_of 0 out.ends reads) out.history

-- what is due: the line of a feed that cannot be opened, or all were opened; then the line of a feed without a header, or all headers
-- were read; then the line of two feeds of one book, or all bodies were read, and the report
abbrev pub IsDue : {S : Type 0} → (S → Option (List ℕ)) → (S → ℕ) → List (List ℕ) → ℕ → OpenerSeen → Outcome S → Due → Type 0
IsDue left faults names budget opener out due =
    IsNotOpened names opener out due
    ⊎ (OpensAll names opener × (HasNoHeader left faults (told_bytes opener.told names) (length names) out due
    ⊎ (HaveOneBook left faults (told_bytes opener.told names) (length names) out due
    ⊎ HasReport left faults (told_bytes opener.told names) (length names) budget out due)))

-- no memory was left: while feeds were opened, before all bodies were read, or after that
abbrev pub IsCutOff : {S : Type 0} → (S → Option (List ℕ)) → (S → ℕ) → List (List ℕ) → ℕ → OpenerSeen → Outcome S → Type 0
IsCutOff left faults names budget opener out =
    (IsUnbegun out × (k : ℕ) × StopsAt names opener k)
    ⊎ (OpensAll names opener × (StopsInBodies left faults (told_bytes opener.told names) (length names) out
    ⊎ StopsInJudging left faults (told_bytes opener.told names) (length names) budget out))

-- nothing was written, and no write failed
pub record WritesNothing (sink : SinkSeen) : Type 0 where
  pub kept : Keeps sink.written_before sink.written_after
  pub no_fault : sink.faults_after ≡ sink.faults_before

-- what is due was written; or no memory was left, the status says so, and nothing was written
abbrev pub IsCourse : {S : Type 0} → (S → Option (List ℕ)) → (S → ℕ) → List (List ℕ) → ℕ → OpenerSeen → Outcome S → ℕ → SinkSeen → Type 0
IsCourse left faults names budget opener out status sink =
    ((due : Due) × IsDue left faults names budget opener out due × IsWritten due status sink)
    ⊎ ((status ≡ WANT_OF_MEMORY) × WritesNothing sink × IsCutOff left faults names budget opener out)

-- a run that reads no feed: the opener is as it was, and this text was written; or no memory was left, and nothing was written
pub record SaysOnly (due : Due) (opener : OpenerSeen) (status : ℕ) (sink : SinkSeen) : Type 0 where
  pub told_kept : opener.told_after ≡ opener.told
  pub no_fault : opener.faults_after ≡ opener.faults_before
  pub answer : IsWritten due status sink ⊎ ((status ≡ WANT_OF_MEMORY) × WritesNothing sink)
