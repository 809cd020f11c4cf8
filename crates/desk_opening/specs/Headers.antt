-- The headers of the opened feeds, read one after another.
use Rattle.std.specs.Prelude.{ℕ, ◌≡◌, ◌<◌, ◌≤◌, ◌+◌, true, false, List, [], ◌∷◌, ◌++◌, length, Option, Some, None}
use Rattle.std.specs.Io.KnownBytes.{Consumes, IsAtEnd}
use Rattle.feed_definitions.specs.declared.header.Header.{Header}
use Rattle.feed_definitions.specs.declared.step.Step.{Step}
use Rattle.feed_definitions.specs.declared.step.Step.TheVariants as step
use Rattle.feed_lines.specs.Reader.{ReaderView, answered}
use Rattle.board_definitions.specs.declared.event.FeedStop.TheVariants as stops
use Rattle.desk_definitions.specs.declared.feed_end.FeedEnd.{FeedEnd}
use Rattle.desk_definitions.specs.Ends.{header_in, IsFirstLineClear, IsReadSo}
use Rattle.desk_definitions.specs.Reads.{FeedRead, AreBegun, AreReadSo}
use Rattle.desk_opening.specs.declared.begun.Begun.{Begun}
use Rattle.desk_opening.specs.declared.begun.HeaderStop.{HeaderStop}
use Rattle.desk_opening.specs.declared.begun.HeaderStop.TheVariants.{ReadFault, BadHeader, NoMemory}

-- a reader of this feed has answered this header and nothing else, and took what its source gave
pub record IsHeaderRead {S : Type 0} (left : S → Option (List ℕ)) (told : Option (List ℕ)) (feed : ℕ) (header : Header) (reader : ReaderView S) : Type 0 where
  pub feed_is : reader.feed ≡ feed
  pub answered_is : answered reader ≡ step.Header header ∷ []
  pub one_answer : reader.answers ≡ 1
  pub not_ended : reader.ended ≡ false
  pub not_over : reader.over ≡ false
  pub at_end : reader.drained ≡ true → IsAtEnd (left reader.source)
  pub given : Consumes told (left reader.source) reader.taken
  pub clear : IsFirstLineClear (left reader.source) reader.taken

-- so it is of the feeds from this number on
abbrev pub AreHeadersRead : {S : Type 0} → (S → Option (List ℕ)) → (ℕ → Option (List ℕ)) → ℕ → List (Begun S) → Type 0
AreHeadersRead left told number [] = Unit {0}
AreHeadersRead left told number (begun ∷ others) = IsHeaderRead left (told number) number begun.header begun.reader × AreHeadersRead left told (number + 1) others

-- a feed whose header was read, and no more, as it is left
abbrev pub begun_end : {S : Type 0} → ℕ → Begun S → FeedEnd S
begun_end number begun = record { feed = number; header = Some begun.header; lines = 1; refusals = []; stop = stops.NoMemory; source = begun.reader.source }

abbrev pub begun_ends : {S : Type 0} → ℕ → List (Begun S) → List (FeedEnd S)
begun_ends number [] = []
begun_ends number (begun ∷ others) = begun_end number begun ∷ begun_ends (number + 1) others

-- what was read of it
abbrev pub begun_read : {S : Type 0} → Begun S → FeedRead
begun_read begun = record { text = begun.reader.taken; lines = step.Header begun.header ∷ [] }

-- why the feed stopped instead of a header, and what was answered
abbrev pub StopsFor : {S : Type 0} → HeaderStop → FeedEnd S → List Step → Type 0
StopsFor ReadFault last lines = last.stop ≡ stops.ReadFault
StopsFor (BadHeader refusal) last lines = (last.stop ≡ stops.BadHeader) × (lines ≡ step.BadHeader refusal ∷ [])
StopsFor NoMemory last lines = last.stop ≡ stops.NoMemory

-- the feed of this number has no header
pub record HasNone {S : Type 0} (left : S → Option (List ℕ)) (faults : S → ℕ) (told : Option (List ℕ)) (number : ℕ) (stop : HeaderStop) (last : FeedEnd S) : Type 0 where
  pub read : FeedRead
  pub last_read : IsReadSo left faults told number last read.text read.lines
  pub no_header : header_in read.lines ≡ None
  pub stops_for : StopsFor stop last read.lines

-- the headers of the feeds before the last were read, and the last one has none
pub record StopsAtLast {S : Type 0} (left : S → Option (List ℕ)) (faults : S → ℕ) (told : ℕ → Option (List ℕ)) (count : ℕ) (stop : HeaderStop) (ends : List (FeedEnd S)) : Type 0 where
  pub front : List (FeedEnd S)
  pub last : FeedEnd S
  pub begun_are : ends ≡ front ++ last ∷ []
  pub is_named : length front < count
  pub reads : List FeedRead
  pub begun : AreBegun left faults told 0 front reads
  pub none : HasNone left faults (told (length front)) (length front) stop last

-- no memory was left: these feeds were begun, and nothing more is said
pub record StopsBefore {S : Type 0} (left : S → Option (List ℕ)) (faults : S → ℕ) (told : ℕ → Option (List ℕ)) (count : ℕ) (ends : List (FeedEnd S)) : Type 0 where
  pub few : length ends ≤ count
  pub reads : List FeedRead
  pub read : AreReadSo left faults told 0 ends reads

-- the headers were not all read
abbrev pub StopsSo : {S : Type 0} → (S → Option (List ℕ)) → (S → ℕ) → (ℕ → Option (List ℕ)) → ℕ → HeaderStop → List (FeedEnd S) → Type 0
StopsSo left faults told count ReadFault ends = StopsAtLast left faults told count ReadFault ends
StopsSo left faults told count (BadHeader refusal) ends = StopsAtLast left faults told count (BadHeader refusal) ends
StopsSo left faults told count NoMemory ends = StopsBefore left faults told count ends

-- the headers were not all read, but no read failed
abbrev pub IsNoReadFault : HeaderStop → Type 0
IsNoReadFault ReadFault = ⊥
IsNoReadFault (BadHeader refusal) = Unit {0}
IsNoReadFault NoMemory = Unit {0}
