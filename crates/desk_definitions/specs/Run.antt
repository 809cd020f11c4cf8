-- What a run over feeds leaves on the board, whatever the number of callers that judge: one history.
use Rattle.std.specs.Prelude.{ℕ, ◌≡◌, ◌≢◌, ◌<◌, ◌≤◌, ◌+◌, ◌==◌, ◌⊎◌, Bool, true, List, [], ◌++◌, filter, length, Option, Some, slice_get}
use Rattle.scan_types.specs.declared.rule.VoidRule.{VoidRule}
use Rattle.finding_definitions.specs.declared.finding.Finding.{Finding}
use Rattle.finding_definitions.specs.Truths.{IsTrueOf}
use Rattle.feed_definitions.specs.Feed.{accepted_in}
use Rattle.judging_definitions.specs.ExactFinding.{IsFindingOf}
use Rattle.board_definitions.specs.declared.event.Entry.{Entry}
use Rattle.board_definitions.specs.declared.event.Event.{Event}
use Rattle.board_definitions.specs.declared.event.Event.TheVariants.{Quoted, Withdrawn, Ended, Pinned, Filed, Released}
use Rattle.board_definitions.specs.declared.event.FeedStop.{FeedStop}
use Rattle.board_definitions.specs.Entries.{changes, closes, rule_of}
use Rattle.board_definitions.specs.Legal.{IsLegal}
use Rattle.board_definitions.specs.Sheets.{sheet}
use Rattle.desk_definitions.specs.declared.feed_end.FeedEnd.{FeedEnd}
use Rattle.desk_definitions.specs.Course.{HaveBodies, Outcome}
use Rattle.desk_definitions.specs.History.{IsCutBody, findings_with}
use Rattle.desk_definitions.specs.Judged.{pinned_entry, filed_entry}
use Rattle.desk_definitions.specs.Lines.{body_of}
use Rattle.desk_definitions.specs.Reads.{FeedRead, AreReadSo, rule_at}

-- the entry is of this caller
abbrev pub is_by : ℕ → Entry → Bool
is_by caller entry = entry.caller == caller

-- the entries of this caller, in order
abbrev pub entries_by : ℕ → List Entry → List Entry
entries_by caller history = filter (is_by caller) history

-- the event pins a match, files a finding, or gives a pin up
abbrev pub IsJudging : Event → Type 0
IsJudging (Quoted key odds limit line) = ⊥
IsJudging (Withdrawn key line) = ⊥
IsJudging (Ended feed stop) = ⊥
IsJudging (Pinned match_name) = Unit {0}
IsJudging (Filed version finding) = Unit {0}
IsJudging (Released version) = Unit {0}

-- the pin of this version was closed once: by one entry, behind the pin, of the caller that pinned
pub record IsClosedOnce (history : List Entry) (caller version : ℕ) : Type 0 where
  pub place : ℕ
  pub entry : Entry
  pub behind : version < place
  pub stands : slice_get history place ≡ Some entry
  pub by_its_caller : entry.caller ≡ caller
  pub closing : closes version entry.event ≡ true
  pub once : (other : ℕ) (another : Entry) → slice_get history other ≡ Some another → closes version another.event ≡ true → other ≡ place

-- the pin of this version got a finding, behind the pin, from the caller that pinned
pub record IsFiledBehind (history : List Entry) (caller version : ℕ) : Type 0 where
  pub place : ℕ
  pub finding : Finding
  pub behind : version < place
  pub filed : slice_get history place ≡ Some (filed_entry caller version finding)

-- the finding was filed for a version that the same caller had pinned. It is the finding of all that stood on the pinned match then, and
-- true of it
pub record IsFiledTrue (rules : List (Option VoidRule)) (budget : ℕ) (history : List Entry) (caller version : ℕ) (finding : Finding) : Type 0 where
  pub match_name : List ℕ
  pub pinned : slice_get history version ≡ Some (pinned_entry caller match_name)
  pub exact : IsFindingOf (sheet rules history version match_name) budget finding
  pub true_of : IsTrueOf (sheet rules history version match_name) finding

-- a finding of the match was filed for a version behind this place
pub record IsFiledSince (history : List Entry) (match_name : List ℕ) (place : ℕ) : Type 0 where
  pub caller : ℕ
  pub version : ℕ
  pub later : place < version
  pub pinned : slice_get history version ≡ Some (pinned_entry caller match_name)
  pub filed : IsFiledBehind history caller version

-- each pin was closed once, by its own caller
abbrev pub EachPinClosed : List Entry → Type 0
EachPinClosed history =
    (caller version : ℕ) (match_name : List ℕ) → slice_get history version ≡ Some (pinned_entry caller match_name) → IsClosedOnce history caller version

-- each pin got a finding
abbrev pub EachPinFiled : List Entry → Type 0
EachPinFiled history =
    (caller version : ℕ) (match_name : List ℕ) → slice_get history version ≡ Some (pinned_entry caller match_name) → IsFiledBehind history caller version

-- each match that was ever quoted has a finding for a version behind its last change
abbrev pub NoneDue : List Entry → Type 0
NoneDue history =
    (match_name : List ℕ) (place : ℕ) (entry : Entry) → slice_get history place ≡ Some entry → changes match_name entry.event ≡ true → IsFiledSince history match_name place

-- of so many feeds, and of so many workers behind them, no other caller has entries, and a worker only pins, files and gives up
abbrev pub OnlyWorkersBeside : ℕ → ℕ → List Entry → Type 0
OnlyWorkersBeside feeds workers history =
    (place : ℕ) (entry : Entry) → slice_get history place ≡ Some entry →
    (1 ≤ entry.caller) × (feeds < entry.caller → (entry.caller ≤ feeds + workers) × IsJudging entry.event)

-- each filed finding is true of what stood on its match at its version
abbrev pub EachFiledTrue : List (Option VoidRule) → ℕ → List Entry → Type 0
EachFiledTrue rules budget history =
    (place caller version : ℕ) (finding : Finding) → slice_get history place ≡ Some (filed_entry caller version finding) →
    IsFiledTrue rules budget history caller version finding

-- the entries are the first of the whole body of the feed of this number; or some first accepted lines, and then its end for want of memory
abbrev pub IsBodyInPart : ℕ → FeedStop → FeedRead → List Entry → Type 0
IsBodyInPart number stop read entries =
    ((rest : List Entry) × (body_of number (accepted_in read.lines) stop ≡ entries ++ rest)) ⊎ IsCutBody number read entries

module _ {S : Type 0} (left : S → Option (List ℕ)) (faults : S → ℕ) (told : ℕ → Option (List ℕ)) (names budget workers : ℕ) where
  -- the bodies of all feeds were read, and each match was judged. There is one legal history. It has the accepted lines of each feed and
  -- then its end, once and in order, and else what the workers pinned and filed: each pin has one finding, each finding is true of what
  -- stood on its match at its version, and each match has one for a version behind its last change
  pub record IsRun (out : Outcome S) : Type 0 where
    pub reads : List FeedRead
    pub rules : List (Option VoidRule)
    pub bodies : HaveBodies left faults told names out.ends reads rules
    pub legal : IsLegal rules (findings_with budget) out.history
    pub each_feed : (feed : ℕ) (end : FeedEnd S) (read : FeedRead) → slice_get out.ends feed ≡ Some end → slice_get reads feed ≡ Some read →
        entries_by (feed + 1) out.history ≡ body_of feed (accepted_in read.lines) end.stop
    pub only_workers : OnlyWorkersBeside names workers out.history
    pub each_pin_closed : EachPinClosed out.history
    pub each_pin_filed : EachPinFiled out.history
    pub filed_true : EachFiledTrue rules budget out.history
    pub none_due : NoneDue out.history

  -- no memory was left. The history is legal, has a part of each body, once and in order, and else what the workers pinned, filed and gave up:
  -- each pin was closed once, and each finding is true of what stood on its match at its version
  pub record IsCutRun (out : Outcome S) : Type 0 where
    pub reads : List FeedRead
    pub read : AreReadSo left faults told 0 out.ends reads
    pub rules : List (Option VoidRule)
    pub rules_are : (feed : ℕ) (rule : VoidRule) → rule_at out.ends feed ≡ Some rule → rule_of rules feed ≡ Some rule
    pub legal : IsLegal rules (findings_with budget) out.history
    pub each_feed : (feed : ℕ) (end : FeedEnd S) (read : FeedRead) → slice_get out.ends feed ≡ Some end → slice_get reads feed ≡ Some read →
        IsBodyInPart feed end.stop read (entries_by (feed + 1) out.history)
    pub no_other_feed : (feed : ℕ) → length reads ≤ feed → feed < names → entries_by (feed + 1) out.history ≡ []
    pub only_workers : OnlyWorkersBeside names workers out.history
    pub each_pin_closed : EachPinClosed out.history
    pub filed_true : EachFiledTrue rules budget out.history
