-- What the history of a run has.
use Rattle.std.specs.Prelude.{ℕ, ◌≡◌, ◌<◌, ◌+◌, ◌==◌, Bool, true, List, filter, Option, Some, slice_get}
use Rattle.scan_types.specs.declared.rule.VoidRule.{VoidRule}
use Rattle.finding_definitions.specs.declared.finding.Finding.{Finding}
use Rattle.finding_definitions.specs.Findings.{IsRight}
use Rattle.feed_definitions.specs.Feed.{accepted_in}
use Rattle.judging_definitions.specs.ExactFinding.{IsFindingOf}
use Rattle.board_definitions.specs.declared.event.Entry.{Entry}
use Rattle.board_definitions.specs.declared.event.Event.TheVariants.{Pinned, Filed}
use Rattle.board_definitions.specs.Entries.{changes}
use Rattle.board_definitions.specs.Sheets.{sheet}
use Rattle.desk_definitions.specs.declared.feed_end.FeedEnd.{FeedEnd}
use Rattle.desk_definitions.specs.Lines.{body_of}
use Rattle.desk_definitions.specs.Reads.{FeedRead}
use Rattle.desk_definitions.specs.Course.{HaveBodies, Outcome}

-- the entry is of this caller
abbrev pub is_by : ℕ → Entry → Bool
is_by caller entry = entry.caller == caller

-- the finding was filed for a pin of a match by the same caller, and is the finding of what stood on that match then: so it is right
pub record IsFiledRight (budget : ℕ) (rules : List (Option VoidRule)) (history : List Entry) (caller version : ℕ) (finding : Finding) : Type 0 where
  pub match_name : List ℕ
  pub pinned : slice_get history version ≡ Some (record { caller = caller; event = Pinned match_name })
  pub exact : IsFindingOf (sheet rules history version match_name) budget finding
  pub right : IsRight (sheet rules history version match_name) finding

-- a finding of the match was filed for a pin behind this place
pub record IsFiledAfter (history : List Entry) (match_name : List ℕ) (place : ℕ) : Type 0 where
  pub version : ℕ
  pub caller : ℕ
  pub finding : Finding
  pub later : place < version
  pub pinned : slice_get history version ≡ Some (record { caller = caller; event = Pinned match_name })
  pub filed : slice_get history (version + 1) ≡ Some (record { caller = caller; event = Filed version finding })

-- the bodies of all feeds are in the history, each entry once and in order; each filed finding is right; and each match has a finding that
-- was filed after its last change
pub record HasWholeHistory {S : Type 0} (left : S → Option (List ℕ)) (faults : S → ℕ) (told : ℕ → Option (List ℕ)) (names budget : ℕ) (out : Outcome S) : Type 0 where
  pub reads : List FeedRead
  pub rules : List (Option VoidRule)
  pub bodies : HaveBodies left faults told names out.ends reads rules
  pub each_feed : (feed : ℕ) (end : FeedEnd S) (read : FeedRead) → slice_get out.ends feed ≡ Some end → slice_get reads feed ≡ Some read →
      filter (is_by (feed + 1)) out.history ≡ body_of feed (accepted_in read.lines) end.stop
  pub filed_right : (place caller version : ℕ) (finding : Finding) → slice_get out.history place ≡ Some (record { caller = caller; event = Filed version finding }) →
      IsFiledRight budget rules out.history caller version finding
  pub all_filed : (match_name : List ℕ) (place : ℕ) (entry : Entry) → slice_get out.history place ≡ Some entry → changes match_name entry.event ≡ true → IsFiledAfter out.history match_name place
