-- Judged histories, and what a report takes from them.
use Rattle.std.specs.Prelude.{ℕ, ◌≡◌, ◌≤◌, true, false, List, Option, Some, None, length, option_and_then, slice_get}
use Rattle.std.specs.List.{list_any}
use Rattle.scan_types.specs.declared.rule.VoidRule.{VoidRule}
use Rattle.scan_types.specs.declared.offer.Offer.{Offer}
use Rattle.finding_definitions.specs.declared.finding.Finding.{Finding}
use Rattle.judging_definitions.specs.ExactFinding.{IsFindingOf}
use Rattle.board_definitions.specs.declared.event.Event.{Event}
use Rattle.board_definitions.specs.declared.event.Event.TheVariants.{Filed}
use Rattle.board_definitions.specs.declared.event.Entry.{Entry}
use Rattle.board_definitions.specs.Entries.{changes}
use Rattle.board_definitions.specs.Sheets.{sheet}
use Rattle.report_definitions.specs.declared.match_part.MatchPart.{MatchPart}
use Rattle.report_laws.specs.Boards.{quotes_match}
use Rattle.desk_report.specs.declared.marks.Mark.{Mark}
use Rattle.desk_report.specs.Marks.{pinned_name}

-- the finding that an event files
abbrev pub filed_by : Event → Option Finding
filed_by (Filed version finding) = Some finding
filed_by _ = None

-- the finding that the entry at this place files
abbrev pub filed_at : List Entry → ℕ → Option Finding
filed_at history place = option_and_then (λ entry. filed_by entry.event) (slice_get history place)

-- a finding is filed for a pin of the match after which no entry changes the match
pub record HasNewFinding (history : List Entry) (match_name : List ℕ) : Type 0 where
  pub filed : ℕ
  pub caller : ℕ
  pub version : ℕ
  pub finding : Finding
  pub is_filed : slice_get history filed ≡ Some (record { caller = caller; event = Filed version finding })
  pub pinned : pinned_name history version ≡ Some match_name
  pub newest : (place : ℕ) (entry : Entry) → version ≤ place → slice_get history place ≡ Some entry → changes match_name entry.event ≡ false

-- each match that is quoted has such a finding
abbrev pub HasFindings : List Entry → Type 0
HasFindings history = (match_name : List ℕ) → list_any (quotes_match match_name) history ≡ true → HasNewFinding history match_name

-- what a law allows is the finding of the sheet with this budget
abbrev pub AllowsFindings : ℕ → (List Offer → Finding → Type 0) → Type 0
AllowsFindings budget allows = (offers : List Offer) (finding : Finding) → allows offers finding → IsFindingOf offers budget finding

-- the match with this mark, its newest sheet, and the finding that is filed at its mark
pub record IsPart (rules : List (Option VoidRule)) (history : List Entry) (match_name : List ℕ) (mark : Mark) (part : MatchPart) : Type 0 where
  pub name_is : part.match_name ≡ match_name
  pub sheet_is : part.sheet ≡ sheet rules history (length history) match_name
  pub finding_is : option_and_then (filed_at history) mark.filed ≡ Some part.finding
