-- How judging due matches moves the history on.
use Rattle.std.specs.Prelude.{ℕ, zero, suc, ◌≡◌, ◌⊎◌, List, [], ◌∷◌, ◌++◌, length, Option}
use Rattle.scan_types.specs.declared.offer.Offer.{Offer}
use Rattle.scan_types.specs.declared.rule.VoidRule.{VoidRule}
use Rattle.finding_definitions.specs.declared.finding.Finding.{Finding}
use Rattle.board_definitions.specs.declared.event.Event.TheVariants.{Pinned, Filed, Released}
use Rattle.board_definitions.specs.declared.event.Entry.{Entry}
use Rattle.board_definitions.specs.Sheets.{sheet}
use Rattle.board_definitions.specs.Pins.{IsDue, IsLongestDue}

-- the entry by which this caller pins the match
abbrev pub pinned_entry : ℕ → List ℕ → Entry
pinned_entry caller match_name = record { caller = caller; event = Pinned match_name }

-- the entry by which this caller files a finding for the pin of this version
abbrev pub filed_entry : ℕ → ℕ → Finding → Entry
filed_entry caller version finding = record { caller = caller; event = Filed version finding }

-- the entry by which this caller gives up the pin of this version
abbrev pub released_entry : ℕ → ℕ → Entry
released_entry caller version = record { caller = caller; event = Released version }

-- the match that is due longest is judged: this caller pins it, and files a finding that is allowed for its sheet
pub record JudgesLongestDue (rules : List (Option VoidRule)) (allows : List Offer → Finding → Type 0) (caller : ℕ) (before after : List Entry) : Type 0 where
  pub match_name : List ℕ
  pub longest : IsLongestDue before match_name
  pub finding : Finding
  pub allowed : allows (sheet rules before (length before) match_name) finding
  pub entries : after ≡ before ++ pinned_entry caller match_name ∷ filed_entry caller (length before) finding ∷ []

-- so many matches are judged, one behind the other, each the one that is due longest then
abbrev pub JudgesSoMany : List (Option VoidRule) → (List Offer → Finding → Type 0) → ℕ → ℕ → List Entry → List Entry → Type 0
JudgesSoMany rules allows caller zero before after = after ≡ before
JudgesSoMany rules allows caller (suc n) before after =
    (middle : List Entry) × JudgesSoMany rules allows caller n before middle × JudgesLongestDue rules allows caller middle after

-- some due matches are judged, from the one that is due longest on
abbrev pub IsJudged : List (Option VoidRule) → (List Offer → Finding → Type 0) → ℕ → List Entry → List Entry → Type 0
IsJudged rules allows caller before after = (n : ℕ) × JudgesSoMany rules allows caller n before after

-- every due match is judged: none is left
pub record IsAllJudged (rules : List (Option VoidRule)) (allows : List Offer → Finding → Type 0) (caller : ℕ) (before after : List Entry) : Type 0 where
  pub judged : IsJudged rules allows caller before after
  pub none_due : (match_name : List ℕ) → IsDue after match_name → ⊥

-- the match that is due longest is pinned, and the pin is given up
pub record GivesUpLongestDue (caller : ℕ) (before after : List Entry) : Type 0 where
  pub match_name : List ℕ
  pub longest : IsLongestDue before match_name
  pub entries : after ≡ before ++ pinned_entry caller match_name ∷ released_entry caller (length before) ∷ []

-- judging stopped for want of memory: after some due matches, and perhaps a pin that is given up
pub record IsJudgedInPart (rules : List (Option VoidRule)) (allows : List Offer → Finding → Type 0) (caller : ℕ) (before after : List Entry) : Type 0 where
  pub middle : List Entry
  pub judged : IsJudged rules allows caller before middle
  pub rest : (after ≡ middle) ⊎ GivesUpLongestDue caller middle after
