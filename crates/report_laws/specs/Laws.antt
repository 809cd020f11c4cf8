-- A report as a function of feeds and budget.
use Rattle.std.specs.Prelude.{ℕ, ◌≡◌, List, All}
use Rattle.finding_definitions.specs.Findings.{IsRight}
use Rattle.report_definitions.specs.declared.match_part.MatchPart.{MatchPart}
use Rattle.report_definitions.specs.Seen.{SeenFeed}
use Rattle.report_definitions.specs.Report.{AreMatchesOf, IsReport}

-- feeds with a budget have at most one list of matches with sheets and findings
abbrev pub OneListOfMatches : Type 0
OneListOfMatches = (budget : ℕ) (feeds : List SeenFeed) (matches others : List MatchPart) →
    AreMatchesOf budget feeds matches → AreMatchesOf budget feeds others → matches ≡ others

-- feeds with a budget have at most one report
abbrev pub OneReport : Type 0
OneReport = (budget : ℕ) (feeds : List SeenFeed) (bytes other : List ℕ) → IsReport budget feeds bytes → IsReport budget feeds other → bytes ≡ other

-- what each finding says of its sheet is so
abbrev pub FindingsAreRight : Type 0
FindingsAreRight = (budget : ℕ) (feeds : List SeenFeed) (matches : List MatchPart) → AreMatchesOf budget feeds matches →
    All (λ part. IsRight part.sheet part.finding) matches
