-- The laws' statements.
use Rattle.std.specs.Prelude.{ℕ, ◌≡◌, List}
use Rattle.report_definitions.specs.declared.feed_part.FeedPart.{FeedPart}
use Rattle.report_definitions.specs.declared.match_part.MatchPart.{MatchPart}
use Rattle.report_definitions.specs.Report.{report_text}
use Rattle.report_definitions.specs.Lines.{lines_text, report_lines}

-- the text of a report is the text of its lines one after another
abbrev pub ReportIsItsLines : Type 0
ReportIsItsLines = (pivots : ℕ) (feeds : List FeedPart) (matches : List MatchPart) → report_text pivots feeds matches ≡ lines_text (report_lines pivots feeds matches)
