-- Which bytes are a report's text, and where bytes that are none are wrong.
use Rattle.std.specs.Prelude.{ℕ, suc, ◌≡◌, List, [], ◌++◌, length, All, option_map, slice_get, Some}
use Rattle.scan_types.specs.declared.offer.Offer.{Offer}
use Rattle.report_definitions.specs.declared.feed_part.FeedPart.{FeedPart}
use Rattle.report_definitions.specs.declared.match_part.MatchPart.{MatchPart}
use Rattle.report_definitions.specs.declared.line.Line.{Line}
use Rattle.report_definitions.specs.Report.{report_text}
use Rattle.report_definitions.specs.Lines.{ended, lines_text, report_lines}
use Rattle.report_definitions.specs.Order.{MayCome, AreInOrder, AreWhole}

-- the offer is under the rule of its feed
abbrev pub IsUnderRule : List FeedPart → Offer → Type 0
IsUnderRule feeds offer = option_map (λ (part : FeedPart). part.header.rule) (slice_get feeds offer.feed) ≡ Some offer.rule

-- the bytes are the text of the report of this budget, these feeds and these matches, and it keeps to all that a report keeps to
pub record IsReportOf (pivots : ℕ) (feeds : List FeedPart) (matches : List MatchPart) (bytes : List ℕ) : Type 0 where
  pub text : bytes ≡ report_text pivots feeds matches
  pub in_order : AreInOrder (report_lines pivots feeds matches)
  pub rules : All (λ (part : MatchPart). All (IsUnderRule feeds) part.sheet) matches

-- the bytes are wrong at the line of this number, counted from 1: lines in order stand before it, and what follows them begins with no
-- line that may come there, and the lines are not all of a report
pub record IsWrongAt (bytes : List ℕ) (place : ℕ) : Type 0 where
  pub before : List Line
  pub rest : List ℕ
  pub parts : bytes ≡ lines_text before ++ rest
  pub in_order : AreInOrder before
  pub counted : place ≡ suc (length before)
  pub no_line : (l : Line) (more : List ℕ) → rest ≡ ended l ++ more → MayCome before l → ⊥
  pub not_whole : rest ≡ [] → AreWhole before → ⊥
