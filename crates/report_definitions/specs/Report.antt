-- The report as a function of the budget, the feeds, and each match with its sheet and its finding.
use Rattle.std.specs.Prelude.{ℕ, ◌≡◌, List, [], ◌∷◌, ◌++◌, length, map, codes, decimal, All, AllPairs, Any}
use Rattle.std.specs.List.{flat_map, enumerate_from}
use Rattle.std.specs.Cmp.Lexicographic.{slice_cmp}
use Rattle.std.specs.Ordering.{nat_cmp}
use Rattle.std.specs.declared.cmp.Ordering.TheVariants as ordering
use Rattle.scan_types.specs.declared.offer.Offer.{Offer}
use Rattle.number_definitions.specs.Spellings.{odds_text}
use Rattle.bet_definitions.specs.Bets.{selection_fields, rule_text}
use Rattle.finding_definitions.specs.Text.{finding_text}
use Rattle.finding_definitions.specs.declared.finding.Finding.{Finding}
use Rattle.feed_definitions.specs.declared.cause.Refusal.{Refusal}
use Rattle.judging_definitions.specs.ExactFinding.{IsFindingOf}
use Rattle.report_definitions.specs.declared.feed_part.FeedPart.{FeedPart}
use Rattle.report_definitions.specs.declared.match_part.MatchPart.{MatchPart}
use Rattle.report_definitions.specs.Seen.{SeenFeed, IsQuoted, sheet_of}
use Rattle.report_definitions.specs.Words.{line_of, stop_text, cause_text}

-- the bytes

-- feed K BOOK RULE lines N refused M STOP
abbrev pub feed_line : ℕ → FeedPart → List ℕ
feed_line number feed = line_of (codes "feed" ∷ decimal number ∷ feed.header.book ∷ rule_text feed.header.rule
    ∷ codes "lines" ∷ decimal feed.lines ∷ codes "refused" ∷ decimal (length feed.refusals) ∷ stop_text feed.stop ∷ [])

-- refused K LINE COLUMN CAUSE
abbrev pub refusal_line : ℕ → Refusal → List ℕ
refusal_line number refusal = line_of (codes "refused" ∷ decimal number ∷ decimal refusal.place.line ∷ decimal refusal.place.column
    ∷ cause_text refusal.cause ∷ [])

-- a feed, and then each of its refused lines
abbrev pub feed_lines : ℕ × FeedPart → List ℕ
feed_lines numbered = feed_line numbered.0 numbered.1 ++ flat_map (refusal_line numbered.0) numbered.1.refusals

-- offer K SELECTION ODDS LIMIT
abbrev pub offer_line : Offer → List ℕ
offer_line offer = line_of (codes "offer" ∷ decimal offer.feed ∷
    (selection_fields offer.selection ++ odds_text offer.odds.thousandths ∷ decimal offer.limit ∷ []))

-- match NAME offers N
abbrev pub match_line : MatchPart → List ℕ
match_line part = line_of (codes "match" ∷ part.match_name ∷ codes "offers" ∷ decimal (length part.sheet) ∷ [])

-- finding FINDING
abbrev pub finding_line : Finding → List ℕ
finding_line finding = line_of (codes "finding" ∷ finding_text finding ∷ [])

-- a match, each of its offers, and its finding
abbrev pub match_lines : MatchPart → List ℕ
match_lines part = match_line part ++ (flat_map offer_line part.sheet ++ finding_line part.finding)

abbrev pub title_line : List ℕ
title_line = line_of (codes "arbscan" ∷ codes "report" ∷ decimal 1 ∷ [])

abbrev pub pivots_line : ℕ → List ℕ
pivots_line pivots = line_of (codes "pivots" ∷ decimal pivots ∷ [])

abbrev pub end_line : List ℕ
end_line = line_of (codes "end" ∷ [])

-- the report of this budget of pivots, these feeds and these matches
unfoldable pub report_text : ℕ → List FeedPart → List MatchPart → List ℕ
report_text pivots feeds matches =
    title_line ++ (pivots_line pivots ++ (flat_map feed_lines (enumerate_from 0 feeds) ++ (flat_map match_lines matches ++ end_line)))

-- the matches

-- the matches are those that some feed quoted, rising by the bytes of their names, each with its sheet and the finding of that sheet
pub record AreMatchesOf (budget : ℕ) (feeds : List SeenFeed) (matches : List MatchPart) : Type 0 where
  pub rising : AllPairs (λ a b. slice_cmp nat_cmp a.match_name b.match_name ≡ ordering.Less) matches
  pub quoted : (match_name : List ℕ) → IsQuoted feeds match_name → Any (λ part. part.match_name ≡ match_name) matches
  pub only : All (λ part. IsQuoted feeds part.match_name) matches
  pub sheets : All (λ part. part.sheet ≡ sheet_of feeds part.match_name) matches
  pub found : All (λ part. IsFindingOf part.sheet budget part.finding) matches

-- the bytes are the report of these feeds with this budget of pivots for each run
pub record IsReport (budget : ℕ) (feeds : List SeenFeed) (bytes : List ℕ) : Type 0 where
  pub matches : List MatchPart
  pub are : AreMatchesOf budget feeds matches
  pub text : bytes ≡ report_text budget (map (λ seen. seen.part) feeds) matches
