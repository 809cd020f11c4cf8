-- A report as lines: the one text of each line, which lines there are, and the lines of a report.
use Rattle.std.specs.Prelude.{ℕ, ◌≡◌, ◌+◌, ◌<◌, ◌≤◌, ◌⊎◌, IsTrue, List, [], ◌∷◌, ◌++◌, length, map, codes, decimal}
use Rattle.std.specs.List.{flat_map, enumerate_from, join_with_byte}
use Rattle.scan_types.specs.declared.limits.TheConstants.{MOST_FEEDS, MOST_LINES, MOST_LINE_BYTES, MOST_LIMIT, MOST_OFFERS, MOST_PIVOTS, MOST_REPORT_LINE_BYTES}
use Rattle.scan_types.specs.Names.{IsNameText}
use Rattle.scan_types.specs.declared.offer.Offer.{Offer}
use Rattle.number_definitions.specs.Spellings.{odds_text}
use Rattle.bet_definitions.specs.Bets.{selection_fields, rule_text}
use Rattle.finding_definitions.specs.Readable.{IsReadable}
use Rattle.finding_definitions.specs.Text.{finding_text}
use Rattle.feed_definitions.specs.declared.cause.Refusal.{Refusal}
use Rattle.report_definitions.specs.declared.feed_part.FeedPart.{FeedPart}
use Rattle.report_definitions.specs.declared.match_part.MatchPart.{MatchPart}
use Rattle.report_definitions.specs.declared.line.FeedLine.{FeedLine}
use Rattle.report_definitions.specs.declared.line.OfferLine.{OfferLine}
use Rattle.report_definitions.specs.declared.line.Line.{Line}
use Rattle.report_definitions.specs.declared.line.Line.TheVariants as line
use Rattle.report_definitions.specs.Stops.{is_reported}
use Rattle.report_definitions.specs.Words.{stop_text, cause_text}

-- the text of a line

abbrev pub feed_fields : FeedLine → List (List ℕ)
feed_fields feed = codes "feed" ∷ decimal feed.number ∷ feed.header.book ∷ rule_text feed.header.rule ∷ codes "lines" ∷ decimal feed.lines
    ∷ codes "refused" ∷ decimal feed.refused ∷ stop_text feed.stop ∷ []

abbrev pub refusal_fields : ℕ → Refusal → List (List ℕ)
refusal_fields feed refusal = codes "refused" ∷ decimal feed ∷ decimal refusal.place.line ∷ decimal refusal.place.column ∷ cause_text refusal.cause ∷ []

abbrev pub offer_fields : OfferLine → List (List ℕ)
offer_fields offer = codes "offer" ∷ decimal offer.feed ∷ (selection_fields offer.selection ++ odds_text offer.odds.thousandths ∷ decimal offer.limit ∷ [])

-- the fields of a line; the text of a finding is one of them, though it has spaces
abbrev pub line_fields : Line → List (List ℕ)
line_fields line.Title = codes "arbscan" ∷ codes "report" ∷ decimal 1 ∷ []
line_fields (line.Pivots pivots) = codes "pivots" ∷ decimal pivots ∷ []
line_fields (line.Feed feed) = feed_fields feed
line_fields (line.Refused feed refusal) = refusal_fields feed refusal
line_fields (line.Match match_name offers) = codes "match" ∷ match_name ∷ codes "offers" ∷ decimal offers ∷ []
line_fields (line.Offer offer) = offer_fields offer
line_fields (line.Found finding) = codes "finding" ∷ finding_text finding ∷ []
line_fields line.End = codes "end" ∷ []

-- the one text of a line, without its line feed
abbrev pub line_text : Line → List ℕ
line_text l = join_with_byte 32 (line_fields l)

-- the same with its line feed
abbrev pub ended : Line → List ℕ
ended l = line_text l ++ 10 ∷ []

-- the text of lines one after another
abbrev pub lines_text : List Line → List ℕ
lines_text lines = flat_map ended lines

-- the lines of a report

abbrev pub line_of_feed : ℕ → FeedPart → FeedLine
line_of_feed number part = record { number = number; header = part.header; lines = part.lines; refused = length part.refusals; stop = part.stop }

abbrev pub line_of_offer : Offer → OfferLine
line_of_offer offer = record { feed = offer.feed; selection = offer.selection; odds = offer.odds; limit = offer.limit }

-- a feed by its number, and then each of its refused lines
abbrev pub lines_of_feed : ℕ × FeedPart → List Line
lines_of_feed numbered = line.Feed (line_of_feed numbered.0 numbered.1) ∷ map (λ refusal. line.Refused numbered.0 refusal) numbered.1.refusals

-- a match, each of its offers, and its finding
abbrev pub lines_of_match : MatchPart → List Line
lines_of_match part = line.Match part.match_name (length part.sheet) ∷ (map (λ offer. line.Offer (line_of_offer offer)) part.sheet ++ line.Found part.finding ∷ [])

-- the lines of the report of this budget of pivots, these feeds and these matches
unfoldable pub report_lines : ℕ → List FeedPart → List MatchPart → List Line
report_lines pivots feeds matches =
    line.Title ∷ line.Pivots pivots ∷ (flat_map lines_of_feed (enumerate_from 0 feeds) ++ (flat_map lines_of_match matches ++ line.End ∷ []))

-- a line by itself

-- a feed that a report can name: its counts are in their ranges, and it was read to its end, to a limit of size, or to a fault of reading
pub record IsFeedLine (feed : FeedLine) : Type 0 where
  pub number : feed.number < MOST_FEEDS
  pub book : IsNameText feed.header.book
  pub stop : IsTrue (is_reported feed.stop)
  pub lines : feed.lines ≤ MOST_LINES
  pub some_lines : feed.lines ≡ 0 → stop_text feed.stop ≡ codes "fault"
  pub refused : (feed.refused ≡ 0) ⊎ (feed.refused < feed.lines)

-- a refused line is none of a header, and no column lies more than one behind the longest line
pub record IsRefusalLine (feed : ℕ) (refusal : Refusal) : Type 0 where
  pub number : feed < MOST_FEEDS
  pub line : (2 ≤ refusal.place.line) × (refusal.place.line ≤ MOST_LINES)
  pub column : (1 ≤ refusal.place.column) × (refusal.place.column ≤ MOST_LINE_BYTES + 1)

pub record IsOfferLine (offer : OfferLine) : Type 0 where
  pub feed : offer.feed < MOST_FEEDS
  pub limit : (1 ≤ offer.limit) × (offer.limit ≤ MOST_LIMIT)

-- what a line says is in its range
abbrev pub IsInRange : Line → Type 0
IsInRange line.Title = Unit {0}
IsInRange (line.Pivots pivots) = (1 ≤ pivots) × (pivots ≤ MOST_PIVOTS)
IsInRange (line.Feed feed) = IsFeedLine feed
IsInRange (line.Refused feed refusal) = IsRefusalLine feed refusal
IsInRange (line.Match match_name offers) = IsNameText match_name × (offers ≤ MOST_OFFERS)
IsInRange (line.Offer offer) = IsOfferLine offer
IsInRange (line.Found finding) = IsReadable finding
IsInRange line.End = Unit {0}

-- a line that some report can have: it is in its range, and its text is not too long
pub record IsLine (l : Line) : Type 0 where
  pub in_range : IsInRange l
  pub short : length (line_text l) ≤ MOST_REPORT_LINE_BYTES
