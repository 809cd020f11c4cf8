-- Which line of a report may come behind which, with the counts that the lines before it announced.
use Rattle.std.specs.Prelude.{ℕ, ◌≡◌, ◌≢◌, ◌+◌, ◌*◌, ◌<◌, ◌≤◌, ◌⊎◌, Bool, true, false, List, [], ◌∷◌, ◌++◌, length, All, Option, Some, None}
use Rattle.std.specs.List.{filter_map}
use Rattle.std.specs.Cmp.Lexicographic.{slice_cmp}
use Rattle.std.specs.Ordering.{nat_cmp}
use Rattle.std.specs.declared.cmp.Ordering.TheVariants as ordering
use Rattle.scan_types.specs.declared.limits.TheConstants.{MOST_FEEDS, MOST_MATCHES, MOST_REPORT_BYTES}
use Rattle.scan_types.specs.Selections.{selection_number}
use Rattle.feed_definitions.specs.declared.cause.Refusal.{Refusal}
use Rattle.report_definitions.specs.declared.line.FeedLine.{FeedLine}
use Rattle.report_definitions.specs.declared.line.OfferLine.{OfferLine}
use Rattle.report_definitions.specs.declared.line.Line.{Line}
use Rattle.report_definitions.specs.declared.line.Line.TheVariants as line
use Rattle.report_definitions.specs.Lines.{IsLine, lines_text}

-- what stands among lines

abbrev pub feed_of : Line → Option FeedLine
feed_of (line.Feed feed) = Some feed
feed_of _ = None

abbrev pub refusal_of : Line → Option Refusal
refusal_of (line.Refused feed refusal) = Some refusal
refusal_of _ = None

abbrev pub name_of : Line → Option (List ℕ)
name_of (line.Match match_name offers) = Some match_name
name_of _ = None

abbrev pub offer_of : Line → Option OfferLine
offer_of (line.Offer offer) = Some offer
offer_of _ = None

-- the feeds among the lines
abbrev pub feeds_in : List Line → List FeedLine
feeds_in lines = filter_map feed_of lines

-- the names of the matches among the lines
abbrev pub names_in : List Line → List (List ℕ)
names_in lines = filter_map name_of lines

-- the line opens a part of the report: a feed with its refused lines, or a match with its offers and its finding
abbrev pub opens : Line → Bool
opens (line.Feed feed) = true
opens (line.Match match_name offers) = true
opens _ = false

-- this is the last feed or match among the lines, and these lines stand behind it
pub record IsLastPart (lines : List Line) (opening : Line) (behind : List Line) : Type 0 where
  pub before : List Line
  pub parts : lines ≡ before ++ opening ∷ behind
  pub is_opening : opens opening ≡ true
  pub last : All (λ l. opens l ≡ false) behind

-- how many lines a line announces: a feed its refused lines, a match its offers and its finding
abbrev pub announced : Line → ℕ
announced (line.Feed feed) = feed.refused
announced (line.Match match_name offers) = offers + 1
announced _ = 0

-- there is a feed, and behind the last feed or match stand as many lines as it announced
pub record IsComplete (lines : List Line) : Type 0 where
  pub opening : Line
  pub behind : List Line
  pub part : IsLastPart lines opening behind
  pub all : length behind ≡ announced opening

-- which line may come behind these lines

-- a feed: behind the title and the pivots, or behind a feed that is complete, with the next number and a book of its own
pub record ComesFeed (lines : List Line) (feed : FeedLine) : Type 0 where
  pub place : ((length lines ≡ 2) × (feeds_in lines ≡ [])) ⊎ IsComplete lines
  pub no_match : names_in lines ≡ []
  pub next : feed.number ≡ length (feeds_in lines)
  pub own_book : All (λ other. other.header.book ≢ feed.header.book) (feeds_in lines)

-- a refused line: of the last feed, which announced more of them, and below those before it
pub record ComesRefusal (lines : List Line) (number : ℕ) (refusal : Refusal) : Type 0 where
  pub feed : FeedLine
  pub behind : List Line
  pub part : IsLastPart lines (line.Feed feed) behind
  pub same_feed : number ≡ feed.number
  pub due : length behind < feed.refused
  pub within : refusal.place.line ≤ feed.lines
  pub rising : All (λ other. other.place.line < refusal.place.line) (filter_map refusal_of behind)

-- a match: behind a feed or a match that is complete, its name above those before it, and not too many of them
pub record ComesMatch (lines : List Line) (match_name : List ℕ) : Type 0 where
  pub place : IsComplete lines
  pub rising : All (λ other. slice_cmp nat_cmp other match_name ≡ ordering.Less) (names_in lines)
  pub few : length (names_in lines) < MOST_FEEDS * MOST_MATCHES

-- the first offer comes before the second: by feed, and within a feed by selection
abbrev pub IsOfferBelow : OfferLine → OfferLine → Type 0
IsOfferBelow a b = (a.feed < b.feed) ⊎ ((a.feed ≡ b.feed) × (selection_number a.selection < selection_number b.selection))

-- an offer: of a feed that is named, on the last match, which announced more of them, and behind those before it
pub record ComesOffer (lines : List Line) (offer : OfferLine) : Type 0 where
  pub match_name : List ℕ
  pub offers : ℕ
  pub behind : List Line
  pub part : IsLastPart lines (line.Match match_name offers) behind
  pub due : length behind < offers
  pub named : offer.feed < length (feeds_in lines)
  pub rising : All (λ other. IsOfferBelow other offer) (filter_map offer_of behind)

-- a finding: behind all offers of the last match
pub record ComesFinding (lines : List Line) : Type 0 where
  pub match_name : List ℕ
  pub offers : ℕ
  pub behind : List Line
  pub part : IsLastPart lines (line.Match match_name offers) behind
  pub due : length behind ≡ offers

-- each kind of line in its place
abbrev pub Comes : List Line → Line → Type 0
Comes lines line.Title = lines ≡ []
Comes lines (line.Pivots pivots) = lines ≡ line.Title ∷ []
Comes lines (line.Feed feed) = ComesFeed lines feed
Comes lines (line.Refused feed refusal) = ComesRefusal lines feed refusal
Comes lines (line.Match match_name offers) = ComesMatch lines match_name
Comes lines (line.Offer offer) = ComesOffer lines offer
Comes lines (line.Found finding) = ComesFinding lines
Comes lines line.End = IsComplete lines

-- the line may come behind these lines, and with it the text is not too long
pub record MayCome (lines : List Line) (l : Line) : Type 0 where
  pub itself : IsLine l
  pub comes : Comes lines l
  pub size : length (lines_text (lines ++ l ∷ [])) ≤ MOST_REPORT_BYTES

-- each of the lines may come behind those before it
abbrev pub AreInOrder : List Line → Type 0
AreInOrder lines = (before : List Line) (l : Line) (after : List Line) → lines ≡ before ++ l ∷ after → MayCome before l

-- the last of the lines is the end
abbrev pub AreWhole : List Line → Type 0
AreWhole lines = (before : List Line) × (lines ≡ before ++ line.End ∷ [])
