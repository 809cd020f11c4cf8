-- The feeds of a run as they were read, one after another.
use Rattle.std.specs.Prelude.{ℕ, ◌≡◌, ◌≢◌, ◌<◌, ◌+◌, List, [], ◌∷◌, Option, Some, option_map, option_and_then, slice_get, IsTrue, All, AllPairs}
use Rattle.scan_types.specs.declared.rule.VoidRule.{VoidRule}
use Rattle.feed_definitions.specs.declared.header.Header.{Header}
use Rattle.feed_definitions.specs.declared.step.Step.{Step}
use Rattle.feed_definitions.specs.declared.step.Step.TheVariants as step
use Rattle.feed_definitions.specs.Feed.{accepted_in}
use Rattle.board_definitions.specs.declared.event.FeedStop.TheVariants as stops
use Rattle.report_definitions.specs.Stops.{is_reported}
use Rattle.report_definitions.specs.Seen.{SeenFeed}
use Rattle.desk_definitions.specs.declared.feed_end.FeedEnd.{FeedEnd}
use Rattle.desk_definitions.specs.Ends.{IsFirstLineClear, IsReadSo}

-- what was read of a feed: the bytes taken of its source, and the steps of its lines that were answered
pub record FeedRead : Type 0 where
  pub text : List ℕ
  pub lines : List Step

-- the feeds from this number on ended so
abbrev pub AreReadSo : {S : Type 0} → (S → Option (List ℕ)) → (S → ℕ) → (ℕ → Option (List ℕ)) → ℕ → List (FeedEnd S) → List FeedRead → Type 0
AreReadSo left faults told number [] [] = Unit {0}
AreReadSo left faults told number [] (read ∷ reads) = ⊥
AreReadSo left faults told number (end ∷ ends) [] = ⊥
AreReadSo left faults told number (end ∷ ends) (read ∷ reads) =
    IsReadSo left faults (told number) number end read.text read.lines × AreReadSo left faults told (number + 1) ends reads

-- the header of the feed was read, and no more. Of how the feed stopped it says no more than that no read failed
pub record IsBegun {S : Type 0} (left : S → Option (List ℕ)) (faults : S → ℕ) (told : Option (List ℕ)) (number : ℕ) (end : FeedEnd S) (read : FeedRead)
    : Type 0 where
  pub header : Header
  pub first : read.lines ≡ step.Header header ∷ []
  pub so_far : IsReadSo left faults told number (record end { stop = stops.NoMemory }) read.text read.lines
  pub not_failed : end.stop ≢ stops.ReadFault
  pub clear : IsFirstLineClear (left end.source) read.text

-- so it is of the feeds from this number on
abbrev pub AreBegun : {S : Type 0} → (S → Option (List ℕ)) → (S → ℕ) → (ℕ → Option (List ℕ)) → ℕ → List (FeedEnd S) → List FeedRead → Type 0
AreBegun left faults told number [] [] = Unit {0}
AreBegun left faults told number [] (read ∷ reads) = ⊥
AreBegun left faults told number (end ∷ ends) [] = ⊥
AreBegun left faults told number (end ∷ ends) (read ∷ reads) =
    IsBegun left faults (told number) number end read × AreBegun left faults told (number + 1) ends reads

-- the book of a feed, if its header was read
abbrev pub book_of : {S : Type 0} → FeedEnd S → Option (List ℕ)
book_of end = option_map (λ header. header.book) end.header

-- the rule of the feed of this number, if its header was read
abbrev pub rule_at : {S : Type 0} → List (FeedEnd S) → ℕ → Option VoidRule
rule_at ends feed = option_and_then (λ end. option_map (λ header. header.rule) end.header) (slice_get ends feed)

-- the feeds before the later one are of different books, and the later one is of the book of the earlier one
pub record AreFirstTwins {S : Type 0} (ends : List (FeedEnd S)) (earlier later : ℕ) : Type 0 where
  pub book : List ℕ
  pub order : earlier < later
  pub one : option_and_then book_of (slice_get ends earlier) ≡ Some book
  pub other : option_and_then book_of (slice_get ends later) ≡ Some book
  pub first : (a b : ℕ) (name : List ℕ) → a < b → b < later → option_and_then book_of (slice_get ends a) ≡ Some name →
      option_and_then book_of (slice_get ends b) ≢ Some name

-- the feeds are of different books
abbrev pub AreOfDifferentBooks : {S : Type 0} → List (FeedEnd S) → Type 0
AreOfDifferentBooks ends = AllPairs (λ end later. book_of end ≢ book_of later) ends

-- a feed that was read, as the report sees it
pub record IsSeenAs {S : Type 0} (end : FeedEnd S) (read : FeedRead) (seen : SeenFeed) : Type 0 where
  pub header : end.header ≡ Some seen.part.header
  pub lines : seen.part.lines ≡ end.lines
  pub refusals : seen.part.refusals ≡ end.refusals
  pub stop : seen.part.stop ≡ end.stop
  pub accepted : seen.accepted ≡ accepted_in read.lines

-- so it is of each feed
abbrev pub AreSeenAs : {S : Type 0} → List (FeedEnd S) → List FeedRead → List SeenFeed → Type 0
AreSeenAs [] [] [] = Unit {0}
AreSeenAs (end ∷ ends) (read ∷ reads) (seen ∷ others) = IsSeenAs end read seen × AreSeenAs ends reads others
AreSeenAs _ _ _ = ⊥

-- each of the feeds was read to its end, to a limit of size, or to a fault of reading
abbrev pub AreRead : {S : Type 0} → List (FeedEnd S) → Type 0
AreRead ends = All (λ end. IsTrue (is_reported end.stop)) ends
