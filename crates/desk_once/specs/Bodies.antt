-- The bodies of feeds, read one after another onto a board.
use Rattle.std.specs.Prelude.{ℕ, ◌≡◌, ◌≢◌, ◌+◌, ◌≤◌, Bool, true, false, IsTrue, List, [], ◌∷◌, ◌++◌, length, map, Option, Some, All, IsSome}
use Rattle.scan_types.specs.declared.rule.VoidRule.{VoidRule}
use Rattle.feed_definitions.specs.declared.header.Header.{Header}
use Rattle.feed_definitions.specs.Feed.{accepted_in}
use Rattle.board_definitions.specs.declared.event.FeedStop.TheVariants as stops
use Rattle.board_definitions.specs.declared.event.Entry.{Entry}
use Rattle.board_definitions.specs.Entries.{rule_of}
use Rattle.report_definitions.specs.Stops.{is_reported}
use Rattle.quote_board.specs.Views.{BoardView}
use Rattle.feed_bodies.specs.Bodies.{with_entries}
use Rattle.desk_opening.specs.declared.begun.Begun.{Begun}
use Rattle.desk_opening.specs.Headers.{AreHeadersRead}
use Rattle.desk_definitions.specs.declared.feed_end.FeedEnd.{FeedEnd}
use Rattle.desk_definitions.specs.Ends.{IsReadSo}
use Rattle.desk_definitions.specs.Lines.{body_of}
use Rattle.desk_definitions.specs.Reads.{FeedRead, AreRead, AreReadSo}
use Rattle.desk_definitions.specs.History.{IsCutBody, bodies_of}

-- the headers of feeds, of which some were read and others only begun
abbrev pub headers_of : {S : Type 0} → List (FeedEnd S) → List (Begun S) → List (Option Header)
headers_of ends begun = map (λ end. end.header) ends ++ map (λ b. Some b.header) begun

-- the board has each of the feeds under the rule of its header
abbrev pub HasRules : List (Option VoidRule) → List (Option Header) → Type 0
HasRules rules headers = (feed : ℕ) (header : Header) → Rattle.std.specs.Prelude.slice_get headers feed ≡ Some (Some header) → rule_of rules feed ≡ Some header.rule

module _ {S : Type 0} (left : S → Option (List ℕ)) (faults : S → ℕ) (told : ℕ → Option (List ℕ)) where
  -- the next feed was read, and its body put on the board: whole, or up to where no memory was left
  pub record IsNextRead {W : Type 0} (header : Header) (before after : List (FeedEnd S)) (old new : BoardView W) (whole : Bool) : Type 0 where
    pub end : FeedEnd S
    pub read : FeedRead
    pub entries : List Entry
    pub ends_are : after ≡ before ++ end ∷ []
    pub header_is : end.header ≡ Some header
    pub read_is : IsReadSo left faults (told (length before)) (length before) end read.text read.lines
    pub board_is : new ≡ with_entries old entries
    pub when_whole : whole ≡ true → IsTrue (is_reported end.stop) × (entries ≡ body_of (length before) (accepted_in read.lines) end.stop)
    pub when_cut : whole ≡ false → IsCutBody (length before) read entries

  -- these feeds were read, and their bodies are on the board; the others were begun
  pub record AreReadSoFar (rules : List (Option VoidRule)) (ends : List (FeedEnd S)) (begun : List (Begun S)) (history : List Entry) : Type 0 where
    pub reads : List FeedRead
    pub read : AreReadSo left faults told 0 ends reads
    pub headers : All (λ end. IsSome end.header) ends
    pub stopped : AreRead ends
    pub history_is : history ≡ bodies_of 0 ends reads
    pub others : AreHeadersRead left told (length ends) begun
    pub rules_are : HasRules rules (headers_of ends begun)

  -- the last of these feeds was read up to where no memory was left; the others were begun
  pub record AreCutAt (ends : List (FeedEnd S)) (begun : List (Begun S)) (history : List Entry) : Type 0 where
    pub front : List (FeedEnd S)
    pub last : FeedEnd S
    pub ends_are : ends ≡ front ++ last ∷ []
    pub reads : List FeedRead
    pub read : AreReadSo left faults told 0 front reads
    pub stopped : AreRead front
    pub next : FeedRead
    pub next_read : IsReadSo left faults (told (length front)) (length front) last next.text next.lines
    pub entries : List Entry
    pub cut : IsCutBody (length front) next entries
    pub history_is : history ≡ bodies_of 0 front reads ++ entries
    pub others : AreHeadersRead left told (length ends) begun
