-- Two histories, each with the sheets of its matches at every version, worked out by hand.
use Rattle.std.specs.Prelude.{ℕ, suc, ◌≡◌, List, [], ◌∷◌, map, codes, Option, Some}
use Rattle.std.proofs.Common.{lit≤}
use Rattle.scan_types.specs.declared.line.TotalLine.{TotalLine}
use Rattle.scan_types.specs.declared.odds.Odds.{Odds}
use Rattle.scan_types.specs.declared.offer.Offer.{Offer}
use Rattle.scan_types.specs.declared.rule.VoidRule.{VoidRule}
use Rattle.scan_types.specs.declared.rule.VoidRule.TheVariants.{Void, Decided}
use Rattle.scan_types.specs.declared.selection.Selection.{Selection}
use Rattle.scan_types.specs.declared.selection.Selection.TheVariants.{Home, Draw, Away, Over, Under}
use Rattle.board_definitions.specs.declared.event.FeedStop.TheVariants.{End, Cut}
use Rattle.board_definitions.specs.declared.event.Event.{Event}
use Rattle.board_definitions.specs.declared.event.Event.TheVariants.{Quoted, Withdrawn, Ended, Pinned, Released}
use Rattle.board_definitions.specs.declared.event.Entry.{Entry}
use Rattle.board_definitions.specs.Sheets.{sheet}

-- an offer as a table has it: its feed, its selection, its odds in thousandths, its limit and its rule
abbrev pub Terms : Type 0
Terms = ℕ × Selection × ℕ × ℕ × VoidRule

abbrev pub terms_of : Offer → Terms
terms_of offer = (offer.feed, offer.selection, offer.odds.thousandths, offer.limit, offer.rule)

-- a match has these sheets, the first of which is that of this version
abbrev pub HasSheets : List (Option VoidRule) → List Entry → List ℕ → ℕ → List (List Terms) → Type 0
HasSheets rules history match_name version [] = Unit {0}
HasSheets rules history match_name version (terms ∷ later) =
    (map terms_of (sheet rules history version match_name) ≡ terms) × HasSheets rules history match_name (suc version) later

-- odds of 1.900, 2.000, 2.200, 2.500, 3.000 and 4.000
abbrev pub odds_1900 : Odds
odds_1900 = record { thousandths = 1900; at_least = lit≤ tt; at_most = lit≤ tt }

abbrev pub odds_2000 : Odds
odds_2000 = record { thousandths = 2000; at_least = lit≤ tt; at_most = lit≤ tt }

abbrev pub odds_2200 : Odds
odds_2200 = record { thousandths = 2200; at_least = lit≤ tt; at_most = lit≤ tt }

abbrev pub odds_2500 : Odds
odds_2500 = record { thousandths = 2500; at_least = lit≤ tt; at_most = lit≤ tt }

abbrev pub odds_3000 : Odds
odds_3000 = record { thousandths = 3000; at_least = lit≤ tt; at_most = lit≤ tt }

abbrev pub odds_4000 : Odds
odds_4000 = record { thousandths = 4000; at_least = lit≤ tt; at_most = lit≤ tt }

-- a total of 2.50
abbrev pub total_250 : TotalLine
total_250 = record { quarters = 10; at_least = lit≤ tt; at_most = lit≤ tt }

-- entries: a feed's quote and withdrawal and its end; and what a caller beside the feeds adds
abbrev pub quoted : ℕ → List ℕ → Selection → Odds → ℕ → ℕ → Entry
quoted feed match_name selection odds limit line = record {
  caller = suc feed;
  event = Quoted (record { feed = feed; match_name = match_name; selection = selection }) odds limit line;
}

abbrev pub withdrawn : ℕ → List ℕ → Selection → ℕ → Entry
withdrawn feed match_name selection line = record {
  caller = suc feed;
  event = Withdrawn (record { feed = feed; match_name = match_name; selection = selection }) line;
}

abbrev pub by_caller : ℕ → Event → Entry
by_caller caller event = record { caller = caller; event = event }

abbrev pub m1 : List ℕ
m1 = codes "m1"

abbrev pub m2 : List ℕ
m2 = codes "m2"

-- the first history, of two feeds: a pin and its release, a quote replaced, one withdrawn and quoted again, and both ends
abbrev pub two_feeds : List (Option VoidRule)
two_feeds = Some Void ∷ Some Decided ∷ []

abbrev pub two_feeds_history : List Entry
two_feeds_history =
    quoted 0 m1 Home odds_2000 100 2
    ∷ by_caller 3 (Pinned m1)
    ∷ quoted 1 m1 Home odds_1900 50 2
    ∷ quoted 0 m2 Draw odds_3000 100 3
    ∷ quoted 0 m1 Home odds_2200 70 4
    ∷ withdrawn 0 m1 Home 5
    ∷ by_caller 3 (Released 1)
    ∷ quoted 0 m1 Away odds_4000 100 6
    ∷ quoted 0 m1 Home odds_2500 10 7
    ∷ by_caller 1 (Ended 0 End)
    ∷ withdrawn 1 m1 Home 3
    ∷ by_caller 2 (Ended 1 Cut)
    ∷ []

abbrev pub first_match_sheets : List (List Terms)
first_match_sheets =
    []
    ∷ ((0, Home, 2000, 100, Void) ∷ [])
    ∷ ((0, Home, 2000, 100, Void) ∷ [])
    ∷ ((0, Home, 2000, 100, Void) ∷ (1, Home, 1900, 50, Decided) ∷ [])
    ∷ ((0, Home, 2000, 100, Void) ∷ (1, Home, 1900, 50, Decided) ∷ [])
    ∷ ((0, Home, 2200, 70, Void) ∷ (1, Home, 1900, 50, Decided) ∷ [])
    ∷ ((1, Home, 1900, 50, Decided) ∷ [])
    ∷ ((1, Home, 1900, 50, Decided) ∷ [])
    ∷ ((0, Away, 4000, 100, Void) ∷ (1, Home, 1900, 50, Decided) ∷ [])
    ∷ ((0, Home, 2500, 10, Void) ∷ (0, Away, 4000, 100, Void) ∷ (1, Home, 1900, 50, Decided) ∷ [])
    ∷ ((0, Home, 2500, 10, Void) ∷ (0, Away, 4000, 100, Void) ∷ (1, Home, 1900, 50, Decided) ∷ [])
    ∷ ((0, Home, 2500, 10, Void) ∷ (0, Away, 4000, 100, Void) ∷ [])
    ∷ ((0, Home, 2500, 10, Void) ∷ (0, Away, 4000, 100, Void) ∷ [])
    ∷ []

abbrev pub second_match_sheets : List (List Terms)
second_match_sheets =
    [] ∷ [] ∷ [] ∷ []
    ∷ ((0, Draw, 3000, 100, Void) ∷ [])
    ∷ ((0, Draw, 3000, 100, Void) ∷ [])
    ∷ ((0, Draw, 3000, 100, Void) ∷ [])
    ∷ ((0, Draw, 3000, 100, Void) ∷ [])
    ∷ ((0, Draw, 3000, 100, Void) ∷ [])
    ∷ ((0, Draw, 3000, 100, Void) ∷ [])
    ∷ ((0, Draw, 3000, 100, Void) ∷ [])
    ∷ ((0, Draw, 3000, 100, Void) ∷ [])
    ∷ ((0, Draw, 3000, 100, Void) ∷ [])
    ∷ []

-- the second history, of one feed: a draw quoted after a total, which comes before it in the sheet, and the total withdrawn
abbrev pub one_feed : List (Option VoidRule)
one_feed = Some Decided ∷ []

abbrev pub one_feed_history : List Entry
one_feed_history =
    quoted 0 m2 (Over total_250) odds_2000 1 2
    ∷ quoted 0 m2 Draw odds_3000 100000000 3
    ∷ quoted 0 m2 (Under total_250) odds_1900 7 5
    ∷ withdrawn 0 m2 (Over total_250) 6
    ∷ quoted 0 m2 Draw odds_3000 100000000 7
    ∷ []

abbrev pub one_feed_sheets : List (List Terms)
one_feed_sheets =
    []
    ∷ ((0, Over total_250, 2000, 1, Decided) ∷ [])
    ∷ ((0, Draw, 3000, 100000000, Decided) ∷ (0, Over total_250, 2000, 1, Decided) ∷ [])
    ∷ ((0, Draw, 3000, 100000000, Decided) ∷ (0, Over total_250, 2000, 1, Decided) ∷ (0, Under total_250, 1900, 7, Decided) ∷ [])
    ∷ ((0, Draw, 3000, 100000000, Decided) ∷ (0, Under total_250, 1900, 7, Decided) ∷ [])
    ∷ ((0, Draw, 3000, 100000000, Decided) ∷ (0, Under total_250, 1900, 7, Decided) ∷ [])
    ∷ []

-- each match of both histories has these sheets
abbrev pub HaveWorkedSheets : Type 0
HaveWorkedSheets =
    HasSheets two_feeds two_feeds_history m1 0 first_match_sheets
    × HasSheets two_feeds two_feeds_history m2 0 second_match_sheets
    × HasSheets one_feed one_feed_history m2 0 one_feed_sheets
