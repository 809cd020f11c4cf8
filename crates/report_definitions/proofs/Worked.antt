-- Two feeds worked through the definitions, from their bytes to what stands, and to lines of their report.
use Rattle.std.proofs.Common.{◌≡◌, ℕ, false, List, [], ◌∷◌, ◌++◌, refl, append_assoc, decimal}
use Rattle.std.specs.Prelude.{codes, Some, None, option_map}
use Rattle.scan_types.specs.declared.rule.VoidRule.TheVariants.{Void}
use Rattle.scan_types.specs.Selections.{selection_number}
use Rattle.feed_definitions.specs.declared.accepted.Accepted.{Accepted}
use Rattle.feed_definitions.specs.declared.accepted.Change.TheVariants.{Quote, Withdraw}
use Rattle.feed_definitions.specs.declared.cause.Cause.TheVariants.{BadOdds}
use Rattle.feed_definitions.specs.Forms.{header_of, header_form, line_form, request_form, bet_line_form, selection_form, change_form}
use Rattle.feed_definitions.specs.Feed.{accepted, steps, feed_steps, line_steps}
use Rattle.board_definitions.specs.declared.event.FeedStop.TheVariants.{End}
use Rattle.report_definitions.specs.declared.feed_part.FeedPart.{FeedPart}
use Rattle.report_definitions.specs.Seen.{SeenFeed, last_line, standing_offer, IsQuoted}
use Rattle.report_definitions.specs.Report.{feed_lines}

abbrev alpha_text : List ℕ
alpha_text = codes "feed 1 alpha void\nquote m1 1x2 home 2.1 100000\nquote m1 1x2 away 4.500 100000\nquote m2 1x2 home 2 5\nwithdraw m2 1x2 home\n"

abbrev beta_text : List ℕ
beta_text = codes "feed 1 beta void\nquote m1 1x2 draw 9 7\nquote m1 1x2 draw 4 100000\n"

abbrev part : List ℕ → ℕ → FeedPart
part book lines = record { header = record { book = book; rule = Void }; lines = lines; refusals = record { place = record { line = 6; column = 3 }; cause = BadOdds } ∷ []; stop = End; stop_is = refl }

abbrev feeds : List SeenFeed
feeds = record { part = part (codes "alpha") 6; accepted = accepted false alpha_text } ∷ record { part = part (codes "beta") 6; accepted = accepted false beta_text } ∷ []

-- a line in short: its number, the number of its selection, its odds and its limit, which are 0 for a withdrawal
abbrev short : Accepted → List ℕ
short line = elim line.change [
  | Quote odds limit ↦ line.line ∷ selection_number line.selection ∷ odds.thousandths ∷ limit ∷ []
  | Withdraw ↦ line.line ∷ selection_number line.selection ∷ 0 ∷ 0 ∷ []
]

-- the one quote of a selection
the_quote : option_map short (last_line feeds (codes "m1") 0 2) ≡ Some (3 ∷ 2 ∷ 4500 ∷ 100000 ∷ [])
unfolding steps feed_steps header_of header_form line_steps line_form request_form bet_line_form selection_form change_form Rattle.number_definitions.specs.Readings.thousandths_of_parts Rattle.number_definitions.specs.Values.odds_with
the_quote = refl

-- the later of two quotes
the_later_quote : option_map short (last_line feeds (codes "m1") 1 1) ≡ Some (3 ∷ 1 ∷ 4000 ∷ 100000 ∷ [])
unfolding steps feed_steps header_of header_form line_steps line_form request_form bet_line_form selection_form change_form Rattle.number_definitions.specs.Readings.thousandths_of_parts Rattle.number_definitions.specs.Values.odds_with
the_later_quote = refl

-- a selection that this feed does not quote
not_quoted : option_map short (last_line feeds (codes "m1") 1 2) ≡ None
unfolding steps feed_steps header_of header_form line_steps line_form request_form bet_line_form selection_form change_form Rattle.number_definitions.specs.Readings.thousandths_of_parts Rattle.number_definitions.specs.Values.odds_with
not_quoted = refl

-- what was withdrawn does not stand, and the match stays one of the report
withdrawn : standing_offer feeds (codes "m2") 0 0 ≡ None
unfolding steps feed_steps header_of header_form line_steps line_form request_form bet_line_form selection_form change_form Rattle.number_definitions.specs.Readings.thousandths_of_parts Rattle.number_definitions.specs.Values.odds_with
withdrawn = refl

still_quoted : IsQuoted feeds (codes "m2")
unfolding steps feed_steps header_of header_form line_steps line_form request_form bet_line_form selection_form change_form Rattle.number_definitions.specs.Readings.thousandths_of_parts Rattle.number_definitions.specs.Values.odds_with
still_quoted = record { feed = 0; quoted = refl }

-- texts one after another
abbrev all_of : List (List ℕ) → List ℕ
all_of [] = []
all_of (text ∷ texts) = text ++ all_of texts

-- the line of a feed, and those of its refused lines
the_feed : feed_lines (0, part (codes "alpha") 6)
    ≡ all_of (codes "feed " ∷ decimal 0 ∷ codes " alpha void lines " ∷ decimal 6 ∷ codes " refused " ∷ decimal 1 ∷ codes " end\nrefused " ∷ decimal 0 ∷ codes " " ∷ decimal 6 ∷ codes " " ∷ decimal 3 ∷ codes " BadOdds\n" ∷ [])
the_feed = simp append_assoc
