-- Texts worked through the definitions: each comes out as a reader of the format expects.
use Rattle.std.proofs.Common.{◌≡◌, ℕ, Bool, false, true, List, [], ◌∷◌, ◌++◌, map, refl}
use Rattle.std.specs.Prelude.{codes}
use Rattle.scan_types.specs.Selections.{selection_number}
use Rattle.feed_definitions.specs.declared.cause.Cause.{Cause}
use Rattle.feed_definitions.specs.declared.cause.Cause.TheVariants as cause
use Rattle.feed_definitions.specs.declared.accepted.Change.{Change}
use Rattle.feed_definitions.specs.declared.accepted.Change.TheVariants as change
use Rattle.feed_definitions.specs.declared.step.Step.{Step}
use Rattle.feed_definitions.specs.declared.step.Step.TheVariants as step
use Rattle.feed_definitions.specs.Forms.{header_of, header_form, line_form, request_form, bet_line_form, selection_form, change_form}
use Rattle.feed_definitions.specs.Feed.{steps, feed_steps, line_steps}

-- a step in short: the columns and causes of refusals, the numbers of an accepted line
data Short : Type 0 where
  Book : List ℕ → Short
  Refuses : ℕ → ℕ → Cause → Short
  BadBook : ℕ → Cause → Short
  Quotes : ℕ → ℕ → ℕ → ℕ → Short
  Withdraws : ℕ → ℕ → Short
  Skips : Short
  Ends : Short
  Cuts : Short
  Fails : Short

abbrev short_change : ℕ → ℕ → Change → Short
short_change line number (change.Quote odds limit) = Quotes line number odds.thousandths limit
short_change line number change.Withdraw = Withdraws line number

abbrev short : Step → Short
short (step.Header header) = Book header.book
short (step.BadHeader refusal) = BadBook refusal.place.column refusal.cause
short (step.Line line) = short_change line.line (selection_number line.selection) line.change
short (step.Refused refusal) = Refuses refusal.place.line refusal.place.column refusal.cause
short step.Skipped = Skips
short step.End = Ends
short step.Cut = Cuts
short step.ReadFault = Fails

-- a text of which each of these lines has a line feed at its end
abbrev ended : List (List ℕ) → List ℕ
ended [] = []
ended (line ∷ lines) = line ++ (10 ∷ ended lines)

abbrev head : List ℕ
head = codes "feed 1 alpha void"

abbrev says : Bool → List ℕ → List Short
says failed text = map short (steps failed text)

no_bytes : says false []
    ≡ BadBook 1 cause.Missing ∷ []
unfolding steps feed_steps header_of header_form line_steps line_form request_form bet_line_form selection_form change_form Rattle.number_definitions.specs.Readings.thousandths_of_parts Rattle.number_definitions.specs.Readings.quarters_of Rattle.number_definitions.specs.Readings.quarters_of_parts Rattle.number_definitions.specs.Values.odds_with Rattle.number_definitions.specs.Values.handicap_with Rattle.number_definitions.specs.Values.total_with
no_bytes = refl

no_bytes_and_a_fault : says true []
    ≡ Fails ∷ []
unfolding steps feed_steps header_of header_form line_steps line_form request_form bet_line_form selection_form change_form Rattle.number_definitions.specs.Readings.thousandths_of_parts Rattle.number_definitions.specs.Readings.quarters_of Rattle.number_definitions.specs.Readings.quarters_of_parts Rattle.number_definitions.specs.Values.odds_with Rattle.number_definitions.specs.Values.handicap_with Rattle.number_definitions.specs.Values.total_with
no_bytes_and_a_fault = refl

an_empty_line_1 : says false (10 ∷ [])
    ≡ BadBook 1 cause.Missing ∷ []
unfolding steps feed_steps header_of header_form line_steps line_form request_form bet_line_form selection_form change_form Rattle.number_definitions.specs.Readings.thousandths_of_parts Rattle.number_definitions.specs.Readings.quarters_of Rattle.number_definitions.specs.Readings.quarters_of_parts Rattle.number_definitions.specs.Values.odds_with Rattle.number_definitions.specs.Values.handicap_with Rattle.number_definitions.specs.Values.total_with
an_empty_line_1 = refl

a_comment_as_line_1 : says false (ended (codes "# feed" ∷ head ∷ []))
    ≡ BadBook 1 cause.UnknownWord ∷ []
unfolding steps feed_steps header_of header_form line_steps line_form request_form bet_line_form selection_form change_form Rattle.number_definitions.specs.Readings.thousandths_of_parts Rattle.number_definitions.specs.Readings.quarters_of Rattle.number_definitions.specs.Readings.quarters_of_parts Rattle.number_definitions.specs.Values.odds_with Rattle.number_definitions.specs.Values.handicap_with Rattle.number_definitions.specs.Values.total_with
a_comment_as_line_1 = refl

a_header_alone : says false (ended (head ∷ []))
    ≡ Book (codes "alpha") ∷ Ends ∷ []
unfolding steps feed_steps header_of header_form line_steps line_form request_form bet_line_form selection_form change_form Rattle.number_definitions.specs.Readings.thousandths_of_parts Rattle.number_definitions.specs.Readings.quarters_of Rattle.number_definitions.specs.Readings.quarters_of_parts Rattle.number_definitions.specs.Values.odds_with Rattle.number_definitions.specs.Values.handicap_with Rattle.number_definitions.specs.Values.total_with
a_header_alone = refl

a_header_that_is_not_ended : says true head
    ≡ Fails ∷ []
unfolding steps feed_steps header_of header_form line_steps line_form request_form bet_line_form selection_form change_form Rattle.number_definitions.specs.Readings.thousandths_of_parts Rattle.number_definitions.specs.Readings.quarters_of Rattle.number_definitions.specs.Readings.quarters_of_parts Rattle.number_definitions.specs.Values.odds_with Rattle.number_definitions.specs.Values.handicap_with Rattle.number_definitions.specs.Values.total_with
a_header_that_is_not_ended = refl

a_version_that_is_none : says false (codes "feed 2 alpha void")
    ≡ BadBook 6 cause.UnknownWord ∷ []
unfolding steps feed_steps header_of header_form line_steps line_form request_form bet_line_form selection_form change_form Rattle.number_definitions.specs.Readings.thousandths_of_parts Rattle.number_definitions.specs.Readings.quarters_of Rattle.number_definitions.specs.Readings.quarters_of_parts Rattle.number_definitions.specs.Values.odds_with Rattle.number_definitions.specs.Values.handicap_with Rattle.number_definitions.specs.Values.total_with
a_version_that_is_none = refl

a_quote_and_its_withdrawals : says false (ended (head ∷ codes "quote m1 1x2 home 2.1 100" ∷ codes "withdraw m1 1x2 home" ∷ codes "withdraw m1 1x2 home" ∷ []))
    ≡ Book (codes "alpha") ∷ Quotes 2 0 2100 100 ∷ Withdraws 3 0 ∷ Refuses 4 10 cause.NotQuoted ∷ Ends ∷ []
unfolding steps feed_steps header_of header_form line_steps line_form request_form bet_line_form selection_form change_form Rattle.number_definitions.specs.Readings.thousandths_of_parts Rattle.number_definitions.specs.Readings.quarters_of Rattle.number_definitions.specs.Readings.quarters_of_parts Rattle.number_definitions.specs.Values.odds_with Rattle.number_definitions.specs.Values.handicap_with Rattle.number_definitions.specs.Values.total_with
a_quote_and_its_withdrawals = refl

a_line_of_another_form : says false (ended (head ∷ codes "quote m1 ah -0.30 home 1.9 100" ∷ []))
    ≡ Book (codes "alpha") ∷ Refuses 2 13 cause.BadLine ∷ Ends ∷ []
unfolding steps feed_steps header_of header_form line_steps line_form request_form bet_line_form selection_form change_form Rattle.number_definitions.specs.Readings.thousandths_of_parts Rattle.number_definitions.specs.Readings.quarters_of Rattle.number_definitions.specs.Readings.quarters_of_parts Rattle.number_definitions.specs.Values.odds_with Rattle.number_definitions.specs.Values.handicap_with Rattle.number_definitions.specs.Values.total_with
a_line_of_another_form = refl

odds_at_their_ends : says false (ended (head ∷ codes "quote m1 1x2 home 1.000 100" ∷ codes "quote m1 1x2 home 1000.001 100" ∷ codes "quote m1 1x2 home 1.001 100" ∷ codes "quote m1 1x2 home 1000.000 100" ∷ codes "quote m1 1x2 home 2.0" ∷ []))
    ≡ Book (codes "alpha") ∷ Refuses 2 19 cause.OddsRange ∷ Refuses 3 19 cause.OddsRange ∷ Quotes 4 0 1001 100 ∷ Quotes 5 0 1000000 100 ∷ Refuses 6 22 cause.Missing ∷ Ends ∷ []
unfolding steps feed_steps header_of header_form line_steps line_form request_form bet_line_form selection_form change_form Rattle.number_definitions.specs.Readings.thousandths_of_parts Rattle.number_definitions.specs.Readings.quarters_of Rattle.number_definitions.specs.Readings.quarters_of_parts Rattle.number_definitions.specs.Values.odds_with Rattle.number_definitions.specs.Values.handicap_with Rattle.number_definitions.specs.Values.total_with
odds_at_their_ends = refl

a_field_before_a_missing_one : says false (ended (head ∷ codes "quote m1 1x2 home 1.000" ∷ codes "withdraw m1 1x2 home 2" ∷ []))
    ≡ Book (codes "alpha") ∷ Refuses 2 19 cause.OddsRange ∷ Refuses 3 22 cause.Extra ∷ Ends ∷ []
unfolding steps feed_steps header_of header_form line_steps line_form request_form bet_line_form selection_form change_form Rattle.number_definitions.specs.Readings.thousandths_of_parts Rattle.number_definitions.specs.Readings.quarters_of Rattle.number_definitions.specs.Readings.quarters_of_parts Rattle.number_definitions.specs.Values.odds_with Rattle.number_definitions.specs.Values.handicap_with Rattle.number_definitions.specs.Values.total_with
a_field_before_a_missing_one = refl

carriage_returns : says false ((head ++ 13 ∷ 10 ∷ []) ++ (codes "quote m1 total 2.5 over 2.1 7" ++ 13 ∷ 10 ∷ []) ++ (codes "quote m1 ah +0.25 away 3 8" ++ 13 ∷ []))
    ≡ Book (codes "alpha") ∷ Quotes 2 93 2100 7 ∷ Quotes 3 65 3000 8 ∷ Ends ∷ []
unfolding steps feed_steps header_of header_form line_steps line_form request_form bet_line_form selection_form change_form Rattle.number_definitions.specs.Readings.thousandths_of_parts Rattle.number_definitions.specs.Readings.quarters_of Rattle.number_definitions.specs.Readings.quarters_of_parts Rattle.number_definitions.specs.Values.odds_with Rattle.number_definitions.specs.Values.handicap_with Rattle.number_definitions.specs.Values.total_with
carriage_returns = refl

a_line_that_is_not_ended_and_a_fault : says true (ended (head ∷ []) ++ codes "quote m1 1x2 home 2.1 100")
    ≡ Book (codes "alpha") ∷ Fails ∷ []
unfolding steps feed_steps header_of header_form line_steps line_form request_form bet_line_form selection_form change_form Rattle.number_definitions.specs.Readings.thousandths_of_parts Rattle.number_definitions.specs.Readings.quarters_of Rattle.number_definitions.specs.Readings.quarters_of_parts Rattle.number_definitions.specs.Values.odds_with Rattle.number_definitions.specs.Values.handicap_with Rattle.number_definitions.specs.Values.total_with
a_line_that_is_not_ended_and_a_fault = refl

skipped_lines : says false (ended (head ∷ [] ∷ codes "  " ∷ codes " # x" ∷ (13 ∷ []) ∷ []))
    ≡ Book (codes "alpha") ∷ Skips ∷ Skips ∷ Skips ∷ Skips ∷ Ends ∷ []
unfolding steps feed_steps header_of header_form line_steps line_form request_form bet_line_form selection_form change_form Rattle.number_definitions.specs.Readings.thousandths_of_parts Rattle.number_definitions.specs.Readings.quarters_of Rattle.number_definitions.specs.Readings.quarters_of_parts Rattle.number_definitions.specs.Values.odds_with Rattle.number_definitions.specs.Values.handicap_with Rattle.number_definitions.specs.Values.total_with
skipped_lines = refl

a_return_in_a_line : says false (ended (head ∷ (codes "withdraw" ++ 13 ∷ 13 ∷ []) ∷ []))
    ≡ Book (codes "alpha") ∷ Refuses 2 9 cause.NotAscii ∷ Ends ∷ []
unfolding steps feed_steps header_of header_form line_steps line_form request_form bet_line_form selection_form change_form Rattle.number_definitions.specs.Readings.thousandths_of_parts Rattle.number_definitions.specs.Readings.quarters_of Rattle.number_definitions.specs.Readings.quarters_of_parts Rattle.number_definitions.specs.Values.odds_with Rattle.number_definitions.specs.Values.handicap_with Rattle.number_definitions.specs.Values.total_with
a_return_in_a_line = refl
