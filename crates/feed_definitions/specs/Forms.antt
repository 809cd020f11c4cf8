-- The forms of lines: a form is its fields from left to right, each with its test. The words of a bet stand in `bet_definitions`.
use Rattle.std.specs.Prelude.{ℕ, ◌+◌, ◌-◌, Bool, true, not, ◌==◌, ◌&&◌, ◌||◌, nat_lt, nat_le, List, [], ◌∷◌, length, take, slice_index_or, Option, Some, None, Result, Ok, Err, codes, if◌then◌else◌}
use Rattle.std.specs.List.{position}
use Rattle.std.specs.Option.{ok_or}
use Rattle.scan_types.specs.declared.limits.TheConstants.{MOST_LINE_BYTES}
use Rattle.scan_types.specs.declared.odds.Odds.{Odds}
use Rattle.scan_types.specs.declared.line.HandicapLine.{HandicapLine}
use Rattle.scan_types.specs.declared.line.TotalLine.{TotalLine}
use Rattle.scan_types.specs.declared.selection.Selection.{Selection}
use Rattle.scan_types.specs.Names.{is_name_text}
use Rattle.number_definitions.specs.Readings.{thousandths_of, limit_of, quarters_of}
use Rattle.number_definitions.specs.Values.{odds_with, limit_with, handicap_with, total_with, in_range}
use Rattle.bet_definitions.specs.declared.market.Market.{Market}
use Rattle.bet_definitions.specs.declared.market.LineKind.{LineKind}
use Rattle.bet_definitions.specs.declared.market.LineKind.TheVariants as kind
use Rattle.bet_definitions.specs.declared.market.BetLine.{BetLine}
use Rattle.bet_definitions.specs.declared.market.BetLine.TheVariants as at
use Rattle.bet_definitions.specs.Tables.{value_of}
use Rattle.bet_definitions.specs.Bets.{rule_words, market_words, line_kind, side_words}
use Rattle.feed_definitions.specs.declared.cause.Cause.{Cause}
use Rattle.feed_definitions.specs.declared.cause.Cause.TheVariants as cause
use Rattle.feed_definitions.specs.declared.cause.Fault.{Fault}
use Rattle.feed_definitions.specs.declared.header.Header.{Header}
use Rattle.feed_definitions.specs.declared.accepted.Change.{Change}
use Rattle.feed_definitions.specs.declared.accepted.Change.TheVariants.{Quote, Withdraw}
use Rattle.feed_definitions.specs.declared.request.Action.{Action}
use Rattle.feed_definitions.specs.declared.request.Action.TheVariants.{Quotes, Withdraws}
use Rattle.feed_definitions.specs.declared.request.Request.{Request}
use Rattle.feed_definitions.specs.declared.request.LineForm.{LineForm}
use Rattle.feed_definitions.specs.declared.request.LineForm.TheVariants.{Skipped, Wrong, Asks}
use Rattle.feed_definitions.specs.Fields.{Field, fields, Reader, ◌>>=◌, give, next, next_at, read_all}

-- the tests of one field

-- one of the words of a table, as what it stands for
abbrev pub one_of : {A : Type 0} → List (List ℕ × A) → List ℕ → Result A Cause
one_of table text = ok_or (value_of table text) cause.UnknownWord

abbrev pub name_value : List ℕ → Result (List ℕ) Cause
name_value text = if is_name_text text then Ok text else Err cause.BadName

abbrev pub odds_value : List ℕ → Result Odds Cause
odds_value text = in_range cause.BadOdds cause.OddsRange (thousandths_of text) odds_with

abbrev pub limit_value : List ℕ → Result ℕ Cause
limit_value text = in_range cause.BadLimit cause.LimitRange (limit_of text) limit_with

abbrev pub handicap_value : List ℕ → Result HandicapLine Cause
handicap_value text = in_range cause.BadLine cause.LineRange (quarters_of text) handicap_with

abbrev pub total_value : List ℕ → Result TotalLine Cause
total_value text = in_range cause.BadLine cause.LineRange (quarters_of text) total_with

-- the words

abbrev pub feed_words : List (List ℕ × Unit {0})
feed_words = (codes "feed", tt) ∷ []

abbrev pub version_words : List (List ℕ × Unit {0})
version_words = (codes "1", tt) ∷ []

abbrev pub action_words : List (List ℕ × Action)
action_words = (codes "quote", Quotes) ∷ (codes "withdraw", Withdraws) ∷ []

-- the forms

-- feed 1 BOOK RULE
unfoldable pub header_form : Reader Header
header_form = do
  word ← next (one_of feed_words)
  version ← next (one_of version_words)
  book ← next name_value
  rule ← next (one_of rule_words)
  give (record { book = book; rule = rule })

-- the line of a bet, and nothing if its market has no lines
unfoldable pub bet_line_form : LineKind → Reader BetLine
bet_line_form kind.NoLine = give at.NoLine
bet_line_form kind.Handicap = do
  line ← next handicap_value
  give (at.Handicap line)
bet_line_form kind.Total = do
  line ← next total_value
  give (at.Total line)

-- after the market: LINE SIDE, or SIDE if the market has no lines
unfoldable pub selection_form : Market → Reader Selection
selection_form market = do
  line ← bet_line_form (line_kind market)
  next (one_of (side_words market line))

-- after the selection: ODDS LIMIT of a quote, and nothing of a withdrawal
unfoldable pub change_form : Action → Reader Change
change_form Quotes = do
  odds ← next odds_value
  limit ← next limit_value
  give (Quote odds limit)
change_form Withdraws = give Withdraw

-- quote or withdraw, MATCH, 1x2, ah or total, and what follows those
unfoldable pub request_form : Reader Request
request_form = do
  action ← next (one_of action_words)
  found ← next_at name_value
  market ← next (one_of market_words)
  selection ← selection_form market
  change ← change_form action
  give (record { column = found.0; match_name = found.1; selection = selection; change = change })

-- the tests of a whole line

-- a line without the carriage return at its end, if one is there
abbrev pub without_return : List ℕ → List ℕ
without_return line = if slice_index_or line (length line - 1) 0 == 13 then take (length line - 1) line else line

-- a tab or a byte from 32 to 126
abbrev pub is_text_byte : ℕ → Bool
is_text_byte byte = byte == 9 || (nat_le 32 byte && nat_le byte 126)

abbrev pub ascii_or : {A : Type 0} → Option ℕ → Result A Fault → Result A Fault
ascii_or (Some index) read = Err (record { column = index + 1; cause = cause.NotAscii })
ascii_or None read = read

-- the fields of a text in this form, if each byte of the text is allowed
abbrev pub read_ascii : {A : Type 0} → Reader A → List ℕ → Result A Fault
read_ascii form text = ascii_or (position (λ byte. not (is_text_byte byte)) text) (read_all form text)

abbrev pub too_long : Fault
too_long = record { column = MOST_LINE_BYTES + 1; cause = cause.TooLong }

-- the line has more bytes before its line feed than a line may have, a carriage return counted
abbrev pub is_too_long : List ℕ → Bool
is_too_long line = nat_lt MOST_LINE_BYTES (length line)

-- no field, or the first one begins with `#`
abbrev pub is_skipped : List Field → Bool
is_skipped [] = true
is_skipped (field ∷ others) = slice_index_or field.bytes 0 0 == 35

-- the header that line 1 is, given as it stands before its line feed
unfoldable pub header_of : List ℕ → Result Header Fault
header_of line = if is_too_long line then Err too_long else read_ascii header_form (without_return line)

abbrev pub form_read : Result Request Fault → LineForm
form_read (Ok request) = Asks request
form_read (Err fault) = Wrong fault

-- what any other line is by itself, given as it stands before its line feed
unfoldable pub line_form : List ℕ → LineForm
line_form line =
    if is_too_long line then Wrong too_long
    else (if is_skipped (fields (without_return line)) then Skipped else form_read (read_ascii request_form (without_return line)))
