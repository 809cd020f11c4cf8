-- The lines of one feed on a board.
use Rattle.std.specs.Prelude.{ℕ, ◌≡◌, ◌+◌, ◌<◌, false, List, Option, None, IsSome, All}
use Rattle.std.specs.List.{filter_map}
use Rattle.scan_types.specs.declared.rule.VoidRule.{VoidRule}
use Rattle.scan_types.specs.Ranges.{IsLimitRange}
use Rattle.scan_types.specs.Selections.{selection_number}
use Rattle.feed_definitions.specs.declared.accepted.Accepted.{Accepted}
use Rattle.feed_definitions.specs.declared.accepted.Change.{Change}
use Rattle.feed_definitions.specs.declared.accepted.Change.TheVariants.{Quote, Withdraw}
use Rattle.feed_definitions.specs.Standing.{refused_for}
use Rattle.board_definitions.specs.declared.key.Key.{Key}
use Rattle.board_definitions.specs.declared.event.Entry.{Entry}
use Rattle.board_definitions.specs.Entries.{rule_of}
use Rattle.board_definitions.specs.Pins.{has_ended}
use Rattle.board_definitions.specs.Legal.{MayQuote, MayWithdraw}
use Rattle.report_laws.specs.Boards.{line_in}

-- the lines of the feed that the history holds, in order
abbrev pub lines_in : List Entry → ℕ → List Accepted
lines_in history feed = filter_map (λ (entry : Entry). line_in feed entry.event) history

-- the history holds these lines of the feed, which exists and has not ended
pub record HoldsLines (rules : List (Option VoidRule)) (history : List Entry) (feed : ℕ) (lines : List Accepted) : Type 0 where
  pub exists : IsSome (rule_of rules feed)
  pub running : has_ended history feed ≡ false
  pub lines_are : lines_in history feed ≡ lines

-- the limit of a quote is in range
abbrev pub HasLimit : Change → Type 0
HasLimit (Quote odds limit) = IsLimitRange limit
HasLimit Withdraw = Unit {0}

-- a feed may accept the line after these: it comes later, and what stands after them does not refuse it
pub record IsAcceptedAfter (before : List Accepted) (line : Accepted) : Type 0 where
  pub later : All (λ other. other.line < line.line) before
  pub in_range : HasLimit line.change
  pub not_refused : refused_for before line.match_name (selection_number line.selection) line.change ≡ None

-- the board may take a change from the feed's caller
abbrev pub MayTake : List (Option VoidRule) → List Entry → Key → ℕ → Change → Type 0
MayTake rules history key line (Quote odds limit) = MayQuote rules history (key.feed + 1) key limit line
MayTake rules history key line Withdraw = MayWithdraw rules history (key.feed + 1) key line
