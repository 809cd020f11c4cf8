-- What joins the lines of a feed and a board that holds them.
use Rattle.std.specs.Prelude.{ℕ, ◌≡◌, ◌≢◌, Bool, List, [], ◌∷◌, ◌++◌, Option, Some, take, slice_get}
use Rattle.scan_types.specs.declared.rule.VoidRule.{VoidRule}
use Rattle.feed_definitions.specs.declared.accepted.Accepted.{Accepted}
use Rattle.feed_definitions.specs.declared.step.Step.TheVariants.{Line}
use Rattle.feed_definitions.specs.Feed.{steps, accepted_in}
use Rattle.feed_definitions.specs.Standing as text
use Rattle.board_definitions.specs.declared.event.Entry.{Entry}
use Rattle.board_definitions.specs.Sheets.{stands}
use Rattle.desk_definitions.specs.Lines.{key_of, entry_of}
use Rattle.feed_board_laws.specs.Bodies.{lines_in, HoldsLines, IsAcceptedAfter, MayTake}

-- what stands after the lines of a feed stands after their entries
abbrev pub SameStands : Type 0
SameStands = (history : List Entry) (feed : ℕ) (match_name : List ℕ) (number : ℕ) →
    stands history match_name feed number ≡ text.stands (lines_in history feed) match_name number

-- each accepted line of a feed text may be accepted after those before it
abbrev pub StepsAreAccepted : Type 0
StepsAreAccepted = (failed : Bool) (bytes : List ℕ) (n : ℕ) (line : Accepted) → slice_get (steps failed bytes) n ≡ Some (Line line) →
    IsAcceptedAfter (accepted_in (take n (steps failed bytes))) line

-- a board that holds the lines of a feed may take the next one
abbrev pub BoardTakesLines : Type 0
BoardTakesLines = (rules : List (Option VoidRule)) (history : List Entry) (feed : ℕ) (before : List Accepted) (line : Accepted) →
    HoldsLines rules history feed before → IsAcceptedAfter before line → MayTake rules history (key_of feed line) line.line line.change

-- and then it holds that line too
abbrev pub LineIsHeld : Type 0
LineIsHeld = (rules : List (Option VoidRule)) (history : List Entry) (feed : ℕ) (before : List Accepted) (line : Accepted) →
    HoldsLines rules history feed before → HoldsLines rules (history ++ entry_of feed line ∷ []) feed (before ++ line ∷ [])

-- the lines of the other feeds stay
abbrev pub OtherLinesStay : Type 0
OtherLinesStay = (history : List Entry) (feed other : ℕ) (line : Accepted) → other ≢ feed → lines_in (history ++ entry_of feed line ∷ []) other ≡ lines_in history other
