-- A reader of one feed, as contracts see it, and what its parts stand for between two answers.
use Rattle.std.specs.Prelude.{◌≡◌, ◌<◌, ◌≤◌, ◌+◌, ◌-◌, ℕ, Bool, true, false, not, List, [], ◌∷◌, ◌++◌, Option, Some, length, take, drop, slice_get}
use Rattle.scan_types.specs.declared.limits.TheConstants.{MOST_FEED_BYTES, MOST_LINES, MOST_LINE_BYTES}
use Rattle.feed_definitions.specs.declared.step.Step.{Step}
use Rattle.feed_definitions.specs.declared.step.Step.TheVariants as step
use Rattle.feed_definitions.specs.Lines.{ended_lines, unended, is_cut, answered_lines}
use Rattle.feed_definitions.specs.Feed.{steps, accepted_in, ending}
use Rattle.feed_definitions.specs.Answers.{is_open, ends_feed}
use Rattle.feed_lines.specs.declared.next_line.NextLine.{NextLine}
use Rattle.feed_lines.specs.declared.next_line.NextLine.TheVariants as next
use Rattle.feed_fields.specs.Tests.{HasLimitInRange}
use Rattle.feed_lines.specs.Rows.{IsStanding}
use Rattle.feed_lines.specs.Taking.{looked_at}

-- the feed's number, the bytes taken so far, how many answers were given, whether a read has answered that no bytes are left, whether
-- the last answer was for no line, whether nothing follows it, and the source
pub record ReaderView (S : Type 0) : Type 0 where
  pub feed : ℕ
  pub taken : List ℕ
  pub answers : ℕ
  pub drained : Bool
  pub ended : Bool
  pub over : Bool
  pub source : S

-- the list that the answers belong to: until a read has answered that no bytes are left, the one of a feed whose reading fails behind
-- the bytes taken, and from then on the one of a feed that ends there
abbrev pub steps_so : Bool → List ℕ → List Step
steps_so drained bytes = steps (not drained) bytes

abbrev pub its_steps : {S : Type 0} → ReaderView S → List Step
its_steps reader = steps_so reader.drained reader.taken

-- the answers given so far
abbrev pub answered : {S : Type 0} → ReaderView S → List Step
answered reader = take reader.answers (its_steps reader)

abbrev pub is_read_fault : Step → Bool
is_read_fault step.ReadFault = true
is_read_fault _ = false

-- the answer is for a line
abbrev pub is_of_line : Step → Bool
is_of_line step.End = false
is_of_line step.Cut = false
is_of_line step.ReadFault = false
is_of_line _ = true

-- so many lines end before the start of the next one
pub record IsAtLine (bytes : List ℕ) (start lines : ℕ) : Type 0 where
  pub whole : unended (take start bytes) ≡ []
  pub count : length (ended_lines (take start bytes)) ≡ lines
  pub low : start ≤ MOST_FEED_BYTES
  pub within : start ≤ length bytes

-- all lines of a feed that ended were answered
pub record IsReadOut (bytes : List ℕ) (lines : ℕ) : Type 0 where
  pub all : length (answered_lines false bytes) ≡ lines
  pub not_cut : is_cut bytes ≡ false
  pub some : 0 < lines

-- a reader that is not over
pub record IsReading (bytes : List ℕ) (start lines : ℕ) (drained : Bool) (row_of : List ℕ → Option (List Bool)) (rows : ℕ) : Type 0 where
  pub opened : is_open (take lines (steps_so drained bytes)) ≡ true
  pub standing : IsStanding row_of rows (accepted_in (take lines (steps_so drained bytes)))
  pub at_line : drained ≡ false → IsAtLine bytes start lines
  pub read_out : drained ≡ true → IsReadOut bytes lines
  pub few_lines : lines ≤ MOST_LINES

-- what holds of a reader's parts
pub record IsReader (bytes : List ℕ) (start answers : ℕ) (drained ended over : Bool) (row_of : List ℕ → Option (List Bool)) (rows : ℕ) : Type 0 where
  pub reading : over ≡ false → IsReading bytes start answers drained row_of rows
  pub some : ended ≡ true → 0 < answers
  pub few_taken : length bytes ≤ 4198400
  pub few_rows : rows ≤ 256

-- the line is the item of this number, from 0, of the lines that are answered
abbrev pub IsNextLine : Bool → List ℕ → ℕ → List ℕ → Type 0
IsNextLine drained bytes number line = slice_get (answered_lines (not drained) bytes) number ≡ Some line

-- so many lines are all that are answered, and then comes this step
pub record IsAfterLines (drained : Bool) (bytes : List ℕ) (lines : ℕ) (last : Step) : Type 0 where
  pub all : length (answered_lines (not drained) bytes) ≡ lines
  pub ends : ending (not drained) bytes ≡ last

-- the next line ends before the line feed at this index
pub record IsEndedNext (bytes : List ℕ) (start lines end : ℕ) : Type 0 where
  pub after : start ≤ end
  pub within : end < length (looked_at bytes)
  pub line : IsNextLine false bytes lines (take (end - start) (drop start (looked_at bytes)))
  pub next_line : IsAtLine bytes (end + 1) (lines + 1)

-- the next line is the last one, which no line feed ends
pub record IsLastNext (bytes : List ℕ) (start lines : ℕ) : Type 0 where
  pub line : IsNextLine true bytes lines (drop start bytes)
  pub out : IsReadOut bytes (lines + 1)

-- all bytes that are looked at are line 1
pub record IsWholeNext (bytes : List ℕ) (lines : ℕ) : Type 0 where
  pub line : IsNextLine false bytes lines (looked_at bytes)
  pub first : lines ≡ 0
  pub long : MOST_LINE_BYTES < length (looked_at bytes)

-- how the line that begins at this index stands in the bytes, after so many lines
abbrev pub StandsSo : List ℕ → ℕ → ℕ → NextLine → Type 0
StandsSo bytes start lines (next.Ended end) = IsEndedNext bytes start lines end
StandsSo bytes start lines next.Last = IsLastNext bytes start lines
StandsSo bytes start lines next.Whole = IsWholeNext bytes lines
StandsSo bytes start lines next.Cut = IsAfterLines false bytes lines step.Cut
StandsSo bytes start lines next.End = IsAfterLines true bytes lines step.End
StandsSo bytes start lines next.ReadFault = IsAfterLines false bytes lines step.ReadFault

-- a read has answered that no bytes are left
abbrev pub drained_by : NextLine → Bool
drained_by next.Last = true
drained_by next.End = true
drained_by _ = false

abbrev pub failed_by : NextLine → Bool
failed_by next.ReadFault = true
failed_by _ = false

-- the step is the answer after so many: that item of the list, and its last one if nothing follows
pub record IsAnswer (drained : Bool) (bytes : List ℕ) (lines : ℕ) (answer : Step) : Type 0 where
  pub item : slice_get (steps_so drained bytes) lines ≡ Some answer
  pub last : ends_feed answer ≡ true → steps_so drained bytes ≡ take lines (steps_so drained bytes) ++ answer ∷ []
  pub opened : ends_feed answer ≡ false → is_open (take (lines + 1) (steps_so drained bytes)) ≡ true
  pub taken : take (lines + 1) (steps_so drained bytes) ≡ take lines (steps_so drained bytes) ++ answer ∷ []

-- a step that names a line names the one of this number
abbrev pub IsNumbered : ℕ → Step → Type 0
IsNumbered number (step.Line line) = line.line ≡ number
IsNumbered number (step.Refused refusal) = refusal.place.line ≡ number
IsNumbered number (step.BadHeader refusal) = refusal.place.line ≡ number
IsNumbered number _ = Unit {0}

-- the limit of an accepted quote is in its range
abbrev pub IsInRange : Step → Type 0
IsInRange (step.Line line) = HasLimitInRange line.change
IsInRange _ = Unit {0}

-- further bytes change no step
abbrev pub IsWhole : List ℕ → Type 0
IsWhole bytes = (more : List ℕ) (failed : Bool) → steps failed (bytes ++ more) ≡ steps true bytes
