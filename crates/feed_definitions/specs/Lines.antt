-- A text as lines, each ended by one line feed, and the limits of size.
use Rattle.std.specs.Prelude.{ℕ, ◌-◌, Bool, ◌==◌, ◌&&◌, ◌||◌, nat_lt, List, [], ◌∷◌, ◌++◌, length, take, slice_index_or, if◌then◌else◌}
use Rattle.std.specs.List.{slice_split}
use Rattle.scan_types.specs.declared.limits.TheConstants.{MOST_FEED_BYTES, MOST_LINES}

abbrev pub is_line_feed : ℕ → Bool
is_line_feed byte = byte == 10

-- what stands between line feeds, before the first and after the last
abbrev pub pieces : List ℕ → List (List ℕ)
pieces text = slice_split is_line_feed text

-- the lines that a line feed ends, without it, in order
abbrev pub ended_lines : List ℕ → List (List ℕ)
ended_lines text = take (length (pieces text) - 1) (pieces text)

-- what stands after the last line feed
abbrev pub unended : List ℕ → List ℕ
unended text = slice_index_or (pieces text) (length (pieces text) - 1) []

-- the line that no line feed ends: what stands after the last line feed, if that is any byte; a text without any byte has the empty line
abbrev pub last_line : List ℕ → List (List ℕ)
last_line text =
    if length (unended text) == 0 && nat_lt 0 (length (ended_lines text)) then [] else unended text ∷ []

-- all lines of a text
abbrev pub all_lines : List ℕ → List (List ℕ)
all_lines text = ended_lines text ++ last_line text

-- the text has more bytes than are looked at
abbrev pub is_too_large : List ℕ → Bool
is_too_large text = nat_lt MOST_FEED_BYTES (length text)

-- a limit of size is passed: by a byte behind the last one that is looked at, or by a line behind the last one that is answered
abbrev pub is_cut : List ℕ → Bool
is_cut text = is_too_large text || nat_lt MOST_LINES (length (all_lines text))

-- the lines of a text that has too many bytes, given those that are looked at: the lines ended in them, and all of them as one line if
-- none is
abbrev pub lines_within : List ℕ → List (List ℕ)
lines_within bytes = if length (ended_lines bytes) == 0 then bytes ∷ [] else ended_lines bytes

-- the lines that count, however many; after a fault of reading a line without its line feed is left out
abbrev pub counted_lines : Bool → List ℕ → List (List ℕ)
counted_lines failed text =
    if is_too_large text then lines_within (take MOST_FEED_BYTES text) else (if failed then ended_lines text else all_lines text)

-- the lines that are answered
abbrev pub answered_lines : Bool → List ℕ → List (List ℕ)
answered_lines failed text = take MOST_LINES (counted_lines failed text)
