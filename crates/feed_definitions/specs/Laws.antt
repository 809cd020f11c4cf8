-- The laws of the feed text.
use Rattle.std.specs.Prelude.{ℕ, ◌≡◌, ◌<◌, ◌≤◌, Bool, true, false, List, [], ◌∷◌, ◌++◌, length, take, slice_get, Some}
use Rattle.feed_definitions.specs.Lines.{answered_lines, is_cut}
use Rattle.feed_definitions.specs.Feed.{steps, ending}
use Rattle.feed_definitions.specs.Answers.{is_open, next_answer}

-- the steps of the lines ended so far stay, however the text goes on and whether or not reading fails
abbrev pub StepsStay : Type 0
StepsStay = (text more : List ℕ) (failed later : Bool) (n : ℕ) → n ≤ length (answered_lines true text) →
    take n (steps later (text ++ more)) ≡ take n (steps failed text)

-- the step of a line is a function of this line and of the steps before it
abbrev pub StepsAreOfLines : Type 0
StepsAreOfLines = (failed : Bool) (text : List ℕ) (n : ℕ) (line : List ℕ) → slice_get (answered_lines failed text) n ≡ Some line →
    is_open (take n (steps failed text)) ≡ true → slice_get (steps failed text) n ≡ Some (next_answer (take n (steps failed text)) line)

-- behind the steps of all lines, one step says how the feed ends, and nothing follows
abbrev pub EndingFollows : Type 0
EndingFollows = (failed : Bool) (text : List ℕ) → is_open (take (length (answered_lines failed text)) (steps failed text)) ≡ true →
    steps failed text ≡ take (length (answered_lines failed text)) (steps failed text) ++ ending failed text ∷ []

-- once a limit of size is passed, all steps stay, however the text goes on and whether or not reading fails
abbrev pub CutStays : Type 0
CutStays = (text more : List ℕ) (failed later : Bool) → is_cut text ≡ true → steps later (text ++ more) ≡ steps failed text

-- so do they once line 1 is ended and no header
abbrev pub BadHeaderStays : Type 0
BadHeaderStays = (text more : List ℕ) (failed later : Bool) → 0 < length (answered_lines true text) → is_open (take 1 (steps failed text)) ≡ false →
    steps later (text ++ more) ≡ steps failed text

-- nothing follows line 1 if that is no header
abbrev pub BadHeaderEnds : Type 0
BadHeaderEnds = (failed : Bool) (text : List ℕ) → 0 < length (answered_lines failed text) → is_open (take 1 (steps failed text)) ≡ false →
    steps failed text ≡ take 1 (steps failed text)
