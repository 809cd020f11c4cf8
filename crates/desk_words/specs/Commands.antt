-- What words ask for.
use Rattle.std.specs.Prelude.{ℕ, ◌≡◌, ◌≤◌, ◌⊎◌, Bool, ◌&&◌, ◌||◌, nat_le, true, false, List, [], ◌∷◌, length, unwrap_or, Option, Some, None, option_and_then, codes, Result, Ok, Err, if◌then◌else◌}
use Rattle.std.specs.Str.{bytes_eq}
use Rattle.number_definitions.specs.Readings.{◌>>=◌}
use Rattle.clap.specs.Words.{Row, Text, all_of, first_of, subcommand_of, subcommand_rows_of, takes}
use Rattle.clap.specs.declared.parser.matches.ArgMatches.{ArgMatches}
use Rattle.scan_types.specs.declared.limits.TheConstants.{DEFAULT_PIVOTS, MOST_FEEDS, MOST_PIVOTS}
use Rattle.desk_words.specs.Numbers.{number_in}
use Rattle.desk_words.specs.Program.{program}
use Rattle.desk_words.specs.declared.command.Command.{Command}
use Rattle.desk_words.specs.declared.command.Command.TheVariants.{Once, Help, Version}
use Rattle.desk_words.specs.declared.command.WordsFault.{WordsFault}
use Rattle.desk_words.specs.declared.command.WordsFault.TheVariants.{NoCommand, WantOfMemory}

-- `clap` takes the words, by its own definition of what a command takes
abbrev pub is_taken : List Text → Bool
is_taken words = takes program words

-- the pivots that the option asks for, or the default if it is not given; none if its value is no number in range
abbrev pub pivots_of : Option Text → Option ℕ
pivots_of None = Some DEFAULT_PIVOTS
pivots_of (Some word) = number_in 1 MOST_PIVOTS word

-- so many feeds may be named: 1 to `MOST_FEEDS`
abbrev pub is_feed_count : ℕ → Bool
is_feed_count n = nat_le 1 n && nat_le n MOST_FEEDS

-- the names, if so many may be named
abbrev pub few_enough : List Text → Option (List Text)
few_enough names = if is_feed_count (length names) then Some names else None

-- the names that were found, if any
abbrev pub names_in : List Row → List Text
names_in rows = unwrap_or (all_of (codes "FEED") rows) []

abbrev pub pivots_in : List Row → Option ℕ
pivots_in rows = pivots_of (first_of (codes "pivots") rows)

-- `once`, by what was found behind it
abbrev pub once_of : List Row → Option Command
once_of rows = do
  pivots ← pivots_in rows
  feeds ← few_enough (names_in rows)
  Some (Once pivots feeds)

-- the subcommand that was found, with what was found behind it
abbrev pub subcommand_asks : Text × List Row → Option Command
subcommand_asks found = if bytes_eq found.0 (codes "once") then once_of found.1 else None

-- the command that `clap` finds in the words, if it takes them, the number of pivots is in form and range, and so many feeds may be named
abbrev pub parsed_command : List Text → Option Command
parsed_command words = if is_taken words then option_and_then subcommand_asks (subcommand_of program words) else None

-- the word asks which commands there are
abbrev pub is_help_word : Text → Bool
is_help_word word = bytes_eq word (codes "--help") || bytes_eq word (codes "-h")

-- the word asks for the version
abbrev pub is_version_word : Text → Bool
is_version_word word = bytes_eq word (codes "--version") || bytes_eq word (codes "-V")

-- what a word asks for if it is the only one
abbrev pub asked_by : Text → Option Command
asked_by word = if is_help_word word then Some Help else (if is_version_word word then Some Version else None)

-- what the only word asks for, if there is just one
abbrev pub asked_alone : List Text → Option Command
asked_alone (word ∷ []) = asked_by word
asked_alone _ = None

-- the first of the two, if there is one
abbrev pub first_of_both : Option Command → Option Command → Option Command
first_of_both None other = other
first_of_both (Some command) other = Some command

-- the command that the words give: what their only word asks for, else what `clap` finds
abbrev pub command_of : List Text → Option Command
command_of words = first_of_both (asked_alone words) (parsed_command words)

-- behind `once` the number of pivots is out of form or range, or too few or too many feeds are named
abbrev pub HasBadValue : List Row → Type 0
HasBadValue rows = (pivots_in rows ≡ None) ⊎ (is_feed_count (length (names_in rows)) ≡ false)

-- `clap` does not take the words, or a value behind the subcommand is bad
abbrev pub IsNotParsed : List Text → Type 0
IsNotParsed words = (is_taken words ≡ false)
    ⊎ ((rows : List Row) × (subcommand_of program words ≡ Some (codes "once", rows)) × HasBadValue rows)

-- the words are no command: they are not the one word that asks for help or for the version, and `clap` finds none in them
abbrev pub IsNoCommand : List Text → Type 0
IsNoCommand words = (asked_alone words ≡ None) × IsNotParsed words

-- the answer for what the words give, or no memory is left
abbrev pub Answers : Option Command → Result Command WordsFault → Type 0
Answers due (Ok command) = due ≡ Some command
Answers due (Err NoCommand) = due ≡ None
Answers due (Err WantOfMemory) = Unit {0}

-- what `clap` finds in words that it takes, or no memory is left
abbrev pub FoundIn : List Text → Result ArgMatches WordsFault → Type 0
FoundIn words (Ok matches) = (is_taken words ≡ true) × (subcommand_rows_of matches ≡ subcommand_of program words)
FoundIn words (Err NoCommand) = is_taken words ≡ false
FoundIn words (Err WantOfMemory) = Unit {0}

-- what a command asks for lies within the limits
abbrev pub IsInRange : Command → Type 0
IsInRange (Once pivots feeds) = (1 ≤ pivots) × (pivots ≤ MOST_PIVOTS) × (1 ≤ length feeds) × (length feeds ≤ MOST_FEEDS)
IsInRange Help = Unit {0}
IsInRange Version = Unit {0}
