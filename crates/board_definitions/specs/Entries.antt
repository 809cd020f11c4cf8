-- What one entry of the history does.
use Rattle.std.specs.Prelude.{ℕ, Bool, true, false, ◌==◌, ◌&&◌, ◌<◌, ◌≡◌, List, Option, slice_get, option_and_then}
use Rattle.std.specs.Str.{bytes_eq}
use Rattle.scan_types.specs.Selections.{selection_number}
use Rattle.scan_types.specs.declared.rule.VoidRule.{VoidRule}
use Rattle.board_definitions.specs.declared.key.Key.{Key}
use Rattle.board_definitions.specs.declared.event.Event.{Event}
use Rattle.board_definitions.specs.declared.event.Event.TheVariants.{Quoted, Withdrawn, Ended, Pinned, Filed, Released}

-- the rule by which a feed's book settles abandoned matches, and none if there is no such feed
abbrev pub rule_of : List (Option VoidRule) → ℕ → Option VoidRule
rule_of rules feed = option_and_then (λ rule. rule) (slice_get rules feed)

-- the key is that of this feed, this match and the selection of this number
abbrev pub is_key : List ℕ → ℕ → ℕ → Key → Bool
is_key match_name feed number key =
    bytes_eq key.match_name match_name && (key.feed == feed && selection_number key.selection == number)

-- the entry quotes or withdraws that key
abbrev pub is_about : List ℕ → ℕ → ℕ → Event → Bool
is_about match_name feed number (Quoted key odds limit line) = is_key match_name feed number key
is_about match_name feed number (Withdrawn key line) = is_key match_name feed number key
is_about match_name feed number _ = false

-- the entry is a quote
abbrev pub is_quote : Event → Bool
is_quote (Quoted key odds limit line) = true
is_quote _ = false

-- the entry quotes or withdraws an offer on the match
abbrev pub changes : List ℕ → Event → Bool
changes match_name (Quoted key odds limit line) = bytes_eq key.match_name match_name
changes match_name (Withdrawn key line) = bytes_eq key.match_name match_name
changes match_name _ = false

-- the entry pins the match
abbrev pub pins : List ℕ → Event → Bool
pins match_name (Pinned pinned) = bytes_eq pinned match_name
pins match_name _ = false

-- the entry files or releases the pin of this version
abbrev pub closes : ℕ → Event → Bool
closes version (Filed filed finding) = filed == version
closes version (Released released) = released == version
closes version _ = false

-- the entry ends the feed
abbrev pub ends : ℕ → Event → Bool
ends feed (Ended ended stop) = ended == feed
ends feed _ = false

-- if the entry is from a line of the feed, then from one before this line
abbrev pub IsBeforeLine : ℕ → ℕ → Event → Type 0
IsBeforeLine feed line (Quoted key odds limit number) = key.feed ≡ feed → number < line
IsBeforeLine feed line (Withdrawn key number) = key.feed ≡ feed → number < line
IsBeforeLine feed line _ = Unit {0}
