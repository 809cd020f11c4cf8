-- What the history says of each match: where it was last changed, and where a finding was filed for it after that.
use Rattle.std.specs.Prelude.{ℕ, zero, suc, nat_lt, List, Option, Some, None, option_map, option_and_then, slice_get, if◌then◌else◌}
use Rattle.std.specs.Option.{option_map_or}
use Rattle.std.specs.Str.{bytes_eq}
use Rattle.indexmap.specs.IndexMap.{IndexMap, get}
use Rattle.board_definitions.specs.declared.event.Event.{Event}
use Rattle.board_definitions.specs.declared.event.Event.TheVariants.{Quoted, Withdrawn, Pinned, Filed}
use Rattle.board_definitions.specs.declared.event.Entry.{Entry}
use Rattle.desk_report.specs.declared.marks.Mark.{Mark}

-- the mark of a match
abbrev pub mark_in : {S : Type 0} → IndexMap (List ℕ) Mark S → List ℕ → Option Mark
mark_in marks match_name = get bytes_eq marks match_name

-- the match that an event pins
abbrev pub pinned_by : Event → Option (List ℕ)
pinned_by (Pinned match_name) = Some match_name
pinned_by _ = None

-- the match that the entry at this place pins
abbrev pub pinned_name : List Entry → ℕ → Option (List ℕ)
pinned_name history version = option_and_then (λ entry. pinned_by entry.event) (slice_get history version)

-- a match that was changed at this place
abbrev pub changed_at : ℕ → Mark
changed_at place = record { changed = place; filed = None }

-- the mark after a finding of a pin of this version is filed at this place: an earlier pin counts for nothing
abbrev pub mark_filed : ℕ → ℕ → Mark → Mark
mark_filed version place mark = if nat_lt mark.changed version then record { changed = mark.changed; filed = Some place } else mark

abbrev pub filed_on : Option (List ℕ) → ℕ → ℕ → List ℕ → Option Mark → Option Mark
filed_on None version place match_name old = old
filed_on (Some pinned) version place match_name old = if bytes_eq pinned match_name then option_map (mark_filed version place) old else old

-- the mark of a match after the finding of a pin is filed
abbrev pub filed_step : List Entry → ℕ → ℕ → List ℕ → Option Mark → Option Mark
filed_step history version place match_name old = filed_on (pinned_name history version) version place match_name old

-- the mark of a match after the entry at this place
abbrev pub mark_step : List Entry → ℕ → Event → List ℕ → Option Mark → Option Mark
mark_step history place (Quoted key odds limit line) match_name old = if bytes_eq key.match_name match_name then Some (changed_at place) else old
mark_step history place (Withdrawn key line) match_name old = if bytes_eq key.match_name match_name then option_map (λ _. changed_at place) old else old
mark_step history place (Filed version finding) match_name old = filed_step history version place match_name old
mark_step history place _ match_name old = old

-- the mark of a match after so many entries
abbrev pub mark_at : List Entry → ℕ → List ℕ → Option Mark
mark_at history zero match_name = None
mark_at history (suc n) match_name =
    option_map_or (λ entry. mark_step history n entry.event match_name (mark_at history n match_name)) (slice_get history n) (mark_at history n match_name)
