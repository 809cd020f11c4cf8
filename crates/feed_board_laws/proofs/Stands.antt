-- What stands after lines and after their entries.
use Rattle.std.proofs.Common.{ℕ, ◌≡◌, Bool, true, false, cond, List, refl, sym, ap, subst, ◌∙◌}
use Rattle.std.specs.Prelude.{◌&&◌, ◌==◌, reverse, find, Option, Some, None, option_and_then}
use Rattle.std.specs.Option.{option_map_or}
use Rattle.std.specs.Str.{bytes_eq}
use Rattle.std.proofs.lemmas.Bool.Decides.{Decides-eqb}
use Rattle.scan_types.specs.Selections.{selection_number}
use Rattle.feed_definitions.specs.declared.accepted.Accepted.{Accepted}
use Rattle.feed_definitions.specs.declared.accepted.Change.{Change}
use Rattle.feed_definitions.specs.declared.accepted.Change.TheVariants.{Quote, Withdraw}
use Rattle.feed_definitions.specs.Standing as text
use Rattle.board_definitions.specs.declared.key.Key.{Key}
use Rattle.board_definitions.specs.declared.event.Event.{Event}
use Rattle.board_definitions.specs.declared.event.Event.TheVariants.{Quoted, Withdrawn, Ended, Pinned, Filed, Released}
use Rattle.board_definitions.specs.declared.event.Entry.{Entry}
use Rattle.board_definitions.specs.Entries as entries
use Rattle.board_definitions.specs.Sheets.{stands}
use Rattle.board_definitions.proofs.Keys.{is_key_parts}
use Rattle.report_laws.specs.Boards.{line_in}
use Rattle.report_laws.proofs.Through.{find_through, filter_map-reverse}
use Rattle.report_laws.proofs.Boards.{agree, at_feed, line_of_key}
use Rattle.feed_board_laws.specs.Bodies.{lines_in}

abbrev line_quotes : Accepted → Option Bool
line_quotes line = Some (text.is_quote line.change)

-- an entry that is about this quotes if its line does
quotes : (m : List ℕ) (k n : ℕ) (event : Event) → entries.is_about m k n event ≡ true → Some (entries.is_quote event) ≡ option_and_then line_quotes (line_in k event)
quotes m k n (Quoted key odds limit line) h = at_feed line_quotes (line_of_key key line (Quote odds limit)) key.feed k (is_key_parts m k n key h).1
quotes m k n (Withdrawn key line) h = at_feed line_quotes (line_of_key key line Withdraw) key.feed k (is_key_parts m k n key h).1
quotes m k n (Ended feed stop) h = absurd (cc h)
quotes m k n (Pinned match_name) h = absurd (cc h)
quotes m k n (Filed version finding) h = absurd (cc h)
quotes m k n (Released version) h = absurd (cc h)

abbrev or_not : Option Bool → Bool
or_not o = option_map_or (λ (b : Bool). b) o false

of_entry : (o : Option Entry) → option_map_or (λ (entry : Entry). entries.is_quote entry.event) o false ≡ or_not (option_and_then (λ (entry : Entry). Some (entries.is_quote entry.event)) o)
of_entry None = refl
of_entry (Some entry) = refl

of_line : (o : Option Accepted) → or_not (option_and_then line_quotes o) ≡ text.is_quoted_by o
of_line None = refl
of_line (Some line) = refl

pub same_stands : (history : List Entry) (k : ℕ) (m : List ℕ) (n : ℕ) → stands history m k n ≡ text.stands (lines_in history k) m n
same_stands history k m n =
    let f : Entry → Option Accepted = λ entry. line_in k entry.event in
    let p : Entry → Bool = λ entry. entries.is_about m k n entry.event in
    let g : Entry → Option Bool = λ entry. Some (entries.is_quote entry.event) in
    of_entry (find p (reverse history))
    ∙ ap or_not (find_through p (text.is_about m n) f g line_quotes (λ entry. agree m k n entry.event) (λ entry. quotes m k n entry.event) (reverse history)
    ∙ ap (λ (ys : List Accepted). option_and_then line_quotes (find (text.is_about m n) ys)) (filter_map-reverse f history))
    ∙ of_line (find (text.is_about m n) (reverse (lines_in history k)))
