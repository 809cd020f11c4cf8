-- A board that holds the lines of the feeds has the sheets and the matches of the report.
use Rattle.std.proofs.Common.{ℕ, ◌≡◌, Bool, true, false, cond, List, length, refl, sym, ap, subst, ◌∙◌, arith}
use Rattle.std.specs.Prelude.{◌↔◌, ◌&&◌, ◌==◌, reverse, find, Option, Some, None, option_and_then}
use Rattle.std.specs.List.{filter_map, list_any, range_with_len}
use Rattle.std.specs.Option.{option_map_or}
use Rattle.std.specs.Str.{bytes_eq}
use Rattle.std.proofs.lemmas.List.{take_all}
use Rattle.std.proofs.lemmas.List.Folds.{Any-from_list_any, list_any_at}
use Rattle.std.proofs.lemmas.Bool.Decides.{Decides-eqb}
use Rattle.scan_types.specs.declared.limits.TheConstants.{MOST_FEEDS, MOST_SELECTIONS}
use Rattle.scan_types.specs.declared.offer.Offer.{Offer}
use Rattle.scan_types.specs.declared.rule.VoidRule.{VoidRule}
use Rattle.scan_types.specs.Selections.{selection_number}
use Rattle.feed_definitions.specs.declared.accepted.Accepted.{Accepted}
use Rattle.feed_definitions.specs.declared.accepted.Change.{Change}
use Rattle.feed_definitions.specs.declared.accepted.Change.TheVariants.{Quote, Withdraw}
use Rattle.feed_definitions.specs.Standing as text
use Rattle.board_definitions.specs.declared.key.Key.{Key}
use Rattle.board_definitions.specs.declared.event.Event.{Event}
use Rattle.board_definitions.specs.declared.event.Event.TheVariants.{Quoted, Withdrawn, Ended, Pinned, Filed, Released}
use Rattle.board_definitions.specs.declared.event.Entry.{Entry}
use Rattle.board_definitions.specs.Entries as entries
use Rattle.board_definitions.specs.Sheets.{sheet, standing_sheet, standing, offer_of, offer_with}
use Rattle.board_definitions.proofs.Keys.{is_key_parts}
use Rattle.report_definitions.specs.Seen.{SeenFeed, rule_of, quotes, line_offer, standing_offer, IsQuoted, sheet_of}
use Rattle.report_laws.specs.Boards.{line_in, HoldsLinesOf, quotes_match}
use Rattle.report_laws.proofs.Through.{find_through, filter_map-reverse, filter_map-same, flat_map-same, any_image, any_weaker}

abbrev pub line_of_key : Key → ℕ → Change → Accepted
line_of_key key line change = record { line = line; match_name = key.match_name; selection = key.selection; change = change }

-- a test with the feed's in the middle, as a test of the line of that feed
middle : (q : Accepted → Bool) (line : Accepted) (a b c : Bool) → q line ≡ (a && c) → (a && (b && c)) ≡ option_map_or q (cond b (Some line) None) false
middle q line a true c e = sym e
middle q line true false c e = refl
middle q line false false c e = refl

pub agree : (m : List ℕ) (k n : ℕ) (event : Event) → entries.is_about m k n event ≡ option_map_or (text.is_about m n) (line_in k event) false
agree m k n (Quoted key odds limit line) = middle (text.is_about m n) (line_of_key key line (Quote odds limit)) (bytes_eq key.match_name m) (key.feed == k) (selection_number key.selection == n) refl
agree m k n (Withdrawn key line) = middle (text.is_about m n) (line_of_key key line Withdraw) (bytes_eq key.match_name m) (key.feed == k) (selection_number key.selection == n) refl
agree m k n (Ended feed stop) = refl
agree m k n (Pinned match_name) = refl
agree m k n (Filed version finding) = refl
agree m k n (Released version) = refl

-- what is there where the feed is the key's
pub at_feed : {X : Type 0} (h : Accepted → Option X) (line : Accepted) (a b : ℕ) → a ≡ b → h line ≡ option_and_then h (cond (a == b) (Some line) None)
at_feed h line a b e = subst (λ (c : Bool). h line ≡ option_and_then h (cond c (Some line) None)) (sym ((Decides-eqb a b).1 e)) refl

next : (feeds : List SeenFeed) (rules : List (Option VoidRule)) → ((feed : ℕ) → entries.rule_of rules feed ≡ rule_of feeds feed) → (m : List ℕ) (k n : ℕ) (event : Event)
    → entries.is_about m k n event ≡ true → offer_of rules event ≡ option_and_then (line_offer k (rule_of feeds k)) (line_in k event)
next feeds rules same m k n (Quoted key odds limit line) h =
    let feed : key.feed ≡ k = (is_key_parts m k n key h).1 in
    ap (λ (j : ℕ). option_and_then (offer_with j key.selection odds limit) (entries.rule_of rules j)) feed
    ∙ (ap (λ (r : Option VoidRule). option_and_then (offer_with k key.selection odds limit) r) (same k)
    ∙ at_feed (line_offer k (rule_of feeds k)) (line_of_key key line (Quote odds limit)) key.feed k feed)
next feeds rules same m k n (Withdrawn key line) h =
    at_feed (line_offer k (rule_of feeds k)) (line_of_key key line Withdraw) key.feed k (is_key_parts m k n key h).1
next feeds rules same m k n (Ended feed stop) h = absurd (cc h)
next feeds rules same m k n (Pinned match_name) h = absurd (cc h)
next feeds rules same m k n (Filed version finding) h = absurd (cc h)
next feeds rules same m k n (Released version) h = absurd (cc h)

one_offer : (feeds : List SeenFeed) (rules : List (Option VoidRule)) (history : List Entry) → HoldsLinesOf feeds rules history → (m : List ℕ) (k n : ℕ)
    → standing rules history m k n ≡ standing_offer feeds m k n
one_offer feeds rules history holds m k n =
    let f : Entry → Option Accepted = λ entry. line_in k entry.event in
    let g : Entry → Option Offer = λ entry. offer_of rules entry.event in
    let h : Accepted → Option Offer = line_offer k (rule_of feeds k) in
    find_through (λ (entry : Entry). entries.is_about m k n entry.event) (text.is_about m n) f g h (λ entry. agree m k n entry.event) (λ entry. next feeds rules holds.rules_are m k n entry.event) (reverse history)
    ∙ ap (λ (ys : List Accepted). option_and_then h (find (text.is_about m n) ys)) (filter_map-reverse f history ∙ ap reverse (holds.lines_are k))

pub same_sheets : (feeds : List SeenFeed) (rules : List (Option VoidRule)) (history : List Entry) → HoldsLinesOf feeds rules history → (m : List ℕ)
    → sheet rules history (length history) m ≡ sheet_of feeds m
unfolding standing_sheet sheet_of
same_sheets feeds rules history holds m =
    ap (λ (before : List Entry). standing_sheet rules before m) (take_all (length history) history (omega arith))
    ∙ flat_map-same (λ k. filter_map (standing rules history m k) (range_with_len 0 MOST_SELECTIONS)) (λ k. filter_map (standing_offer feeds m k) (range_with_len 0 MOST_SELECTIONS)) (range_with_len 0 MOST_FEEDS)
    (λ k. filter_map-same (standing rules history m k) (standing_offer feeds m k) (range_with_len 0 MOST_SELECTIONS) (one_offer feeds rules history holds m k))

-- a line that passes a test was made of the event
made : (q : Accepted → Bool) (line : Accepted) (b : Bool) → option_map_or q (cond b (Some line) None) false ≡ true → q line ≡ true
made q line true h = h
made q line false h = absurd (cc h)

from_line : (m : List ℕ) (k : ℕ) (event : Event) → option_map_or (quotes m) (line_in k event) false ≡ true → (entries.is_quote event && entries.changes m event) ≡ true
from_line m k (Quoted key odds limit line) h = made (quotes m) (line_of_key key line (Quote odds limit)) (key.feed == k) h
from_line m k (Withdrawn key line) h = absurd (cc (made (quotes m) (line_of_key key line Withdraw) (key.feed == k) h))
from_line m k (Ended feed stop) h = absurd (cc h)
from_line m k (Pinned match_name) h = absurd (cc h)
from_line m k (Filed version finding) h = absurd (cc h)
from_line m k (Released version) h = absurd (cc h)

to_line : (m : List ℕ) (event : Event) → (entries.is_quote event && entries.changes m event) ≡ true → (k : ℕ) × (option_map_or (quotes m) (line_in k event) false ≡ true)
to_line m (Quoted key odds limit line) h =
    (key.feed, subst (λ (c : Bool). option_map_or (quotes m) (cond c (Some (line_of_key key line (Quote odds limit))) None) false ≡ true) (sym ((Decides-eqb key.feed key.feed).1 refl)) h)
to_line m (Withdrawn key line) h = absurd (cc h)
to_line m (Ended feed stop) h = absurd (cc h)
to_line m (Pinned match_name) h = absurd (cc h)
to_line m (Filed version finding) h = absurd (cc h)
to_line m (Released version) h = absurd (cc h)

to_report : (feeds : List SeenFeed) (rules : List (Option VoidRule)) (history : List Entry) → HoldsLinesOf feeds rules history → (m : List ℕ)
    → list_any (quotes_match m) history ≡ true → IsQuoted feeds m
to_report feeds rules history holds m h =
    let found = Any-from_list_any (quotes_match m) history h in
    let line = to_line m found.1.event found.4 in
    let f : Entry → Option Accepted = λ entry. line_in line.0 entry.event in
    let p : Entry → Bool = λ entry. option_map_or (quotes m) (f entry) false in
    record {
      feed = line.0;
      quoted = ap (list_any (quotes m)) (sym (holds.lines_are line.0)) ∙ (any_image (quotes m) f history ∙ list_any_at p history found.0 found.1 found.2 (ap p found.3 ∙ line.1));
    }

from_report : (feeds : List SeenFeed) (rules : List (Option VoidRule)) (history : List Entry) → HoldsLinesOf feeds rules history → (m : List ℕ)
    → IsQuoted feeds m → list_any (quotes_match m) history ≡ true
from_report feeds rules history holds m quoted =
    let f : Entry → Option Accepted = λ entry. line_in quoted.feed entry.event in
    let p : Entry → Bool = λ entry. option_map_or (quotes m) (f entry) false in
    any_weaker p (quotes_match m) (λ entry. from_line m quoted.feed entry.event) history
    (sym (any_image (quotes m) f history) ∙ (ap (list_any (quotes m)) (holds.lines_are quoted.feed) ∙ quoted.quoted))

pub same_matches : (feeds : List SeenFeed) (rules : List (Option VoidRule)) (history : List Entry) → HoldsLinesOf feeds rules history → (m : List ℕ)
    → list_any (quotes_match m) history ≡ true ↔ IsQuoted feeds m
same_matches feeds rules history holds m = (to_report feeds rules history holds m, from_report feeds rules history holds m)
