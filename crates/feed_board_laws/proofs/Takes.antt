-- A board takes the lines of a feed.
use Rattle.std.proofs.Common.{ℕ, ◌≡◌, ◌+◌, ◌<◌, ◌≤◌, inl, inr, ⊎_elim, Bool, true, false, cond, List, [], ◌∷◌, ◌++◌, refl, sym, ap, subst, ◌∙◌, arith}
use Rattle.std.specs.Prelude.{◌⊎◌, ◌≢◌, ◌||◌, ◌==◌, not, nat_lt, Option, Some, None, All}
use Rattle.std.specs.List.{cons_option, AllByRecursion}
use Rattle.std.proofs.lemmas.Bool.{cases_Bool, or_from}
use Rattle.std.proofs.lemmas.Bool.Decides.{Decides-eqb, nat_tests}
use Rattle.std.proofs.lemmas.List.Elements.{filter_map-append, All-from_recursion, recursion_from_All}
use Rattle.std.proofs.lemmas.List.Folds.{list_any-append}
use Rattle.scan_types.specs.declared.limits.TheConstants.{MOST_STANDING}
use Rattle.scan_types.specs.declared.rule.VoidRule.{VoidRule}
use Rattle.scan_types.specs.declared.selection.Selection.{Selection}
use Rattle.scan_types.specs.Selections.{selection_number}
use Rattle.feed_definitions.specs.declared.accepted.Accepted.{Accepted}
use Rattle.feed_definitions.specs.declared.accepted.Change.{Change}
use Rattle.feed_definitions.specs.declared.accepted.Change.TheVariants.{Quote, Withdraw}
use Rattle.feed_definitions.specs.declared.cause.Cause.TheVariants.{TooManyMatches, TooManyOffers, NotQuoted}
use Rattle.feed_definitions.specs.Standing as text
use Rattle.board_definitions.specs.declared.key.Key.{Key}
use Rattle.board_definitions.specs.declared.key.TheConstants.{SELECTIONS}
use Rattle.board_definitions.specs.declared.event.Event.{Event}
use Rattle.board_definitions.specs.declared.event.Event.TheVariants.{Quoted, Withdrawn, Ended, Pinned, Filed, Released}
use Rattle.board_definitions.specs.declared.event.Entry.{Entry}
use Rattle.board_definitions.specs.Entries.{IsBeforeLine, ends}
use Rattle.board_definitions.specs.Sheets.{stands, standing_count}
use Rattle.board_definitions.specs.Legal.{IsLater, IsOpenFeed}
use Rattle.board_definitions.proofs.Counts.{count_le}
use Rattle.report_laws.specs.Boards.{line_in}
use Rattle.desk_definitions.specs.Lines.{key_of, event_of, entry_of}
use Rattle.feed_board_laws.specs.Bodies.{lines_in, HoldsLines, HasLimit, IsAcceptedAfter, MayTake}
use Rattle.feed_board_laws.proofs.Stands.{same_stands}

-- a line comes later than the entries if it does than their lines

split : (P : Accepted → Type 0) (b : Bool) (line : Accepted) (rest : List Accepted) → AllByRecursion P (cons_option (cond b (Some line) None) rest) → (b ≡ true → P line) × AllByRecursion P rest
split P true line rest h = (λ _. h.0, h.1)
split P false line rest h = (λ e. absurd (cc e), h)

one_later : (k number : ℕ) (event : Event) (rest : List Accepted) → AllByRecursion (λ (other : Accepted). other.line < number) (cons_option (line_in k event) rest) →
    IsBeforeLine k number event × AllByRecursion (λ (other : Accepted). other.line < number) rest
one_later k number (Quoted key odds limit line) rest h =
    let parts = split (λ (other : Accepted). other.line < number) (key.feed == k) (record { line = line; match_name = key.match_name; selection = key.selection; change = Quote odds limit }) rest h in
    (λ same. parts.0 ((Decides-eqb key.feed k).1 same), parts.1)
one_later k number (Withdrawn key line) rest h =
    let parts = split (λ (other : Accepted). other.line < number) (key.feed == k) (record { line = line; match_name = key.match_name; selection = key.selection; change = Withdraw }) rest h in
    (λ same. parts.0 ((Decides-eqb key.feed k).1 same), parts.1)
one_later k number (Ended feed stop) rest h = (tt, h)
one_later k number (Pinned match_name) rest h = (tt, h)
one_later k number (Filed version finding) rest h = (tt, h)
one_later k number (Released version) rest h = (tt, h)

all_later : (k number : ℕ) (history : List Entry) → AllByRecursion (λ (other : Accepted). other.line < number) (lines_in history k) →
    AllByRecursion (λ (entry : Entry). IsBeforeLine k number entry.event) history
all_later k number [] h = tt
all_later k number (e ∷ history) h = let parts = one_later k number e.event (lines_in history k) h in (parts.0, all_later k number history parts.1)

is_later : (k number : ℕ) (history : List Entry) (before : List Accepted) → lines_in history k ≡ before → All (λ other. other.line < number) before → IsLater history k number
is_later k number history before same h =
    let P : Accepted → Type 0 = λ other. other.line < number in
    All-from_recursion (λ (entry : Entry). IsBeforeLine k number entry.event) history
    (all_later k number history (recursion_from_All P (lines_in history k) (subst (λ (xs : List Accepted). All P xs) (sym same) h)))

-- what a feed does not refuse

quote_room : (a b c : Bool) → cond (not a) (Some TooManyMatches) (cond (not (b || c)) (Some TooManyOffers) None) ≡ None → (b ≡ true) ⊎ (c ≡ true)
quote_room false b c h = absurd (cc h)
quote_room true true c h = inl refl
quote_room true false true h = inr refl
quote_room true false false h = absurd (cc h)

withdraw_stands : (b : Bool) → cond b None (Some NotQuoted) ≡ None → b ≡ true
withdraw_stands true h = refl
withdraw_stands false h = absurd (cc h)

few_below : (a b : ℕ) → nat_lt a b ≡ true → a < b
few_below a b h = grind (arith, nat_tests)

below_through : (a b c most : ℕ) → a ≤ b → b ≡ c → c < most → a < most
below_through a b c most p q r = omega (arith, p, q, r)

-- no more stand on the board than in the feed
count_below : (history : List Entry) (k : ℕ) (m : List ℕ) → standing_count history m k ≤ text.standing_count (lines_in history k) m
unfolding standing_count
count_below history k m = count_le (stands history m k) (text.stands (lines_in history k) m) 0 SELECTIONS (λ n _ now. sym (same_stands history k m n) ∙ now)

open_feed : (rules : List (Option VoidRule)) (history : List Entry) (k : ℕ) (before : List Accepted) → HoldsLines rules history k before → IsOpenFeed rules history (k + 1) k
open_feed rules history k before holds = record { caller_is = refl; exists = holds.exists; not_ended = holds.running }

stands_there : (rules : List (Option VoidRule)) (history : List Entry) (k : ℕ) (before : List Accepted) (m : List ℕ) (n : ℕ) → HoldsLines rules history k before →
    text.stands before m n ≡ true → stands history m k n ≡ true
stands_there rules history k before m n holds h = same_stands history k m n ∙ ap (λ (xs : List Accepted). text.stands xs m n) holds.lines_are ∙ h

takes_change : (rules : List (Option VoidRule)) (history : List Entry) (k : ℕ) (before : List Accepted) (m : List ℕ) (selection : Selection) (number : ℕ) (change : Change) →
    HoldsLines rules history k before → All (λ other. other.line < number) before → HasLimit change →
    text.refused_for before m (selection_number selection) change ≡ None → MayTake rules history (record { feed = k; match_name = m; selection = selection }) number change
takes_change rules history k before m selection number (Quote odds limit) holds later fits accepted =
    record {
      feed = open_feed rules history k before holds;
      later = is_later k number history before holds.lines_are later;
      in_range = fits;
      room = ⊎_elim
          (λ (there : text.stands before m (selection_number selection) ≡ true). inl (stands_there rules history k before m (selection_number selection) holds there))
          (λ (few : nat_lt (text.standing_count before m) MOST_STANDING ≡ true).
          let below : text.standing_count before m < MOST_STANDING = few_below (text.standing_count before m) MOST_STANDING few in
          let same : text.standing_count (lines_in history k) m ≡ text.standing_count before m = ap (λ (xs : List Accepted). text.standing_count xs m) holds.lines_are in
          inr (below_through (standing_count history m k) (text.standing_count (lines_in history k) m) (text.standing_count before m) MOST_STANDING (count_below history k m) same below))
          (quote_room (text.has_match_room before m) (text.stands before m (selection_number selection)) (nat_lt (text.standing_count before m) MOST_STANDING) accepted);
    }
takes_change rules history k before m selection number Withdraw holds later fits accepted =
    record {
      feed = open_feed rules history k before holds;
      later = is_later k number history before holds.lines_are later;
      stands = stands_there rules history k before m (selection_number selection) holds (withdraw_stands (text.stands before m (selection_number selection)) accepted);
    }

pub takes_line : (rules : List (Option VoidRule)) (history : List Entry) (k : ℕ) (before : List Accepted) (line : Accepted) →
    HoldsLines rules history k before → IsAcceptedAfter before line → MayTake rules history (key_of k line) line.line line.change
takes_line rules history k before line holds accepted =
    takes_change rules history k before line.match_name line.selection line.line line.change holds accepted.later accepted.in_range accepted.not_refused

-- the line of an entry

at_own : (k : ℕ) (line : Accepted) → cond (k == k) (Some line) None ≡ Some line
at_own k line = ap (λ (b : Bool). cond b (Some line) None) ((Decides-eqb k k).1 refl)

own_line : (k : ℕ) (m : List ℕ) (selection : Selection) (number : ℕ) (change : Change) →
    line_in k (event_of (record { feed = k; match_name = m; selection = selection }) number change) ≡ Some (record { line = number; match_name = m; selection = selection; change = change })
own_line k m selection number (Quote odds limit) = at_own k (record { line = number; match_name = m; selection = selection; change = Quote odds limit })
own_line k m selection number Withdraw = at_own k (record { line = number; match_name = m; selection = selection; change = Withdraw })

apart : (a b : ℕ) → (a ≡ b → ⊥) → (a == b) ≡ false
apart a b h = ⊎_elim (λ (same : (a == b) ≡ true). absurd (h ((Decides-eqb a b).0 same))) (λ (other : (a == b) ≡ false). other) (cases_Bool (a == b))

at_other : (k other : ℕ) (line : Accepted) → other ≢ k → cond (k == other) (Some line) None ≡ None
at_other k other line differ = ap (λ (b : Bool). cond b (Some line) None) (apart k other (λ e. differ (sym e)))

other_line : (k other : ℕ) (m : List ℕ) (selection : Selection) (number : ℕ) (change : Change) → other ≢ k →
    line_in other (event_of (record { feed = k; match_name = m; selection = selection }) number change) ≡ None
other_line k other m selection number (Quote odds limit) differ = at_other k other (record { line = number; match_name = m; selection = selection; change = Quote odds limit }) differ
other_line k other m selection number Withdraw differ = at_other k other (record { line = number; match_name = m; selection = selection; change = Withdraw }) differ

ends_none : (k feed : ℕ) (key : Key) (number : ℕ) (change : Change) → ends feed (event_of key number change) ≡ false
ends_none k feed key number (Quote odds limit) = refl
ends_none k feed key number Withdraw = refl

one_more : (history : List Entry) (e : Entry) (k : ℕ) → lines_in (history ++ e ∷ []) k ≡ lines_in history k ++ cons_option (line_in k e.event) []
one_more history e k = filter_map-append (λ (entry : Entry). line_in k entry.event) history (e ∷ [])

pub line_held : (rules : List (Option VoidRule)) (history : List Entry) (k : ℕ) (before : List Accepted) (line : Accepted) →
    HoldsLines rules history k before → HoldsLines rules (history ++ entry_of k line ∷ []) k (before ++ line ∷ [])
line_held rules history k before line holds =
    let e : Entry = entry_of k line in
    record {
      exists = holds.exists;
      running = list_any-append (λ (x : Entry). ends k x.event) history (e ∷ [])
          ∙ or_from _ _ holds.running (or_from (ends k e.event) false (ends_none k k (key_of k line) line.line line.change) refl);
      lines_are = one_more history e k
          ∙ ap (λ (o : Option Accepted). lines_in history k ++ cons_option o []) (own_line k line.match_name line.selection line.line line.change)
          ∙ ap (λ (xs : List Accepted). xs ++ line ∷ []) holds.lines_are;
    }

nothing_more : (xs : List Accepted) → xs ++ [] ≡ xs
nothing_more [] = refl
nothing_more (x ∷ xs) = ap (λ (ys : List Accepted). x ∷ ys) (nothing_more xs)

pub others_stay : (history : List Entry) (k other : ℕ) (line : Accepted) → other ≢ k → lines_in (history ++ entry_of k line ∷ []) other ≡ lines_in history other
others_stay history k other line differ =
    one_more history (entry_of k line) other
    ∙ ap (λ (o : Option Accepted). lines_in history other ++ cons_option o []) (other_line k other line.match_name line.selection line.line line.change differ)
    ∙ nothing_more (lines_in history other)
