-- The lines of a feed that its own caller has put on a board.
use Rattle.std.proofs.Common.{ℕ, ◌≡◌, ◌<◌, ◌+◌, Bool, true, false, cond, List, [], ◌∷◌, ◌++◌, length, take, get_or, refl, sym, ap, ◌∙◌, subst, arith, append_assoc, append-nil, zero, suc, Some, None}
use Rattle.std.specs.Prelude.{Option, slice_get, ◌==◌, IsSome}
use Rattle.std.proofs.lemmas.List.{take_more}
use Rattle.std.proofs.Common.{eq-eqb}
use Rattle.scan_types.specs.declared.offer.Offer.{Offer}
use Rattle.scan_types.specs.declared.rule.VoidRule.{VoidRule}
use Rattle.finding_definitions.specs.declared.finding.Finding.{Finding}
use Rattle.feed_definitions.specs.declared.accepted.Accepted.{Accepted}
use Rattle.board_definitions.specs.declared.event.Event.{Event}
use Rattle.board_definitions.specs.declared.event.Event.TheVariants.{Quoted, Withdrawn, Ended, Pinned, Filed, Released}
use Rattle.board_definitions.specs.declared.event.Entry.{Entry}
use Rattle.board_definitions.specs.Entries.{rule_of}
use Rattle.board_definitions.specs.Pins.{has_ended}
use Rattle.board_definitions.specs.Legal.{IsLegal}
use Rattle.board_laws.specs.Callers.{calls, is_of_feed}
use Rattle.board_laws.proofs.Feeds.{their_callers, given_by_some, tell_of_ends}
use Rattle.report_laws.specs.Boards.{line_in}
use Rattle.desk_definitions.specs.Lines.{entry_of, entries_of}
use Rattle.feed_board_laws.specs.Bodies.{lines_in, HoldsLines, IsAcceptedAfter}
use Rattle.feed_board_laws.proofs.Takes.{line_held}
use Rattle.feed_workers.specs.Runs.{AreAccepted}

-- a board that holds lines of a feed holds these too once they are put
pub held_all : (rules : List (Option VoidRule)) (history : List Entry) (feed : ℕ) (before lines : List Accepted) → HoldsLines rules history feed before →
    HoldsLines rules (history ++ entries_of feed lines) feed (before ++ lines)
held_all rules history feed before [] holds =
    let P : List Entry → Type 0 = λ h. HoldsLines rules h feed (before ++ []) in
    subst P (sym (append-nil history)) (subst (HoldsLines rules history feed) (sym (append-nil before)) holds)
held_all rules history feed before (line ∷ lines) holds =
    let more = held_all rules (history ++ entry_of feed line ∷ []) feed (before ++ line ∷ []) lines (line_held rules history feed before line holds) in
    let P : List Entry → Type 0 = λ h. HoldsLines rules h feed (before ++ line ∷ lines) in
    subst P (append_assoc history (entry_of feed line ∷ []) (entries_of feed lines))
    (subst (HoldsLines rules ((history ++ entry_of feed line ∷ []) ++ entries_of feed lines) feed) (append_assoc before (line ∷ []) lines) more)

pub held_alone : (rules : List (Option VoidRule)) (feed : ℕ) (lines : List Accepted) → IsSome (rule_of rules feed) → HoldsLines rules (entries_of feed lines) feed lines
held_alone rules feed lines exists = held_all rules [] feed [] lines (record { exists = exists; running = refl; lines_are = refl })

clash : (b : Bool) → b ≡ true → b ≡ false → ⊥
clash true e h = cc h
clash false e h = cc e

cond_none : {X : Type 0} (b : Bool) (x : X) → b ≡ false → cond b (Some x) None ≡ None
cond_none b x h = ap (λ c. cond c (Some x) None) h

no_line : (feed : ℕ) (event : Event) → is_of_feed feed event ≡ false → line_in feed event ≡ None
no_line feed (Quoted key odds limit line) h = cond_none (key.feed == feed) _ h
no_line feed (Withdrawn key line) h = cond_none (key.feed == feed) _ h
no_line feed (Ended ended stop) h = refl
no_line feed (Pinned m) h = refl
no_line feed (Filed v f) h = refl
no_line feed (Released v) h = refl

-- a legal history holds the lines that the feed's own caller has put
pub held_in : (rules : List (Option VoidRule)) (allows : List Offer → Finding → Type 0) (history : List Entry) (feed : ℕ) (lines : List Accepted) → IsLegal rules allows history →
    IsSome (rule_of rules feed) → calls (feed + 1) history ≡ entries_of feed lines → HoldsLines rules history feed lines
held_in rules allows history feed lines legal exists own =
    let mine = held_alone rules feed lines exists in
    record {
      exists = exists;
      running = tell_of_ends rules allows history feed legal ∙ ap (λ h. has_ended h feed) own ∙ mine.running;
      lines_are = given_by_some (λ (entry : Entry). line_in feed entry.event) (λ (entry : Entry). entry.caller == feed + 1) history
          (λ place entry at not_own. no_line feed entry.event (other place entry at not_own))
          ∙ ap (λ h. lines_in h feed) own ∙ mine.lines_are;
    }
  where
    other : (place : ℕ) (entry : Entry) → slice_get history place ≡ Some entry → (entry.caller == feed + 1) ≡ false → is_of_feed feed entry.event ≡ false
    other place entry at not_own = by (is_of_feed feed entry.event) refl
      where
        by : (b : Bool) → is_of_feed feed entry.event ≡ b → is_of_feed feed entry.event ≡ false
        by true h = absurd (clash (entry.caller == feed + 1) (eq-eqb entry.caller (feed + 1) (their_callers rules allows history place entry feed legal at h)) not_own)
        by false h = h

-- the next line may be accepted behind those before it
pub accepted_at : (before lines : List Accepted) (k : ℕ) (line : Accepted) → AreAccepted before lines → k < length lines → line ≡ get_or lines k line → IsAcceptedAfter (before ++ take k lines) line
accepted_at before [] k line are within is = absurd (omega (arith, within))
accepted_at before (first ∷ lines) zero line are within is =
    subst (λ (xs : List Accepted). IsAcceptedAfter xs line) (sym (append-nil before)) (subst (IsAcceptedAfter before) (sym is) are.0)
accepted_at before (first ∷ lines) (suc k) line are within is =
    subst (λ (xs : List Accepted). IsAcceptedAfter xs line) (append_assoc before (first ∷ []) (take k lines))
    (accepted_at (before ++ first ∷ []) lines k line are.1 (omega (arith, within)) is)

entries_joined : (feed : ℕ) (xs ys : List Accepted) → entries_of feed (xs ++ ys) ≡ entries_of feed xs ++ entries_of feed ys
entries_joined feed [] ys = refl
entries_joined feed (x ∷ xs) ys = ap (λ (es : List Entry). entry_of feed x ∷ es) (entries_joined feed xs ys)

pub joined : (feed : ℕ) (xs ys : List Accepted) → entries_of feed (xs ++ ys) ≡ entries_of feed xs ++ entries_of feed ys
joined feed xs ys = entries_joined feed xs ys

-- the entries of one line more
pub entries_next : (feed : ℕ) (lines : List Accepted) (k : ℕ) (line : Accepted) → k < length lines → line ≡ get_or lines k line → (history : List Entry) →
    (history ++ entries_of feed (take k lines)) ++ entry_of feed line ∷ [] ≡ history ++ entries_of feed (take (k + 1) lines)
entries_next feed lines k line within is history =
    append_assoc history (entries_of feed (take k lines)) (entry_of feed line ∷ [])
    ∙ ap (λ (es : List Entry). history ++ es) (sym (joined feed (take k lines) (line ∷ [])))
    ∙ ap (λ (xs : List Accepted). history ++ entries_of feed xs) (ap (λ x. take k lines ++ x ∷ []) is ∙ sym (take_more lines k line within))
