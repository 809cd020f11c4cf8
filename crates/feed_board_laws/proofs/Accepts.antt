-- Each accepted line of a feed text may be accepted after those before it.
use Rattle.std.proofs.Common.{ℕ, ◌≡◌, ◌<◌, Bool, true, false, cond, List, [], ◌∷◌, ◌++◌, take, slice_get, refl, sym, ap, subst, ◌∙◌, arith, zero, suc, append-nil, append_assoc}
use Rattle.std.specs.Prelude.{Option, Some, None, Result, Ok, Err, All}
use Rattle.std.proofs.lemmas.List.Elements.{All-push}
use Rattle.scan_types.specs.declared.limits.TheConstants.{MOST_LIMIT}
use Rattle.scan_types.specs.declared.selection.Selection.{Selection}
use Rattle.scan_types.specs.Ranges.{IsLimitRange}
use Rattle.scan_types.specs.Selections.{selection_number}
use Rattle.number_definitions.specs.Readings.{limit_of}
use Rattle.number_definitions.specs.Values.{is_within, within_from, limit_with, or_cause, in_range}
use Rattle.feed_definitions.specs.declared.accepted.Accepted.{Accepted}
use Rattle.feed_definitions.specs.declared.accepted.Change.{Change}
use Rattle.feed_definitions.specs.declared.cause.Cause.{Cause}
use Rattle.feed_definitions.specs.declared.cause.Cause.TheVariants as cause
use Rattle.feed_definitions.specs.declared.cause.Fault.{Fault}
use Rattle.feed_definitions.specs.declared.header.Header.{Header}
use Rattle.feed_definitions.specs.declared.request.Request.{Request}
use Rattle.feed_definitions.specs.declared.request.Action.{Action}
use Rattle.feed_definitions.specs.declared.request.Action.TheVariants.{Quotes, Withdraws}
use Rattle.bet_definitions.specs.declared.market.Market.{Market}
use Rattle.bet_definitions.specs.Bets.{market_words}
use Rattle.feed_definitions.specs.declared.request.LineForm.{LineForm}
use Rattle.feed_definitions.specs.declared.request.LineForm.TheVariants as form
use Rattle.feed_definitions.specs.declared.step.Step.{Step}
use Rattle.feed_definitions.specs.declared.step.Step.TheVariants as step
use Rattle.feed_definitions.specs.Lines.{answered_lines, is_cut}
use Rattle.feed_definitions.specs.Fields.{Field, Unread, fields, and_then, at_column, first_field, next, next_at, nothing_in, no_more}
use Rattle.feed_definitions.specs.Forms.{without_return, ascii_or, read_ascii, is_too_long, is_skipped, form_read, header_of, line_form, request_form, selection_form, change_form, limit_value, odds_value, name_value, one_of, action_words}
use Rattle.feed_definitions.specs.Standing.{refused_for}
use Rattle.feed_definitions.specs.Feed.{refusal, request_step, form_step, line_answer, accepted_in, line_steps, feed_steps, ending, steps}
use Rattle.feed_definitions.proofs.Walk.{accepted_first}
use Rattle.feed_board_laws.specs.Bodies.{HasLimit, IsAcceptedAfter}

-- readers one after another

bind_ok : {A B E : Type 0} (r : Result A E) (k : A → Result B E) (y : B) → and_then r k ≡ Ok y → (x : A) × (r ≡ Ok x) × (k x ≡ Ok y)
bind_ok (Ok x) k y h = (x, refl, h)
bind_ok (Err fault) k y h = absurd (cc h)

abbrev fine : {A E : Type 0} → A → Result A E
fine x = Ok x

ok_same : {A E : Type 0} (x y : A) → fine {E = E} x ≡ fine {E = E} y → x ≡ y
ok_same x y h = cc h

-- a limit that is read is in range
limit_within : (n : ℕ) (b : Bool) → is_within 1 MOST_LIMIT n ≡ b → (limit : ℕ) → or_cause cause.LimitRange (cond b (Some n) None) ≡ Ok limit → IsLimitRange limit
limit_within n true is limit h = let P : ℕ → Type 0 = λ k. IsLimitRange k in subst P (ok_same n limit h) (within_from 1 MOST_LIMIT n is)
limit_within n false is limit h = absurd (cc h)

limit_is : (o : Option ℕ) (limit : ℕ) → in_range cause.BadLimit cause.LimitRange o limit_with ≡ Ok limit → IsLimitRange limit
limit_is None limit h = absurd (cc h)
limit_is (Some n) limit h = limit_within n (is_within 1 MOST_LIMIT n) refl limit h

at_ok : {A : Type 0} (column : ℕ) (r : Result A Cause) (x : A) → at_column column r ≡ Ok x → r ≡ Ok x
at_ok column (Ok value) x h = cc h
at_ok column (Err c) x h = absurd (cc h)

-- the next field passed its test
next_ok : {A : Type 0} (test : List ℕ → Result A Cause) (after : ℕ) (others : List Field) (x : A × Unread) →
    first_field (λ field. at_column field.column (test field.bytes)) after others ≡ Ok x → (text : List ℕ) × (test text ≡ Ok x.0)
next_ok test after [] x h = absurd (cc h)
next_ok {A} test after (field ∷ others) x h =
    let parts = bind_ok (at_column field.column (test field.bytes)) _ x h in
    let value : parts.0 ≡ x.0 = ap (λ (p : A × Unread). p.0) (ok_same _ x parts.2) in
    (field.bytes, at_ok field.column (test field.bytes) parts.0 parts.1 ∙ ap (λ (a : A). Ok a) value)

-- what a quote or a withdrawal asks for has a limit in range
change_fits : (action : Action) (unread : Unread) (x : Change × Unread) → change_form action unread ≡ Ok x → HasLimit x.0
unfolding change_form
change_fits Quotes unread x h =
    let odds = bind_ok (next odds_value unread) _ x h in
    let limit = bind_ok (next limit_value odds.0.1) _ x odds.2 in
    let passed = next_ok limit_value odds.0.1.after odds.0.1.others limit.0 limit.1 in
    let P : Change → Type 0 = λ change. HasLimit change in
    subst P (ap (λ (p : Change × Unread). p.0) (ok_same _ x limit.2)) (limit_is (limit_of passed.0) limit.0.0 passed.1)
change_fits Withdraws unread x h =
    let P : Change → Type 0 = λ change. HasLimit change in
    subst P (ap (λ (p : Change × Unread). p.0) (ok_same _ x h)) tt

request_fits : (unread : Unread) (x : Request × Unread) → request_form unread ≡ Ok x → HasLimit x.0.change
unfolding request_form
request_fits unread x h =
    let action = bind_ok {A = Action × Unread} (next (one_of action_words) unread) _ x h in
    let found = bind_ok {A = (ℕ × List ℕ) × Unread} (next_at name_value action.0.1) _ x action.2 in
    let market = bind_ok {A = Market × Unread} (next (one_of market_words) found.0.1) _ x found.2 in
    let selection = bind_ok {A = Selection × Unread} (selection_form market.0.0 market.0.1) _ x market.2 in
    let change = bind_ok (change_form action.0.0 selection.0.1) _ x selection.2 in
    let P : Change → Type 0 = λ c. HasLimit c in
    subst P (ap (λ (p : Request × Unread). p.0.change) (ok_same _ x change.2)) (change_fits action.0.0 selection.0.1 change.0 change.1)

all_read : {A : Type 0} (read : A × Unread) (x : A) → no_more read ≡ Ok x → read.0 ≡ x
all_read read x h = only read.0 read.1.others x h
  where
    only : {A : Type 0} (value : A) (others : List Field) (x : A) → nothing_in value others ≡ Ok x → value ≡ x
    only value [] x h = cc h
    only value (field ∷ others) x h = absurd (cc h)

ascii_ok : {A : Type 0} (o : Option ℕ) (r : Result A Fault) (x : A) → ascii_or o r ≡ Ok x → r ≡ Ok x
ascii_ok None r x h = h
ascii_ok (Some index) r x h = absurd (cc h)

read_fits : (text : List ℕ) (request : Request) → read_ascii request_form text ≡ Ok request → HasLimit request.change
read_fits text request h =
    let all = bind_ok (request_form (record { after = 1; others = fields text })) no_more request (ascii_ok _ _ request h) in
    let P : Request → Type 0 = λ r. HasLimit r.change in
    subst P (all_read all.0 request all.2) (request_fits (record { after = 1; others = fields text }) all.0 all.1)

asks_read : (r : Result Request Fault) (request : Request) → form_read r ≡ form.Asks request → r ≡ Ok request
asks_read (Ok read) request h = cc h
asks_read (Err fault) request h = absurd (cc h)

asks_under : (long skipped : Bool) (r : Result Request Fault) (wrong : LineForm) (fault : Fault) (request : Request) → wrong ≡ form.Wrong fault →
    cond long wrong (cond skipped form.Skipped (form_read r)) ≡ form.Asks request → r ≡ Ok request
asks_under true skipped r wrong fault request is h = absurd (let same : form.Wrong fault ≡ form.Asks request = sym is ∙ h in cc same)
asks_under false true r wrong fault request is h = absurd (cc h)
asks_under false false r wrong fault request is h = asks_read r request h

line_fits : (line : List ℕ) (request : Request) → line_form line ≡ form.Asks request → HasLimit request.change
unfolding line_form
line_fits line request h = read_fits (without_return line) request (asks_under (is_too_long line) (is_skipped (fields (without_return line))) _ _ _ request refl h)

-- the step of one line

step_line : Step → Option Accepted
step_line (step.Line line) = Some line
step_line _ = None

made_line : (before : List Accepted) (k : ℕ) (request : Request) (o : Option Cause) (line : Accepted) → request_step k request o ≡ step.Line line →
    (o ≡ None) × (record { line = k; match_name = request.match_name; selection = request.selection; change = request.change } ≡ line)
made_line before k request None line h = (refl, cc h)
made_line before k request (Some c) line h = absurd (cc h)

accepts_form : (before : List Accepted) (k : ℕ) (of : LineForm) (line : Accepted) → ((request : Request) → of ≡ form.Asks request → HasLimit request.change) →
    All (λ other. other.line < k) before → form_step before k of ≡ step.Line line → IsAcceptedAfter before line × (line.line ≡ k)
accepts_form before k form.Skipped line fits later h = absurd (cc h)
accepts_form before k (form.Wrong fault) line fits later h = absurd (cc h)
accepts_form before k (form.Asks request) line fits later h =
    let parts = made_line before k request (refused_for before request.match_name (selection_number request.selection) request.change) line h in
    let P : Accepted → Type 0 = λ l. IsAcceptedAfter before l × (l.line ≡ k) in
    subst P parts.1 (record { later = later; in_range = fits request refl; not_refused = parts.0 }, refl)

accepts : (before : List Accepted) (k : ℕ) (line : List ℕ) (accepted : Accepted) → All (λ other. other.line < k) before → line_answer before k line ≡ step.Line accepted →
    IsAcceptedAfter before accepted × (accepted.line ≡ k)
accepts before k line accepted later h = accepts_form before k (line_form line) accepted (line_fits line) later h

-- the steps of lines

all_below : (k : ℕ) (before : List Accepted) → All (λ other. other.line < k) before → All (λ other. other.line < suc k) before
all_below k before h = λ i d within. let below = h i d within in omega (arith, below)

after_step : (before : List Accepted) (k : ℕ) (s : Step) → ((line : Accepted) → s ≡ step.Line line → line.line ≡ k) → All (λ other. other.line < k) before →
    All (λ other. other.line < suc k) (before ++ accepted_in (s ∷ []))
after_step before k (step.Line line) numbered later =
    let is : line.line ≡ k = numbered line refl in
    let below : line.line < suc k = omega (arith, is) in
    All-push (λ (other : Accepted). other.line < suc k) before line (all_below k before later) below
after_step before k (step.Header header) numbered later = subst (λ (xs : List Accepted). All (λ other. other.line < suc k) xs) (sym (append-nil before)) (all_below k before later)
after_step before k (step.BadHeader r) numbered later = subst (λ (xs : List Accepted). All (λ other. other.line < suc k) xs) (sym (append-nil before)) (all_below k before later)
after_step before k (step.Refused r) numbered later = subst (λ (xs : List Accepted). All (λ other. other.line < suc k) xs) (sym (append-nil before)) (all_below k before later)
after_step before k step.Skipped numbered later = subst (λ (xs : List Accepted). All (λ other. other.line < suc k) xs) (sym (append-nil before)) (all_below k before later)
after_step before k step.End numbered later = subst (λ (xs : List Accepted). All (λ other. other.line < suc k) xs) (sym (append-nil before)) (all_below k before later)
after_step before k step.Cut numbered later = subst (λ (xs : List Accepted). All (λ other. other.line < suc k) xs) (sym (append-nil before)) (all_below k before later)
after_step before k step.ReadFault numbered later = subst (λ (xs : List Accepted). All (λ other. other.line < suc k) xs) (sym (append-nil before)) (all_below k before later)

some_same : {X : Type 0} (x y : X) → Some x ≡ Some y → x ≡ y
some_same x y h = cc h

lines_accepted : (e : Step) → ((line : Accepted) → e ≡ step.Line line → ⊥) → (before : List Accepted) (k : ℕ) (lines : List (List ℕ)) (n : ℕ) (line : Accepted) →
    All (λ other. other.line < k) before → slice_get (line_steps e before k lines) n ≡ Some (step.Line line) →
    IsAcceptedAfter (before ++ accepted_in (take n (line_steps e before k lines))) line
unfolding line_steps
lines_accepted e ends before k [] zero line later h = absurd (ends line (some_same e (step.Line line) h))
lines_accepted e ends before k [] (suc n) line later h = absurd (cc h)
lines_accepted e ends before k (l ∷ lines) zero line later h =
    let P : List Accepted → Type 0 = λ xs. IsAcceptedAfter xs line in
    subst P (sym (append-nil before)) (accepts before k l line later (some_same (line_answer before k l) (step.Line line) h)).0
lines_accepted e ends before k (l ∷ lines) (suc n) line later h =
    let s : Step = line_answer before k l in
    let more : List Accepted = before ++ accepted_in (s ∷ []) in
    let rest = lines_accepted e ends more (suc k) lines n line (after_step before k s (λ a is. (accepts before k l a later is).1) later) h in
    let P : List Accepted → Type 0 = λ xs. IsAcceptedAfter xs line in
    subst P
    (append_assoc before (accepted_in (s ∷ [])) (accepted_in (take n (line_steps e more (suc k) lines)))
    ∙ ap (λ (xs : List Accepted). before ++ xs) (sym (accepted_first s (take n (line_steps e more (suc k) lines)))))
    rest

-- the steps of a feed

none_before : (k : ℕ) → All (λ (other : Accepted). other.line < k) []
none_before k = λ i d within. absurd (omega (arith, within))

open_accepted : (e : Step) → ((line : Accepted) → e ≡ step.Line line → ⊥) → (r : Result Header Fault) (lines : List (List ℕ)) (n : ℕ) (line : Accepted) →
    slice_get (elim r [ Err fault ↦ step.BadHeader (refusal 1 fault) ∷ [] | Ok header ↦ step.Header header ∷ line_steps e [] 2 lines ]) n ≡ Some (step.Line line) →
    IsAcceptedAfter (accepted_in (take n (elim r [ Err fault ↦ step.BadHeader (refusal 1 fault) ∷ [] | Ok header ↦ step.Header header ∷ line_steps e [] 2 lines ]))) line
open_accepted e ends (Err fault) lines zero line h = absurd (cc h)
open_accepted e ends (Err fault) lines (suc n) line h = absurd (cc h)
open_accepted e ends (Ok header) lines zero line h = absurd (cc h)
open_accepted e ends (Ok header) lines (suc n) line h = lines_accepted e ends [] 2 lines n line (none_before 2) h

feed_accepted : (e : Step) → ((line : Accepted) → e ≡ step.Line line → ⊥) → (lines : List (List ℕ)) (n : ℕ) (line : Accepted) →
    slice_get (feed_steps e lines) n ≡ Some (step.Line line) → IsAcceptedAfter (accepted_in (take n (feed_steps e lines))) line
unfolding feed_steps
feed_accepted e ends [] zero line h = absurd (ends line (some_same e (step.Line line) h))
feed_accepted e ends [] (suc n) line h = absurd (cc h)
feed_accepted e ends (l ∷ lines) n line h = open_accepted e ends (header_of l) lines n line h

ending_ends : (cut failed : Bool) (line : Accepted) → cond cut step.Cut (cond failed step.ReadFault step.End) ≡ step.Line line → ⊥
ending_ends true failed line h = cc h
ending_ends false true line h = cc h
ending_ends false false line h = cc h

pub steps_accepted : (failed : Bool) (bytes : List ℕ) (n : ℕ) (line : Accepted) → slice_get (steps failed bytes) n ≡ Some (step.Line line) →
    IsAcceptedAfter (accepted_in (take n (steps failed bytes))) line
unfolding steps
steps_accepted failed bytes n line h = feed_accepted (ending failed bytes) (ending_ends (is_cut bytes) failed) (answered_lines failed bytes) n line h
