-- What a step behind the header says of its feed.
use Rattle.std.proofs.Common.{ℕ, ◌≡◌, ◌+◌, ◌<◌, ◌≤◌, Bool, true, false, cond, List, [], ◌∷◌, ◌++◌, length, slice_get, refl, sym, ap, ◌∙◌, arith, zero, suc, append-nil}
use Rattle.std.specs.Prelude.{Option, Some, None, Result, Ok, Err, min}
use Rattle.std.proofs.lemmas.List.{length-take}
use Rattle.scan_types.specs.declared.limits.TheConstants.{MOST_LINES}
use Rattle.feed_definitions.specs.declared.accepted.Accepted.{Accepted}
use Rattle.feed_definitions.specs.declared.cause.Cause.{Cause}
use Rattle.feed_definitions.specs.declared.cause.Fault.{Fault}
use Rattle.feed_definitions.specs.declared.header.Header.{Header}
use Rattle.feed_definitions.specs.declared.request.Request.{Request}
use Rattle.feed_definitions.specs.declared.request.LineForm.{LineForm}
use Rattle.feed_definitions.specs.declared.request.LineForm.TheVariants as form
use Rattle.feed_definitions.specs.declared.step.Step.{Step}
use Rattle.feed_definitions.specs.declared.step.Step.TheVariants as step
use Rattle.feed_definitions.specs.Lines.{answered_lines, counted_lines, is_cut}
use Rattle.feed_definitions.specs.Forms.{header_of, line_form}
use Rattle.feed_definitions.specs.Standing.{refused_for}
use Rattle.scan_types.specs.Selections.{selection_number}
use Rattle.feed_definitions.specs.Feed.{refusal, request_step, form_step, line_answer, accepted_in, line_steps, feed_steps, ending, steps}
use Rattle.feed_definitions.proofs.Prefixes.{cut_stays}
use Rattle.feed_lines.specs.Reader.{is_of_line}

-- the step is for line 1
abbrev pub is_first : Step → Bool
is_first (step.Header header) = true
is_first (step.BadHeader refusal) = true
is_first _ = false

-- a step of a line that is not line 1
abbrev pub IsLater : Step → Type 0
IsLater s = (is_of_line s ≡ true) × (is_first s ≡ false)

later_request : (k : ℕ) (request : Request) (o : Option Cause) → IsLater (request_step k request o)
later_request k request None = (refl, refl)
later_request k request (Some c) = (refl, refl)

later_form : (before : List Accepted) (k : ℕ) (of : LineForm) → IsLater (form_step before k of)
later_form before k form.Skipped = (refl, refl)
later_form before k (form.Wrong fault) = (refl, refl)
later_form before k (form.Asks request) = later_request k request (refused_for before request.match_name (selection_number request.selection) request.change)

later_answer : (before : List Accepted) (k : ℕ) (line : List ℕ) → IsLater (line_answer before k line)
later_answer before k line = later_form before k (line_form line)

some_same : {X : Type 0} (x y : X) → Some x ≡ Some y → x ≡ y
some_same x y h = cc h

-- a step behind the header is the ending, or one of a line that is not line 1
abbrev IsBehind : Step → Step → Type 0
IsBehind e s = (is_of_line s ≡ false → s ≡ e) × (is_of_line s ≡ true → is_first s ≡ false)

behind_ending : (e s : Step) → is_of_line e ≡ false → e ≡ s → IsBehind e s
behind_ending e s ends same = (λ _. sym same, λ of. absurd (let other : is_of_line s ≡ false = ap is_of_line (sym same) ∙ ends in let clash : true ≡ false = sym of ∙ other in cc clash))

behind_line : (e s t : Step) → IsLater s → s ≡ t → IsBehind e t
behind_line e s t later same =
    (λ none. absurd (let of : is_of_line t ≡ true = ap is_of_line (sym same) ∙ later.0 in let clash : true ≡ false = sym of ∙ none in cc clash), λ _. ap is_first (sym same) ∙ later.1)

lines_behind : (e : Step) → is_of_line e ≡ false → (before : List Accepted) (k : ℕ) (lines : List (List ℕ)) (n : ℕ) (s : Step) →
    slice_get (line_steps e before k lines) n ≡ Some s → IsBehind e s
unfolding line_steps
lines_behind e ends before k [] zero s h = behind_ending e s ends (some_same e s h)
lines_behind e ends before k [] (suc n) s h = absurd (cc h)
lines_behind e ends before k (l ∷ lines) zero s h = behind_line e (line_answer before k l) s (later_answer before k l) (some_same (line_answer before k l) s h)
lines_behind e ends before k (l ∷ lines) (suc n) s h = lines_behind e ends (before ++ accepted_in (line_answer before k l ∷ [])) (suc k) lines n s h

open_behind : (e : Step) → is_of_line e ≡ false → (r : Result Header Fault) (lines : List (List ℕ)) (n : ℕ) (s : Step) →
    slice_get (elim r [ Err fault ↦ step.BadHeader (refusal 1 fault) ∷ [] | Ok header ↦ step.Header header ∷ line_steps e [] 2 lines ]) (suc n) ≡ Some s → IsBehind e s
open_behind e ends (Err fault) lines n s h = absurd (cc h)
open_behind e ends (Ok header) lines n s h = lines_behind e ends [] 2 lines n s h

feed_behind : (e : Step) → is_of_line e ≡ false → (lines : List (List ℕ)) (n : ℕ) (s : Step) → slice_get (feed_steps e lines) (suc n) ≡ Some s → IsBehind e s
unfolding feed_steps
feed_behind e ends [] n s h = absurd (cc h)
feed_behind e ends (l ∷ lines) n s h = open_behind e ends (header_of l) lines n s h

ending_of_none : (cut failed : Bool) → is_of_line (cond cut step.Cut (cond failed step.ReadFault step.End)) ≡ false
ending_of_none true failed = refl
ending_of_none false true = refl
ending_of_none false false = refl

behind : (failed : Bool) (text : List ℕ) (n : ℕ) (s : Step) → slice_get (steps failed text) (suc n) ≡ Some s → IsBehind (ending failed text) s
unfolding steps
behind failed text n s h = feed_behind (ending failed text) (ending_of_none (is_cut text) failed) (answered_lines failed text) n s h

pub behind_header : (failed : Bool) (text : List ℕ) (n : ℕ) (s : Step) → 0 < n → slice_get (steps failed text) n ≡ Some s → IsBehind (ending failed text) s
behind_header failed text zero s some h = absurd (omega (arith, some))
behind_header failed text (suc n) s some h = behind failed text n s h

-- which ending it is

end_is : (cut failed : Bool) → cond cut step.Cut (cond failed step.ReadFault step.End) ≡ step.End → failed ≡ false
end_is true failed h = absurd (cc h)
end_is false true h = absurd (cc h)
end_is false false h = refl

fault_is : (cut failed : Bool) → cond cut step.Cut (cond failed step.ReadFault step.End) ≡ step.ReadFault → failed ≡ true
fault_is true failed h = absurd (cc h)
fault_is false true h = refl
fault_is false false h = absurd (cc h)

cut_is : (cut failed : Bool) → cond cut step.Cut (cond failed step.ReadFault step.End) ≡ step.Cut → cut ≡ true
cut_is true failed h = refl
cut_is false true h = absurd (cc h)
cut_is false false h = absurd (cc h)

pub end_read : (failed : Bool) (text : List ℕ) (n : ℕ) → 0 < n → slice_get (steps failed text) n ≡ Some step.End → failed ≡ false
end_read failed text n some h = end_is (is_cut text) failed (sym ((behind_header failed text n step.End some h).0 refl))

pub fault_read : (failed : Bool) (text : List ℕ) (n : ℕ) → 0 < n → slice_get (steps failed text) n ≡ Some step.ReadFault → failed ≡ true
fault_read failed text n some h = fault_is (is_cut text) failed (sym ((behind_header failed text n step.ReadFault some h).0 refl))

pub cut_read : (failed : Bool) (text : List ℕ) (n : ℕ) → 0 < n → slice_get (steps failed text) n ≡ Some step.Cut → steps false text ≡ steps failed text
cut_read failed text n some h =
    let cut : is_cut text ≡ true = cut_is (is_cut text) failed (sym ((behind_header failed text n step.Cut some h).0 refl)) in
    ap (steps false) (sym (append-nil text)) ∙ cut_stays text [] failed false cut

-- a feed has no more steps than lines that are answered, and one

few_lines : (e : Step) (before : List Accepted) (k : ℕ) (lines : List (List ℕ)) → length (line_steps e before k lines) ≤ length lines + 1
unfolding line_steps
few_lines e before k [] = omega arith
few_lines e before k (l ∷ lines) = let rest = few_lines e (before ++ accepted_in (line_answer before k l ∷ [])) (suc k) lines in omega (arith, rest)

few_open : (e : Step) (r : Result Header Fault) (lines : List (List ℕ)) →
    length {A = Step} (elim r [ Err fault ↦ step.BadHeader (refusal 1 fault) ∷ [] | Ok header ↦ step.Header header ∷ line_steps e [] 2 lines ]) ≤ length lines + 2
few_open e (Err fault) lines = omega arith
few_open e (Ok header) lines = let rest = few_lines e [] 2 lines in omega (arith, rest)

few_steps : (e : Step) (lines : List (List ℕ)) → length (feed_steps e lines) ≤ length lines + 1
unfolding feed_steps
few_steps e [] = omega arith
few_steps e (l ∷ lines) = let rest = few_open e (header_of l) lines in omega (arith, rest)

pub steps_few : (failed : Bool) (text : List ℕ) → length (steps failed text) ≤ MOST_LINES + 1
unfolding steps
steps_few failed text =
    let all = few_steps (ending failed text) (answered_lines failed text) in
    let most : length (answered_lines failed text) ≡ min MOST_LINES (length (counted_lines failed text)) = length-take MOST_LINES (counted_lines failed text) in
    omega (arith, all, most)
