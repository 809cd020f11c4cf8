-- The answer to the next line, and what is left after it.
use Rattle.std.proofs.Common.{◌≡◌, ℕ, zero, suc, ◌+◌, ◌<◌, Bool, true, false, not, cond, ltb, List, [], ◌∷◌, ◌++◌, length, take, slice_get, Some, refl, sym, ap, ◌∙◌, subst, arith, length-take, length-append}
use Rattle.std.specs.Prelude.{Option, None, Result, Ok, Err}
use Rattle.scan_types.specs.Selections.{selection_number}
use Rattle.feed_definitions.specs.declared.cause.Cause.{Cause}
use Rattle.std.proofs.lemmas.Bool.{false≢true}
use Rattle.std.proofs.lemmas.Bool.Decides.{nat_tests}
use Rattle.std.proofs.lemmas.List.{length-take-le}
use Rattle.std.proofs.lemmas.Option.{slice_get_within}
use Rattle.scan_types.specs.declared.limits.TheConstants.{MOST_LINES, MOST_LINE_BYTES}
use Rattle.feed_definitions.specs.declared.accepted.Accepted.{Accepted}
use Rattle.feed_definitions.specs.declared.cause.Fault.{Fault}
use Rattle.feed_definitions.specs.declared.header.Header.{Header}
use Rattle.feed_definitions.specs.declared.request.Request.{Request}
use Rattle.feed_definitions.specs.declared.request.LineForm.{LineForm}
use Rattle.feed_definitions.specs.declared.request.LineForm.TheVariants as form
use Rattle.feed_definitions.specs.declared.step.Step.{Step}
use Rattle.feed_definitions.specs.declared.step.Step.TheVariants as step
use Rattle.feed_definitions.specs.Lines.{answered_lines, counted_lines, is_cut}
use Rattle.feed_definitions.specs.Forms.{header_of, header_form, line_form, read_ascii, too_long, without_return}
use Rattle.feed_definitions.specs.Standing.{refused_for}
use Rattle.feed_definitions.specs.Feed.{request_step, form_step, line_answer, accepted_in, ending}
use Rattle.feed_definitions.specs.Answers.{header_step, next_answer, is_header, is_open, ends_feed}
use Rattle.feed_definitions.proofs.Prefixes.{step_of_line, steps_end, bad_header_ends, bad_header_stays, cut_stays}
use Rattle.feed_lines.specs.Rows.{IsStanding}
use Rattle.feed_lines.specs.Reader.{steps_so, IsAtLine, IsReadOut, IsNextLine, IsAfterLines, IsAnswer, IsReading, IsNumbered, IsWhole, is_read_fault, is_of_line}

-- an answer to a line
header_accepts_nothing : (o : Result Header Fault) → accepted_in (header_step o ∷ []) ≡ []
header_accepts_nothing (Ok header) = refl
header_accepts_nothing (Err fault) = refl

header_opens : (o : Result Header Fault) → ends_feed (header_step o) ≡ not (is_header (header_step o))
header_opens (Ok header) = refl
header_opens (Err fault) = refl

line_goes_on : (before : List Accepted) (n : ℕ) (f : LineForm) → (ends_feed (form_step before n f) ≡ false) × (is_of_line (form_step before n f) ≡ true) × (is_read_fault (form_step before n f) ≡ false)
line_goes_on before n form.Skipped = (refl, refl, refl)
line_goes_on before n (form.Wrong fault) = (refl, refl, refl)
line_goes_on before n (form.Asks request) = by_refusal (refused_for before request.match_name (selection_number request.selection) request.change)
  where
    by_refusal : (o : Option Cause) → (ends_feed (request_step n request o) ≡ false) × (is_of_line (request_step n request o) ≡ true) × (is_read_fault (request_step n request o) ≡ false)
    by_refusal None = (refl, refl, refl)
    by_refusal (Some cause) = (refl, refl, refl)

header_of_line : (o : Result Header Fault) → (is_of_line (header_step o) ≡ true) × (is_read_fault (header_step o) ≡ false)
header_of_line (Ok header) = (refl, refl)
header_of_line (Err fault) = (refl, refl)

-- the answer to line 1, and to any other line
pub answer_first : (before : List Step) (line : List ℕ) → length before ≡ 0 → header_step (header_of line) ≡ next_answer before line
answer_first [] line h = refl
answer_first (s ∷ before) line h = absurd (omega (arith, h))

pub answer_other : (before : List Step) (line : List ℕ) (n : ℕ) → 0 < n → length before ≡ n → line_answer (accepted_in before) (n + 1) line ≡ next_answer before line
answer_other [] line n h e = absurd (omega (arith, h, e))
answer_other (s ∷ before) line n h e = ap (λ m. line_answer (accepted_in (s ∷ before)) m line) (omega (arith, e))

pub answer_is_of_line : (before : List Step) (line : List ℕ) → (is_of_line (next_answer before line) ≡ true) × (is_read_fault (next_answer before line) ≡ false)
answer_is_of_line [] line = header_of_line (header_of line)
answer_is_of_line (s ∷ before) line = let g = line_goes_on (accepted_in (s ∷ before)) (suc (length (s ∷ before))) (line_form line) in (g.1, g.2)

-- what stands after the answer to line 1 is what stood
pub accepted_first_answer : (before : List Step) (line : List ℕ) → length before ≡ 0 → accepted_in (before ++ header_step (header_of line) ∷ []) ≡ accepted_in before
accepted_first_answer [] line h = header_accepts_nothing (header_of line)
accepted_first_answer (s ∷ before) line h = absurd (omega (arith, h))

-- whether more follows
open_after : (before : List Step) (line : List ℕ) → is_open before ≡ true → ends_feed (next_answer before line) ≡ false → is_open (before ++ next_answer before line ∷ []) ≡ true
open_after [] line opened h = not_not (is_header (header_step (header_of line))) (sym (header_opens (header_of line)) ∙ h)
  where
    not_not : (t : Bool) → not t ≡ false → t ≡ true
    not_not true h = refl
    not_not false h = sym h
open_after (s ∷ before) line opened h = opened

shut_after : (before : List Step) (line : List ℕ) → ends_feed (next_answer before line) ≡ true → (length before ≡ 0) × (is_open (before ++ next_answer before line ∷ []) ≡ false)
shut_after [] line h = (refl, not_true (is_header (header_step (header_of line))) (sym (header_opens (header_of line)) ∙ h))
  where
    not_true : (t : Bool) → not t ≡ true → t ≡ false
    not_true true h = sym h
    not_true false h = refl
shut_after (s ∷ before) line h = absurd (false≢true (sym (line_goes_on (accepted_in (s ∷ before)) (suc (length (s ∷ before))) (line_form line)).0 ∙ h))

-- one more item
take_more : (xs : List Step) (k : ℕ) (s : Step) → slice_get xs k ≡ Some s → take (k + 1) xs ≡ take k xs ++ s ∷ []
take_more xs k s h = ap (λ n. take n xs) {x = k + 1} {y = suc k} (omega arith) ∙ more xs k h
  where
    some_same : (a b : Step) → Some a ≡ Some b → a ≡ b
    some_same a b h = cc

    more : (xs : List Step) (k : ℕ) → slice_get xs k ≡ Some s → take (suc k) xs ≡ take k xs ++ s ∷ []
    more [] k h = absurd (cc)
    more (x ∷ xs) zero h = ap (λ y. y ∷ []) (some_same x s h)
    more (x ∷ xs) (suc k) h = ap (λ l. x ∷ l) (more xs k h)

-- so many answers were given
pub given_length : (drained : Bool) (bytes : List ℕ) (lines : ℕ) (s : Step) → slice_get (steps_so drained bytes) lines ≡ Some s → length (take lines (steps_so drained bytes)) ≡ lines
given_length drained bytes lines s h = length-take-le lines (steps_so drained bytes) (omega (arith, slice_get_within (steps_so drained bytes) lines s h))

pub low_line : (drained : Bool) (bytes : List ℕ) (lines : ℕ) (line : List ℕ) → IsNextLine drained bytes lines line → lines < MOST_LINES
low_line drained bytes lines line h =
    omega (arith, slice_get_within (answered_lines (not drained) bytes) lines line h, length-take MOST_LINES (counted_lines (not drained) bytes))

pub next_item : (drained : Bool) (bytes : List ℕ) (lines : ℕ) (line : List ℕ) → IsNextLine drained bytes lines line → is_open (take lines (steps_so drained bytes)) ≡ true →
    slice_get (steps_so drained bytes) lines ≡ Some (next_answer (take lines (steps_so drained bytes)) line)
next_item drained bytes lines line next opened = step_of_line (not drained) bytes lines line next opened

pub line_answers : (drained : Bool) (bytes : List ℕ) (lines : ℕ) (line : List ℕ) (s : Step) → IsNextLine drained bytes lines line →
    is_open (take lines (steps_so drained bytes)) ≡ true → s ≡ next_answer (take lines (steps_so drained bytes)) line → IsAnswer drained bytes lines s
line_answers drained bytes lines line s next opened is = record {
  item = item;
  last = λ ends. last ends (shut_after (take lines (steps_so drained bytes)) line (sym (ap ends_feed is) ∙ ends));
  opened = λ goes_on. ap is_open (taken ∙ ap (λ s. take lines (steps_so drained bytes) ++ s ∷ []) is) ∙ open_after (take lines (steps_so drained bytes)) line opened (sym (ap ends_feed is) ∙ goes_on);
  taken = taken;
}
  where
    item : slice_get (steps_so drained bytes) lines ≡ Some s
    item = next_item drained bytes lines line next opened ∙ ap Some (sym is)

    taken : take (lines + 1) (steps_so drained bytes) ≡ take lines (steps_so drained bytes) ++ s ∷ []
    taken = take_more (steps_so drained bytes) lines s item

    last : ends_feed s ≡ true → (length (take lines (steps_so drained bytes)) ≡ 0) × (is_open (take lines (steps_so drained bytes) ++ next_answer (take lines (steps_so drained bytes)) line ∷ []) ≡ false) →
        steps_so drained bytes ≡ take lines (steps_so drained bytes) ++ s ∷ []
    last ends shut =
        let none : lines ≡ 0 = sym (given_length drained bytes lines s item) ∙ shut.0 in
        let one : take 1 (steps_so drained bytes) ≡ take lines (steps_so drained bytes) ++ s ∷ [] = ap (λ n. take n (steps_so drained bytes)) {x = 1} {y = lines + 1} (omega (arith, none)) ∙ taken in
        bad_header_ends (not drained) bytes (omega (arith, slice_get_within (answered_lines (not drained) bytes) lines line next))
        (ap is_open (one ∙ ap (λ s. take lines (steps_so drained bytes) ++ s ∷ []) is) ∙ shut.1)
        ∙ one

after_get : (xs : List Step) (n : ℕ) (s : Step) → length xs ≡ n → slice_get (xs ++ s ∷ []) n ≡ Some s
after_get [] n s h = ap (slice_get (s ∷ [])) (sym h)
after_get (x ∷ xs) n s h = ap (slice_get (x ∷ xs ++ s ∷ [])) (sym h) ∙ after_get xs (length xs) s refl

pub ending_answers : (drained : Bool) (bytes : List ℕ) (lines : ℕ) (s : Step) → IsAfterLines drained bytes lines s → is_open (take lines (steps_so drained bytes)) ≡ true → ends_feed s ≡ true →
    IsAnswer drained bytes lines s
ending_answers drained bytes lines s after opened ends = record {
  item = item;
  last = λ _. whole;
  opened = λ goes_on. absurd (false≢true (sym goes_on ∙ ends));
  taken = take_more (steps_so drained bytes) lines s item;
}
  where
    whole : steps_so drained bytes ≡ take lines (steps_so drained bytes) ++ s ∷ []
    whole =
        steps_end (not drained) bytes (ap (λ n. is_open (take n (steps_so drained bytes))) after.all ∙ opened)
        ∙ ap (λ n. take n (steps_so drained bytes) ++ ending (not drained) bytes ∷ []) after.all
        ∙ ap (λ s. take lines (steps_so drained bytes) ++ s ∷ []) after.ends

    long : length (take lines (steps_so drained bytes)) ≡ lines
    long = grow (length (steps_so drained bytes)) refl
      where
        grow : (n : ℕ) → n ≡ length (steps_so drained bytes) → length (take lines (steps_so drained bytes)) ≡ lines
        grow n e = omega (arith, length-take lines (steps_so drained bytes), ap length whole, length-append (take lines (steps_so drained bytes)) (s ∷ []))

    item : slice_get (steps_so drained bytes) lines ≡ Some s
    item = ap (λ l. slice_get l lines) whole ∙ after_get (take lines (steps_so drained bytes)) lines s long

-- a reader after an answer to a line
pub line_length : (drained : Bool) (bytes : List ℕ) (lines : ℕ) (line : List ℕ) → IsNextLine drained bytes lines line → is_open (take lines (steps_so drained bytes)) ≡ true →
    length (take lines (steps_so drained bytes)) ≡ lines
line_length drained bytes lines line next opened =
    given_length drained bytes lines (next_answer (take lines (steps_so drained bytes)) line) (next_item drained bytes lines line next opened)

module _ (drained : Bool) (bytes : List ℕ) (start lines : ℕ) (line : List ℕ) (s : Step) (row_of : List ℕ → Option (List Bool)) (rows : ℕ) where
  pub reading_on : IsNextLine drained bytes lines line → IsAnswer drained bytes lines s → IsStanding row_of rows (accepted_in (take lines (steps_so drained bytes) ++ s ∷ [])) →
      (drained ≡ false → IsAtLine bytes start (lines + 1)) → (drained ≡ true → IsReadOut bytes (lines + 1)) → ends_feed s ≡ false →
      IsReading bytes start (lines + 1) drained row_of rows
  reading_on next answer standing at_line read_out goes_on = record {
    opened = answer.opened goes_on;
    standing = subst (λ l. IsStanding row_of rows (accepted_in l)) (sym answer.taken) standing;
    at_line = at_line;
    read_out = read_out;
    few_lines = omega (arith, low_line drained bytes lines line next);
  }

-- line 1 that is too long is no header
pub long_is_shut : (line : List ℕ) → MOST_LINE_BYTES < length line → ends_feed (header_step (header_of line)) ≡ true
unfolding header_of
long_is_shut line h = ap (λ t. ends_feed (header_step (cond t (Err too_long) (read_ascii header_form (without_return line))))) {x = ltb MOST_LINE_BYTES (length line)} {y = true} (longer (length line) h)
  where
    longer : (n : ℕ) → MOST_LINE_BYTES < n → ltb MOST_LINE_BYTES n ≡ true
    longer n h = grind (arith, nat_tests)

-- the number of the line that an answer names
request_numbered : (n : ℕ) (request : Request) (o : Option Cause) → IsNumbered n (request_step n request o)
request_numbered n request None = refl
request_numbered n request (Some cause) = refl

form_numbered : (before : List Accepted) (n : ℕ) (f : LineForm) → IsNumbered n (form_step before n f)
form_numbered before n form.Skipped = tt
form_numbered before n (form.Wrong fault) = refl
form_numbered before n (form.Asks request) = request_numbered n request (refused_for before request.match_name (selection_number request.selection) request.change)

header_numbered : (o : Result Header Fault) → IsNumbered 1 (header_step o)
header_numbered (Ok header) = tt
header_numbered (Err fault) = refl

answer_numbered_suc : (before : List Step) (line : List ℕ) → IsNumbered (suc (length before)) (next_answer before line)
answer_numbered_suc [] line = header_numbered (header_of line)
answer_numbered_suc (s ∷ before) line = form_numbered (accepted_in (s ∷ before)) (suc (length (s ∷ before))) (line_form line)

pub answer_numbered : (before : List Step) (line : List ℕ) (lines : ℕ) (s : Step) → length before ≡ lines → s ≡ next_answer before line → IsNumbered (lines + 1) s
answer_numbered before line lines s long is =
    subst (λ (t : Step). IsNumbered (lines + 1) t) (sym is)
    (subst (λ (n : ℕ). IsNumbered n (next_answer before line)) {x = suc (length before)} {y = lines + 1} (omega (arith, long)) (answer_numbered_suc before line))

-- an answer to a line that ends the feed: line 1 is no header, and no further byte changes that
pub shut_is_whole : (bytes : List ℕ) (lines : ℕ) (line : List ℕ) (s : Step) → IsNextLine false bytes lines line → is_open (take lines (steps_so false bytes)) ≡ true →
    s ≡ next_answer (take lines (steps_so false bytes)) line → ends_feed s ≡ true → IsWhole bytes
shut_is_whole bytes lines line s next opened is ends = λ more failed.
    let shut = shut_after (take lines (steps_so false bytes)) line (sym (ap (λ (t : Step). ends_feed t) is) ∙ ends) in
    let item = next_item false bytes lines line next opened in
    let none : lines ≡ 0 = sym (given_length false bytes lines (next_answer (take lines (steps_so false bytes)) line) item) ∙ shut.0 in
    let one : take 1 (steps_so false bytes) ≡ take lines (steps_so false bytes) ++ next_answer (take lines (steps_so false bytes)) line ∷ [] =
    ap (λ n. take n (steps_so false bytes)) {x = 1} {y = lines + 1} (omega (arith, none)) ∙ take_more (steps_so false bytes) lines (next_answer (take lines (steps_so false bytes)) line) item in
    bad_header_stays bytes more true failed (omega (arith, slice_get_within (answered_lines true bytes) lines line next)) (ap (λ (l : List Step). is_open l) one ∙ shut.1)

-- so it is after a limit of size
pub cut_is_whole : (bytes : List ℕ) (lines : ℕ) → IsAfterLines false bytes lines step.Cut → IsWhole bytes
cut_is_whole bytes lines after = λ more failed. cut_stays bytes more true failed (by_cut (is_cut bytes) after.ends)
  where
    by_cut : (b : Bool) → cond b step.Cut step.ReadFault ≡ step.Cut → b ≡ true
    by_cut true h = refl
    by_cut false h = absurd (cc)

pub no_end : (s : Step) → is_of_line s ≡ true → s ≡ step.End → ⊥
no_end s h e = false≢true (sym (ap (λ (t : Step). is_of_line t) e) ∙ h)
