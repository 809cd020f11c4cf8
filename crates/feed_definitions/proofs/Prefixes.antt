-- The laws of the feed text.
use Rattle.std.proofs.Common.{◌≡◌, ℕ, zero, suc, ◌<◌, ◌≤◌, Bool, true, false, cond, ltb, ◌||◌, List, [], ◌∷◌, ◌++◌, length, take, slice_get, min, refl, sym, ap, ◌∙◌, subst, arith, append-nil, length-take}
use Rattle.std.specs.Prelude.{Some, slice_index_or}
use Rattle.std.proofs.lemmas.Bool.Decides.{nat_tests}
use Rattle.std.proofs.Math.Seq.{take-length}
use Rattle.scan_types.specs.declared.limits.TheConstants.{MOST_LINES}
use Rattle.feed_definitions.specs.declared.step.Step.{Step}
use Rattle.feed_definitions.specs.declared.step.Step.TheVariants as step
use Rattle.feed_definitions.specs.Lines.{ended_lines, all_lines, is_too_large, is_cut, counted_lines, answered_lines}
use Rattle.feed_definitions.specs.Feed.{ending, feed_steps, steps}
use Rattle.feed_definitions.specs.Answers.{is_open, next_answer}
use Rattle.feed_definitions.proofs.Walk.{feed_steps_upto, feed_steps_end, feed_steps_shut, feed_item}
use Rattle.feed_definitions.proofs.Texts.{Begins, answered_more, answered_large, answered_failed, longer_large, all_lines_more, all_lines_few}

-- the lines of a text that is too large do not depend on what reading did
answered_same : (failed later : Bool) (text : List ℕ) → is_too_large text ≡ true → answered_lines later text ≡ answered_lines failed text
answered_same failed later text h = ap (answered_lines later) (sym (append-nil text)) ∙ answered_large failed later text [] h

answered_less : (failed : Bool) (text : List ℕ) (n : ℕ) → is_too_large text ≡ false → n ≤ MOST_LINES → 0 < length (ended_lines text) → n ≤ length (ended_lines text) →
    Begins n (ended_lines text) (answered_lines failed text)
answered_less failed text n small few some h = subst (λ t. Begins n (ended_lines text) (answered_lines failed t)) (append-nil text) (answered_more failed text [] n small few some h)

-- the first lines of two texts
record Agree (n : ℕ) (xs ys : List (List ℕ)) : Type 0 where
  left : n ≤ length xs
  right : n ≤ length ys
  same : take n xs ≡ take n ys

lines_agree : (text more : List ℕ) (failed later : Bool) (n : ℕ) → 0 < n → n ≤ length (answered_lines true text) →
    Agree n (answered_lines later (text ++ more)) (answered_lines failed text)
lines_agree text more failed later n some h = by_large (is_too_large text) refl
  where
    by_large : (b : Bool) → is_too_large text ≡ b → Agree n (answered_lines later (text ++ more)) (answered_lines failed text)
    by_large true e =
        let same = answered_large failed later text more e in
        let here = answered_same failed true text e in
        record { left = omega (arith, h, ap length same, ap length here); right = omega (arith, h, ap length here); same = ap (take n) same }
    by_large false e =
        let few : n ≤ min MOST_LINES (length (ended_lines text)) = omega (arith, h, ap length (answered_failed text e), length-take MOST_LINES (ended_lines text)) in
        let longer = answered_more later text more n e (omega (arith, few)) (omega (arith, few, some)) (omega (arith, few)) in
        let here = answered_less failed text n e (omega (arith, few)) (omega (arith, few, some)) (omega (arith, few)) in
        record { left = longer.enough; right = here.enough; same = longer.same ∙ sym here.same }

pub steps_stay : (text more : List ℕ) (failed later : Bool) (n : ℕ) → n ≤ length (answered_lines true text) →
    take n (steps later (text ++ more)) ≡ take n (steps failed text)
unfolding steps
steps_stay text more failed later zero h = refl
steps_stay text more failed later (suc n) h =
    let lines = lines_agree text more failed later (suc n) (omega arith) h in
    feed_steps_upto (ending later (text ++ more)) (ending failed text) (answered_lines later (text ++ more)) (answered_lines failed text) (suc n) lines.left lines.right lines.same

pub step_of_line : (failed : Bool) (text : List ℕ) (n : ℕ) (line : List ℕ) → slice_get (answered_lines failed text) n ≡ Some line →
    is_open (take n (steps failed text)) ≡ true → slice_get (steps failed text) n ≡ Some (next_answer (take n (steps failed text)) line)
unfolding steps
step_of_line failed text n line h open_ = feed_item (ending failed text) (answered_lines failed text) n line h open_

pub steps_end : (failed : Bool) (text : List ℕ) → is_open (take (length (answered_lines failed text)) (steps failed text)) ≡ true →
    steps failed text ≡ take (length (answered_lines failed text)) (steps failed text) ++ ending failed text ∷ []
unfolding steps
steps_end failed text open_ = feed_steps_end (ending failed text) (answered_lines failed text) open_

-- a text that passes a limit of size
many_ended : (text : List ℕ) → ltb MOST_LINES (length (all_lines text)) ≡ true → MOST_LINES ≤ length (ended_lines text)
many_ended text many = grind (arith, nat_tests, all_lines_few text)

some_ended : (text : List ℕ) → ltb MOST_LINES (length (all_lines text)) ≡ true → 0 < length (ended_lines text)
some_ended text many = omega (arith, many_ended text many)

longer_test : (n m : ℕ) → ltb MOST_LINES n ≡ true → n ≤ m → ltb MOST_LINES m ≡ true
longer_test n m h k = grind (arith, nat_tests)

by_second_part : (a b : Bool) → a ≡ false → (a || b) ≡ true → b ≡ true
by_second_part a b e h = ap (λ t. t || b) (sym e) ∙ h

cut_by_lines : (text : List ℕ) → is_cut text ≡ true → is_too_large text ≡ false → ltb MOST_LINES (length (all_lines text)) ≡ true
cut_by_lines text h e = by_second_part (is_too_large text) (ltb MOST_LINES (length (all_lines text))) e h

cut_longer : (text more : List ℕ) → is_cut text ≡ true → is_cut (text ++ more) ≡ true
cut_longer text more h = by_large (is_too_large text) refl
  where
    by_first : (a b : Bool) → a ≡ true → (a || b) ≡ true
    by_first a b e = ap (λ t. t || b) e

    by_second : (a b : Bool) → b ≡ true → (a || b) ≡ true
    by_second true b e = refl
    by_second false b e = e

    by_large : (b : Bool) → is_too_large text ≡ b → is_cut (text ++ more) ≡ true
    by_large true e = by_first (is_too_large (text ++ more)) (ltb MOST_LINES (length (all_lines (text ++ more)))) (longer_large text more e)
    by_large false e =
        let many = cut_by_lines text h e in
        by_second (is_too_large (text ++ more)) (ltb MOST_LINES (length (all_lines (text ++ more))))
        (longer_test (length (all_lines text)) (length (all_lines (text ++ more))) many (all_lines_more text more (some_ended text many)))

full : (xs ys : List (List ℕ)) → Begins MOST_LINES xs ys → length ys ≤ MOST_LINES → ys ≡ take MOST_LINES xs
full xs ys b few = sym (take-length ys) ∙ ap (λ n. take n ys) {x = length ys} {y = MOST_LINES} (omega (arith, few, b.enough)) ∙ b.same

few_answered : (failed : Bool) (text : List ℕ) → length (answered_lines failed text) ≤ MOST_LINES
few_answered failed text = omega (arith, length-take MOST_LINES (counted_lines failed text))

answered_cut : (text more : List ℕ) (failed later : Bool) → is_cut text ≡ true → answered_lines later (text ++ more) ≡ answered_lines failed text
answered_cut text more failed later h = by_large (is_too_large text) refl
  where
    by_large : (b : Bool) → is_too_large text ≡ b → answered_lines later (text ++ more) ≡ answered_lines failed text
    by_large true e = answered_large failed later text more e
    by_large false e =
        let many = cut_by_lines text h e in
        full (ended_lines text) (answered_lines later (text ++ more)) (answered_more later text more MOST_LINES e (omega arith) (some_ended text many) (many_ended text many)) (few_answered later (text ++ more))
        ∙ sym (full (ended_lines text) (answered_lines failed text) (answered_less failed text MOST_LINES e (omega arith) (some_ended text many) (many_ended text many)) (few_answered failed text))

ending_cut : (failed : Bool) (text : List ℕ) → is_cut text ≡ true → ending failed text ≡ step.Cut
ending_cut failed text h = ap (λ b. cond b step.Cut (cond failed step.ReadFault step.End)) h

pub cut_stays : (text more : List ℕ) (failed later : Bool) → is_cut text ≡ true → steps later (text ++ more) ≡ steps failed text
unfolding steps
cut_stays text more failed later h =
    ap (λ e. feed_steps e (answered_lines later (text ++ more))) (ending_cut later (text ++ more) (cut_longer text more h) ∙ sym (ending_cut failed text h))
    ∙ ap (feed_steps (ending failed text)) (answered_cut text more failed later h)

-- a text whose line 1 is no header
shut_by_first : (e f : Step) (lines others : List (List ℕ)) → Agree 1 others lines → is_open (take 1 (feed_steps e lines)) ≡ false → feed_steps f others ≡ feed_steps e lines
shut_by_first e f lines [] agree shut = absurd (omega (arith, agree.left))
shut_by_first e f [] (other ∷ others) agree shut = absurd (omega (arith, agree.right))
shut_by_first e f (line ∷ lines) (other ∷ others) agree shut =
    ap (λ l. feed_steps f (slice_index_or l 0 line ∷ others)) agree.same
    ∙ (feed_steps_shut e f line lines others shut).1

pub bad_header_stays : (text more : List ℕ) (failed later : Bool) → 0 < length (answered_lines true text) → is_open (take 1 (steps failed text)) ≡ false →
    steps later (text ++ more) ≡ steps failed text
unfolding steps
bad_header_stays text more failed later some shut =
    shut_by_first (ending failed text) (ending later (text ++ more)) (answered_lines failed text) (answered_lines later (text ++ more)) (lines_agree text more failed later 1 (omega arith) some) shut

only_first : (e : Step) (lines : List (List ℕ)) → is_open (take 1 (feed_steps e lines)) ≡ false → 0 < length lines → feed_steps e lines ≡ take 1 (feed_steps e lines)
only_first e [] shut some = absurd (omega (arith, some))
only_first e (line ∷ lines) shut some = (feed_steps_shut e e line lines lines shut).0

pub bad_header_ends : (failed : Bool) (text : List ℕ) → 0 < length (answered_lines failed text) → is_open (take 1 (steps failed text)) ≡ false →
    steps failed text ≡ take 1 (steps failed text)
unfolding steps
bad_header_ends failed text some shut = only_first (ending failed text) (answered_lines failed text) shut some
