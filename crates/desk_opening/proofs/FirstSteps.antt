-- The first step of a feed.
use Rattle.std.proofs.Common.{◌≡◌, ℕ, zero, suc, ◌<◌, ◌≤◌, inl, inr, Bool, true, false, not, cond, List, [], ◌∷◌, ◌++◌, length, take, Option, Some, refl, sym, ap, ◌∙◌, subst, arith, nat_lt}
use Rattle.std.specs.Prelude.{slice_get, Ok, Err, ◌||◌, ◌&&◌, ◌==◌}
use Rattle.std.proofs.lemmas.List.{append-nil}
use Rattle.std.proofs.lemmas.Bool.Decides.{nat_tests}
use Rattle.scan_types.specs.declared.limits.TheConstants.{MOST_FEED_BYTES, MOST_LINES}
use Rattle.feed_definitions.specs.declared.cause.Refusal.{Refusal}
use Rattle.feed_definitions.specs.declared.step.Step.{Step}
use Rattle.feed_definitions.specs.declared.step.Step.TheVariants as step
use Rattle.feed_definitions.specs.Lines.{ended_lines, unended, all_lines, is_too_large, is_cut, lines_within, answered_lines}
use Rattle.feed_definitions.specs.Feed.{steps, ending}
use Rattle.feed_definitions.specs.Forms.{header_of}
use Rattle.feed_definitions.specs.Answers.{header_step, is_open}
use Rattle.feed_definitions.proofs.Prefixes.{steps_end, step_of_line, bad_header_stays}
use Rattle.feed_definitions.proofs.Texts.{answered_failed, all_lines_few}
use Rattle.desk_definitions.specs.Ends.{IsFirstLineClear}
use Rattle.std.specs.Io.KnownBytes.{IsAtEnd}

-- ---- some line is always answered, unless a read failed before line 1 ended

few_lines : (n : ℕ) (lines : List (List ℕ)) → 0 < n → length (take n lines) ≡ 0 → length lines ≡ 0
few_lines zero lines some none = absurd (omega (arith, some))
few_lines (suc n) [] some none = refl
few_lines (suc n) (line ∷ lines) some none = absurd (omega (arith, none))

some_lines : (ended : List (List ℕ)) (rest : List ℕ) → 0 < length (ended ++ cond ((length rest == 0) && nat_lt 0 (length ended)) [] (rest ∷ []))
some_lines [] rest = elim (length rest == 0) as (λ b. 0 < length (cond (b && false) [] (rest ∷ []))) [ true ↦ omega arith | false ↦ omega arith ]
some_lines (line ∷ ended) rest = omega arith

some_within : (ended : List (List ℕ)) (bytes : List ℕ) → 0 < length (cond (length ended == 0) (bytes ∷ []) ended)
some_within [] bytes = omega arith
some_within (line ∷ ended) bytes = elim (suc (length ended) == 0) as (λ b. 0 < length (cond b (bytes ∷ []) (line ∷ ended))) [ true ↦ omega arith | false ↦ omega arith ]

record NoLine (failed : Bool) (text : List ℕ) : Type 0 where
  fault : failed ≡ true
  not_large : is_too_large text ≡ false
  not_ended : length (ended_lines text) ≡ 0

none_by : (large failed : Bool) (text : List ℕ) → is_too_large text ≡ large → length (take MOST_LINES (cond large (lines_within (take MOST_FEED_BYTES text)) (cond failed (ended_lines text) (all_lines text)))) ≡ 0 → NoLine failed text
none_by true failed text e none = absurd (let some = some_within (ended_lines (take MOST_FEED_BYTES text)) (take MOST_FEED_BYTES text) in let h = few_lines MOST_LINES (lines_within (take MOST_FEED_BYTES text)) (omega arith) none in omega (arith, some, h))
none_by false true text e none = record { fault = refl; not_large = e; not_ended = few_lines MOST_LINES (ended_lines text) (omega arith) none }
none_by false false text e none = absurd (let some = some_lines (ended_lines text) (unended text) in let h = few_lines MOST_LINES (all_lines text) (omega arith) none in omega (arith, some, h))

none_answered : (failed : Bool) (text : List ℕ) → length (answered_lines failed text) ≡ 0 → NoLine failed text
none_answered failed text none = none_by (is_too_large text) failed text refl none

-- then the only step is that of the fault
fault_ends : (failed : Bool) (text : List ℕ) → NoLine failed text → ending failed text ≡ step.ReadFault
fault_ends failed text without =
    let few = all_lines_few text in
    let ended = without.not_ended in
    let short : nat_lt MOST_LINES (length (all_lines text)) ≡ false = (let h : length (all_lines text) ≤ 1 = omega (arith, few, ended) in below_most (length (all_lines text)) h) in
    let not_cut : is_cut text ≡ false = ap (λ b. b || nat_lt MOST_LINES (length (all_lines text))) without.not_large ∙ short in
    ap (λ b. cond b step.Cut (cond failed step.ReadFault step.End)) not_cut ∙ ap (λ b. cond b step.ReadFault step.End) without.fault
  where
    below_most : (n : ℕ) → n ≤ 1 → nat_lt MOST_LINES n ≡ false
    below_most n h = grind (arith, nat_tests)

only_step : (failed : Bool) (text : List ℕ) → length (answered_lines failed text) ≡ 0 → steps failed text ≡ step.ReadFault ∷ []
only_step failed text none =
    let no_open : (n : ℕ) → n ≡ 0 → is_open (take n (steps failed text)) ≡ true = λ n e. subst (λ k. is_open (take k (steps failed text)) ≡ true) (sym e) refl in
    steps_end failed text (no_open (length (answered_lines failed text)) none)
    ∙ ap (λ n. take n (steps failed text) ++ ending failed text ∷ []) none
    ∙ ap (λ s. s ∷ []) (fault_ends failed text (none_answered failed text none))

-- ---- the first step

-- line 1 was answered, or a read failed before it ended
abbrev pub IsFirst : Bool → Step → Type 0
IsFirst failed (step.Header header) = Unit {0}
IsFirst failed (step.BadHeader refusal) = Unit {0}
IsFirst failed step.ReadFault = failed ≡ true
IsFirst failed _ = ⊥

by_header : (failed : Bool) (line : List ℕ) → IsFirst failed (header_step (header_of line))
by_header failed line = elim (header_of line) as (λ r. IsFirst failed (header_step r)) [ Ok header ↦ tt | Err fault ↦ tt ]

pub first_step : (failed : Bool) (text : List ℕ) (s : Step) → slice_get (steps failed text) 0 ≡ Some s → IsFirst failed s
first_step failed text s is = by_lines (answered_lines failed text) refl
  where
    by_lines : (lines : List (List ℕ)) → answered_lines failed text ≡ lines → IsFirst failed s
    by_lines [] e =
        let none : length (answered_lines failed text) ≡ 0 = ap length e in
        let there : Some step.ReadFault ≡ Some s = sym (ap (λ xs. slice_get xs 0) (only_step failed text none)) ∙ is in
        let same : step.ReadFault ≡ s = cc in
        subst (IsFirst failed) same (none_answered failed text none).fault
    by_lines (line ∷ lines) e =
        let there : Some (header_step (header_of line)) ≡ Some s = sym (step_of_line failed text 0 line (ap (λ xs. slice_get xs 0) e) refl) ∙ is in
        let same : header_step (header_of line) ≡ s = cc in
        subst (IsFirst failed) same (by_header failed line)

-- ---- a first line that is no header

pub record IsNoHeader (left : Option (List ℕ)) (text : List ℕ) (refusal : Refusal) : Type 0 where
  pub steps_are : steps false text ≡ step.BadHeader refusal ∷ []
  pub clear : IsFirstLineClear left text

clear_by : (left : Option (List ℕ)) (text : List ℕ) (large : Bool) → is_too_large text ≡ large → 0 < length (answered_lines true text) → IsFirstLineClear left text
clear_by left text true e some = inr (inl e)
clear_by left text false e some = inl (let same = ap length (answered_failed text e) in above (ended_lines text) (omega (arith, some, same)))
  where
    above : (lines : List (List ℕ)) → 0 < length (take MOST_LINES lines) → 0 < length lines
    above [] h = h
    above (line ∷ lines) h = omega arith

pub no_header : (drained : Bool) (left : Option (List ℕ)) (text : List ℕ) (refusal : Refusal) → steps (not drained) text ≡ step.BadHeader refusal ∷ [] → (drained ≡ true → IsAtEnd left) → IsNoHeader left text refusal
no_header true left text refusal is at_end = record { steps_are = is; clear = inr (inr (at_end refl)) }
no_header false left text refusal is at_end = by_count (length (answered_lines true text)) refl
  where
    by_count : (n : ℕ) → length (answered_lines true text) ≡ n → IsNoHeader left text refusal
    by_count zero e = absurd (let there : step.ReadFault ∷ [] ≡ step.BadHeader refusal ∷ [] = sym (only_step true text e) ∙ is in cc)
    by_count (suc n) e =
        let some : 0 < length (answered_lines true text) = omega (arith, e) in
        let shut : is_open (take 1 (steps true text)) ≡ false = ap (λ xs. is_open (take 1 xs)) is in
        record {
          steps_are = sym (ap (steps false) (append-nil text)) ∙ bad_header_stays text [] true false some shut ∙ is;
          clear = clear_by left text (is_too_large text) refl some;
        }

-- a fault of reading in place of the header
pub fault_is : (drained : Bool) (text : List ℕ) → steps (not drained) text ≡ step.ReadFault ∷ [] → steps true text ≡ step.ReadFault ∷ []
fault_is false text is = is
fault_is true text is = absurd (let h = first_step false text step.ReadFault (ap (λ xs. slice_get xs 0) is) in cc (h))

-- line 1 is clear if it was answered
pub clear_of : (drained : Bool) (left : Option (List ℕ)) (text : List ℕ) (s : Step) → slice_get (steps (not drained) text) 0 ≡ Some s → (s ≡ step.ReadFault → ⊥) → (drained ≡ true → IsAtEnd left) → IsFirstLineClear left text
clear_of true left text s item differ at_end = inr (inr (at_end refl))
clear_of false left text s item differ at_end = by_count (length (answered_lines true text)) refl
  where
    by_count : (n : ℕ) → length (answered_lines true text) ≡ n → IsFirstLineClear left text
    by_count zero e = absurd (let there : Some step.ReadFault ≡ Some s = sym (ap (λ xs. slice_get xs 0) (only_step true text e)) ∙ item in differ (let same : s ≡ step.ReadFault = cc in same))
    by_count (suc n) e = clear_by left text (is_too_large text) refl (omega (arith, e))
