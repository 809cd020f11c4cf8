-- A good feed text, of which a front was read.
use Rattle.std.proofs.Common.{◌≡◌, ℕ, zero, suc, ◌<◌, ◌⊎◌, Bool, true, false, cond, eqb, List, [], ◌∷◌, ◌++◌, length, take, Option, Some, None, refl, sym, ap, ◌∙◌, subst, arith, inl, inr, ⊎_elim, append-nil, length-take}
use Rattle.std.specs.Prelude.{Ok, Err}
use Rattle.std.specs.Io.KnownBytes.{Consumes, IsAtEnd}
use Rattle.std.proofs.lemmas.Bool.{false≢true}
use Rattle.std.proofs.lemmas.Bool.Decides.{nat_tests}
use Rattle.scan_types.specs.declared.limits.TheConstants.{MOST_FEED_BYTES, MOST_LINES}
use Rattle.feed_definitions.specs.declared.accepted.Accepted.{Accepted}
use Rattle.feed_definitions.specs.declared.cause.Refusal.{Refusal}
use Rattle.feed_definitions.specs.declared.header.Header.{Header}
use Rattle.feed_definitions.specs.declared.step.Step.{Step}
use Rattle.feed_definitions.specs.declared.step.Step.TheVariants as step
use Rattle.feed_definitions.specs.Lines.{ended_lines, is_too_large, is_cut, lines_within, counted_lines, answered_lines}
use Rattle.feed_definitions.specs.Forms.{header_of}
use Rattle.feed_definitions.specs.Feed.{refusal, line_answer, accepted_in, line_steps, feed_steps, ending, steps}
use Rattle.feed_definitions.specs.Answers.{is_open}
use Rattle.feed_definitions.proofs.Prefixes.{steps_stay, cut_stays, bad_header_stays}
use Rattle.desk_definitions.specs.Ends.{IsFirstLineClear}
use Rattle.desk_definitions.specs.Causes.{IsGoodText}

-- the last of some steps
abbrev pub last_step : List Step → Step → Step
last_step [] d = d
last_step (s ∷ steps) d = last_step steps s

pub last_step_is : (xs : List Step) (a d : Step) → last_step (xs ++ a ∷ []) d ≡ a
last_step_is [] a d = refl
last_step_is (x ∷ xs) a d = last_step_is xs a x

line_steps_last : (e : Step) (before : List Accepted) (n : ℕ) (lines : List (List ℕ)) (d : Step) → last_step (line_steps e before n lines) d ≡ e
unfolding line_steps
line_steps_last e before n [] d = refl
line_steps_last e before n (line ∷ lines) d = line_steps_last e (before ++ accepted_in (line_answer before n line ∷ [])) (suc n) lines (line_answer before n line)

-- the last step says how the feed ends, unless line 1 is no header
feed_steps_last : (e : Step) (lines : List (List ℕ)) (d : Step) → (last_step (feed_steps e lines) d ≡ e) ⊎ ((r : Refusal) × (last_step (feed_steps e lines) d ≡ step.BadHeader r))
unfolding feed_steps
feed_steps_last e [] d = inl refl
feed_steps_last e (line ∷ lines) d =
    elim (header_of line) as (λ o. (last_step (elim o [ Err fault ↦ step.BadHeader (refusal 1 fault) ∷ [] | Ok header ↦ step.Header header ∷ line_steps e [] 2 lines ]) d ≡ e)
    ⊎ ((r : Refusal) × (last_step (elim o [ Err fault ↦ step.BadHeader (refusal 1 fault) ∷ [] | Ok header ↦ step.Header header ∷ line_steps e [] 2 lines ]) d ≡ step.BadHeader r))) [
      | Err fault ↦ inr (refusal 1 fault, refl)
      | Ok header ↦ inl (line_steps_last e [] 2 lines (step.Header header))
    ]

steps_last : (text : List ℕ) (d : Step) → (last_step (steps false text) d ≡ ending false text) ⊎ ((r : Refusal) × (last_step (steps false text) d ≡ step.BadHeader r))
unfolding steps
steps_last text d = feed_steps_last (ending false text) (answered_lines false text) d

-- a feed that is cut passes a limit of size
pub is_cut_by : (text : List ℕ) (lines : List Step) → steps false text ≡ lines ++ step.Cut ∷ [] → is_cut text ≡ true
is_cut_by text lines h =
    ⊎_elim (λ (e : last_step (steps false text) step.End ≡ ending false text). by_cut (is_cut text) (sym e ∙ last))
    (λ (bad : (r : Refusal) × (last_step (steps false text) step.End ≡ step.BadHeader r)). absurd (not_bad bad.0 (sym bad.1 ∙ last)))
    (steps_last text step.End)
  where
    last : last_step (steps false text) step.End ≡ step.Cut
    last = ap (λ l. last_step l step.End) h ∙ last_step_is lines step.Cut step.End

    by_cut : (b : Bool) → cond b step.Cut step.End ≡ step.Cut → b ≡ true
    by_cut true e = refl
    by_cut false e = absurd (cc)

    not_bad : (r : Refusal) → step.BadHeader r ≡ step.Cut → ⊥
    not_bad r e = absurd (cc)

good_last : (text : List ℕ) (good : IsGoodText text) (d : Step) → last_step (steps false text) d ≡ step.End
good_last text good d = ap (λ l. last_step l d) good.steps_are ∙ last_step_is good.lines step.End (step.Header good.header)

-- a good text is not cut
pub not_cut : (full text more : List ℕ) (lines : List Step) → full ≡ text ++ more → steps false text ≡ lines ++ step.Cut ∷ [] → IsGoodText full → ⊥
not_cut full text more lines is cut good = no_end (sym (good_last full good step.End) ∙ ap (λ t. last_step (steps false t) step.End) is ∙ ap (λ l. last_step l step.End) (cut_stays text more false false (is_cut_by text lines cut) ∙ cut) ∙ last_step_is lines step.Cut step.End)
  where
    no_end : step.End ≡ step.Cut → ⊥
    no_end e = absurd (cc)

-- line 1 was answered
not_none : (n : ℕ) → 0 < n → eqb n 0 ≡ false
not_none n h = grind (arith, nat_tests)

some_within : (bytes : List ℕ) → 0 < length (lines_within bytes)
some_within bytes = by_length (length (ended_lines bytes)) refl
  where
    by_length : (n : ℕ) → length (ended_lines bytes) ≡ n → 0 < length (cond (eqb (length (ended_lines bytes)) 0) (bytes ∷ []) (ended_lines bytes))
    by_length zero e = subst (λ n. 0 < length (cond (eqb n 0) (bytes ∷ []) (ended_lines bytes))) (sym e) (omega arith)
    by_length (suc n) e = subst (λ t. 0 < length (cond t (bytes ∷ []) (ended_lines bytes))) (sym (not_none (length (ended_lines bytes)) (omega (arith, e)))) (omega (arith, e))

some_taken : (lines : List (List ℕ)) → 0 < length lines → 0 < length (take MOST_LINES lines)
some_taken lines h = omega (arith, h, length-take MOST_LINES lines)

pub first_answered : (text : List ℕ) → (0 < length (ended_lines text)) ⊎ (is_too_large text ≡ true) → 0 < length (answered_lines true text)
first_answered text h = some_taken (counted_lines true text) (by_large (is_too_large text) refl h)
  where
    by_large : (b : Bool) → is_too_large text ≡ b → (0 < length (ended_lines text)) ⊎ (is_too_large text ≡ true) → 0 < length (cond b (lines_within (take MOST_FEED_BYTES text)) (ended_lines text))
    by_large true e g = some_within (take MOST_FEED_BYTES text)
    by_large false e (inl some) = some
    by_large false e (inr large) = absurd (false≢true (sym e ∙ large))

-- a good text has a header
pub not_malformed : (full text more : List ℕ) (r : Refusal) → full ≡ text ++ more → steps false text ≡ step.BadHeader r ∷ [] →
    (0 < length (ended_lines text)) ⊎ ((is_too_large text ≡ true) ⊎ (more ≡ [])) → IsGoodText full → ⊥
not_malformed full text more r is bad clear good =
    no_header (sym good.steps_are ∙ ap (λ t. steps false t) is ∙ stays clear ∙ bad)
  where
    no_header : step.Header good.header ∷ (good.lines ++ step.End ∷ []) ≡ step.BadHeader r ∷ [] → ⊥
    no_header e = absurd (let h = ap (λ l. last_step (take 1 l) step.End) e in cc)

    shut : is_open (take 1 (steps false text)) ≡ false
    shut = ap (λ l. is_open (take 1 l)) bad

    stays : (0 < length (ended_lines text)) ⊎ ((is_too_large text ≡ true) ⊎ (more ≡ [])) → steps false (text ++ more) ≡ steps false text
    stays (inl some) = bad_header_stays text more false false (first_answered text (inl some)) shut
    stays (inr (inl large)) = bad_header_stays text more false false (first_answered text (inr large)) shut
    stays (inr (inr none)) = ap (λ m. steps false (text ++ m)) none ∙ ap (λ t. steps false t) (append-nil text)

-- the header that was read of a good text is its own
no_line : (text : List ℕ) (h : Header) (rest : List Step) → length (answered_lines true text) ≡ 0 → steps true text ≡ step.Header h ∷ rest → ⊥
unfolding steps feed_steps
no_line text h rest none is = by_lines (answered_lines true text) refl
  where
    by_cut : (b : Bool) → cond b step.Cut step.ReadFault ≡ step.Header h → ⊥
    by_cut true e = absurd (cc)
    by_cut false e = absurd (cc)

    by_lines : (lines : List (List ℕ)) → answered_lines true text ≡ lines → ⊥
    by_lines [] e = by_cut (is_cut text) (ap (λ l. last_step (take 1 l) step.End) (sym (ap (feed_steps (ending true text)) e) ∙ is))
    by_lines (line ∷ lines) e = omega (arith, none, ap (λ (l : List (List ℕ)). length l) e)

same_header : (xs ys : List Step) (a b : Header) → take 1 (step.Header a ∷ xs) ≡ take 1 (step.Header b ∷ ys) → a ≡ b
same_header xs ys a b e = of_step (step.Header a) (step.Header b) (ap (λ l. last_step l step.End) e)
  where
    header_or : Step → Header
    header_or (step.Header h) = h
    header_or _ = a

    of_step : (s t : Step) → s ≡ t → header_or s ≡ header_or t
    of_step s t e = ap header_or e

pub own_header : (full text more : List ℕ) (failed : Bool) (h : Header) (rest : List Step) → full ≡ text ++ more → steps failed text ≡ step.Header h ∷ rest →
    (0 < length (ended_lines text)) ⊎ ((is_too_large text ≡ true) ⊎ (more ≡ [])) → (good : IsGoodText full) → good.header ≡ h
own_header full text more failed h rest is read clear good =
    same_header (good.lines ++ step.End ∷ []) rest good.header h (ap (λ l. take 1 l) (sym good.steps_are ∙ ap (λ t. steps false t) is) ∙ stays clear failed read ∙ ap (λ l. take 1 l) read)
  where
    at_end : (failed : Bool) → more ≡ [] → steps failed text ≡ step.Header h ∷ rest → take 1 (steps false (text ++ more)) ≡ take 1 (steps failed text)
    at_end false none read = ap (λ m. take 1 (steps false (text ++ m))) none ∙ ap (λ t. take 1 (steps false t)) (append-nil text)
    at_end true none read = by_count (length (answered_lines true text)) refl
      where
        by_count : (n : ℕ) → length (answered_lines true text) ≡ n → take 1 (steps false (text ++ more)) ≡ take 1 (steps true text)
        by_count zero e = absurd (no_line text h rest e read)
        by_count (suc n) e = steps_stay text more true false 1 (omega (arith, e))

    stays : (0 < length (ended_lines text)) ⊎ ((is_too_large text ≡ true) ⊎ (more ≡ [])) → (failed : Bool) → steps failed text ≡ step.Header h ∷ rest → take 1 (steps false (text ++ more)) ≡ take 1 (steps failed text)
    stays (inl some) failed read = steps_stay text more failed false 1 (omega (arith, first_answered text (inl some)))
    stays (inr (inl large)) failed read = steps_stay text more failed false 1 (omega (arith, first_answered text (inr large)))
    stays (inr (inr none)) failed read = at_end failed none read

-- what was taken of a source that tells its bytes
pub record IsFront (full text : List ℕ) (left : Option (List ℕ)) : Type 0 where
  pub more : List ℕ
  pub is : full ≡ text ++ more
  pub ends : IsAtEnd left → more ≡ []

pub front_of : (told : Option (List ℕ)) (full text : List ℕ) (left : Option (List ℕ)) → told ≡ Some full → Consumes told left text → IsFront full text left
front_of told full text left e given = by_left left (subst (λ (o : Option (List ℕ)). Consumes o left text) e given)
  where
    by_left : (left : Option (List ℕ)) → Consumes (Some full) left text → IsFront full text left
    by_left None h = absurd h
    by_left (Some rest) h = record { more = rest; is = h; ends = λ none. none }

pub clear_of : (left : Option (List ℕ)) (text more : List ℕ) → (IsAtEnd left → more ≡ []) → IsFirstLineClear left text → (0 < length (ended_lines text)) ⊎ ((is_too_large text ≡ true) ⊎ (more ≡ []))
clear_of left text more ends (inl some) = inl some
clear_of left text more ends (inr (inl large)) = inr (inl large)
clear_of left text more ends (inr (inr none)) = inr (inr (ends none))
