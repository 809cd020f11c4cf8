-- The steps of lines one after another.
use Rattle.std.proofs.Common.{◌≡◌, ℕ, zero, suc, ◌+◌, ◌<◌, ◌≤◌, true, false, List, [], ◌∷◌, ◌++◌, length, take, drop, slice_get, refl, sym, ap, ◌∙◌, arith, append-nil, append_assoc}
use Rattle.std.specs.Prelude.{Option, Some, None, Ok, Err}
use Rattle.std.specs.List.{cons_option}
use Rattle.std.proofs.lemmas.List.{take-append-drop, length-take-le}
use Rattle.feed_definitions.specs.declared.accepted.Accepted.{Accepted}
use Rattle.feed_definitions.specs.declared.step.Step.{Step}
use Rattle.feed_definitions.specs.declared.step.Step.TheVariants as step
use Rattle.feed_definitions.specs.Forms.{header_of}
use Rattle.feed_definitions.specs.Feed.{refusal, line_answer, accepted_line, accepted_in, line_steps, feed_steps}
use Rattle.feed_definitions.specs.Answers.{header_step, next_answer, is_open}

-- the accepted lines of steps one after another
by_line : (o : Option Accepted) (xs : List Accepted) → cons_option o xs ≡ cons_option o [] ++ xs
by_line None xs = refl
by_line (Some line) xs = refl

pub accepted_first : (s : Step) (steps : List Step) → accepted_in (s ∷ steps) ≡ accepted_in (s ∷ []) ++ accepted_in steps
accepted_first s steps = by_line (accepted_line s) (accepted_in steps)

pub accepted_joined : (xs ys : List Step) → accepted_in (xs ++ ys) ≡ accepted_in xs ++ accepted_in ys
accepted_joined [] ys = refl
accepted_joined (x ∷ xs) ys =
    accepted_first x (xs ++ ys)
    ∙ ap (λ l. accepted_in (x ∷ []) ++ l) (accepted_joined xs ys)
    ∙ sym (append_assoc (accepted_in (x ∷ [])) (accepted_in xs) (accepted_in ys))
    ∙ ap (λ l. l ++ accepted_in ys) (sym (accepted_first x xs))

-- what further lines and another ending do
line_steps_stay : (e f : Step) (before : List Accepted) (n : ℕ) (lines more : List (List ℕ)) (k : ℕ) → k ≤ length lines →
    take k (line_steps f before n (lines ++ more)) ≡ take k (line_steps e before n lines)
unfolding line_steps
line_steps_stay e f before n lines more zero h = refl
line_steps_stay e f before n [] more (suc k) h = absurd (omega arith)
line_steps_stay e f before n (line ∷ lines) more (suc k) h =
    ap (λ l. line_answer before n line ∷ l)
    (line_steps_stay e f (before ++ accepted_in (line_answer before n line ∷ [])) (suc n) lines more k (omega arith))

feed_steps_stay : (e f : Step) (lines more : List (List ℕ)) (k : ℕ) → k ≤ length lines →
    take k (feed_steps f (lines ++ more)) ≡ take k (feed_steps e lines)
unfolding feed_steps
feed_steps_stay e f lines more zero h = refl
feed_steps_stay e f [] more (suc k) h = absurd (omega arith)
feed_steps_stay e f (line ∷ lines) more (suc k) h =
    elim (header_of line) as (λ o. take (suc k) (elim o [ Err fault ↦ step.BadHeader (refusal 1 fault) ∷ [] | Ok header ↦ step.Header header ∷ line_steps f [] 2 (lines ++ more) ])
    ≡ take (suc k) (elim o [ Err fault ↦ step.BadHeader (refusal 1 fault) ∷ [] | Ok header ↦ step.Header header ∷ line_steps e [] 2 lines ])) [
      | Err fault ↦ refl
      | Ok header ↦ ap (λ l. step.Header header ∷ l) (line_steps_stay e f [] 2 lines more k (omega arith))
    ]

-- the first steps are of the first lines alone
pub feed_steps_upto : (e f : Step) (lines others : List (List ℕ)) (k : ℕ) → k ≤ length lines → k ≤ length others → take k lines ≡ take k others →
    take k (feed_steps e lines) ≡ take k (feed_steps f others)
feed_steps_upto e f lines others k h g same = upto e lines h ∙ ap (λ l. take k (feed_steps f l)) same ∙ sym (upto f others g)
  where
    upto : (e : Step) (lines : List (List ℕ)) → k ≤ length lines → take k (feed_steps e lines) ≡ take k (feed_steps f (take k lines))
    upto e lines h =
        ap (λ l. take k (feed_steps e l)) (sym (take-append-drop k lines))
        ∙ feed_steps_stay f e (take k lines) (drop k lines) k (omega (arith, length-take-le k lines h))

-- the step of a line
line_at : (before : List Accepted) (n m : ℕ) (line other : List ℕ) → Some line ≡ Some other → m ≡ n → line_answer before n line ≡ line_answer before m other
line_at before n m line other h e = ap (λ o. line_answer before n (elim o [ None ↦ line | Some l ↦ l ])) h ∙ ap (λ k. line_answer before k other) (sym e)

line_item : (e : Step) (before : List Accepted) (n : ℕ) (lines : List (List ℕ)) (k : ℕ) (line : List ℕ) → slice_get lines k ≡ Some line →
    slice_get (line_steps e before n lines) k ≡ Some (line_answer (before ++ accepted_in (take k (line_steps e before n lines))) (n + k) line)
unfolding line_steps
line_item e before n [] k line h = absurd (cc)
line_item e before n (first ∷ lines) zero line h =
    ap Some (line_at before n (n + 0) first line h (omega arith) ∙ ap (λ b. line_answer b (n + 0) line) (sym (append-nil before)))
line_item e before n (first ∷ lines) (suc k) line h =
    line_item e (before ++ accepted_in (line_answer before n first ∷ [])) (suc n) lines k line h
    ∙ ap (λ b. Some (line_answer b (suc n + k) line)) (append_assoc before (accepted_in (line_answer before n first ∷ [])) (accepted_in (take k (line_steps e (before ++ accepted_in (line_answer before n first ∷ [])) (suc n) lines))) ∙ ap (λ l. before ++ l) (sym (accepted_first (line_answer before n first) (take k (line_steps e (before ++ accepted_in (line_answer before n first ∷ [])) (suc n) lines)))))
    ∙ ap (λ m. Some (line_answer (before ++ accepted_in (take (suc k) (line_answer before n first ∷ line_steps e (before ++ accepted_in (line_answer before n first ∷ [])) (suc n) lines))) m line)) (omega arith)

line_steps_more : (e : Step) (before : List Accepted) (n : ℕ) (lines : List (List ℕ)) → length (line_steps e before n lines) ≡ suc (length lines)
unfolding line_steps
line_steps_more e before n [] = refl
line_steps_more e before n (line ∷ lines) = ap suc (line_steps_more e (before ++ accepted_in (line_answer before n line ∷ [])) (suc n) lines)

within : {X : Type 0} (xs : List X) (k : ℕ) (x : X) → slice_get xs k ≡ Some x → k < length xs
within [] k x h = absurd (cc)
within (y ∷ ys) zero x h = omega arith
within (y ∷ ys) (suc k) x h = omega (arith, within ys k x h)

-- the step of a line, by the steps before it
pub feed_item : (e : Step) (lines : List (List ℕ)) (k : ℕ) (line : List ℕ) → slice_get lines k ≡ Some line → is_open (take k (feed_steps e lines)) ≡ true →
    slice_get (feed_steps e lines) k ≡ Some (next_answer (take k (feed_steps e lines)) line)
unfolding feed_steps
feed_item e [] k line h open_ = absurd (cc)
feed_item e (first ∷ lines) zero line h open_ =
    elim (header_of first) as (λ o. slice_get (elim o [ Err fault ↦ step.BadHeader (refusal 1 fault) ∷ [] | Ok header ↦ step.Header header ∷ line_steps e [] 2 lines ]) 0 ≡ Some (header_step o)) [
      | Err fault ↦ refl
      | Ok header ↦ refl
    ]
    ∙ ap (λ o. Some (header_step (header_of (elim o [ None ↦ first | Some l ↦ l ])))) h
feed_item e (first ∷ lines) (suc k) line h open_ =
    (elim (header_of first) as (λ o. is_open (take (suc k) (elim o [ Err fault ↦ step.BadHeader (refusal 1 fault) ∷ [] | Ok header ↦ step.Header header ∷ line_steps e [] 2 lines ])) ≡ true →
    slice_get (elim o [ Err fault ↦ step.BadHeader (refusal 1 fault) ∷ [] | Ok header ↦ step.Header header ∷ line_steps e [] 2 lines ]) (suc k)
    ≡ Some (next_answer (take (suc k) (elim o [ Err fault ↦ step.BadHeader (refusal 1 fault) ∷ [] | Ok header ↦ step.Header header ∷ line_steps e [] 2 lines ])) line)) [
      | Err fault ↦ λ shut. absurd (false_is_not_true shut)
      | Ok header ↦ λ _. line_item e [] 2 lines k line h ∙ ap (λ m. Some (line_answer (accepted_in (take k (line_steps e [] 2 lines))) m line)) (omega (arith, length-take-le k (line_steps e [] 2 lines) (omega (arith, within lines k line h, line_steps_more e [] 2 lines))))
    ]) open_
  where
    false_is_not_true : false ≡ true → ⊥
    false_is_not_true h = cc

-- how the steps of all lines end
line_steps_end : (e : Step) (before : List Accepted) (n : ℕ) (lines : List (List ℕ)) →
    line_steps e before n lines ≡ take (length lines) (line_steps e before n lines) ++ e ∷ []
unfolding line_steps
line_steps_end e before n [] = refl
line_steps_end e before n (line ∷ lines) =
    ap (λ l. line_answer before n line ∷ l) (line_steps_end e (before ++ accepted_in (line_answer before n line ∷ [])) (suc n) lines)

pub feed_steps_end : (e : Step) (lines : List (List ℕ)) → is_open (take (length lines) (feed_steps e lines)) ≡ true →
    feed_steps e lines ≡ take (length lines) (feed_steps e lines) ++ e ∷ []
unfolding feed_steps
feed_steps_end e [] open_ = refl
feed_steps_end e (first ∷ lines) open_ =
    (elim (header_of first) as (λ o. is_open (take (suc (length lines)) (elim o [ Err fault ↦ step.BadHeader (refusal 1 fault) ∷ [] | Ok header ↦ step.Header header ∷ line_steps e [] 2 lines ])) ≡ true →
    (elim o [ Err fault ↦ step.BadHeader (refusal 1 fault) ∷ [] | Ok header ↦ step.Header header ∷ line_steps e [] 2 lines ])
    ≡ take (suc (length lines)) (elim o [ Err fault ↦ step.BadHeader (refusal 1 fault) ∷ [] | Ok header ↦ step.Header header ∷ line_steps e [] 2 lines ]) ++ e ∷ []) [
      | Err fault ↦ λ shut. absurd (false_is_not_true shut)
      | Ok header ↦ λ _. ap (λ l. step.Header header ∷ l) (line_steps_end e [] 2 lines)
    ]) open_
  where
    false_is_not_true : false ≡ true → ⊥
    false_is_not_true h = cc

-- a header that is none ends the steps, whatever follows
pub feed_steps_shut : (e f : Step) (line : List ℕ) (lines others : List (List ℕ)) → is_open (take 1 (feed_steps e (line ∷ lines))) ≡ false →
    (feed_steps e (line ∷ lines) ≡ take 1 (feed_steps e (line ∷ lines))) × (feed_steps f (line ∷ others) ≡ feed_steps e (line ∷ lines))
unfolding feed_steps
feed_steps_shut e f line lines others shut =
    (elim (header_of line) as (λ o. is_open (take 1 (elim o [ Err fault ↦ step.BadHeader (refusal 1 fault) ∷ [] | Ok header ↦ step.Header header ∷ line_steps e [] 2 lines ])) ≡ false →
    ((elim o [ Err fault ↦ step.BadHeader (refusal 1 fault) ∷ [] | Ok header ↦ step.Header header ∷ line_steps e [] 2 lines ])
    ≡ take 1 (elim o [ Err fault ↦ step.BadHeader (refusal 1 fault) ∷ [] | Ok header ↦ step.Header header ∷ line_steps e [] 2 lines ]))
    × ((elim o [ Err fault ↦ step.BadHeader (refusal 1 fault) ∷ [] | Ok header ↦ step.Header header ∷ line_steps f [] 2 others ])
    ≡ (elim o [ Err fault ↦ step.BadHeader (refusal 1 fault) ∷ [] | Ok header ↦ step.Header header ∷ line_steps e [] 2 lines ]))) [
      | Err fault ↦ λ _. (refl, refl)
      | Ok header ↦ λ opened. absurd (true_is_not_false opened)
    ]) shut
  where
    true_is_not_false : true ≡ false → ⊥
    true_is_not_false h = cc
