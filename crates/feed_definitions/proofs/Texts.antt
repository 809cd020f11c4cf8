-- What further bytes do to the lines of a text.
use Rattle.std.proofs.Common.{◌≡◌, ℕ, zero, suc, ◌+◌, ◌-◌, ◌<◌, ◌≤◌, Bool, true, false, cond, eqb, ltb, ◌&&◌, List, [], ◌∷◌, ◌++◌, length, take, refl, sym, ap, ◌∙◌, subst, arith, append-nil, append_assoc, length-append, length-take, inl, inr, ⊎_elim, ◌⊎◌}
use Rattle.std.proofs.lemmas.Bool.Decides.{nat_tests}
use Rattle.std.proofs.lemmas.List.{take-append-le}
use Rattle.std.proofs.Math.Seq.{take-append-add}
use Rattle.scan_types.specs.declared.limits.TheConstants.{MOST_FEED_BYTES, MOST_LINES}
use Rattle.feed_definitions.specs.Lines.{pieces, ended_lines, unended, last_line, all_lines, is_too_large, lines_within, counted_lines, answered_lines}
use Rattle.feed_definitions.proofs.Pieces.{front, end, onto, has_piece, ended_joined, unended_joined}

-- these and more
pub record Extends (xs ys : List (List ℕ)) : Type 0 where
  pub others : List (List ℕ)
  pub is : ys ≡ xs ++ others

pub extends_by : (xs others : List (List ℕ)) → Extends xs (xs ++ others)
extends_by xs others = record { others = others; is = refl }

pub extends_on : (xs ys zs : List (List ℕ)) → Extends xs ys → Extends xs (ys ++ zs)
extends_on xs ys zs h = record { others = h.others ++ zs; is = ap (λ l. l ++ zs) h.is ∙ append_assoc xs h.others zs }

pub extends_to : (xs ys zs : List (List ℕ)) → Extends xs ys → zs ≡ ys → Extends xs zs
extends_to xs ys zs h e = record { others = h.others; is = e ∙ h.is }

extends_by_test : (b : Bool) (xs ys zs : List (List ℕ)) → (b ≡ true → Extends xs ys) → (b ≡ false → Extends xs zs) → Extends xs (cond b ys zs)
extends_by_test true xs ys zs h g = h refl
extends_by_test false xs ys zs h g = g refl

-- the ended lines of a text with more bytes
pub ended_more : (text more : List ℕ) → Extends (ended_lines text) (ended_lines (text ++ more))
ended_more text more = record { others = front (onto (unended text) (pieces more)); is = ended_joined text more }

ended_or_last : (failed : Bool) (xs : List (List ℕ)) (text : List ℕ) → Extends xs (ended_lines text) → Extends xs (cond failed (ended_lines text) (all_lines text))
ended_or_last failed xs text h = extends_by_test failed xs (ended_lines text) (all_lines text) (λ _. h) (λ _. extends_on xs (ended_lines text) (last_line text) h)

not_none : (n : ℕ) → 0 < n → eqb n 0 ≡ false
not_none n h = grind (arith, nat_tests)

at_least : (xs ys : List (List ℕ)) → Extends xs ys → length xs ≤ length ys
at_least xs ys h = omega (arith, ap length h.is, length-append xs h.others)

within_more : (xs : List (List ℕ)) (bytes : List ℕ) → 0 < length xs → Extends xs (ended_lines bytes) → Extends xs (lines_within bytes)
within_more xs bytes some h =
    extends_to xs (ended_lines bytes) (lines_within bytes) h
    (ap (λ b. cond b (bytes ∷ []) (ended_lines bytes)) (not_none (length (ended_lines bytes)) (omega (arith, some, at_least xs (ended_lines bytes) h))))

not_large : (text : List ℕ) → is_too_large text ≡ false → length text ≤ MOST_FEED_BYTES
not_large text h = grind (arith, nat_tests)

take_beyond : (text more : List ℕ) (n : ℕ) → length text ≤ n → take n (text ++ more) ≡ text ++ take (n - length text) more
take_beyond text more n h =
    ap (λ m. take m (text ++ more)) {x = n} {y = length text + (n - length text)} (omega arith) ∙ take-append-add text more (n - length text)

-- the ended lines of a text that is not too large stay
pub counted_more : (failed : Bool) (text more : List ℕ) → is_too_large text ≡ false → 0 < length (ended_lines text) →
    Extends (ended_lines text) (counted_lines failed (text ++ more))
counted_more failed text more small some =
    extends_by_test (is_too_large (text ++ more)) (ended_lines text) (lines_within (take MOST_FEED_BYTES (text ++ more))) (cond failed (ended_lines (text ++ more)) (all_lines (text ++ more)))
    (λ _. within_more (ended_lines text) (take MOST_FEED_BYTES (text ++ more)) some
    (extends_to (ended_lines text) (ended_lines (text ++ take (MOST_FEED_BYTES - length text) more)) (ended_lines (take MOST_FEED_BYTES (text ++ more)))
    (ended_more text (take (MOST_FEED_BYTES - length text) more))
    (ap ended_lines (take_beyond text more MOST_FEED_BYTES (not_large text small)))))
    (λ _. ended_or_last failed (ended_lines text) (text ++ more) (ended_more text more))

-- the first of them
take_take : {X : Type 0} (n m : ℕ) (xs zs : List X) → n ≤ m → n ≤ length xs → take n (take m (xs ++ zs)) ≡ take n xs
take_take zero m xs zs h g = refl
take_take (suc n) zero xs zs h g = absurd (omega (arith, h))
take_take (suc n) (suc m) [] zs h g = absurd (omega (arith, g))
take_take (suc n) (suc m) (x ∷ xs) zs h g = ap (λ l. x ∷ l) (take_take n m xs zs (omega arith) (omega arith))

pub record Begins (n : ℕ) (xs ys : List (List ℕ)) : Type 0 where
  pub enough : n ≤ length ys
  pub same : take n ys ≡ take n xs

begins_by : (n : ℕ) (xs ys : List (List ℕ)) → n ≤ MOST_LINES → n ≤ length xs → Extends xs ys → Begins n xs (take MOST_LINES ys)
begins_by n xs ys few h e = record {
  enough = omega (arith, few, h, length-take MOST_LINES ys, at_least xs ys e);
  same = ap (λ l. take n (take MOST_LINES l)) e.is ∙ take_take n MOST_LINES xs e.others few h;
}

pub answered_more : (failed : Bool) (text more : List ℕ) (n : ℕ) → is_too_large text ≡ false → n ≤ MOST_LINES → 0 < length (ended_lines text) → n ≤ length (ended_lines text) →
    Begins n (ended_lines text) (answered_lines failed (text ++ more))
answered_more failed text more n small few some h =
    begins_by n (ended_lines text) (counted_lines failed (text ++ more)) few h (counted_more failed text more small some)

-- of a text that is too large further bytes are not looked at
pub longer_large : (text more : List ℕ) → is_too_large text ≡ true → is_too_large (text ++ more) ≡ true
longer_large text more h = grind (arith, nat_tests, length-append text more)

large_is : (text : List ℕ) → is_too_large text ≡ true → MOST_FEED_BYTES < length text
large_is text h = grind (arith, nat_tests)

by_large : (b : Bool) (xs ys : List (List ℕ)) → b ≡ true → cond b xs ys ≡ xs
by_large b xs ys h = ap (λ t. cond t xs ys) h

pub counted_large : (failed : Bool) (text : List ℕ) → is_too_large text ≡ true → counted_lines failed text ≡ lines_within (take MOST_FEED_BYTES text)
counted_large failed text h = by_large (is_too_large text) (lines_within (take MOST_FEED_BYTES text)) (cond failed (ended_lines text) (all_lines text)) h

pub answered_large : (failed later : Bool) (text more : List ℕ) → is_too_large text ≡ true → answered_lines later (text ++ more) ≡ answered_lines failed text
answered_large failed later text more h =
    ap (take MOST_LINES)
    (counted_large later (text ++ more) (longer_large text more h)
    ∙ ap lines_within (take-append-le MOST_FEED_BYTES text more (omega (arith, large_is text h)))
    ∙ sym (counted_large failed text h))

-- a text that is not too large has, after a fault of reading, its ended lines
pub answered_failed : (text : List ℕ) → is_too_large text ≡ false → answered_lines true text ≡ take MOST_LINES (ended_lines text)
answered_failed text h = ap (λ b. take MOST_LINES (cond b (lines_within (take MOST_FEED_BYTES text)) (ended_lines text))) h

-- how many lines a text has, by its ended lines and what is not ended
abbrev lines_of : List (List ℕ) → List ℕ → List (List ℕ)
lines_of ended rest = ended ++ cond (eqb (length rest) 0 && ltb 0 (length ended)) [] (rest ∷ [])

both_false : (a b : Bool) → a ≡ false → (a && b) ≡ false
both_false a b h = ap (λ t. t && b) h

lines_with_rest : (ended : List (List ℕ)) (rest : List ℕ) → 0 < length rest → length (lines_of ended rest) ≡ length ended + 1
lines_with_rest ended rest h =
    ap (λ b. length (ended ++ cond b [] (rest ∷ []))) (both_false (eqb (length rest) 0) (ltb 0 (length ended)) (not_none (length rest) h))
    ∙ length-append ended (rest ∷ [])

lines_at_least : (ended : List (List ℕ)) (rest : List ℕ) → length ended ≤ length (lines_of ended rest)
lines_at_least ended rest = omega (arith, length-append ended (cond (eqb (length rest) 0 && ltb 0 (length ended)) [] (rest ∷ [])))

lines_at_most : (ended : List (List ℕ)) (rest : List ℕ) → length (lines_of ended rest) ≤ length ended + 1
lines_at_most ended rest = by_test (eqb (length rest) 0 && ltb 0 (length ended))
  where
    by_test : (b : Bool) → length (ended ++ cond b [] (rest ∷ [])) ≤ length ended + 1
    by_test true = omega (arith, length-append ended [])
    by_test false = omega (arith, length-append ended (rest ∷ []))

lines_without_rest : (ended : List (List ℕ)) (rest : List ℕ) → 0 < length ended → length rest ≡ 0 → length (lines_of ended rest) ≡ length ended
lines_without_rest ended rest some none =
    ap (λ b. length (ended ++ cond b [] (rest ∷ []))) {x = eqb (length rest) 0 && ltb 0 (length ended)} {y = true} (grind (arith, nat_tests))
    ∙ ap length (append-nil ended)

lines_more_rest : (ended : List (List ℕ)) (rest longer : List ℕ) → 0 < length ended → length rest ≤ length longer → length (lines_of ended rest) ≤ length (lines_of ended longer)
lines_more_rest ended rest longer some h = by_length (length rest) refl
  where
    by_length : (n : ℕ) → n ≡ length rest → length (lines_of ended rest) ≤ length (lines_of ended longer)
    by_length zero e = omega (arith, lines_without_rest ended rest some (sym e), lines_at_least ended longer)
    by_length (suc n) e = omega (arith, lines_with_rest ended rest (omega (arith, e)), lines_with_rest ended longer (omega (arith, e, h)))

by_pieces : (ended : List (List ℕ)) (rest : List ℕ) (ps : List (List ℕ)) → 0 < length ended →
    length (lines_of ended rest) ≤ length (lines_of (ended ++ front (onto rest ps)) (end (onto rest ps))) ⊎ (ps ≡ [])
by_pieces ended rest [] some = inr refl
by_pieces ended rest (p ∷ []) some =
    inl (subst (λ l. length (lines_of ended rest) ≤ length (lines_of l (rest ++ p))) (sym (append-nil ended)) (lines_more_rest ended rest (rest ++ p) some (omega (arith, length-append rest p))))
by_pieces ended rest (p ∷ q ∷ ps) some =
    inl (omega (arith, lines_at_most ended rest, length-append ended ((rest ++ p) ∷ front (q ∷ ps)), lines_at_least (ended ++ (rest ++ p) ∷ front (q ∷ ps)) (end (q ∷ ps))))

-- with more bytes there are no fewer lines
pub all_lines_more : (text more : List ℕ) → 0 < length (ended_lines text) → length (all_lines text) ≤ length (all_lines (text ++ more))
all_lines_more text more some =
    ⊎_elim (λ (few : length (all_lines text) ≤ length (lines_of (ended_lines text ++ front (onto (unended text) (pieces more))) (end (onto (unended text) (pieces more))))).
    subst (λ n. length (all_lines text) ≤ n) (sym (ap (λ l. length (lines_of l (unended (text ++ more)))) (ended_joined text more) ∙ ap (λ u. length (lines_of (ended_lines text ++ front (onto (unended text) (pieces more))) u)) (unended_joined text more))) few)
    (λ (none : pieces more ≡ []). absurd (let e = (has_piece more).is in no_pieces none e))
    (by_pieces (ended_lines text) (unended text) (pieces more) some)
  where
    no_pieces : pieces more ≡ [] → pieces more ≡ (has_piece more).first ∷ (has_piece more).others → ⊥
    no_pieces none e = cc

pub all_lines_few : (text : List ℕ) → length (all_lines text) ≤ length (ended_lines text) + 1
all_lines_few text = lines_at_most (ended_lines text) (unended text)
