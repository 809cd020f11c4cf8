-- How the next line stands in the bytes taken, as lines of the text.
use Rattle.std.proofs.Common.{◌≡◌, ℕ, zero, suc, ◌+◌, ◌-◌, ◌<◌, ◌≤◌, Bool, true, false, not, cond, eqb, ltb, ◌&&◌, ◌||◌, ◌⊎◌, List, [], ◌∷◌, ◌++◌, length, take, drop, slice_get, Some, refl, sym, ap, ◌∙◌, subst, arith, append-nil, append_assoc, length-append, length-take, length-drop, inl, inr, ⊎_elim}
use Rattle.std.proofs.lemmas.Bool.{ltb-true, ltb-false}
use Rattle.std.proofs.Math.ListN.{drop_of_length-le}
use Rattle.std.proofs.lemmas.Bool.Decides.{nat_tests}
use Rattle.std.proofs.lemmas.List.{take-append-drop, take-append-le, take_all, length-take-le}
use Rattle.std.specs.List.{onto_first}
use Rattle.std.proofs.Math.Seq.{take-append_seam}
use Rattle.scan_types.specs.declared.limits.TheConstants.{MOST_FEED_BYTES, MOST_LINES}
use Rattle.feed_definitions.specs.declared.step.Step.TheVariants as step
use Rattle.feed_definitions.specs.Lines.{is_line_feed, pieces, ended_lines, unended, last_line, all_lines, is_too_large, is_cut, lines_within, counted_lines, answered_lines}
use Rattle.feed_definitions.specs.Feed.{ending}
use Rattle.feed_definitions.proofs.Pieces.{HasPiece, has_piece, front, onto, onto_nothing, ended_joined, unended_joined, ended_after, unended_after, ended_open, unended_open}
use Rattle.feed_definitions.proofs.Pieces.{end as end_of}
use Rattle.feed_definitions.proofs.Texts.{Begins, answered_more, all_lines_few}
use Rattle.feed_lines.specs.Taking.{looked_at, IsOneLine, IsEndedAt}
use Rattle.feed_lines.specs.Reader.{IsAtLine, IsReadOut, IsNextLine, IsAfterLines}
use Rattle.feed_lines.proofs.Takings.{all_looked_at, length-looked_at}

get_after : (xs : List (List ℕ)) (y : List ℕ) (ys : List (List ℕ)) → slice_get (xs ++ y ∷ ys) (length xs) ≡ Some y
get_after [] y ys = refl
get_after (x ∷ xs) y ys = get_after xs y ys

get_taken : {X : Type 0} (xs : List X) (k : ℕ) → slice_get (take (suc k) xs) k ≡ slice_get xs k
get_taken [] k = refl
get_taken (x ∷ xs) zero = refl
get_taken (x ∷ xs) (suc k) = get_taken xs k

small : (text : List ℕ) → length text ≤ MOST_FEED_BYTES → is_too_large text ≡ false
small text h = grind (arith, nat_tests)

large : (text : List ℕ) → MOST_FEED_BYTES < length text → is_too_large text ≡ true
large text h = grind (arith, nat_tests)

-- the bytes that are looked at, and the others
looked_and_others : (bytes : List ℕ) → bytes ≡ looked_at bytes ++ drop MOST_FEED_BYTES bytes
unfolding looked_at
looked_and_others bytes = sym (take-append-drop MOST_FEED_BYTES bytes)

front_of_looked : (bytes : List ℕ) (start : ℕ) → start ≤ MOST_FEED_BYTES → start ≤ length bytes → take start (looked_at bytes) ≡ take start bytes
front_of_looked bytes start low within =
    sym (take-append-le start (looked_at bytes) (drop MOST_FEED_BYTES bytes) (omega (arith, low, within, length-looked_at bytes)))
    ∙ ap (take start) (sym (looked_and_others bytes))

test_false : (u e : ℕ) → (0 < u) ⊎ (e ≡ 0) → (eqb u 0 && ltb 0 e) ≡ false
test_false u e (inl h) = ap (λ t. t && ltb 0 e) {x = eqb u 0} {y = false} (grind (arith, nat_tests))
test_false u e (inr h) = ap (λ t. eqb u 0 && t) {x = ltb 0 e} {y = false} (grind (arith, nat_tests)) ∙ and_false (eqb u 0)
  where
    and_false : (t : Bool) → (t && false) ≡ false
    and_false true = refl
    and_false false = refl

test_true : (u e : ℕ) → u ≡ 0 → 0 < e → (eqb u 0 && ltb 0 e) ≡ true
test_true u e h g = grind (arith, nat_tests)

-- the line that no line feed ends
last_some : (text : List ℕ) → (0 < length (unended text)) ⊎ (length (ended_lines text) ≡ 0) → last_line text ≡ unended text ∷ []
last_some text h = ap (λ t. cond t [] (unended text ∷ [])) (test_false (length (unended text)) (length (ended_lines text)) h)

last_none : (text : List ℕ) → length (unended text) ≡ 0 → 0 < length (ended_lines text) → last_line text ≡ []
last_none text h g = ap (λ t. cond t [] (unended text ∷ [])) (test_true (length (unended text)) (length (ended_lines text)) h g)

not_cut_if : (text : List ℕ) → is_too_large text ≡ false → length (all_lines text) ≤ MOST_LINES → is_cut text ≡ false
not_cut_if text h few = ap (λ t. t || ltb MOST_LINES (length (all_lines text))) h ∙ beyond (length (all_lines text)) few
  where
    beyond : (n : ℕ) → n ≤ MOST_LINES → ltb MOST_LINES n ≡ false
    beyond n h = grind (arith, nat_tests)

cut_if_large : (text : List ℕ) → is_too_large text ≡ true → is_cut text ≡ true
cut_if_large text h = ap (λ t. t || ltb MOST_LINES (length (all_lines text))) h

cut_if_many : (text : List ℕ) → MOST_LINES < length (all_lines text) → is_cut text ≡ true
cut_if_many text h = ap (λ t. is_too_large text || t) {x = ltb MOST_LINES (length (all_lines text))} {y = true} (many (length (all_lines text)) h) ∙ or_true (is_too_large text)
  where
    many : (n : ℕ) → MOST_LINES < n → ltb MOST_LINES n ≡ true
    many n h = grind (arith, nat_tests)

    or_true : (t : Bool) → (t || true) ≡ true
    or_true true = refl
    or_true false = refl

ending_by : (failed : Bool) (text : List ℕ) (cut : Bool) → is_cut text ≡ cut → ending failed text ≡ cond cut step.Cut (cond failed step.ReadFault step.End)
ending_by failed text cut h = ap (λ t. cond t step.Cut (cond failed step.ReadFault step.End)) h

-- a text with a byte has a line feed, or a byte behind the last one
some_of : (x : ℕ) (ps : List (List ℕ)) → (1 < length (onto_first x ps)) ⊎ (0 < length (end_of (onto_first x ps)))
some_of x [] = inr (omega arith)
some_of x (p ∷ []) = inr (omega arith)
some_of x (p ∷ q ∷ ps) = inl (omega arith)

some_pieces : (x : ℕ) (xs : List ℕ) → (1 < length (pieces (x ∷ xs))) ⊎ (0 < length (end_of (pieces (x ∷ xs))))
some_pieces x xs = by_test (is_line_feed x) (has_piece xs)
  where
    by_test : (t : Bool) → HasPiece (pieces xs) → (1 < length (cond t ([] ∷ pieces xs) (onto_first x (pieces xs)))) ⊎ (0 < length (end_of (cond t ([] ∷ pieces xs) (onto_first x (pieces xs)))))
    by_test true h = inl (omega (arith, ap length h.is))
    by_test false h = some_of x (pieces xs)

length-front : (ps : List (List ℕ)) → length (front ps) ≡ length ps - 1
length-front [] = refl
length-front (p ∷ []) = refl
length-front (p ∷ q ∷ ps) = omega (arith, length-front (q ∷ ps))

lines_beyond : (first rest : List ℕ) → unended first ≡ [] → 0 < length rest → length (ended_lines first) < length (all_lines (first ++ rest))
lines_beyond first [] whole some = absurd (omega (arith, some))
lines_beyond first (x ∷ xs) whole some =
    ⊎_elim (λ (more : 1 < length (pieces (x ∷ xs))). omega (arith, more, length-front (pieces (x ∷ xs)), ap length ended_is, length-append (ended_lines first) (front (pieces (x ∷ xs))), length-append (ended_lines (first ++ x ∷ xs)) (last_line (first ++ x ∷ xs))))
    (λ (open_ : 0 < length (end_of (pieces (x ∷ xs)))). omega (arith, ap length ended_is, length-append (ended_lines first) (front (pieces (x ∷ xs))), length-append (ended_lines (first ++ x ∷ xs)) (last_line (first ++ x ∷ xs)), ap length (last_some (first ++ x ∷ xs) (inl (omega (arith, open_, ap length unended_is))))))
    (some_pieces x xs)
  where
    ended_is : ended_lines (first ++ x ∷ xs) ≡ ended_lines first ++ front (pieces (x ∷ xs))
    ended_is = ended_joined first (x ∷ xs) ∙ ap (λ u. ended_lines first ++ front (onto u (pieces (x ∷ xs)))) whole ∙ ap (λ ps. ended_lines first ++ front ps) (onto_nothing (pieces (x ∷ xs)))

    unended_is : unended (first ++ x ∷ xs) ≡ end_of (pieces (x ∷ xs))
    unended_is = unended_joined first (x ∷ xs) ∙ ap (λ u. end_of (onto u (pieces (x ∷ xs)))) whole ∙ ap end_of (onto_nothing (pieces (x ∷ xs)))

module _ (bytes : List ℕ) (start k : ℕ) (at : IsAtLine bytes start k) where
  abbrev before : List ℕ
  before = take start bytes

  before_long : length (take start bytes) ≡ start
  before_long = length-take-le start bytes at.within

  -- so many lines are answered at least
  pub enough : (failed : Bool) → k ≤ MOST_LINES → k ≤ length (answered_lines failed bytes)
  enough failed few = by_count k refl
    where
      by_count : (n : ℕ) → n ≡ k → k ≤ length (answered_lines failed bytes)
      by_count zero e = omega (arith, e)
      by_count (suc n) e =
          subst (λ b. k ≤ length (answered_lines failed b)) (take-append-drop start bytes)
          (answered_more failed (take start bytes) (drop start bytes) k (small (take start bytes) (omega (arith, before_long, at.low))) few (omega (arith, e, at.count)) (omega (arith, at.count))).enough

  -- more bytes leave the place of the line
  pub more_bytes : (now more : List ℕ) → now ≡ bytes ++ more → IsAtLine now start k
  more_bytes now more is =
      let same : take start now ≡ take start bytes = ap (take start) is ∙ take-append-le start bytes more at.within in
      record {
        whole = ap unended same ∙ at.whole;
        count = ap (λ b. length (ended_lines b)) same ∙ at.count;
        low = at.low;
        within = omega (arith, ap length is, length-append bytes more, at.within);
      }

  module _ (end : ℕ) (found : IsEndedAt (looked_at bytes) start end) where
    abbrev line : List ℕ
    line = take (end - start) (drop start (looked_at bytes))

    abbrev others : List ℕ
    others = drop (end + 1) (looked_at bytes) ++ drop MOST_FEED_BYTES bytes

    abbrev text : List ℕ
    text = take start bytes ++ (take (end - start) (drop start (looked_at bytes)) ++ 10 ∷ [])

    line_long : length (take (end - start) (drop start (looked_at bytes))) ≡ end - start
    line_long = length-take-le (end - start) (drop start (looked_at bytes)) (omega (arith, found.within, length-drop start (looked_at bytes)))

    text_long : length (take start bytes ++ (take (end - start) (drop start (looked_at bytes)) ++ 10 ∷ [])) ≡ end + 1
    text_long =
        length-append (take start bytes) (take (end - start) (drop start (looked_at bytes)) ++ 10 ∷ [])
        ∙ omega (arith, before_long, line_long, length-append (take (end - start) (drop start (looked_at bytes))) (10 ∷ []), found.after)

    parts : bytes ≡ (take start bytes ++ (take (end - start) (drop start (looked_at bytes)) ++ 10 ∷ [])) ++ (drop (end + 1) (looked_at bytes) ++ drop MOST_FEED_BYTES bytes)
    parts =
        looked_and_others bytes
        ∙ ap (λ l. l ++ drop MOST_FEED_BYTES bytes) (
        sym (take-append-drop start (looked_at bytes))
        ∙ ap (λ l. l ++ drop start (looked_at bytes)) (front_of_looked bytes start at.low at.within)
        ∙ ap (λ l. take start bytes ++ l) found.parts)
        ∙ joined (take start bytes) (take (end - start) (drop start (looked_at bytes))) (drop (end + 1) (looked_at bytes)) (drop MOST_FEED_BYTES bytes)
      where
        joined : (a b c d : List ℕ) → (a ++ (b ++ 10 ∷ c)) ++ d ≡ (a ++ (b ++ 10 ∷ [])) ++ (c ++ d)
        joined a b c d =
            append_assoc a (b ++ 10 ∷ c) d
            ∙ ap (λ l. a ++ l) (append_assoc b (10 ∷ c) d)
            ∙ sym (append_assoc a (b ++ 10 ∷ []) (c ++ d) ∙ ap (λ l. a ++ l) (append_assoc b (10 ∷ []) (c ++ d)))

    end_low : end + 1 ≤ MOST_FEED_BYTES
    end_low = omega (arith, found.within, length-looked_at bytes)

    ended_text : ended_lines (take start bytes ++ (take (end - start) (drop start (looked_at bytes)) ++ 10 ∷ [])) ≡ ended_lines (take start bytes) ++ take (end - start) (drop start (looked_at bytes)) ∷ []
    ended_text = ended_after (take start bytes) (take (end - start) (drop start (looked_at bytes))) [] at.whole found.line

    count_text : length (ended_lines (take start bytes ++ (take (end - start) (drop start (looked_at bytes)) ++ 10 ∷ []))) ≡ k + 1
    count_text = ap length ended_text ∙ length-append (ended_lines (take start bytes)) (take (end - start) (drop start (looked_at bytes)) ∷ []) ∙ omega (arith, at.count)

    -- the next line is ended
    pub ended_next : (drained : Bool) → k < MOST_LINES → IsNextLine drained bytes k (take (end - start) (drop start (looked_at bytes)))
    ended_next drained few = subst (λ b. slice_get (answered_lines (not drained) b) k ≡ Some (take (end - start) (drop start (looked_at bytes)))) (sym parts) here
      where
        begins : Begins (suc k) (ended_lines text) (answered_lines (not drained) (text ++ others))
        begins = answered_more (not drained) text others (suc k) (small text (omega (arith, text_long, end_low))) (omega (arith, few)) (omega (arith, count_text)) (omega (arith, count_text))

        here : slice_get (answered_lines (not drained) (text ++ others)) k ≡ Some (take (end - start) (drop start (looked_at bytes)))
        here =
            sym (get_taken (answered_lines (not drained) (text ++ others)) k)
            ∙ ap (λ l. slice_get l k) begins.same
            ∙ get_taken (ended_lines text) k
            ∙ ap (λ l. slice_get l k) ended_text
            ∙ ap (slice_get (ended_lines (take start bytes) ++ take (end - start) (drop start (looked_at bytes)) ∷ [])) (sym at.count)
            ∙ get_after (ended_lines (take start bytes)) (take (end - start) (drop start (looked_at bytes))) []

    taken_text : take (end + 1) bytes ≡ text
    taken_text = ap (take (end + 1)) parts ∙ ap (λ n. take n (text ++ others)) (sym text_long) ∙ take-append_seam text others

    pub ended_at : IsAtLine bytes (end + 1) (k + 1)
    ended_at = record {
      whole = ap unended taken_text ∙ unended_after (take start bytes) (take (end - start) (drop start (looked_at bytes))) [] at.whole found.line;
      count = ap (λ b. length (ended_lines b)) taken_text ∙ count_text;
      low = end_low;
      within = omega (arith, found.within, length-looked_at bytes);
    }

    -- more lines end than were answered
    pub more_ended : k < length (ended_lines bytes)
    more_ended =
        let parts_ = ap length (ap ended_lines parts ∙ ended_joined text others) in
        omega (arith, parts_, count_text, length-append (ended_lines text) (front (onto (unended text) (pieces others))))

  -- no line feed follows
  module _ (one : IsOneLine (drop start (looked_at bytes))) where
    pub ended_looked : ended_lines (looked_at bytes) ≡ ended_lines (take start bytes)
    ended_looked =
        ap ended_lines (sym (take-append-drop start (looked_at bytes)) ∙ ap (λ l. l ++ drop start (looked_at bytes)) (front_of_looked bytes start at.low at.within))
        ∙ ended_open (take start bytes) (drop start (looked_at bytes)) at.whole one

    module _ (few : length bytes ≤ MOST_FEED_BYTES) where
      one_here : IsOneLine (drop start bytes)
      one_here = subst (λ b. IsOneLine (drop start b)) (all_looked_at bytes few) one

      ended_here : ended_lines bytes ≡ ended_lines (take start bytes)
      ended_here = ap ended_lines (sym (take-append-drop start bytes)) ∙ ended_open (take start bytes) (drop start bytes) at.whole one_here

      unended_here : unended bytes ≡ drop start bytes
      unended_here = ap unended (sym (take-append-drop start bytes)) ∙ unended_open (take start bytes) (drop start bytes) at.whole one_here

      count_here : length (ended_lines bytes) ≡ k
      count_here = ap length ended_here ∙ at.count

      not_large : is_too_large bytes ≡ false
      not_large = small bytes few

      ended_answered : (failed : Bool) (lines : List (List ℕ)) → length lines ≤ MOST_LINES → cond failed (ended_lines bytes) (all_lines bytes) ≡ lines → answered_lines failed bytes ≡ lines
      ended_answered failed lines short is =
          ap (λ t. take MOST_LINES (cond t (lines_within (take MOST_FEED_BYTES bytes)) (cond failed (ended_lines bytes) (all_lines bytes)))) not_large
          ∙ ap (take MOST_LINES) is
          ∙ take_all MOST_LINES lines short

      -- the last line, which no line feed ends
      module _ (low : k < MOST_LINES) (some : (0 < length (drop start bytes)) ⊎ (k ≡ 0)) where
        all_is : all_lines bytes ≡ ended_lines (take start bytes) ++ drop start bytes ∷ []
        all_is =
            ap (λ l. ended_lines bytes ++ l) (last_some bytes (⊎_elim (λ (h : 0 < length (drop start bytes)). inl (omega (arith, h, ap length unended_here))) (λ (h : k ≡ 0). inr (count_here ∙ h)) some))
            ∙ ap (λ u. ended_lines bytes ++ u ∷ []) unended_here
            ∙ ap (λ l. l ++ drop start bytes ∷ []) ended_here

        all_long : length (ended_lines (take start bytes) ++ drop start bytes ∷ []) ≡ k + 1
        all_long = length-append (ended_lines (take start bytes)) (drop start bytes ∷ []) ∙ omega (arith, at.count)

        answered_is : answered_lines false bytes ≡ ended_lines (take start bytes) ++ drop start bytes ∷ []
        answered_is = ended_answered false (ended_lines (take start bytes) ++ drop start bytes ∷ []) (omega (arith, all_long, low)) all_is

        pub last_next : IsNextLine true bytes k (drop start bytes)
        last_next =
            ap (λ l. slice_get l k) answered_is
            ∙ ap (slice_get (ended_lines (take start bytes) ++ drop start bytes ∷ [])) (sym at.count)
            ∙ get_after (ended_lines (take start bytes)) (drop start bytes) []

        pub last_read_out : IsReadOut bytes (k + 1)
        last_read_out = record {
          all = ap length answered_is ∙ all_long;
          not_cut = not_cut_if bytes not_large (omega (arith, ap length all_is, all_long, low));
          some = omega arith;
        }

      -- nothing follows
      module _ (low : k ≤ MOST_LINES) (some : 0 < k) (none : length (drop start bytes) ≡ 0) where
        all_none : all_lines bytes ≡ ended_lines (take start bytes)
        all_none =
            ap (λ l. ended_lines bytes ++ l) (last_none bytes (ap length unended_here ∙ none) (omega (arith, count_here, some)))
            ∙ append-nil (ended_lines bytes)
            ∙ ended_here

        pub few_none : length (all_lines bytes) ≤ MOST_LINES
        few_none = omega (arith, ap length all_none, at.count, low)

        pub end_after : IsAfterLines true bytes k step.End
        end_after = record {
          all = ap length (ended_answered false (ended_lines (take start bytes)) (omega (arith, at.count, low)) all_none) ∙ at.count;
          ends = ending_by false bytes false (not_cut_if bytes not_large few_none);
        }

      -- a read failed
      pub fault_after : k ≤ MOST_LINES → length (all_lines bytes) ≤ MOST_LINES → IsAfterLines false bytes k step.ReadFault
      fault_after low short = record {
        all = ap length (ended_answered true (ended_lines (take start bytes)) (omega (arith, at.count, low)) ended_here) ∙ at.count;
        ends = ending_by true bytes false (not_cut_if bytes not_large short);
      }

      pub few_more : k < MOST_LINES → length (all_lines bytes) ≤ MOST_LINES
      few_more low = omega (arith, all_lines_few bytes, count_here, low)

    -- there are more bytes than are looked at
    module _ (many : MOST_FEED_BYTES < length bytes) where
      within_is : (failed : Bool) (lines : List (List ℕ)) → lines_within (looked_at bytes) ≡ lines → answered_lines failed bytes ≡ take MOST_LINES lines
      unfolding looked_at
      within_is failed lines is =
          ap (λ t. take MOST_LINES (cond t (lines_within (take MOST_FEED_BYTES bytes)) (cond failed (ended_lines bytes) (all_lines bytes)))) (large bytes many)
          ∙ ap (take MOST_LINES) is

      count_looked : length (ended_lines (looked_at bytes)) ≡ k
      count_looked = ap length ended_looked ∙ at.count

      pub large_after : (drained : Bool) → k ≤ MOST_LINES → 0 < k → IsAfterLines drained bytes k step.Cut
      large_after drained low some = record {
        all = ap length (within_is (not drained) (ended_lines (looked_at bytes)) (ap (λ t. cond t (looked_at bytes ∷ []) (ended_lines (looked_at bytes))) (not_none (length (ended_lines (looked_at bytes))) (omega (arith, count_looked, some)))))
            ∙ length-take MOST_LINES (ended_lines (looked_at bytes)) ∙ omega (arith, count_looked, low);
        ends = ending_by (not drained) bytes true (cut_if_large bytes (large bytes many));
      }
        where
          not_none : (n : ℕ) → 0 < n → eqb n 0 ≡ false
          not_none n h = grind (arith, nat_tests)

      pub whole_next : (drained : Bool) → k ≡ 0 → IsNextLine drained bytes k (looked_at bytes)
      whole_next drained none =
          ap (λ l. slice_get l k) (within_is (not drained) (looked_at bytes ∷ []) (ap (λ t. cond t (looked_at bytes ∷ []) (ended_lines (looked_at bytes))) {x = eqb (length (ended_lines (looked_at bytes))) 0} {y = true} (ap (λ n. eqb n 0) (count_looked ∙ none))))
          ∙ ap (slice_get (looked_at bytes ∷ [])) none

  -- as many lines as are answered, and a byte behind them
  pub behind_after : (drained : Bool) → k ≡ MOST_LINES → start < length bytes → IsAfterLines drained bytes k step.Cut
  behind_after drained full more = record {
    all = omega (arith, full, enough (not drained) (omega (arith, full)), length-take MOST_LINES (counted_lines (not drained) bytes));
    ends = ending_by (not drained) bytes true (cut_if_many bytes (subst (λ b. MOST_LINES < length (all_lines b)) (take-append-drop start bytes)
        (omega (arith, full, at.count, lines_beyond (take start bytes) (drop start bytes) at.whole (omega (arith, more, length-drop start bytes))))));
  }

pub read_out_after : (bytes : List ℕ) (k : ℕ) → IsReadOut bytes k → IsAfterLines true bytes k step.End
read_out_after bytes k out = record { all = out.all; ends = ending_by false bytes false out.not_cut }

-- line feeds that were taken and not passed over
pub more_lines : (bytes : List ℕ) (start k : ℕ) → IsAtLine bytes start k → k < length (ended_lines bytes) →
    (start < length bytes) × ((1 < length (pieces (drop start (looked_at bytes)))) ⊎ (MOST_FEED_BYTES < length bytes))
more_lines bytes start k at h = (within, by_size (ltb MOST_FEED_BYTES (length bytes)) refl)
  where
    ended_is : ended_lines bytes ≡ ended_lines (take start bytes) ++ front (pieces (drop start bytes))
    ended_is =
        ap ended_lines (sym (take-append-drop start bytes))
        ∙ ended_joined (take start bytes) (drop start bytes)
        ∙ ap (λ u. ended_lines (take start bytes) ++ front (onto u (pieces (drop start bytes)))) at.whole
        ∙ ap (λ ps. ended_lines (take start bytes) ++ front ps) (onto_nothing (pieces (drop start bytes)))

    feeds : 1 < length (pieces (drop start bytes))
    feeds = omega (arith, h, ap length ended_is, length-append (ended_lines (take start bytes)) (front (pieces (drop start bytes))), at.count, length-front (pieces (drop start bytes)))

    empty : (xs : List ℕ) → length xs ≡ 0 → 1 < length (pieces xs) → ⊥
    empty [] h g = omega (arith, g)
    empty (x ∷ xs) h g = omega (arith, h)

    positive : (n : ℕ) → length (drop start bytes) ≡ n → start < length bytes
    positive zero e = absurd (empty (drop start bytes) e feeds)
    positive (suc n) e = omega (arith, e, length-drop start bytes)

    within : start < length bytes
    within = positive (length (drop start bytes)) refl

    by_size : (b : Bool) → ltb MOST_FEED_BYTES (length bytes) ≡ b → (1 < length (pieces (drop start (looked_at bytes)))) ⊎ (MOST_FEED_BYTES < length bytes)
    by_size true e = inr (ltb-true MOST_FEED_BYTES (length bytes) e)
    by_size false e = inl (subst (λ b. 1 < length (pieces (drop start b))) (sym (all_looked_at bytes (ltb-false MOST_FEED_BYTES (length bytes) e))) feeds)

nothing_left : (bytes : List ℕ) (start : ℕ) → length bytes ≤ start → drop start bytes ≡ []
nothing_left bytes start h = drop_of_length-le bytes h

-- at the end of the bytes
pub at_end_of : (bytes : List ℕ) (start k : ℕ) → IsAtLine bytes start k → length bytes ≤ start → IsOneLine (drop start (looked_at bytes)) × (length bytes ≤ MOST_FEED_BYTES) × (length (drop start bytes) ≡ 0)
at_end_of bytes start k at h =
    let few : length bytes ≤ MOST_FEED_BYTES = omega (arith, h, at.low) in (
      subst (λ b. IsOneLine (drop start b)) (sym (all_looked_at bytes few)) (subst IsOneLine (sym (nothing_left bytes start h)) refl),
      few,
      ap length (nothing_left bytes start h),
    )

-- at the end of the bytes, after as many lines as are answered
pub full_at_end : (bytes : List ℕ) (start k : ℕ) → IsAtLine bytes start k → length bytes ≤ start → k ≡ MOST_LINES →
    IsAfterLines true bytes k step.End × IsAfterLines false bytes k step.ReadFault
full_at_end bytes start k at h full =
    let ends = at_end_of bytes start k at h in
    let low : k ≤ MOST_LINES = omega (arith, full) in
    let some : 0 < k = omega (arith, full) in (
      end_after bytes start k at ends.0 ends.1 low some ends.2,
      fault_after bytes start k at ends.0 ends.1 low (few_none bytes start k at ends.0 ends.1 low some ends.2),
    )
