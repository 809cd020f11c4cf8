-- The first line feed from an index on, and no line feed up to an index.
use Rattle.std.proofs.Common.{◌≡◌, ℕ, ◌+◌, ◌-◌, ◌<◌, ◌≤◌, List, ◌∷◌, [], ◌++◌, length, take, drop, get_or, Some, None, refl, sym, ap, ◌∙◌, subst, arith, length-drop, append_assoc}
use Rattle.std.specs.List.{position, position_or_len}
use Rattle.std.proofs.lemmas.List.Splits.{slice_split_none}
use Rattle.std.proofs.lemmas.List.Sums.{split_at_first, fails_before_first, passes_at_first}
use Rattle.std.proofs.lemmas.List.{take_rest, drop-drop, take-append-drop, get_or-take, length-take}
use Rattle.std.proofs.Math.Seq.{take-add}
use Rattle.std.proofs.lemmas.Bool.{eqb-true}
use Rattle.odds_fixed.proofs.Splits.{Found, found, split_none}
use Rattle.feed_definitions.specs.Lines.{is_line_feed, pieces}
use Rattle.feed_definitions.proofs.Pieces.{one_line_joined}
use Rattle.feed_lines.specs.Taking.{IsOneLine, IsEndedAt}

-- the first line feed from an index on
module _ (bytes : List ℕ) (start at : ℕ) (within : start ≤ length bytes) (is : position is_line_feed (drop start bytes) ≡ Some at) where
  f : Found is_line_feed (drop start bytes) at
  f = found is_line_feed (drop start bytes) at is

  at_within : start + at < length bytes
  at_within = omega (arith, f.within, length-drop start bytes)

  less : start + at - start ≡ at
  less = omega arith

  one : IsOneLine (take (start + at - start) (drop start bytes))
  one = ap (λ k. pieces (take k (drop start bytes))) less
      ∙ slice_split_none is_line_feed (take at (drop start bytes))
      (λ k d inside. ap is_line_feed (get_or-take at (drop start bytes) k d (omega (arith, inside, length-take at (drop start bytes))))
      ∙ fails_before_first is_line_feed (drop start bytes) k d (omega (arith, inside, length-take at (drop start bytes), f.is)))
      ∙ ap (λ k. take k (drop start bytes) ∷ []) (sym less)

  is_feed : get_or (drop start bytes) at 0 ≡ 10
  is_feed = ap (λ k. get_or (drop start bytes) k 0) (sym f.is)
      ∙ eqb-true (get_or (drop start bytes) (position_or_len is_line_feed (drop start bytes)) 0) 10
      (passes_at_first is_line_feed (drop start bytes) 0 (omega (arith, f.within, f.is)))

  parts : drop start bytes ≡ take (start + at - start) (drop start bytes) ++ 10 ∷ drop (start + at + 1) bytes
  parts = split_at_first is_line_feed (drop start bytes) 0 (omega (arith, f.within, f.is))
      ∙ ap (λ k. take k (drop start bytes) ++ (get_or (drop start bytes) k 0 ∷ drop (k + 1) (drop start bytes))) f.is
      ∙ ap (λ b. take at (drop start bytes) ++ (b ∷ drop (at + 1) (drop start bytes))) is_feed
      ∙ ap (λ r. take at (drop start bytes) ++ (10 ∷ r)) (drop-drop (at + 1) start bytes)
      ∙ ap (λ k. take at (drop start bytes) ++ (10 ∷ drop k bytes)) (let e : start + (at + 1) ≡ start + at + 1 = omega arith in e)
      ∙ ap (λ k. take k (drop start bytes) ++ 10 ∷ drop (start + at + 1) bytes) (sym less)

  pub ended_at : IsEndedAt bytes start (start + at)
  ended_at = record { after = omega arith; within = at_within; line = one; parts = parts }

-- the same, where the rest is what a range of a slice with these bytes gives
rest_of : (slice bytes : List ℕ) (start : ℕ) → slice ≡ bytes → drop start bytes ≡ take (length slice - start) (drop start slice)
rest_of slice bytes start are = ap (drop start) (sym are) ∙ sym (take_rest slice start)

pub ended_at_rest : (slice bytes : List ℕ) (start at : ℕ) → slice ≡ bytes → start ≤ length bytes →
    position is_line_feed (take (length slice - start) (drop start slice)) ≡ Some at → IsEndedAt bytes start (start + at)
ended_at_rest slice bytes start at are within is = ended_at bytes start at within (ap (position is_line_feed) (rest_of slice bytes start are) ∙ is)

pub one_line_rest : (slice bytes : List ℕ) (start : ℕ) → slice ≡ bytes →
    position is_line_feed (take (length slice - start) (drop start slice)) ≡ None → IsOneLine (drop start bytes)
one_line_rest slice bytes start are is = split_none is_line_feed (drop start bytes) (ap (position is_line_feed) (rest_of slice bytes start are) ∙ is)

-- no line feed stands between two indices
abbrev pub IsOneLineUpTo : List ℕ → ℕ → ℕ → Type 0
IsOneLineUpTo bytes start from = IsOneLine (take (from - start) (drop start bytes))

-- bytes from `start` on are those up to `from`, and those from there on
module _ (bytes : List ℕ) (start from : ℕ) (within : start ≤ from) where
  from_is : drop (from - start) (drop start bytes) ≡ drop from bytes
  from_is = drop-drop (from - start) start bytes ∙ ap (λ k. drop k bytes) (let e : start + (from - start) ≡ from = omega (arith, within) in e)

  pub joins : take (from - start) (drop start bytes) ++ drop from bytes ≡ drop start bytes
  joins = ap (λ r. take (from - start) (drop start bytes) ++ r) (sym from_is) ∙ take-append-drop (from - start) (drop start bytes)

  pub joins_take : (end : ℕ) → from ≤ end → take (from - start) (drop start bytes) ++ take (end - from) (drop from bytes) ≡ take (end - start) (drop start bytes)
  joins_take end h =
      ap (λ r. take (from - start) (drop start bytes) ++ take (end - from) r) (sym from_is)
      ∙ sym (take-add (from - start) (end - from) (drop start bytes))
      ∙ ap (λ k. take k (drop start bytes)) (let e : from - start + (end - from) ≡ end - start = omega (arith, within, h) in e)

  pub one_line_on : IsOneLineUpTo bytes start from → IsOneLine (drop from bytes) → IsOneLine (drop start bytes)
  one_line_on first second = subst IsOneLine joins (one_line_joined (take (from - start) (drop start bytes)) (drop from bytes) first second)

  pub ended_earlier : (end : ℕ) → IsOneLineUpTo bytes start from → IsEndedAt bytes from end → IsEndedAt bytes start end
  ended_earlier end first e = record {
    after = omega (arith, within, e.after);
    within = e.within;
    line = subst IsOneLine (joins_take end e.after) (one_line_joined (take (from - start) (drop start bytes)) (take (end - from) (drop from bytes)) first e.line);
    parts = sym joins
        ∙ ap (λ r. take (from - start) (drop start bytes) ++ r) e.parts
        ∙ sym (append_assoc (take (from - start) (drop start bytes)) (take (end - from) (drop from bytes)) (10 ∷ drop (end + 1) bytes))
        ∙ ap (λ l. l ++ 10 ∷ drop (end + 1) bytes) (joins_take end e.after);
  }
