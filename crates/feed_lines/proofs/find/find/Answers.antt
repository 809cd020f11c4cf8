use Rattle.std.proofs.Common.{◌≡◌, ℕ, ◌<◌, Bool, true, false, cond, ltb, List, length, Option, Some, None, refl, sym, ap, ◌∙◌, arith}
use Rattle.std.specs.List.{position, position_or_len}
use Rattle.std.proofs.lemmas.Bool.{ltb-true, false≢true}
use Rattle.std.proofs.lemmas.Bool.Decides.{nat_tests}
use Rattle.std.proofs.lemmas.List.Sums.{fails_before_first, passes_at_first}
use Rattle.memchr.specs.Find.{IsFirstByte, is_byte}
use Rattle.feed_lines.proofs.find.find.Goals as goal

below : (a b : ℕ) → a < b → ltb a b ≡ true
below a b h = grind (arith, nat_tests)

-- the first place of a byte, in the words of `position`
module _ (p : ℕ → Bool) (xs : List ℕ) where
  none_by : (t : Bool) → ltb (position_or_len p xs) (length xs) ≡ t → IsFirstByte p xs None → None ≡ cond t (Some (position_or_len p xs)) None
  none_by true e h =
      let low : position_or_len p xs < length xs = ltb-true (position_or_len p xs) (length xs) e in
      absurd (h (position_or_len p xs) (omega arith) low (passes_at_first p xs 0 low))
  none_by false e h = refl

  at_first : (k : ℕ) → IsFirstByte p xs (Some k) → position_or_len p xs ≡ k
  at_first k h = by_order (ltb (position_or_len p xs) k) refl (ltb k (position_or_len p xs)) refl
    where
      by_order : (a : Bool) → ltb (position_or_len p xs) k ≡ a → (b : Bool) → ltb k (position_or_len p xs) ≡ b → position_or_len p xs ≡ k
      by_order true e b f =
          let low : position_or_len p xs < k = ltb-true (position_or_len p xs) k e in
          absurd (h.0.before (position_or_len p xs) (omega arith) low (passes_at_first p xs 0 (omega (arith, low, h.0.high))))
      by_order false e true f = absurd (false≢true (sym (fails_before_first p xs k 0 (ltb-true k (position_or_len p xs) f)) ∙ h.1))
      by_order false e false f = grind (arith, nat_tests)

  first_is : (r : Option ℕ) → IsFirstByte p xs r → r ≡ position p xs
  first_is None h = none_by (ltb (position_or_len p xs) (length xs)) refl h
  first_is (Some k) h =
      sym (ap (λ t. cond t (Some (position_or_len p xs)) None) (below (position_or_len p xs) (length xs) (omega (arith, at_first k h, h.0.high))) ∙ ap Some (at_first k h))

pub returns : goal.returns
returns c = first_is (is_byte c.args.wanted) c.args.text.now c.memchr.result c.memchr.ensures
