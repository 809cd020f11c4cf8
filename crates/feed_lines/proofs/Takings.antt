-- Reads one after another, and what they leave of the lines.
use Rattle.std.proofs.Common.{◌≡◌, ℕ, ◌+◌, ◌-◌, ◌<◌, ◌≤◌, ◌⊎◌, List, [], ◌∷◌, ◌++◌, length, take, drop, min, Option, Some, None, refl, sym, ap, ◌∙◌, subst, arith, inl, inr, append-nil, append_assoc, length-append, length-drop, length-take}
use Rattle.std.proofs.Math.Seq.{take-append_seam, take-append-add}
use Rattle.std.proofs.lemmas.List.{drop-append-le, take_all}
use Rattle.std.proofs.KnownBytes.{Consumes-trans}
use Rattle.scan_types.specs.declared.limits.TheConstants.{MOST_FEED_BYTES}
use Rattle.feed_definitions.specs.Lines.{pieces}
use Rattle.feed_lines.specs.Taking.{Takes, IsOneLine, looked_at}
use Rattle.feed_lines.proofs.Splits.{IsOneLineUpTo}

pub takes_on : (a b c : Option (List ℕ)) (x y z : List ℕ) → Takes a b x y → Takes b c y z → Takes a c x z
takes_on a b c x y z first second = record {
  more = first.more ++ second.more;
  appended = second.appended ∙ ap (λ l. l ++ second.more) first.appended ∙ append_assoc x first.more second.more;
  given = Consumes-trans a b c first.more second.more first.given second.given;
}

-- no read
pub takes_nothing : (a : Option (List ℕ)) (x : List ℕ) → Takes a a x x
takes_nothing None x = record { more = []; appended = sym (append-nil x); given = tt }
takes_nothing (Some left) x = record { more = []; appended = sym (append-nil x); given = refl }

none_more : (more : List ℕ) → length more ≡ 0 → more ≡ []
none_more [] h = refl
none_more (x ∷ more) h = absurd (omega (arith, h))

-- a read of no bytes
pub nothing_more : (a b : Option (List ℕ)) (old new : List ℕ) → Takes a b old new → length new ≡ length old → new ≡ old
nothing_more a b old new t same =
    t.appended
    ∙ ap (λ m. old ++ m) (none_more t.more (omega (arith, same, ap length t.appended, length-append old t.more)))
    ∙ append-nil old

-- bytes that are all looked at
pub all_looked_at : (bytes : List ℕ) → length bytes ≤ MOST_FEED_BYTES → looked_at bytes ≡ bytes
unfolding looked_at
all_looked_at bytes h = take_all MOST_FEED_BYTES bytes h

take_beyond : (text more : List ℕ) (n : ℕ) → length text ≤ n → take n (text ++ more) ≡ text ++ take (n - length text) more
take_beyond text more n h =
    ap (λ m. take m (text ++ more)) {x = n} {y = length text + (n - length text)} (omega arith) ∙ take-append-add text more (n - length text)

pub length-looked_at : (bytes : List ℕ) → length (looked_at bytes) ≡ min MOST_FEED_BYTES (length bytes)
unfolding looked_at
length-looked_at bytes = length-take MOST_FEED_BYTES bytes

pub looked_at_beyond : (old more : List ℕ) → length old ≤ MOST_FEED_BYTES → looked_at (old ++ more) ≡ old ++ take (MOST_FEED_BYTES - length old) more
unfolding looked_at
looked_at_beyond old more few = take_beyond old more MOST_FEED_BYTES few

-- a search that found no line feed, on bytes that are the same
pub found_none : (now old : List ℕ) (start_now start : ℕ) → now ≡ old → start_now ≡ start → IsOneLine (drop start (looked_at old)) → length old ≤ MOST_FEED_BYTES →
    IsOneLine (drop start_now (looked_at now)) × (length now ≤ MOST_FEED_BYTES)
found_none now old start_now start same at one few = (
  subst (λ s. IsOneLine (drop s (looked_at now))) (sym at) (subst (λ b. IsOneLine (drop start (looked_at b))) (sym same) one),
  subst (λ b. length b ≤ MOST_FEED_BYTES) (sym same) few,
)

-- what was looked through stays so
pub looked_through : (a b : Option (List ℕ)) (old new : List ℕ) (start from start_now : ℕ) → Takes a b old new → start ≤ length old → length old ≤ MOST_FEED_BYTES → from ≡ length old → start_now ≡ start →
    IsOneLine (drop start (looked_at old)) → IsOneLineUpTo (looked_at new) start_now from
looked_through a b old new start from start_now t within few at same one = subst IsOneLine (sym is) one
  where
    is : take (from - start_now) (drop start_now (looked_at new)) ≡ drop start (looked_at old)
    is =
        ap (λ s. take (from - s) (drop s (looked_at new))) same
        ∙ ap (λ f. take (f - start) (drop start (looked_at new))) at
        ∙ ap (λ l. take (length old - start) (drop start (looked_at l))) t.appended
        ∙ ap (λ l. take (length old - start) (drop start l)) (looked_at_beyond old t.more few)
        ∙ ap (λ l. take (length old - start) l) (drop-append-le start old (take (MOST_FEED_BYTES - length old) t.more) within)
        ∙ ap (λ n. take n (drop start old ++ take (MOST_FEED_BYTES - length old) t.more)) (sym (length-drop start old))
        ∙ take-append_seam (drop start old) (take (MOST_FEED_BYTES - length old) t.more)
        ∙ ap (drop start) (sym (all_looked_at old few))

-- if no line feed stands among the bytes that are looked at, and no more bytes do, a read was needed
pub no_second : (old now : List ℕ) (start start_now : ℕ) → now ≡ old → start_now ≡ start → IsOneLine (drop start_now (looked_at now)) → length now ≤ MOST_FEED_BYTES →
    (1 < length (pieces (drop start (looked_at old)))) ⊎ (MOST_FEED_BYTES < length old) → ⊥
no_second old now start start_now same at one few (inl more) =
    let here : length (pieces (drop start (looked_at old))) ≡ 1 = ap (λ l. length (pieces (drop start (looked_at l)))) (sym same) ∙ ap (λ s. length (pieces (drop s (looked_at now)))) (sym at) ∙ ap length one in
    omega (arith, here, more)
no_second old now start start_now same at one few (inr large) = omega (arith, few, large, ap length same)
