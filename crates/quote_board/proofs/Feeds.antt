-- How many feeds have not ended.
use Rattle.std.proofs.Common.{ℕ, ◌≡◌, ◌+◌, ◌≤◌, ◌<◌, Bool, true, false, cond, List, [], ◌∷◌, ◌++◌, length, refl, sym, ap, ◌∙◌, None, subst, ⊎_elim, arith, zero, suc}
use Rattle.std.specs.Prelude.{Option, ◌==◌, ◌&&◌, ◌||◌, not, count_by, IsSome, option_and_then}
use Rattle.std.specs.Option.{is_some}
use Rattle.std.specs.List.{range_with_len}
use Rattle.std.proofs.lemmas.List.Folds.{list_any-append}
use Rattle.std.proofs.lemmas.Bool.{cases_Bool, cases_eq, cases_lt, and_parts, and_from, or_right, not_from_false, not-true}
use Rattle.std.proofs.lemmas.Bool.Decides.{Decides-eqb}
use Rattle.std.proofs.lemmas.Option.{slice_get_past}
use Rattle.scan_types.specs.declared.limits.TheConstants.{MOST_FEEDS}
use Rattle.scan_types.specs.declared.rule.VoidRule.{VoidRule}
use Rattle.board_definitions.specs.declared.event.Entry.{Entry}
use Rattle.board_definitions.specs.Entries.{rule_of, ends}
use Rattle.board_definitions.specs.Pins.{has_ended, HaveAllEnded}
use Rattle.board_definitions.proofs.Counts.{count_le, count_step}
use Rattle.quote_board.specs.Kept.{is_open, open_count}
use Rattle.quote_board.specs.Answers.{HasOpenFeed}

or_false : (b : Bool) → (b || false) ≡ b
or_false true = refl
or_false false = refl

and_false : (b : Bool) → (b && false) ≡ false
and_false true = refl
and_false false = refl

apart : (a b : ℕ) → (a ≡ b → ⊥) → (a == b) ≡ false
apart a b h = ⊎_elim (λ (same : (a == b) ≡ true). absurd (h ((Decides-eqb a b).0 same))) (λ (other : (a == b) ≡ false). other) (cases_Bool (a == b))

no_rule : (rules : List (Option VoidRule)) (feed : ℕ) → length rules ≤ feed → IsSome (rule_of rules feed) → ⊥
no_rule rules feed past exists =
    let P : Option (Option VoidRule) → Type 0 = λ o. IsSome (option_and_then (λ (rule : Option VoidRule). rule) o) in
    let none : IsSome (option_and_then (λ (rule : Option VoidRule). rule) None) = subst P (slice_get_past rules feed past) exists in
    absurd (cc none)

ended_more : (h : List Entry) (e : Entry) (feed : ℕ) → has_ended (h ++ e ∷ []) feed ≡ (has_ended h feed || (ends feed e.event || false))
ended_more h e feed = list_any-append (λ (x : Entry). ends feed x.event) h (e ∷ [])

ended_same : (h : List Entry) (e : Entry) (feed : ℕ) → ends feed e.event ≡ false → has_ended (h ++ e ∷ []) feed ≡ has_ended h feed
ended_same h e feed none = ended_more h e feed ∙ ap (λ (b : Bool). has_ended h feed || (b || false)) none ∙ or_false (has_ended h feed)

open_same : (rules : List (Option VoidRule)) (h : List Entry) (e : Entry) (feed : ℕ) → ends feed e.event ≡ false → is_open rules (h ++ e ∷ []) feed ≡ is_open rules h feed
open_same rules h e feed none = ap (λ (b : Bool). is_some (rule_of rules feed) && not b) (ended_same h e feed none)

-- an entry that ends no feed
pub open_kept : (rules : List (Option VoidRule)) (h : List Entry) (e : Entry) → ((feed : ℕ) → ends feed e.event ≡ false) → open_count rules h ≡ open_count rules (h ++ e ∷ [])
unfolding open_count
open_kept rules h e none =
    let down : open_count rules h ≤ open_count rules (h ++ e ∷ []) = count_le (is_open rules h) (is_open rules (h ++ e ∷ [])) 0 MOST_FEEDS (λ k _ now. open_same rules h e k (none k) ∙ now) in
    let up : open_count rules (h ++ e ∷ []) ≤ open_count rules h = count_le (is_open rules (h ++ e ∷ [])) (is_open rules h) 0 MOST_FEEDS (λ k _ now. sym (open_same rules h e k (none k)) ∙ now) in
    omega (arith, down, up)

-- two tests that differ at one number
one_less : (p q : ℕ → Bool) (j a n : ℕ) → a ≤ j → j < a + n → q j ≡ true → p j ≡ false → ((k : ℕ) → (k ≡ j → ⊥) → p k ≡ q k) →
    count_by q (range_with_len a n) ≡ count_by p (range_with_len a n) + 1
one_less p q j a zero low high now then same = absurd (omega arith)
one_less p q j a (suc n) low high now then same =
    ⊎_elim
    (λ (here : a ≡ j).
    let up = count_le p q (a + 1) n (λ k l passes. sym (same k (λ e. omega (arith, l, e, here))) ∙ passes) in
    let down = count_le q p (a + 1) n (λ k l passes. same k (λ e. omega (arith, l, e, here)) ∙ passes) in
    let qa : q a ≡ true = ap q here ∙ now in
    let pa : p a ≡ false = ap p here ∙ then in
    let one : cond {A = ℕ} (q a) 1 0 ≡ 1 = ap (λ (b : Bool). cond {A = ℕ} b 1 0) qa in
    let nothing : cond {A = ℕ} (p a) 1 0 ≡ 0 = ap (λ (b : Bool). cond {A = ℕ} b 1 0) pa in
    omega (arith, count_step p a n, count_step q a n, up, down, one, nothing))
    (λ (there : a ≡ j → ⊥).
    let rest = one_less p q j (a + 1) n (let w : (j ≡ a → ⊥) = λ e. there (sym e) in grind (arith, w)) (omega (arith, high)) now then same in
    let equal : cond {A = ℕ} (p a) 1 0 ≡ cond (q a) 1 0 = ap (λ (b : Bool). cond {A = ℕ} b 1 0) (same a there) in
    omega (arith, count_step p a n, count_step q a n, rest, equal))
    (cases_eq a j)

-- an entry that ends an open feed
pub open_less : (rules : List (Option VoidRule)) (h : List Entry) (e : Entry) (feed : ℕ) → feed < MOST_FEEDS → IsSome (rule_of rules feed) → has_ended h feed ≡ false →
    ((k : ℕ) → ends k e.event ≡ (feed == k)) → open_count rules h ≡ open_count rules (h ++ e ∷ []) + 1
unfolding open_count
open_less rules h e feed fits exists running is =
    one_less (is_open rules (h ++ e ∷ [])) (is_open rules h) feed 0 MOST_FEEDS (omega arith) (omega (arith, fits))
    (and_from (is_some (rule_of rules feed)) (not (has_ended h feed)) exists (not_from_false _ running))
    (ap (λ (b : Bool). is_some (rule_of rules feed) && not b) (ended_more h e feed ∙ or_right (has_ended h feed) (ends feed e.event || false) (ap (λ (b : Bool). b || false) (is feed ∙ (Decides-eqb feed feed).1 refl)))
    ∙ and_false (is_some (rule_of rules feed)))
    (λ k other. open_same rules h e k (is k ∙ apart feed k (λ e. other (sym e))))

-- a count tells whether a test passes
none_passes : (p : ℕ → Bool) (a n : ℕ) → count_by p (range_with_len a n) ≡ 0 → (k : ℕ) → a ≤ k → k < a + n → p k ≡ false
none_passes p a zero h k low high = absurd (omega arith)
none_passes p a (suc n) h k low high =
    let step = count_step p a n in
    ⊎_elim
    (λ (here : a ≡ k).
    ⊎_elim
    (λ (passes : p a ≡ true). let one : cond {A = ℕ} (p a) 1 0 ≡ 1 = ap (λ (b : Bool). cond {A = ℕ} b 1 0) passes in absurd (omega (arith, step, one, h)))
    (λ (fails : p a ≡ false). ap p (sym here) ∙ fails)
    (cases_Bool (p a)))
    (λ (there : a ≡ k → ⊥). none_passes p (a + 1) n (omega (arith, step, h)) k (let w : (k ≡ a → ⊥) = λ e. there (sym e) in grind (arith, w)) (omega (arith, high)))
    (cases_eq a k)

some_passes : (p : ℕ → Bool) (a n : ℕ) → 1 ≤ count_by p (range_with_len a n) → (k : ℕ) × (p k ≡ true)
some_passes p a zero h = absurd (omega (arith, h))
some_passes p a (suc n) h =
    let step = count_step p a n in
    ⊎_elim
    (λ (passes : p a ≡ true). (a, passes))
    (λ (fails : p a ≡ false). let none : cond {A = ℕ} (p a) 1 0 ≡ 0 = ap (λ (b : Bool). cond {A = ℕ} b 1 0) fails in some_passes p (a + 1) n (omega (arith, step, none, h)))
    (cases_Bool (p a))

not_both : (a b : Bool) → (a && not b) ≡ false → a ≡ true → b ≡ true
not_both true true h e = refl
not_both true false h e = absurd (cc h)
not_both false b h e = absurd (cc e)

-- where no feed is open, all have ended
pub all_ended : (rules : List (Option VoidRule)) (h : List Entry) → length rules ≡ MOST_FEEDS → open_count rules h ≡ 0 → HaveAllEnded rules h
unfolding open_count
all_ended rules h eight none = λ feed exists.
    ⊎_elim
    (λ (fits : feed < MOST_FEEDS).
    not_both (is_some (rule_of rules feed)) (has_ended h feed) (none_passes (is_open rules h) 0 MOST_FEEDS none feed (omega arith) (omega (arith, fits))) exists)
    (λ (past : MOST_FEEDS ≤ feed). absurd (no_rule rules feed (omega (arith, eight, past)) exists))
    (cases_lt feed MOST_FEEDS)

pub feed_fits : (rules : List (Option VoidRule)) (feed : ℕ) → length rules ≡ MOST_FEEDS → IsSome (rule_of rules feed) → feed < MOST_FEEDS
feed_fits rules feed eight exists =
    ⊎_elim (λ (fits : feed < MOST_FEEDS). fits) (λ (past : MOST_FEEDS ≤ feed). absurd (no_rule rules feed (omega (arith, eight, past)) exists)) (cases_lt feed MOST_FEEDS)

-- where some are counted, some feed is open
pub some_open : (rules : List (Option VoidRule)) (h : List Entry) → 1 ≤ open_count rules h → HasOpenFeed rules h
unfolding open_count
some_open rules h more =
    let it = some_passes (is_open rules h) 0 MOST_FEEDS more in
    let parts = and_parts (is_some (rule_of rules it.0)) (not (has_ended h it.0)) it.1 in
    (it.0, parts.0, not-true (has_ended h it.0) parts.1)
