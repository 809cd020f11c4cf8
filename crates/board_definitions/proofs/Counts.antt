-- How many selections of a feed stand at a match, in a legal history.
use Rattle.std.proofs.Common.{ℕ, ◌≡◌, ◌+◌, ◌≤◌, ◌<◌, ⊎_elim, Bool, true, false, cond, List, [], ◌∷◌, ◌++◌, length, take, refl, sym, ap, ◌∙◌, arith, subst, zero, suc}
use Rattle.std.specs.Prelude.{count_by, ◌&&◌, ◌==◌, IsTrue, Option}
use Rattle.std.specs.List.{range_with_len}
use Rattle.std.specs.Str.{bytes_eq}
use Rattle.std.proofs.lemmas.Bool.{cases_eq, cases_lt, cases_Bool, and_parts, and_from, both_ways}
use Rattle.std.proofs.lemmas.Bool.Decides.{Decides-eqb}
use Rattle.std.proofs.lemmas.Slice.Eq.{bytes_eq-Decides}
use Rattle.scan_types.specs.declared.limits.TheConstants.{MOST_STANDING}
use Rattle.scan_types.specs.declared.rule.VoidRule.{VoidRule}
use Rattle.scan_types.specs.declared.offer.Offer.{Offer}
use Rattle.finding_definitions.specs.declared.finding.Finding.{Finding}
use Rattle.board_definitions.specs.declared.event.Event.{Event}
use Rattle.board_definitions.specs.declared.event.Event.TheVariants.{Quoted, Withdrawn, Ended, Pinned, Filed, Released}
use Rattle.board_definitions.specs.declared.event.Entry.{Entry}
use Rattle.board_definitions.specs.declared.key.TheConstants.{SELECTIONS}
use Rattle.scan_types.specs.declared.odds.Odds.{Odds}
use Rattle.scan_types.specs.Selections.{selection_number}
use Rattle.board_definitions.specs.declared.key.Key.{Key}
use Rattle.board_definitions.specs.Entries.{is_about, is_quote, is_key}
use Rattle.board_definitions.specs.Sheets.{stands, standing_count}
use Rattle.board_definitions.specs.Legal.{IsLegal, MayFollow}
use Rattle.std.proofs.lemmas.List.{take_all}
use Rattle.std.proofs.lemmas.List.Sums.{sum_by-cons}
use Rattle.board_definitions.proofs.Keys.{is_key_parts}
use Rattle.board_definitions.proofs.Changes.{stands-push}
use Rattle.board_definitions.proofs.Live.{take_next}

-- a test that passes only where another does counts no more
weigh_le : (b c : Bool) → (b ≡ true → c ≡ true) → cond b 1 0 ≤ cond c 1 0
weigh_le true true h = omega arith
weigh_le true false h = absurd (cc (h refl))
weigh_le false c h = omega arith

weigh_le_one : (b : Bool) → cond b 1 0 ≤ 1
weigh_le_one true = omega arith
weigh_le_one false = omega arith

pub count_step : (p : ℕ → Bool) (a n : ℕ) → count_by p (range_with_len a (suc n)) ≡ cond (p a) 1 0 + count_by p (range_with_len (a + 1) n)
count_step p a n = sum_by-cons (λ (x : ℕ). cond (p x) 1 0) a (range_with_len (a + 1) n)

-- where one test passes, so does the other
pub count_le : (p q : ℕ → Bool) (a n : ℕ) → ((k : ℕ) → a ≤ k → p k ≡ true → q k ≡ true) → count_by p (range_with_len a n) ≤ count_by q (range_with_len a n)
count_le p q a zero h = omega arith
count_le p q a (suc n) h =
    let rest : count_by p (range_with_len (a + 1) n) ≤ count_by q (range_with_len (a + 1) n) = count_le p q (a + 1) n (λ k l. h k (omega (arith, l))) in
    omega (arith, rest, count_step p a n, count_step q a n, weigh_le (p a) (q a) (h a (omega arith)))

-- the same but at one number
pub count_le_but : (p q : ℕ → Bool) (j a n : ℕ) → ((k : ℕ) → (k ≡ j → ⊥) → p k ≡ true → q k ≡ true) → count_by p (range_with_len a n) ≤ count_by q (range_with_len a n) + 1
count_le_but p q j a zero h = omega arith
count_le_but p q j a (suc n) h =
    ⊎_elim
    (λ (same : a ≡ j).
    let rest : count_by p (range_with_len (a + 1) n) ≤ count_by q (range_with_len (a + 1) n) =
    count_le p q (a + 1) n (λ k l. h k (λ e. omega (arith, l, e, same))) in
    omega (arith, rest, count_step p a n, count_step q a n, weigh_le_one (p a)))
    (λ (other : a ≡ j → ⊥).
    let rest : count_by p (range_with_len (a + 1) n) ≤ count_by q (range_with_len (a + 1) n) + 1 = count_le_but p q j (a + 1) n h in
    omega (arith, rest, count_step p a n, count_step q a n, weigh_le (p a) (q a) (h a other)))
    (cases_eq a j)

-- a selection that stands after an entry that does not quote it stood before
stood_before : (entries : List Entry) (e : Entry) (m : List ℕ) (f k : ℕ) → (is_about m f k e.event ≡ true → is_quote e.event ≡ false) →
    stands (entries ++ e ∷ []) m f k ≡ true → stands entries m f k ≡ true
stood_before entries e m f k h now =
    ⊎_elim
    (λ (about : is_about m f k e.event ≡ true). absurd (both_ways _ (h about) (ap (λ (b : Bool). cond b (is_quote e.event) (stands entries m f k)) (sym about) ∙ sym (stands-push entries e m f k) ∙ now)))
    (λ (not_about : is_about m f k e.event ≡ false). ap (λ (b : Bool). cond b (is_quote e.event) (stands entries m f k)) (sym not_about) ∙ sym (stands-push entries e m f k) ∙ now)
    (cases_Bool (is_about m f k e.event))

-- what one more entry may do to the count of a feed's selections at a match
grows : (entries : List Entry) (e : Entry) (m : List ℕ) (f : ℕ) → (j : ℕ) → ((k : ℕ) → (k ≡ j → ⊥) → is_about m f k e.event ≡ true → is_quote e.event ≡ false) →
    standing_count (entries ++ e ∷ []) m f ≤ standing_count entries m f + 1
unfolding standing_count
grows entries e m f j h = count_le_but (stands (entries ++ e ∷ []) m f) (stands entries m f) j 0 SELECTIONS
    (λ k other now. stood_before entries e m f k (h k other) now)

stays : (entries : List Entry) (e : Entry) (m : List ℕ) (f : ℕ) → ((k : ℕ) → stands (entries ++ e ∷ []) m f k ≡ true → stands entries m f k ≡ true) →
    standing_count (entries ++ e ∷ []) m f ≤ standing_count entries m f
unfolding standing_count
stays entries e m f h = count_le (stands (entries ++ e ∷ []) m f) (stands entries m f) 0 SELECTIONS (λ k _. h k)

-- a key that stood stands
still_stood : (before : List Entry) (key : Key) (caller : ℕ) (odds : Odds) (limit line : ℕ) (m : List ℕ) (f k : ℕ) →
    IsTrue (stands before key.match_name key.feed (selection_number key.selection)) →
    stands (before ++ record { caller = caller; event = Quoted key odds limit line } ∷ []) m f k ≡ true → stands before m f k ≡ true
still_stood before key caller odds limit line m f k stood now =
    ⊎_elim
    (λ (here : is_key m f k key ≡ true).
    let parts = is_key_parts m f k key here in
    ap (λ (n : ℕ). stands before m f n) (sym parts.2) ∙ ap (λ (n : ℕ). stands before m n (selection_number key.selection)) (sym parts.1)
    ∙ ap (λ (name : List ℕ). stands before name key.feed (selection_number key.selection)) (sym parts.0) ∙ stood)
    (λ (elsewhere : is_key m f k key ≡ false).
    stood_before before (record { caller = caller; event = Quoted key odds limit line }) m f k (λ here. absurd (both_ways _ elsewhere here)) now)
    (cases_Bool (is_key m f k key))

-- a legal entry leaves at most 32
one_more : (rules : List (Option VoidRule)) (allows : List Offer → Finding → Type 0) (before : List Entry) (caller : ℕ) (event : Event) (m : List ℕ) (f : ℕ) →
    MayFollow rules allows before (record { caller = caller; event = event }) → standing_count before m f ≤ MOST_STANDING →
    standing_count (before ++ record { caller = caller; event = event } ∷ []) m f ≤ MOST_STANDING
one_more rules allows before caller (Quoted key odds limit line) m f may few =
    let e : Entry = record { caller = caller; event = Quoted key odds limit line } in
    ⊎_elim
    (λ (stood : IsTrue (stands before key.match_name key.feed (selection_number key.selection))).
    let kept : standing_count (before ++ e ∷ []) m f ≤ standing_count before m f = stays before e m f (λ k now. still_stood before key caller odds limit line m f k stood now) in
    omega (arith, kept, few))
    (λ (room : standing_count before key.match_name key.feed < MOST_STANDING).
    ⊎_elim
    (λ (about : (bytes_eq key.match_name m && key.feed == f) ≡ true).
    let same = and_parts _ _ about in
    let names : key.match_name ≡ m = (bytes_eq-Decides key.match_name m).0 same.0 in
    let feeds : key.feed ≡ f = (Decides-eqb key.feed f).0 same.1 in
    let fewer : standing_count before m f < MOST_STANDING =
    let P : List ℕ → Type 0 = λ name. standing_count before name f < MOST_STANDING in
    let Q : ℕ → Type 0 = λ feed. standing_count before key.match_name feed < MOST_STANDING in
    subst P names (subst Q feeds room) in
    let more : standing_count (before ++ e ∷ []) m f ≤ standing_count before m f + 1 =
    grows before e m f (selection_number key.selection) (λ k other here. absurd (other (sym (is_key_parts m f k key here).2))) in
    omega (arith, more, fewer))
    (λ (elsewhere : (bytes_eq key.match_name m && key.feed == f) ≡ false).
    let kept : standing_count (before ++ e ∷ []) m f ≤ standing_count before m f =
    stays before e m f (λ k now. stood_before before e m f k
    (λ here. let parts = is_key_parts m f k key here in
    absurd (both_ways _ elsewhere (and_from _ _ ((bytes_eq-Decides key.match_name m).1 parts.0) ((Decides-eqb key.feed f).1 parts.1)))) now) in
    omega (arith, kept, few))
    (cases_Bool (bytes_eq key.match_name m && key.feed == f)))
    may.room
one_more rules allows before caller (Withdrawn key line) m f may few =
    let e : Entry = record { caller = caller; event = Withdrawn key line } in
    let kept : standing_count (before ++ e ∷ []) m f ≤ standing_count before m f = stays before e m f (λ k now. stood_before before e m f k (λ _. refl) now) in
    omega (arith, kept, few)
one_more rules allows before caller (Ended feed stop) m f may few =
    let e : Entry = record { caller = caller; event = Ended feed stop } in
    let kept : standing_count (before ++ e ∷ []) m f ≤ standing_count before m f = stays before e m f (λ k now. stood_before before e m f k (λ _. refl) now) in
    omega (arith, kept, few)
one_more rules allows before caller (Pinned pinned) m f may few =
    let e : Entry = record { caller = caller; event = Pinned pinned } in
    let kept : standing_count (before ++ e ∷ []) m f ≤ standing_count before m f = stays before e m f (λ k now. stood_before before e m f k (λ _. refl) now) in
    omega (arith, kept, few)
one_more rules allows before caller (Filed version finding) m f may few =
    let e : Entry = record { caller = caller; event = Filed version finding } in
    let kept : standing_count (before ++ e ∷ []) m f ≤ standing_count before m f = stays before e m f (λ k now. stood_before before e m f k (λ _. refl) now) in
    omega (arith, kept, few)
one_more rules allows before caller (Released version) m f may few =
    let e : Entry = record { caller = caller; event = Released version } in
    let kept : standing_count (before ++ e ∷ []) m f ≤ standing_count before m f = stays before e m f (λ k now. stood_before before e m f k (λ _. refl) now) in
    omega (arith, kept, few)

count_none : (p : ℕ → Bool) (a n : ℕ) → ((k : ℕ) → p k ≡ false) → count_by p (range_with_len a n) ≡ 0
count_none p a zero h = refl
count_none p a (suc n) h = count_step p a n ∙ ap (λ (b : Bool). cond b 1 0 + count_by p (range_with_len (a + 1) n)) (h a) ∙ omega (arith, count_none p (a + 1) n h)

none_yet : (m : List ℕ) (f : ℕ) → standing_count [] m f ≡ 0
unfolding standing_count
none_yet m f = count_none (stands [] m f) 0 SELECTIONS (λ k. refl)

few_upto : (rules : List (Option VoidRule)) (allows : List Offer → Finding → Type 0) (history : List Entry) (m : List ℕ) (f : ℕ) →
    IsLegal rules allows history → (n : ℕ) → n ≤ length history → standing_count (take n history) m f ≤ MOST_STANDING
unfolding IsLegal
few_upto rules allows history m f legal zero within = let none = none_yet m f in omega (arith, none)
few_upto rules allows history m f legal (suc n) within =
    let next = take_next history n (omega (arith, within)) in
    let e = next.0 in
    let before : standing_count (take n history) m f ≤ MOST_STANDING = few_upto rules allows history m f legal n (omega (arith, within)) in
    let P : List Entry → Type 0 = λ xs. standing_count xs m f ≤ MOST_STANDING in
    subst P (sym next.2) (one_more rules allows (take n history) e.caller e.event m f (legal n e next.1) before)

-- in a legal history at most 32 selections of a feed stand at a match, at each moment
pub few_stand : (rules : List (Option VoidRule)) (allows : List Offer → Finding → Type 0) (history : List Entry) (m : List ℕ) (f : ℕ) →
    IsLegal rules allows history → (n : ℕ) → standing_count (take n history) m f ≤ MOST_STANDING
few_stand rules allows history m f legal n =
    ⊎_elim
    (λ (within : n < length history). few_upto rules allows history m f legal n (omega (arith, within)))
    (λ (past : length history ≤ n).
    let P : List Entry → Type 0 = λ xs. standing_count xs m f ≤ MOST_STANDING in
    subst P (take_all (length history) history (omega arith) ∙ sym (take_all n history past)) (few_upto rules allows history m f legal (length history) (omega arith)))
    (cases_lt n (length history))
