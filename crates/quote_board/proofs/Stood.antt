-- In a legal history, what stands has its offer.
use Rattle.std.proofs.Common.{ℕ, ◌≡◌, ◌≤◌, ◌<◌, inl, inr, ⊎_elim, Bool, true, false, cond, List, length, take, refl, sym, ap, ◌∙◌, Some, None, arith, subst, zero, suc}
use Rattle.std.specs.Prelude.{◌⊎◌, Option, IsSome, option_and_then}
use Rattle.std.specs.Option.{is_some}
use Rattle.std.proofs.lemmas.List.{take_all}
use Rattle.std.proofs.lemmas.Bool.{cases_Bool, cases_lt}
use Rattle.scan_types.specs.declared.limits.TheConstants.{MOST_FEEDS, MOST_LIMIT}
use Rattle.scan_types.specs.declared.rule.VoidRule.{VoidRule}
use Rattle.scan_types.specs.declared.odds.Odds.{Odds}
use Rattle.scan_types.specs.declared.selection.Selection.{Selection}
use Rattle.scan_types.specs.declared.offer.Offer.{Offer}
use Rattle.finding_definitions.specs.declared.finding.Finding.{Finding}
use Rattle.board_definitions.specs.declared.event.Event.{Event}
use Rattle.board_definitions.specs.declared.event.Event.TheVariants.{Quoted, Withdrawn, Ended, Pinned, Filed, Released}
use Rattle.board_definitions.specs.declared.event.Entry.{Entry}
use Rattle.board_definitions.specs.Entries.{is_about, is_quote, rule_of}
use Rattle.board_definitions.specs.Sheets.{stands, standing, offer_with, offer_within, offer_of}
use Rattle.board_definitions.specs.Legal.{IsLegal, MayFollow}
use Rattle.board_definitions.proofs.Changes.{stands-push, standing-push}
use Rattle.board_definitions.proofs.Live.{take_next}
use Rattle.quote_board.proofs.Feeds.{feed_fits}

within_some : (feed : ℕ) (selection : Selection) (odds : Odds) (limit : ℕ) (rule : VoidRule)
    (a : (feed < MOST_FEEDS) ⊎ (MOST_FEEDS ≤ feed)) (b : (limit < 1) ⊎ (1 ≤ limit)) (c : (MOST_LIMIT < limit) ⊎ (limit ≤ MOST_LIMIT)) →
    feed < MOST_FEEDS → 1 ≤ limit → limit ≤ MOST_LIMIT → is_some (offer_within feed selection odds limit rule a b c) ≡ true
within_some feed selection odds limit rule (inl a) (inr b) (inr c) p q r = refl
within_some feed selection odds limit rule (inr a) b c p q r = absurd (omega (arith, a, p))
within_some feed selection odds limit rule (inl a) (inl b) c p q r = absurd (omega (arith, b, q))
within_some feed selection odds limit rule (inl a) (inr b) (inl c) p q r = absurd (omega (arith, c, r))

with_some : (feed : ℕ) (selection : Selection) (odds : Odds) (limit : ℕ) (rule : VoidRule) → feed < MOST_FEEDS → 1 ≤ limit → limit ≤ MOST_LIMIT →
    is_some (offer_with feed selection odds limit rule) ≡ true
unfolding offer_with
with_some feed selection odds limit rule p q r = within_some feed selection odds limit rule (cases_lt feed MOST_FEEDS) (cases_lt limit 1) (cases_lt MOST_LIMIT limit) p q r

then_some : (rules : List (Option VoidRule)) (feed : ℕ) (selection : Selection) (odds : Odds) (limit : ℕ) (rule : Option VoidRule) → IsSome rule → feed < MOST_FEEDS → 1 ≤ limit → limit ≤ MOST_LIMIT →
    is_some (option_and_then (offer_with feed selection odds limit) rule) ≡ true
then_some rules feed selection odds limit None h p q r = absurd (cc h)
then_some rules feed selection odds limit (Some rule) h p q r = with_some feed selection odds limit rule p q r

quote_makes : (rules : List (Option VoidRule)) (allows : List Offer → Finding → Type 0) (before : List Entry) (caller : ℕ) (event : Event) → length rules ≡ MOST_FEEDS →
    MayFollow rules allows before (record { caller = caller; event = event }) → is_quote event ≡ true → is_some (offer_of rules event) ≡ true
quote_makes rules allows before caller (Quoted key odds limit line) eight may quote =
    then_some rules key.feed key.selection odds limit (rule_of rules key.feed) may.feed.exists (feed_fits rules key.feed eight may.feed.exists) may.in_range.0 may.in_range.1
quote_makes rules allows before caller (Withdrawn key line) eight may quote = absurd (cc quote)
quote_makes rules allows before caller (Ended feed stop) eight may quote = absurd (cc quote)
quote_makes rules allows before caller (Pinned pinned) eight may quote = absurd (cc quote)
quote_makes rules allows before caller (Filed version finding) eight may quote = absurd (cc quote)
quote_makes rules allows before caller (Released version) eight may quote = absurd (cc quote)

stood_upto : (rules : List (Option VoidRule)) (allows : List Offer → Finding → Type 0) (h : List Entry) (m : List ℕ) (f k : ℕ) → length rules ≡ MOST_FEEDS →
    IsLegal rules allows h → (n : ℕ) → n ≤ length h → stands (take n h) m f k ≡ true → is_some (standing rules (take n h) m f k) ≡ true
unfolding IsLegal
stood_upto rules allows h m f k eight legal zero within now = absurd (cc now)
stood_upto rules allows h m f k eight legal (suc n) within now =
    let next = take_next h n (omega (arith, within)) in
    let e = next.0 in
    let was = stood_upto rules allows h m f k eight legal n (omega (arith, within)) in
    let P : List Entry → Type 0 = λ xs. stands xs m f k ≡ true → is_some (standing rules xs m f k) ≡ true in
    subst P (sym next.2) (λ here.
    ⊎_elim
    (λ (about : is_about m f k e.event ≡ true).
    let quote : is_quote e.event ≡ true = ap (λ (b : Bool). cond b (is_quote e.event) (stands (take n h) m f k)) (sym about) ∙ sym (stands-push (take n h) e m f k) ∙ here in
    ap (λ (o : Option Offer). is_some o) (standing-push rules (take n h) e m f k ∙ ap (λ (b : Bool). cond b (offer_of rules e.event) (standing rules (take n h) m f k)) about)
    ∙ quote_makes rules allows (take n h) e.caller e.event eight (legal n e next.1) quote)
    (λ (other : is_about m f k e.event ≡ false).
    let before : stands (take n h) m f k ≡ true = ap (λ (b : Bool). cond b (is_quote e.event) (stands (take n h) m f k)) (sym other) ∙ sym (stands-push (take n h) e m f k) ∙ here in
    ap (λ (o : Option Offer). is_some o) (standing-push rules (take n h) e m f k ∙ ap (λ (b : Bool). cond b (offer_of rules e.event) (standing rules (take n h) m f k)) other)
    ∙ was before)
    (cases_Bool (is_about m f k e.event))) now

-- in a legal history, a selection that stands has an offer
pub stood : (rules : List (Option VoidRule)) (allows : List Offer → Finding → Type 0) (h : List Entry) (m : List ℕ) (f k : ℕ) → length rules ≡ MOST_FEEDS →
    IsLegal rules allows h → stands h m f k ≡ true → is_some (standing rules h m f k) ≡ true
stood rules allows h m f k eight legal =
    let P : List Entry → Type 0 = λ xs. stands xs m f k ≡ true → is_some (standing rules xs m f k) ≡ true in
    subst P (take_all (length h) h (omega arith)) (stood_upto rules allows h m f k eight legal (length h) (omega arith))
