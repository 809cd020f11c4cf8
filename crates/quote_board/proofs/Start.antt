-- A board without entries.
use Rattle.std.proofs.Common.{ℕ, ◌≡◌, ◌+◌, ◌-◌, ◌≤◌, ◌<◌, ⊎_elim, Bool, true, false, cond, List, [], ◌∷◌, length, refl, sym, ap, ◌∙◌, Some, None, arith, zero, suc, subst, replicate}
use Rattle.std.specs.Prelude.{Option, option_and_then, slice_get, slice_set, count_by, MatchOption, ◌&&◌, not, min}
use Rattle.std.specs.Option.{is_some}
use Rattle.std.specs.List.{range_with_len}
use Rattle.std.specs.BTreeMap as tree
use Rattle.std.specs.BTreeMap.{BTreeMap, btree_map_len}
use Rattle.std.specs.Ordering.{nat_cmp}
use Rattle.std.specs.Str.{bytes_eq}
use Rattle.std.proofs.lemmas.Bool.{cases_lt, cases_eq}
use Rattle.std.proofs.lemmas.Option.{slice_get_past}
use Rattle.indexmap.specs.IndexMap.{IndexMap, get as entry_of}
use Rattle.scan_types.specs.declared.limits.TheConstants.{MOST_FEEDS}
use Rattle.scan_types.specs.declared.rule.VoidRule.{VoidRule}
use Rattle.scan_types.specs.declared.offer.Offer.{Offer}
use Rattle.finding_definitions.specs.declared.finding.Finding.{Finding}
use Rattle.board_definitions.specs.Entries.{rule_of}
use Rattle.board_definitions.specs.Pins.{IsDue, IsDueSince, HasNoPin}
use Rattle.board_definitions.proofs.Counts.{count_step}
use Rattle.board_definitions.proofs.More.{nothing_is_legal, change_within}
use Rattle.quote_board.specs.declared.book.Book.{Book}
use Rattle.quote_board.specs.declared.held.Held.{Held}
use Rattle.quote_board.specs.Books.{offer_in, due_of, waits_for}
use Rattle.quote_board.specs.Kept.{IsSound, IsHeld, open_count, is_open}
use Rattle.quote_board.specs.Answers.{AreRulesOf}

pub no_rules : (n k : ℕ) → rule_of (replicate n None) k ≡ None
no_rules zero k = refl
no_rules (suc n) zero = refl
no_rules (suc n) (suc k) = no_rules n k

count_prefix : (p : ℕ → Bool) (len a n : ℕ) → ((k : ℕ) → k < len → p k ≡ true) → ((k : ℕ) → len ≤ k → p k ≡ false) →
    count_by p (range_with_len a n) ≡ min n (len - a)
count_prefix p len a zero yes_ no_ = omega arith
count_prefix p len a (suc n) yes_ no_ =
    let step = count_step p a n in
    let rest = count_prefix p len (a + 1) n yes_ no_ in
    ⊎_elim
    (λ (below : a < len). let one : cond {A = ℕ} (p a) 1 0 ≡ 1 = ap (λ (b : Bool). cond {A = ℕ} b 1 0) (yes_ a below) in omega (arith, step, rest, one, below))
    (λ (past : len ≤ a). let none : cond {A = ℕ} (p a) 1 0 ≡ 0 = ap (λ (b : Bool). cond {A = ℕ} b 1 0) (no_ a past) in omega (arith, step, rest, none, past))
    (cases_lt a len)

some_within : {X : Type 0} (xs : List X) (k : ℕ) → k < length xs → is_some (slice_get xs k) ≡ true
some_within [] k h = absurd (omega (arith, h))
some_within (x ∷ xs) zero h = refl
some_within (x ∷ xs) (suc k) h = some_within xs k (omega (arith, h))

-- all feeds are open at the start
start_count : (given : List VoidRule) (rules : List (Option VoidRule)) → AreRulesOf given rules → length given ≤ MOST_FEEDS → open_count rules [] ≡ length given
unfolding open_count
start_count given rules are few =
    let count : open_count rules [] ≡ min MOST_FEEDS (length given - 0) = count_prefix (is_open rules []) (length given) 0 MOST_FEEDS
    (λ k within. ap (λ (o : Option VoidRule). is_some o && not false) (are k) ∙ ap (λ (b : Bool). b && not false) (some_within given k within))
    (λ k past. ap (λ (o : Option VoidRule). is_some o && not false) (are k ∙ slice_get_past given k past)) in
    omega (arith, count, few)

pub sound_start : {S : Type 0} (allows : List Offer → Finding → Type 0) (given : List VoidRule) (rules : List (Option VoidRule)) (capacity : ℕ)
    (books : IndexMap (List ℕ) Book S) (waiting : BTreeMap ℕ (List ℕ)) (pins : BTreeMap ℕ Held) →
    AreRulesOf given rules → length given ≤ MOST_FEEDS → length rules ≡ MOST_FEEDS → length given ≤ capacity →
    ((m : List ℕ) → entry_of bytes_eq books m ≡ None) → ((place : ℕ) → waits_for waiting place ≡ None) → ((c : ℕ) → tree.get nat_cmp pins c ≡ None) → btree_map_len pins ≡ 0 →
    IsSound allows rules [] capacity books waiting pins (length given)
sound_start allows given rules capacity books waiting pins are few eight room no_books no_waits no_pins short =
    record {
      legal = nothing_is_legal rules allows;
      agrees = record {
        offers = λ m f n. ap (λ (o : Option Book). option_and_then (λ book. offer_in book f n) o) (no_books m);
        due = λ m. let P : Option ℕ → Type 0 = λ o. MatchOption o (IsDue [] m → ⊥) (IsDueSince [] m) in
            subst P (sym (ap (λ (o : Option Book). option_and_then (λ book. book.due) o) (no_books m)))
            (λ due. let within = change_within [] m due.0 due.1 in omega (arith, within));
        waits = λ place. let P : Option (List ℕ) → Type 0 = λ there. MatchOption there ((m : List ℕ) → due_of books m ≡ Some place → ⊥) (λ m. due_of books m ≡ Some place) in
            subst P (sym (no_waits place)) (λ m due. let none : None ≡ Some place = sym (ap (λ (o : Option Book). option_and_then (λ book. book.due) o) (no_books m)) ∙ due in absurd (cc none));
        pins_are = λ c. let P : Option Held → Type 0 = λ o. MatchOption o (HasNoPin [] c) (IsHeld rules [] c) in
            subst P (sym (no_pins c)) (λ pin _ live. let none = live.pinned in absurd (cc none));
      };
      eight = eight;
      open_is = sym (start_count given rules are few);
      room = omega (arith, room, short);
    }

-- one more rule in its place
rule_set : (slots : List (Option VoidRule)) (i : ℕ) (r : VoidRule) (k : ℕ) → i < length slots →
    ((k ≡ i) → rule_of (slice_set slots i (Some r)) k ≡ Some r) × ((k ≡ i → ⊥) → rule_of (slice_set slots i (Some r)) k ≡ rule_of slots k)
rule_set [] i r k h = absurd (omega (arith, h))
rule_set (s ∷ slots) zero r zero h = (λ e. refl, λ ne. absurd (ne refl))
rule_set (s ∷ slots) zero r (suc k) h = (λ e. absurd (omega (arith, e)), λ ne. refl)
rule_set (s ∷ slots) (suc i) r zero h = (λ e. absurd (omega (arith, e)), λ ne. refl)
rule_set (s ∷ slots) (suc i) r (suc k) h = let rest = rule_set slots i r k (omega (arith, h)) in (λ e. rest.0 (omega (arith, e)), λ ne. rest.1 (λ e. ne (omega (arith, e))))

-- the rules that were set so far
pub record AreSet (given : List VoidRule) (slots : List (Option VoidRule)) (n : ℕ) : Type 0 where
  pub long : length slots ≡ MOST_FEEDS
  pub before : (k : ℕ) → k < n → rule_of slots k ≡ slice_get given k
  pub after : (k : ℕ) → n ≤ k → rule_of slots k ≡ None

pub set_more : (given : List VoidRule) (slots : List (Option VoidRule)) (n : ℕ) (r : VoidRule) → n < MOST_FEEDS → slice_get given n ≡ Some r → length (slice_set slots n (Some r)) ≡ MOST_FEEDS →
    AreSet given slots n → AreSet given (slice_set slots n (Some r)) (n + 1)
set_more given slots n r fits at long was =
    let within : n < length slots = let l = was.long in omega (arith, l, fits) in
    record {
      long = long;
      before = λ k below.
          ⊎_elim
          (λ (here : k ≡ n). (rule_set slots n r k within).0 here ∙ sym at ∙ ap (slice_get given) (sym here))
          (λ (there : k ≡ n → ⊥). (rule_set slots n r k within).1 there ∙ was.before k (grind (arith, there, below)))
          (cases_eq k n);
      after = λ k past. (rule_set slots n r k within).1 (λ e. omega (arith, e, past)) ∙ was.after k (omega (arith, past));
    }

pub all_set : (given : List VoidRule) (slots : List (Option VoidRule)) → AreSet given slots (length given) → AreRulesOf given slots
all_set given slots set = λ k. ⊎_elim (λ (below : k < length given). set.before k below) (λ (past : length given ≤ k). set.after k past ∙ sym (slice_get_past given k past)) (cases_lt k (length given))
