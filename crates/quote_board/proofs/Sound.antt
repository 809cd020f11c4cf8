-- What is kept still agrees with the history after one more entry.
use Rattle.std.proofs.Common.{ℕ, ◌≡◌, ◌+◌, ◌≤◌, ◌<◌, take, Bool, true, false, cond, List, [], ◌∷◌, ◌++◌, length, refl, sym, ap, ◌∙◌, Some, None, subst, ⊎_elim, arith, length-append}
use Rattle.std.specs.Prelude.{◌≢◌, Option, MatchOption, ◌==◌, ◌&&◌, option_and_then}
use Rattle.std.specs.Option.{option_or, is_none, is_some, option_map_or}
use Rattle.std.specs.BTreeMap.{BTreeMap, get, btree_map_len, is_at}
use Rattle.std.specs.Ordering.{nat_cmp}
use Rattle.std.specs.Str.{bytes_eq}
use Rattle.std.proofs.lemmas.Bool.{cases_Bool, cases_lt, both_ways}
use Rattle.std.proofs.Math.Seq.{take-append_seam}
use Rattle.scan_types.specs.declared.limits.TheConstants.{MOST_FEEDS}
use Rattle.board_definitions.specs.declared.event.FeedStop.{FeedStop}
use Rattle.board_definitions.specs.declared.event.FeedStop.TheVariants.{BadHeader}
use Rattle.std.proofs.lemmas.Bool.Decides.{Decides-eqb}
use Rattle.indexmap.specs.IndexMap.{IndexMap}
use Rattle.scan_types.specs.declared.rule.VoidRule.{VoidRule}
use Rattle.scan_types.specs.declared.offer.Offer.{Offer}
use Rattle.finding_definitions.specs.declared.finding.Finding.{Finding}
use Rattle.board_definitions.specs.declared.event.Event.TheVariants.{Quoted, Withdrawn, Ended, Pinned, Filed, Released}
use Rattle.board_definitions.specs.declared.event.Entry.{Entry}
use Rattle.board_definitions.specs.declared.pin.Pin.{Pin}
use Rattle.board_definitions.specs.Entries.{is_about, changes, pins, closes, ends}
use Rattle.board_definitions.specs.Sheets.{standing, offer_of as offer_made, sheet}
use Rattle.board_definitions.specs.Pins.{IsLive, HasNoPin, IsDueSince, IsDue, IsLongestDue}
use Rattle.board_definitions.specs.Legal.{MayFollow, IsOpenFeed}
use Rattle.board_definitions.proofs.Changes.{standing-push}
use Rattle.std.proofs.lemmas.Slice.Eq.{bytes_eq-Decides}
use Rattle.scan_types.specs.Selections.{selection_number}
use Rattle.scan_types.specs.declared.odds.Odds.{Odds}
use Rattle.board_definitions.specs.declared.key.Key.{Key}
use Rattle.board_definitions.specs.Entries.{is_key, rule_of}
use Rattle.board_definitions.specs.Sheets.{offer_with, standing_sheet}
use Rattle.quote_board.specs.declared.book.Slot.{Slot}
use Rattle.board_definitions.proofs.More.{legal_more, change_within, waits_changed, waits_pinned, waits_kept, due_apart, WaitsSince}
use Rattle.quote_board.specs.declared.book.Book.{Book}
use Rattle.quote_board.specs.declared.held.Held.{Held}
use Rattle.quote_board.specs.Books.{offer_of, due_of, waits_for, IsFirstWaiting}
use Rattle.quote_board.specs.Answers.{NoneIsDue}
use Rattle.quote_board.specs.Kept.{IsHeld, Agrees, IsSound, open_count}
use Rattle.quote_board.proofs.Waits.{waits_changed_at, waits_pinned_at}
use Rattle.quote_board.proofs.Holds.{IsNoPinOf, HoldsAt, holds_stay, held_new, none_after, versions_apart, at_caller}
use Rattle.quote_board.proofs.Feeds.{open_kept, open_less, feed_fits}

-- the entry neither pins a match nor closes a pin
pub record IsQuiet (e : Entry) : Type 0 where
  pub pins_none : (m : List ℕ) → pins m e.event ≡ false
  pub closes_none : (v : ℕ) → closes v e.event ≡ false
  pub no_pin : (caller : ℕ) → IsNoPinOf caller e

closed_now : (rules : List (Option VoidRule)) (h : List Entry) (e : Entry) (pin : Pin) (there : Option Held) → IsLive h pin → IsNoPinOf pin.caller e → ((v : ℕ) → closes v e.event ≡ (pin.version == v)) →
    HoldsAt rules h pin.caller there → HasNoPin (h ++ e ∷ []) pin.caller
closed_now rules h e pin None live quiet closing was = absurd (was pin refl live)
closed_now rules h e pin (Some x) live quiet closing was =
    none_after rules h e pin.caller x quiet (closing x.version ∙ (Decides-eqb pin.version x.version).1 (was.only pin refl live)) was

module _ {S : Type 0} (rules : List (Option VoidRule)) (h : List Entry) where
  -- after an entry that quotes or withdraws an offer on a match
  pub agrees_changed : (e : Entry) (name : List ℕ) (books books' : IndexMap (List ℕ) Book S) (waiting waiting' : BTreeMap ℕ (List ℕ)) (held : BTreeMap ℕ Held) →
      IsQuiet e → ((m : List ℕ) → changes m e.event ≡ bytes_eq name m) →
      ((m : List ℕ) (f n : ℕ) → offer_of books' m f n ≡ cond (is_about m f n e.event) (offer_made rules e.event) (offer_of books m f n)) →
      ((m : List ℕ) → due_of books' m ≡ cond (bytes_eq name m) (option_or (due_of books m) (Some (length h))) (due_of books m)) →
      ((at : ℕ) → waits_for waiting' at ≡ cond (is_none (due_of books name) && at == length h) (Some name) (waits_for waiting at)) →
      Agrees rules h books waiting held → Agrees rules (h ++ e ∷ []) books' waiting' held
  agrees_changed e name books books' waiting waiting' held quiet change offers_new due_new waits_new was =
      record {
        offers = λ m f n. offers_new m f n ∙ ap (λ (o : Option Offer). cond (is_about m f n e.event) (offer_made rules e.event) o) (was.offers m f n) ∙ sym (standing-push rules h e m f n);
        due = λ m. let P : Option ℕ → Type 0 = λ o. WaitsSince (h ++ e ∷ []) m o in
            subst P (sym (due_new m)) (waits_changed h e m (bytes_eq name m) (due_of books m) (change m) (quiet.pins_none m) (was.due m));
        waits = waits_changed_at (due_of books) (due_of books') (waits_for waiting) (waits_for waiting') name (length h) due_new waits_new was.waits;
        pins_are = λ caller. holds_stay rules h e caller (get nat_cmp held caller) (quiet.no_pin caller) (λ x _. quiet.closes_none x.version) (was.pins_are caller);
      }

  -- two matches are not due since one entry
  due_once : (books : IndexMap (List ℕ) Book S) → ((m : List ℕ) → MatchOption (due_of books m) (IsDue h m → ⊥) (IsDueSince h m)) →
      (a b : List ℕ) (place : ℕ) → due_of books a ≡ Some place → due_of books b ≡ Some place → a ≡ b
  due_once books due a b place p q =
      let P : List ℕ → Option ℕ → Type 0 = λ m o. MatchOption o (IsDue h m → ⊥) (IsDueSince h m) in
      due_apart h a b place (subst (P a) p (due a)) (subst (P b) q (due b))

  -- after a pin
  pub agrees_pinned : (caller : ℕ) (x : Held) (books books' : IndexMap (List ℕ) Book S) (waiting waiting' : BTreeMap ℕ (List ℕ)) (held held' : BTreeMap ℕ Held) →
      HasNoPin h caller → x.version ≡ length h →
      x.offers.items ≡ sheet rules (h ++ record { caller = caller; event = Pinned x.match_name } ∷ []) x.version x.match_name →
      ((m : List ℕ) (f n : ℕ) → offer_of books' m f n ≡ offer_of books m f n) →
      ((m : List ℕ) → due_of books' m ≡ cond (bytes_eq x.match_name m) None (due_of books m)) →
      ((at : ℕ) → waits_for waiting' at ≡ cond (option_map_or (λ place. place == at) (due_of books x.match_name) false) None (waits_for waiting at)) →
      ((q : ℕ) → get nat_cmp held' q ≡ cond (is_at (nat_cmp caller) q) (Some x) (get nat_cmp held q)) →
      Agrees rules h books waiting held → Agrees rules (h ++ record { caller = caller; event = Pinned x.match_name } ∷ []) books' waiting' held'
  agrees_pinned caller x books books' waiting waiting' held held' none version is offers_new due_new waits_new held_is was =
      let e : Entry = record { caller = caller; event = Pinned x.match_name } in
      record {
        offers = λ m f n. offers_new m f n ∙ was.offers m f n ∙ sym (standing-push rules h e m f n);
        due = λ m. let P : Option ℕ → Type 0 = λ o. WaitsSince (h ++ e ∷ []) m o in
            subst P (sym (due_new m)) (waits_pinned h e m (bytes_eq x.match_name m) (due_of books m) refl refl (was.due m));
        waits = waits_pinned_at (due_of books) (due_of books') (waits_for waiting) (waits_for waiting') x.match_name due_new waits_new (due_once books was.due) was.waits;
        pins_are = λ q. let P : Option Held → Type 0 = λ o. HoldsAt rules (h ++ e ∷ []) q o in
            ⊎_elim
            (λ (here : (caller == q) ≡ true).
            let same : caller ≡ q = (Decides-eqb caller q).0 here in
            let there : get nat_cmp held' q ≡ Some x = held_is q ∙ ap (λ (b : Bool). cond b (Some x) (get nat_cmp held q)) (at_caller caller q ∙ here) in
            let Q : ℕ → Type 0 = λ c. IsHeld rules (h ++ e ∷ []) c x in
            subst P (sym there) (subst Q same (held_new rules h caller x none version is)))
            (λ (apart : (caller == q) ≡ false).
            let there : get nat_cmp held' q ≡ get nat_cmp held q = held_is q ∙ ap (λ (b : Bool). cond b (Some x) (get nat_cmp held q)) (at_caller caller q ∙ apart) in
            let quiet : IsNoPinOf q e = λ m same. both_ways _ apart ((Decides-eqb caller q).1 (ap (λ (y : Entry). y.caller) same)) in
            subst P (sym there) (holds_stay rules h e q (get nat_cmp held q) quiet (λ y _. refl) (was.pins_are q)))
            (cases_Bool (caller == q));
      }

  -- after an entry by which a caller closes its pin
  pub agrees_closed : (e : Entry) (pin : Pin) (books : IndexMap (List ℕ) Book S) (waiting : BTreeMap ℕ (List ℕ)) (held held' : BTreeMap ℕ Held) →
      IsLive h pin → ((m : List ℕ) → changes m e.event ≡ false) → ((m : List ℕ) → pins m e.event ≡ false) → ((m : List ℕ) (f n : ℕ) → is_about m f n e.event ≡ false) →
      ((c : ℕ) → IsNoPinOf c e) → ((v : ℕ) → closes v e.event ≡ (pin.version == v)) →
      ((q : ℕ) → get nat_cmp held' q ≡ cond (is_at (nat_cmp pin.caller) q) None (get nat_cmp held q)) →
      Agrees rules h books waiting held → Agrees rules (h ++ e ∷ []) books waiting held'
  agrees_closed e pin books waiting held held' live change pins_none about quiet closing held_is was =
      record {
        offers = λ m f n. was.offers m f n ∙ sym (standing-push rules h e m f n ∙ ap (λ (b : Bool). cond b (offer_made rules e.event) (standing rules h m f n)) (about m f n));
        due = λ m. waits_kept h e m (due_of books m) (change m) (pins_none m) (was.due m);
        waits = was.waits;
        pins_are = λ q. let P : Option Held → Type 0 = λ o. HoldsAt rules (h ++ e ∷ []) q o in
            ⊎_elim
            (λ (here : (pin.caller == q) ≡ true).
            let same : pin.caller ≡ q = (Decides-eqb pin.caller q).0 here in
            let gone : get nat_cmp held' q ≡ None = held_is q ∙ ap (λ (b : Bool). cond b None (get nat_cmp held q)) (at_caller pin.caller q ∙ here) in
            let Q : ℕ → Type 0 = λ c. HasNoPin (h ++ e ∷ []) c in
            subst P (sym gone) (subst Q same (closed_now rules h e pin (get nat_cmp held pin.caller) live (quiet pin.caller) closing (was.pins_are pin.caller))))
            (λ (apart : (pin.caller == q) ≡ false).
            let there : get nat_cmp held' q ≡ get nat_cmp held q = held_is q ∙ ap (λ (b : Bool). cond b None (get nat_cmp held q)) (at_caller pin.caller q ∙ apart) in
            subst P (sym there) (holds_stay rules h e q (get nat_cmp held q) (quiet q)
            (λ x its. closing x.version ∙ ⊎_elim
            (λ (same : (pin.version == x.version) ≡ true).
            let callers : pin.caller ≡ q = versions_apart h pin (record { caller = q; version = x.version; match_name = x.match_name }) live its.live ((Decides-eqb pin.version x.version).0 same) in
            absurd (both_ways _ apart ((Decides-eqb pin.caller q).1 callers)))
            (λ (other : (pin.version == x.version) ≡ false). other)
            (cases_Bool (pin.version == x.version)))
            (was.pins_are q)))
            (cases_Bool (pin.caller == q));
      }

-- the map of due matches, where nothing changed
waits_same_at : (due due' : List ℕ → Option ℕ) (place : ℕ) → ((m : List ℕ) → due' m ≡ due m) → (there : Option (List ℕ)) →
    MatchOption there ((m : List ℕ) → due m ≡ Some place → ⊥) (λ m. due m ≡ Some place) → MatchOption there ((m : List ℕ) → due' m ≡ Some place → ⊥) (λ m. due' m ≡ Some place)
waits_same_at due due' place same None was = λ m now. was m (sym (same m) ∙ now)
waits_same_at due due' place same (Some m) was = same m ∙ was

module _ {S : Type 0} (allows : List Offer → Finding → Type 0) (rules : List (Option VoidRule)) (h : List Entry) where
  -- where nothing is changed but how it is kept
  pub sound_same : (capacity capacity' open_feeds : ℕ) (books books' : IndexMap (List ℕ) Book S) (waiting waiting' : BTreeMap ℕ (List ℕ)) (held : BTreeMap ℕ Held) →
      ((m : List ℕ) (f n : ℕ) → offer_of books' m f n ≡ offer_of books m f n) → ((m : List ℕ) → due_of books' m ≡ due_of books m) →
      ((at : ℕ) → waits_for waiting' at ≡ waits_for waiting at) → capacity ≤ capacity' →
      IsSound allows rules h capacity books waiting held open_feeds → IsSound allows rules h capacity' books' waiting' held open_feeds
  sound_same capacity capacity' open_feeds books books' waiting waiting' held offers due waits more was =
      record {
        legal = was.legal;
        agrees = record {
          offers = λ m f n. offers m f n ∙ was.agrees.offers m f n;
          due = λ m. let P : Option ℕ → Type 0 = λ o. WaitsSince h m o in subst P (sym (due m)) (was.agrees.due m);
          waits = λ place.
              let P : Option (List ℕ) → Type 0 = λ there. MatchOption there ((m : List ℕ) → due_of books' m ≡ Some place → ⊥) (λ m. due_of books' m ≡ Some place) in
              subst P (sym (waits place)) (waits_same_at (due_of books) (due_of books') place due (waits_for waiting place) (was.agrees.waits place));
          pins_are = was.agrees.pins_are;
        };
        eight = was.eight;
        open_is = was.open_is;
        room = let room = was.room in omega (arith, room, more);
      }

  -- after one more entry that ends no feed
  pub sound_more : (e : Entry) (capacity capacity' open_feeds : ℕ) (books books' : IndexMap (List ℕ) Book S) (waiting waiting' : BTreeMap ℕ (List ℕ)) (held held' : BTreeMap ℕ Held) →
      MayFollow rules allows h e → ((feed : ℕ) → ends feed e.event ≡ false) → length h + btree_map_len held' + open_feeds + 1 ≤ capacity' →
      Agrees rules (h ++ e ∷ []) books' waiting' held' →
      IsSound allows rules h capacity books waiting held open_feeds → IsSound allows rules (h ++ e ∷ []) capacity' books' waiting' held' open_feeds
  sound_more e capacity capacity' open_feeds books books' waiting waiting' held held' may none room agrees was =
      record {
        legal = legal_more rules allows h e was.legal may;
        agrees = agrees;
        eight = was.eight;
        open_is = was.open_is ∙ open_kept rules h e none;
        room = omega (arith, room, length-append h (e ∷ []));
      }

-- the caller of a live pin holds it
held_by : (rules : List (Option VoidRule)) (h : List Entry) (pin : Pin) (there : Option Held) → IsLive h pin → HoldsAt rules h pin.caller there → is_some there ≡ true
held_by rules h pin None live was = absurd (was pin refl live)
held_by rules h pin (Some x) live was = refl

-- no match waits since a place past the history
fresh_at : {S : Type 0} (h : List Entry) (books : IndexMap (List ℕ) Book S) (place : ℕ) → ((m : List ℕ) → MatchOption (due_of books m) (IsDue h m → ⊥) (IsDueSince h m)) → length h ≤ place →
    (there : Option (List ℕ)) → MatchOption there ((m : List ℕ) → due_of books m ≡ Some place → ⊥) (λ m. due_of books m ≡ Some place) → there ≡ None
fresh_at h books place due past None was = refl
fresh_at h books place due past (Some m) was =
    let P : Option ℕ → Type 0 = λ o. MatchOption o (IsDue h m → ⊥) (IsDueSince h m) in
    let since : IsDueSince h m place = subst P was (due m) in
    let within = change_within h m place since.change in
    absurd (omega (arith, within, past))

pub fresh : {S : Type 0} (rules : List (Option VoidRule)) (h : List Entry) (books : IndexMap (List ℕ) Book S) (waiting : BTreeMap ℕ (List ℕ)) (held : BTreeMap ℕ Held) →
    Agrees rules h books waiting held → (place : ℕ) → length h ≤ place → waits_for waiting place ≡ None
fresh rules h books waiting held was place past = fresh_at h books place was.due past (waits_for waiting place) (was.waits place)

-- a slot is a key's
slot_key : (slot : Slot) (key : Key) → slot.feed ≡ key.feed → slot.number ≡ selection_number key.selection → (m : List ℕ) (f n : ℕ) →
    (bytes_eq key.match_name m && (slot.feed == f && slot.number == n)) ≡ is_key m f n key
slot_key slot key p q m f n =
    ap (λ (k : ℕ). bytes_eq key.match_name m && (k == f && slot.number == n)) p
    ∙ ap (λ (k : ℕ). bytes_eq key.match_name m && (key.feed == f && k == n)) q

-- an entry that pins nothing is no pin
not_a_pin : (e : Entry) (c : ℕ) (m : List ℕ) → pins m e.event ≡ false → e ≡ record { caller = c; event = Pinned m } → ⊥
not_a_pin e c m none same = both_ways _ none (ap (λ (x : Entry). pins m x.event) same ∙ (bytes_eq-Decides m m).1 refl)

pub quoted_is_quiet : (caller : ℕ) (key : Key) (odds : Odds) (limit line : ℕ) → IsQuiet (record { caller = caller; event = Quoted key odds limit line })
quoted_is_quiet caller key odds limit line = record { pins_none = λ m. refl; closes_none = λ v. refl; no_pin = λ c m. not_a_pin _ c m refl }

pub withdrawn_is_quiet : (caller : ℕ) (key : Key) (line : ℕ) → IsQuiet (record { caller = caller; event = Withdrawn key line })
withdrawn_is_quiet caller key line = record { pins_none = λ m. refl; closes_none = λ v. refl; no_pin = λ c m. not_a_pin _ c m refl }

module _ {S : Type 0} (allows : List Offer → Finding → Type 0) (rules : List (Option VoidRule)) (h : List Entry) where
  -- after a quote
  pub sound_quoted : (caller : ℕ) (key : Key) (odds : Odds) (limit line : ℕ) (offer : Offer) (slot : Slot) (place capacity capacity' open_feeds : ℕ)
      (books books' : IndexMap (List ℕ) Book S) (waiting waiting' : BTreeMap ℕ (List ℕ)) (held : BTreeMap ℕ Held) →
      MayFollow rules allows h (record { caller = caller; event = Quoted key odds limit line }) →
      option_and_then (offer_with key.feed key.selection odds limit) (rule_of rules key.feed) ≡ Some offer →
      slot.feed ≡ key.feed → slot.number ≡ selection_number key.selection → place ≡ length h → length h + btree_map_len held + open_feeds + 1 ≤ capacity' →
      ((m : List ℕ) (f n : ℕ) → offer_of books' m f n ≡ cond (bytes_eq key.match_name m && (slot.feed == f && slot.number == n)) (Some offer) (offer_of books m f n)) →
      ((m : List ℕ) → due_of books' m ≡ cond (bytes_eq key.match_name m) (option_or (due_of books m) (Some place)) (due_of books m)) →
      ((at : ℕ) → waits_for waiting' at ≡ cond (is_none (due_of books key.match_name) && at == place) (Some key.match_name) (waits_for waiting at)) →
      IsSound allows rules h capacity books waiting held open_feeds →
      IsSound allows rules (h ++ record { caller = caller; event = Quoted key odds limit line } ∷ []) capacity' books' waiting' held open_feeds
  sound_quoted caller key odds limit line offer slot place capacity capacity' open_feeds books books' waiting waiting' held may made feed number at_end room offers due waits was =
      let e : Entry = record { caller = caller; event = Quoted key odds limit line } in
      sound_more allows rules h e capacity capacity' open_feeds books books' waiting waiting' held held may (λ f. refl) room
      (agrees_changed rules h e key.match_name books books' waiting waiting' held (quoted_is_quiet caller key odds limit line) (λ m. refl)
      (λ m f n. offers m f n ∙ ap (λ (b : Bool). cond b (Some offer) (offer_of books m f n)) (slot_key slot key feed number m f n)
      ∙ ap (λ (o : Option Offer). cond (is_key m f n key) o (offer_of books m f n)) (sym made))
      (λ m. due m ∙ ap (λ (k : ℕ). cond (bytes_eq key.match_name m) (option_or (due_of books m) (Some k)) (due_of books m)) at_end)
      (λ at. waits at ∙ ap (λ (k : ℕ). cond (is_none (due_of books key.match_name) && at == k) (Some key.match_name) (waits_for waiting at)) at_end)
      was.agrees)
      was

  -- after a withdrawal
  pub sound_withdrawn : (caller : ℕ) (key : Key) (line : ℕ) (slot : Slot) (place capacity capacity' open_feeds : ℕ)
      (books books' : IndexMap (List ℕ) Book S) (waiting waiting' : BTreeMap ℕ (List ℕ)) (held : BTreeMap ℕ Held) →
      MayFollow rules allows h (record { caller = caller; event = Withdrawn key line }) →
      slot.feed ≡ key.feed → slot.number ≡ selection_number key.selection → place ≡ length h → length h + btree_map_len held + open_feeds + 1 ≤ capacity' →
      ((m : List ℕ) (f n : ℕ) → offer_of books' m f n ≡ cond (bytes_eq key.match_name m && (slot.feed == f && slot.number == n)) None (offer_of books m f n)) →
      ((m : List ℕ) → due_of books' m ≡ cond (bytes_eq key.match_name m) (option_or (due_of books m) (Some place)) (due_of books m)) →
      ((at : ℕ) → waits_for waiting' at ≡ cond (is_none (due_of books key.match_name) && at == place) (Some key.match_name) (waits_for waiting at)) →
      IsSound allows rules h capacity books waiting held open_feeds →
      IsSound allows rules (h ++ record { caller = caller; event = Withdrawn key line } ∷ []) capacity' books' waiting' held open_feeds
  sound_withdrawn caller key line slot place capacity capacity' open_feeds books books' waiting waiting' held may feed number at_end room offers due waits was =
      let e : Entry = record { caller = caller; event = Withdrawn key line } in
      sound_more allows rules h e capacity capacity' open_feeds books books' waiting waiting' held held may (λ f. refl) room
      (agrees_changed rules h e key.match_name books books' waiting waiting' held (withdrawn_is_quiet caller key line) (λ m. refl)
      (λ m f n. offers m f n ∙ ap (λ (b : Bool). cond b None (offer_of books m f n)) (slot_key slot key feed number m f n))
      (λ m. due m ∙ ap (λ (k : ℕ). cond (bytes_eq key.match_name m) (option_or (due_of books m) (Some k)) (due_of books m)) at_end)
      (λ at. waits at ∙ ap (λ (k : ℕ). cond (is_none (due_of books key.match_name) && at == k) (Some key.match_name) (waits_for waiting at)) at_end)
      was.agrees)
      was

  pub pin_is_held : (pin : Pin) (capacity open_feeds : ℕ) (books : IndexMap (List ℕ) Book S) (waiting : BTreeMap ℕ (List ℕ)) (held : BTreeMap ℕ Held) →
      IsLive h pin → IsSound allows rules h capacity books waiting held open_feeds → is_some (get nat_cmp held pin.caller) ≡ true
  pin_is_held pin capacity open_feeds books waiting held live was = held_by rules h pin (get nat_cmp held pin.caller) live (was.agrees.pins_are pin.caller)

  -- after a finding is filed
  pub sound_filed : (pin : Pin) (finding : Finding) (capacity capacity' open_feeds : ℕ) (books : IndexMap (List ℕ) Book S) (waiting : BTreeMap ℕ (List ℕ)) (held held' : BTreeMap ℕ Held) →
      IsLive h pin → allows (sheet rules h pin.version pin.match_name) finding → length h + btree_map_len held' + open_feeds + 1 ≤ capacity' →
      ((q : ℕ) → get nat_cmp held' q ≡ cond (is_at (nat_cmp pin.caller) q) None (get nat_cmp held q)) →
      IsSound allows rules h capacity books waiting held open_feeds →
      IsSound allows rules (h ++ record { caller = pin.caller; event = Filed pin.version finding } ∷ []) capacity' books waiting held' open_feeds
  sound_filed pin finding capacity capacity' open_feeds books waiting held held' live allowed room gone was =
      let e : Entry = record { caller = pin.caller; event = Filed pin.version finding } in
      sound_more allows rules h e capacity capacity' open_feeds books books waiting waiting held held' (pin.match_name, record { live = live; allowed = allowed }) (λ f. refl) room
      (agrees_closed rules h e pin books waiting held held' live (λ m. refl) (λ m. refl) (λ m f n. refl) (λ c m. not_a_pin e c m refl) (λ v. refl) gone was.agrees)
      was

  -- after a pin is released
  pub sound_released : (pin : Pin) (capacity capacity' open_feeds : ℕ) (books : IndexMap (List ℕ) Book S) (waiting : BTreeMap ℕ (List ℕ)) (held held' : BTreeMap ℕ Held) →
      IsLive h pin → length h + btree_map_len held' + open_feeds + 1 ≤ capacity' →
      ((q : ℕ) → get nat_cmp held' q ≡ cond (is_at (nat_cmp pin.caller) q) None (get nat_cmp held q)) →
      IsSound allows rules h capacity books waiting held open_feeds →
      IsSound allows rules (h ++ record { caller = pin.caller; event = Released pin.version } ∷ []) capacity' books waiting held' open_feeds
  sound_released pin capacity capacity' open_feeds books waiting held held' live room gone was =
      let e : Entry = record { caller = pin.caller; event = Released pin.version } in
      sound_more allows rules h e capacity capacity' open_feeds books books waiting waiting held held' (pin.match_name, live) (λ f. refl) room
      (agrees_closed rules h e pin books waiting held held' live (λ m. refl) (λ m. refl) (λ m f n. refl) (λ c m. not_a_pin e c m refl) (λ v. refl) gone was.agrees)
      was

-- since when a due match is known to be due
known : (h : List Entry) (m : List ℕ) (place : ℕ) (since : Option ℕ) → IsDueSince h m place → MatchOption since (IsDue h m → ⊥) (IsDueSince h m) → since ≡ Some place
known h m place None its was = absurd (was (place, its.change))
known h m place (Some p) its was = ap Some (let a = its.first p was.change in let b = was.first place its.change in omega (arith, a, b))

not_due : {S : Type 0} (h : List Entry) (books : IndexMap (List ℕ) Book S) (waiting : BTreeMap ℕ (List ℕ)) → ((place : ℕ) → waits_for waiting place ≡ None) →
    ((place : ℕ) → MatchOption (waits_for waiting place) ((m : List ℕ) → due_of books m ≡ Some place → ⊥) (λ m. due_of books m ≡ Some place)) →
    (m : List ℕ) (since : Option ℕ) → due_of books m ≡ since → MatchOption since (IsDue h m → ⊥) (IsDueSince h m) → IsDue h m → ⊥
not_due h books waiting none waits m None is was due = was due
not_due h books waiting none waits m (Some p) is was due =
    let W : Option (List ℕ) → Type 0 = λ there. MatchOption there ((q : List ℕ) → due_of books q ≡ Some p → ⊥) (λ q. due_of books q ≡ Some p) in
    let nobody : (q : List ℕ) → due_of books q ≡ Some p → ⊥ = subst W (none p) (waits p) in
    nobody m is

-- a feed that is open is counted
pub some_run : (rules : List (Option VoidRule)) (h : List Entry) (caller feed : ℕ) (stop : FeedStop) → length rules ≡ MOST_FEEDS → IsOpenFeed rules h caller feed →
    open_count rules h ≡ open_count rules (h ++ record { caller = caller; event = Ended feed stop } ∷ []) + 1
some_run rules h caller feed stop eight open_ =
    open_less rules h (record { caller = caller; event = Ended feed stop }) feed (feed_fits rules feed eight open_.exists) open_.exists open_.not_ended (λ k. refl)

module _ {S : Type 0} (allows : List Offer → Finding → Type 0) (rules : List (Option VoidRule)) (h : List Entry) where
  -- after the end of a feed
  pub sound_ended : (caller feed : ℕ) (stop : FeedStop) (capacity capacity' open_feeds open_feeds' : ℕ) (books : IndexMap (List ℕ) Book S) (waiting : BTreeMap ℕ (List ℕ)) (held : BTreeMap ℕ Held) →
      IsOpenFeed rules h caller feed → stop ≢ BadHeader → open_feeds ≡ open_feeds' + 1 → capacity ≤ capacity' →
      IsSound allows rules h capacity books waiting held open_feeds →
      IsSound allows rules (h ++ record { caller = caller; event = Ended feed stop } ∷ []) capacity' books waiting held open_feeds'
  sound_ended caller feed stop capacity capacity' open_feeds open_feeds' books waiting held open_ good less more was =
      let e : Entry = record { caller = caller; event = Ended feed stop } in
      record {
        legal = legal_more rules allows h e was.legal (open_, good);
        agrees = record {
          offers = λ m f n. was.agrees.offers m f n ∙ sym (standing-push rules h e m f n);
          due = λ m. waits_kept h e m (due_of books m) refl refl (was.agrees.due m);
          waits = was.agrees.waits;
          pins_are = λ c. holds_stay rules h e c (get nat_cmp held c) (λ m. not_a_pin e c m refl) (λ x _. refl) (was.agrees.pins_are c);
        };
        eight = was.eight;
        open_is = let run = some_run rules h caller feed stop was.eight open_ in let is = was.open_is in omega (arith, run, is, less);
        room = let room = was.room in omega (arith, room, less, more, length-append h (e ∷ []));
      }

  -- after a pin
  pub sound_pinned : (caller : ℕ) (x : Held) (capacity capacity' open_feeds : ℕ) (books books' : IndexMap (List ℕ) Book S) (waiting waiting' : BTreeMap ℕ (List ℕ)) (held held' : BTreeMap ℕ Held) →
      HasNoPin h caller → x.version ≡ length h → x.offers.items ≡ standing_sheet rules h x.match_name → length h + btree_map_len held' + open_feeds + 1 ≤ capacity' →
      ((m : List ℕ) (f n : ℕ) → offer_of books' m f n ≡ offer_of books m f n) →
      ((m : List ℕ) → due_of books' m ≡ cond (bytes_eq x.match_name m) None (due_of books m)) →
      ((at : ℕ) → waits_for waiting' at ≡ cond (option_map_or (λ place. place == at) (due_of books x.match_name) false) None (waits_for waiting at)) →
      ((q : ℕ) → get nat_cmp held' q ≡ cond (is_at (nat_cmp caller) q) (Some x) (get nat_cmp held q)) →
      IsSound allows rules h capacity books waiting held open_feeds →
      IsSound allows rules (h ++ record { caller = caller; event = Pinned x.match_name } ∷ []) capacity' books' waiting' held' open_feeds
  sound_pinned caller x capacity capacity' open_feeds books books' waiting waiting' held held' none version is room offers due waits now was =
      let e : Entry = record { caller = caller; event = Pinned x.match_name } in
      let front : take x.version (h ++ e ∷ []) ≡ h = ap (λ (k : ℕ). take k (h ++ e ∷ [])) version ∙ take-append_seam h (e ∷ []) in
      sound_more allows rules h e capacity capacity' open_feeds books books' waiting waiting' held held' none (λ f. refl) room
      (agrees_pinned rules h caller x books books' waiting waiting' held held' none version (is ∙ ap (λ (xs : List Entry). standing_sheet rules xs x.match_name) (sym front)) offers due waits now was.agrees)
      was

  -- the match that waits longest is due longest
  pub longest : (books : IndexMap (List ℕ) Book S) (waiting : BTreeMap ℕ (List ℕ)) (held : BTreeMap ℕ Held) (m : List ℕ) → IsFirstWaiting waiting (Some m) →
      Agrees rules h books waiting held → IsLongestDue h m
  longest books waiting held m first was =
      let P : Option ℕ → Type 0 = λ o. MatchOption o (IsDue h m → ⊥) (IsDueSince h m) in
      let W : Option (List ℕ) → Type 0 = λ there. MatchOption there ((q : List ℕ) → due_of books q ≡ Some first.0 → ⊥) (λ q. due_of books q ≡ Some first.0) in
      let since : due_of books m ≡ Some first.0 = subst W first.1 (was.waits first.0) in
      record {
        since = first.0;
        due = subst P since (was.due m);
        earliest = λ other place its. ⊎_elim
            (λ (before : place < first.0).
            let V : Option (List ℕ) → Type 0 = λ there. MatchOption there ((q : List ℕ) → due_of books q ≡ Some place → ⊥) (λ q. due_of books q ≡ Some place) in
            let nobody : (q : List ℕ) → due_of books q ≡ Some place → ⊥ = subst V (first.2 place before) (was.waits place) in
            absurd (nobody other (known h other place (due_of books other) its (was.due other))))
            (λ (past : first.0 ≤ place). past)
            (cases_lt place first.0);
      }

  -- where no match waits, none is due
  pub none_due : (books : IndexMap (List ℕ) Book S) (waiting : BTreeMap ℕ (List ℕ)) (held : BTreeMap ℕ Held) → IsFirstWaiting waiting None →
      Agrees rules h books waiting held → NoneIsDue h
  none_due books waiting held none was = λ m due. not_due h books waiting none was.waits m (due_of books m) refl (was.due m) due
