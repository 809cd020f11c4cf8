-- The offer that stands at a selection of a feed is of that feed and that selection.
use Rattle.std.proofs.Common.{ℕ, ◌≡◌, ◌≤◌, ◌<◌, inl, inr, ⊎_elim, Bool, true, false, cond, List, [], ◌∷◌, refl, sym, ap, ◌∙◌, Some, None, arith}
use Rattle.std.specs.Prelude.{◌⊎◌, Option, find, reverse, option_and_then}
use Rattle.std.specs.Option.{option_map_or, unwrap_or}
use Rattle.std.proofs.Props.{props}
use Rattle.std.proofs.lemmas.Bool.{cases_Bool, cases_lt}
use Rattle.scan_types.specs.declared.limits.TheConstants.{MOST_FEEDS, MOST_LIMIT}
use Rattle.scan_types.specs.declared.offer.Offer.{Offer}
use Rattle.scan_types.specs.declared.odds.Odds.{Odds}
use Rattle.scan_types.specs.declared.rule.VoidRule.{VoidRule}
use Rattle.scan_types.specs.declared.selection.Selection.{Selection}
use Rattle.scan_types.specs.Offers.{HasTerms}
use Rattle.scan_types.specs.Selections.{selection_number}
use Rattle.board_definitions.specs.declared.event.Event.{Event}
use Rattle.board_definitions.specs.declared.event.Event.TheVariants.{Quoted, Withdrawn, Ended, Pinned, Filed, Released}
use Rattle.board_definitions.specs.declared.event.Entry.{Entry}
use Rattle.board_definitions.specs.Entries.{is_about, is_quote, rule_of}
use Rattle.board_definitions.specs.Sheets.{stands, standing, offer_within, offer_with, offer_of, last_about}
use Rattle.board_definitions.proofs.Keys.{is_key_parts}

-- the offer is of this feed and of the selection of this number
pub record IsPlaced (feed number : ℕ) (offer : Offer) : Type 0 where
  pub feed_is : offer.feed ≡ feed
  pub number_is : selection_number offer.selection ≡ number

pub some_injective : {X : Type 0} (x y : X) → Some x ≡ Some y → x ≡ y
some_injective {X} x y h = ap (λ (o : Option X). unwrap_or o x) h

-- what is found passes
pub find_passes : {X : Type 0} (p : X → Bool) (xs : List X) (x : X) → find p xs ≡ Some x → p x ≡ true
find_passes p [] x h = absurd (cc h)
find_passes {X} p (y ∷ ys) x h =
    ⊎_elim
    (λ (here : p y ≡ true).
    let same : y ≡ x = some_injective y x (ap (λ (b : Bool). cond b (Some y) (find p ys)) (sym here) ∙ h) in
    ap p (sym same) ∙ here)
    (λ (later : p y ≡ false). find_passes p ys x (ap (λ (b : Bool). cond b (Some y) (find p ys)) (sym later) ∙ h))
    (cases_Bool (p y))

pub and_then_some : {X Y : Type 0} (g : X → Option Y) (o : Option X) (y : Y) → option_and_then g o ≡ Some y → (x : X) × (o ≡ Some x) × (g x ≡ Some y)
and_then_some g None y h = absurd (cc h)
and_then_some g (Some x) y h = (x, refl, h)

within_terms : (feed : ℕ) (selection : Selection) (odds : Odds) (limit : ℕ) (rule : VoidRule)
    (a : (feed < MOST_FEEDS) ⊎ (MOST_FEEDS ≤ feed)) (b : (limit < 1) ⊎ (1 ≤ limit)) (c : (MOST_LIMIT < limit) ⊎ (limit ≤ MOST_LIMIT)) (offer : Offer) →
    offer_within feed selection odds limit rule a b c ≡ Some offer → HasTerms offer feed selection odds limit rule
within_terms feed selection odds limit rule (inl a) (inr b) (inr c) offer h =
    let made : Offer = record { feed = feed; selection = selection; odds = odds; limit = limit; rule = rule; feed_at_most = a; limit_at_least = b; limit_at_most = c } in
    let same : made ≡ offer = some_injective made offer h in
    record {
      feed_is = ap (λ (o : Offer). o.feed) (sym same);
      selection_is = ap (λ (o : Offer). o.selection) (sym same);
      odds_are = ap (λ (o : Offer). o.odds) (sym same);
      limit_is = ap (λ (o : Offer). o.limit) (sym same);
      rule_is = ap (λ (o : Offer). o.rule) (sym same);
    }
within_terms feed selection odds limit rule (inr a) b c offer h = absurd (cc h)
within_terms feed selection odds limit rule (inl a) (inl b) c offer h = absurd (cc h)
within_terms feed selection odds limit rule (inl a) (inr b) (inl c) offer h = absurd (cc h)

pub offer_with_terms : (feed : ℕ) (selection : Selection) (odds : Odds) (limit : ℕ) (rule : VoidRule) (offer : Offer) →
    offer_with feed selection odds limit rule ≡ Some offer → HasTerms offer feed selection odds limit rule
unfolding offer_with
offer_with_terms feed selection odds limit rule offer h =
    within_terms feed selection odds limit rule (cases_lt feed MOST_FEEDS) (cases_lt limit 1) (cases_lt MOST_LIMIT limit) offer h

-- an entry that makes an offer is a quote of its feed and selection
made : (rules : List (Option VoidRule)) (event : Event) (m : List ℕ) (f n : ℕ) (offer : Offer) → is_about m f n event ≡ true → offer_of rules event ≡ Some offer →
    IsPlaced f n offer × (is_quote event ≡ true)
made rules (Quoted key odds limit line) m f n offer about h =
    let parts = is_key_parts m f n key about in
    let inner = and_then_some (offer_with key.feed key.selection odds limit) (rule_of rules key.feed) offer h in
    let terms = offer_with_terms key.feed key.selection odds limit inner.0 offer inner.2 in (
      record {
        feed_is = terms.feed_is ∙ parts.1;
        number_is = ap selection_number terms.selection_is ∙ parts.2;
      },
      refl,
    )
made rules (Withdrawn key line) m f n offer about h = absurd (cc h)
made rules (Ended feed stop) m f n offer about h = absurd (cc h)
made rules (Pinned pinned) m f n offer about h = absurd (cc h)
made rules (Filed version finding) m f n offer about h = absurd (cc h)
made rules (Released version) m f n offer about h = absurd (cc h)

-- the offer that stands is of its feed and selection, which stands
pub standing_placed : (rules : List (Option VoidRule)) (entries : List Entry) (m : List ℕ) (f n : ℕ) (offer : Offer) →
    standing rules entries m f n ≡ Some offer → IsPlaced f n offer × (stands entries m f n ≡ true)
standing_placed rules entries m f n offer h =
    let last = and_then_some (λ (entry : Entry). offer_of rules entry.event) (last_about entries m f n) offer h in
    let about : is_about m f n last.0.event ≡ true = find_passes (λ (entry : Entry). is_about m f n entry.event) (reverse entries) last.0 last.1 in
    let it = made rules last.0.event m f n offer about last.2 in
    (it.0, ap (λ (o : Option Entry). option_map_or (λ (entry : Entry). is_quote entry.event) o false) last.1 ∙ it.1)

at_most_once : (a b : ℕ) → IsProp (a ≤ b)
at_most_once a b = hlevel props

-- an offer is the one with its terms
within_back : (o : Offer) (a : (o.feed < MOST_FEEDS) ⊎ (MOST_FEEDS ≤ o.feed)) (b : (o.limit < 1) ⊎ (1 ≤ o.limit)) (c : (MOST_LIMIT < o.limit) ⊎ (o.limit ≤ MOST_LIMIT)) →
    offer_within o.feed o.selection o.odds o.limit o.rule a b c ≡ Some o
within_back o (inr a) b c = let fits : o.feed < MOST_FEEDS = o.feed_at_most in absurd (omega (arith, fits, a))
within_back o (inl a) (inl b) c = let some : 1 ≤ o.limit = o.limit_at_least in absurd (omega (arith, some, b))
within_back o (inl a) (inr b) (inl c) = let few : o.limit ≤ MOST_LIMIT = o.limit_at_most in absurd (omega (arith, few, c))
within_back o (inl a) (inr b) (inr c) =
    let F : (p : o.feed < MOST_FEEDS) → (q : 1 ≤ o.limit) → (r : o.limit ≤ MOST_LIMIT) → Offer = λ p q r. record {
      feed = o.feed;
      selection = o.selection;
      odds = o.odds;
      limit = o.limit;
      rule = o.rule;
      feed_at_most = p;
      limit_at_least = q;
      limit_at_most = r;
    } in
    ap (λ (p : o.feed < MOST_FEEDS). Some (F p b c)) (at_most_once _ _ a o.feed_at_most)
    ∙ ap (λ (q : 1 ≤ o.limit). Some (F o.feed_at_most q c)) (at_most_once _ _ b o.limit_at_least)
    ∙ ap (λ (r : o.limit ≤ MOST_LIMIT). Some (F o.feed_at_most o.limit_at_least r)) (at_most_once _ _ c o.limit_at_most)

pub offer_with_back : (o : Offer) → offer_with o.feed o.selection o.odds o.limit o.rule ≡ Some o
unfolding offer_with
offer_with_back o = within_back o (cases_lt o.feed MOST_FEEDS) (cases_lt o.limit 1) (cases_lt MOST_LIMIT o.limit)
