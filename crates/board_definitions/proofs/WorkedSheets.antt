-- The worked histories, computed: the terms of a sheet are those of a list that computes, in which a test is a `Bool`.
use Rattle.std.proofs.Common.{ℕ, suc, ◌≡◌, ◌≤◌, ◌<◌, inl, inr, cond, List, [], ◌∷◌, ◌++◌, take, map, refl, ap₂, ◌∙◌, Some, None}
use Rattle.std.specs.Prelude.{◌⊎◌, Option, option_and_then}
use Rattle.std.specs.List.{filter_map, flat_map, range_with_len, cons_option}
use Rattle.std.specs.Option.{option_map}
use Rattle.std.proofs.Math.Dec.{ltb}
use Rattle.std.proofs.lemmas.Bool.{cases_lt, lt-ltb, le-ltb}
use Rattle.std.proofs.lemmas.List.{map-append}
use Rattle.scan_types.specs.declared.limits.TheConstants.{MOST_FEEDS, MOST_LIMIT}
use Rattle.scan_types.specs.declared.odds.Odds.{Odds}
use Rattle.scan_types.specs.declared.offer.Offer.{Offer}
use Rattle.scan_types.specs.declared.rule.VoidRule.{VoidRule}
use Rattle.scan_types.specs.declared.selection.Selection.{Selection}
use Rattle.board_definitions.specs.declared.key.TheConstants.{SELECTIONS}
use Rattle.board_definitions.specs.declared.event.Event.{Event}
use Rattle.board_definitions.specs.declared.event.Event.TheVariants.{Quoted, Withdrawn, Ended, Pinned, Filed, Released}
use Rattle.board_definitions.specs.declared.event.Entry.{Entry}
use Rattle.board_definitions.specs.Entries.{rule_of}
use Rattle.board_definitions.specs.Sheets.{offer_within, offer_with, offer_of, last_about, standing, standing_sheet, sheet}
use Rattle.board_definitions.specs.WorkedHistories.{Terms, terms_of, HasSheets, HaveWorkedSheets, two_feeds, two_feeds_history, first_match_sheets, second_match_sheets, one_feed, one_feed_history, one_feed_sheets, m1, m2}

abbrev plain_terms : ℕ → Selection → Odds → ℕ → VoidRule → Option Terms
plain_terms feed selection odds limit rule =
    cond (ltb feed MOST_FEEDS) (cond (ltb limit 1) None (cond (ltb MOST_LIMIT limit) None (Some (feed, selection, odds.thousandths, limit, rule)))) None

terms_within : (feed : ℕ) (selection : Selection) (odds : Odds) (limit : ℕ) (rule : VoidRule)
    (a : (feed < MOST_FEEDS) ⊎ (MOST_FEEDS ≤ feed)) (b : (limit < 1) ⊎ (1 ≤ limit)) (c : (MOST_LIMIT < limit) ⊎ (limit ≤ MOST_LIMIT)) →
    option_map terms_of (offer_within feed selection odds limit rule a b c) ≡ plain_terms feed selection odds limit rule
terms_within feed selection odds limit rule (inl a) (inr b) (inr c) = rw (lt-ltb feed MOST_FEEDS a, le-ltb limit 1 b, le-ltb MOST_LIMIT limit c) refl
terms_within feed selection odds limit rule (inr a) b c = rw (le-ltb feed MOST_FEEDS a) refl
terms_within feed selection odds limit rule (inl a) (inl b) c = rw (lt-ltb feed MOST_FEEDS a, lt-ltb limit 1 b) refl
terms_within feed selection odds limit rule (inl a) (inr b) (inl c) = rw (lt-ltb feed MOST_FEEDS a, le-ltb limit 1 b, lt-ltb MOST_LIMIT limit c) refl

terms_with : (feed : ℕ) (selection : Selection) (odds : Odds) (limit : ℕ) (rule : VoidRule) → option_map terms_of (offer_with feed selection odds limit rule) ≡ plain_terms feed selection odds limit rule
unfolding offer_with
terms_with feed selection odds limit rule = terms_within feed selection odds limit rule (cases_lt feed MOST_FEEDS) (cases_lt limit 1) (cases_lt MOST_LIMIT limit)

abbrev event_terms : List (Option VoidRule) → Event → Option Terms
event_terms rules (Quoted key odds limit line) = option_and_then (plain_terms key.feed key.selection odds limit) (rule_of rules key.feed)
event_terms rules _ = None

terms_of_rule : (feed : ℕ) (selection : Selection) (odds : Odds) (limit : ℕ) (rule : Option VoidRule) →
    option_map terms_of (option_and_then (offer_with feed selection odds limit) rule) ≡ option_and_then (plain_terms feed selection odds limit) rule
terms_of_rule feed selection odds limit None = refl
terms_of_rule feed selection odds limit (Some rule) = terms_with feed selection odds limit rule

terms_of_event : (rules : List (Option VoidRule)) (event : Event) → option_map terms_of (offer_of rules event) ≡ event_terms rules event
terms_of_event rules (Quoted key odds limit line) = terms_of_rule key.feed key.selection odds limit (rule_of rules key.feed)
terms_of_event rules (Withdrawn key line) = refl
terms_of_event rules (Ended feed stop) = refl
terms_of_event rules (Pinned match_name) = refl
terms_of_event rules (Filed version finding) = refl
terms_of_event rules (Released version) = refl

terms_of_last : (rules : List (Option VoidRule)) (last : Option Entry) →
    option_map terms_of (option_and_then (λ entry. offer_of rules entry.event) last) ≡ option_and_then (λ entry. event_terms rules entry.event) last
terms_of_last rules None = refl
terms_of_last rules (Some entry) = terms_of_event rules entry.event

abbrev standing_terms : List (Option VoidRule) → List Entry → List ℕ → ℕ → ℕ → Option Terms
standing_terms rules entries match_name feed number = option_and_then (λ entry. event_terms rules entry.event) (last_about entries match_name feed number)

cons_terms : (o : Option Offer) (offers : List Offer) → map terms_of (cons_option o offers) ≡ cons_option (option_map terms_of o) (map terms_of offers)
cons_terms None offers = refl
cons_terms (Some offer) offers = refl

filtered : (h : ℕ → Option Offer) (g : ℕ → Option Terms) → ((n : ℕ) → option_map terms_of (h n) ≡ g n) → (ns : List ℕ) → map terms_of (filter_map h ns) ≡ filter_map g ns
filtered h g same [] = refl
filtered h g same (n ∷ ns) = cons_terms (h n) (filter_map h ns) ∙ ap₂ cons_option (same n) (filtered h g same ns)

joined : (h : ℕ → List Offer) (g : ℕ → List Terms) → ((n : ℕ) → map terms_of (h n) ≡ g n) → (ns : List ℕ) → map terms_of (flat_map h ns) ≡ flat_map g ns
joined h g same [] = refl
joined h g same (n ∷ ns) = map-append terms_of (h n) (flat_map h ns) ∙ ap₂ (λ xs ys. xs ++ ys) (same n) (joined h g same ns)

abbrev sheet_terms : List (Option VoidRule) → List Entry → ℕ → List ℕ → List Terms
sheet_terms rules history version match_name =
    flat_map (λ feed. filter_map (standing_terms rules (take version history) match_name feed) (range_with_len 0 SELECTIONS)) (range_with_len 0 MOST_FEEDS)

-- a sheet has the terms of the list that computes
computes : (rules : List (Option VoidRule)) (history : List Entry) (version : ℕ) (match_name : List ℕ) →
    map terms_of (sheet rules history version match_name) ≡ sheet_terms rules history version match_name
unfolding standing_sheet
computes rules history version match_name =
    joined (λ feed. filter_map (standing rules (take version history) match_name feed) (range_with_len 0 SELECTIONS))
    (λ feed. filter_map (standing_terms rules (take version history) match_name feed) (range_with_len 0 SELECTIONS))
    (λ feed. filtered (standing rules (take version history) match_name feed) (standing_terms rules (take version history) match_name feed)
    (λ number. terms_of_last rules (last_about (take version history) match_name feed number)) (range_with_len 0 SELECTIONS))
    (range_with_len 0 MOST_FEEDS)

-- the same of the sheets at one version after another
abbrev HasPlainSheets : List (Option VoidRule) → List Entry → List ℕ → ℕ → List (List Terms) → Type 0
HasPlainSheets rules history match_name version [] = Unit {0}
HasPlainSheets rules history match_name version (terms ∷ later) =
    (sheet_terms rules history version match_name ≡ terms) × HasPlainSheets rules history match_name (suc version) later

as_plain : (rules : List (Option VoidRule)) (history : List Entry) (match_name : List ℕ) (version : ℕ) (sheets : List (List Terms)) →
    HasPlainSheets rules history match_name version sheets → HasSheets rules history match_name version sheets
as_plain rules history match_name version [] plain = tt
as_plain rules history match_name version (terms ∷ later) plain =
    (computes rules history version match_name ∙ plain.0, as_plain rules history match_name (suc version) later plain.1)

pub sheets_as_worked : HaveWorkedSheets
sheets_as_worked = (
  as_plain two_feeds two_feeds_history m1 0 first_match_sheets (refl, (refl, (refl, (refl, (refl, (refl, (refl, (refl, (refl, (refl, (refl, (refl, (refl, tt))))))))))))),
  as_plain two_feeds two_feeds_history m2 0 second_match_sheets (refl, (refl, (refl, (refl, (refl, (refl, (refl, (refl, (refl, (refl, (refl, (refl, (refl, tt))))))))))))),
  as_plain one_feed one_feed_history m2 0 one_feed_sheets (refl, (refl, (refl, (refl, (refl, (refl, tt)))))),
)
