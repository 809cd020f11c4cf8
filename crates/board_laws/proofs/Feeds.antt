-- The entries of a feed are those of its caller.
use Rattle.std.proofs.Common.{ℕ, ◌≡◌, ◌+◌, Bool, true, false, cond, List, [], ◌∷◌, refl, sym, ap, ◌∙◌, suc, Some}
use Rattle.std.specs.Prelude.{Option, slice_get, ◌==◌, ◌||◌, filter, None}
use Rattle.std.specs.List.{list_any, filter_map, cons_option}
use Rattle.std.proofs.lemmas.Bool.Decides.{Decides-eqb}
use Rattle.std.proofs.Common.{eq-eqb, take}
use Rattle.scan_types.specs.declared.rule.VoidRule.{VoidRule}
use Rattle.scan_types.specs.declared.offer.Offer.{Offer}
use Rattle.finding_definitions.specs.declared.finding.Finding.{Finding}
use Rattle.board_definitions.specs.declared.event.Event.{Event}
use Rattle.board_definitions.specs.declared.event.Event.TheVariants.{Quoted, Withdrawn, Ended, Pinned, Filed, Released}
use Rattle.board_definitions.specs.declared.event.Entry.{Entry}
use Rattle.board_definitions.specs.Entries.{ends}
use Rattle.board_definitions.specs.Pins.{has_ended}
use Rattle.board_definitions.specs.Legal.{IsLegal, MayFollow}
use Rattle.board_laws.specs.Callers.{calls, is_of_feed}

pub their_callers : (rules : List (Option VoidRule)) (allows : List Offer → Finding → Type 0) (history : List Entry) (place : ℕ) (entry : Entry) (feed : ℕ) →
    IsLegal rules allows history → slice_get history place ≡ Some entry → is_of_feed feed entry.event ≡ true → entry.caller ≡ feed + 1
unfolding IsLegal
their_callers rules allows history place entry feed legal at of_ = by entry.event (legal place entry at) of_
  where
    by : (event : Event) → MayFollow rules allows (take place history) (record { caller = entry.caller; event = event }) → is_of_feed feed event ≡ true → entry.caller ≡ feed + 1
    by (Quoted key odds limit line) may is = may.feed.caller_is ∙ ap (λ (k : ℕ). k + 1) ((Decides-eqb key.feed feed).0 is)
    by (Withdrawn key line) may is = may.feed.caller_is ∙ ap (λ (k : ℕ). k + 1) ((Decides-eqb key.feed feed).0 is)
    by (Ended ended stop) may is = may.0.caller_is ∙ ap (λ (k : ℕ). k + 1) ((Decides-eqb ended feed).0 is)
    by (Pinned m) may is = absurd (cc is)
    by (Filed v f) may is = absurd (cc is)
    by (Released v) may is = absurd (cc is)

-- a test that only some elements pass, among these and among all
pub any_of_some : {X : Type 0} (test some : X → Bool) (xs : List X) → ((place : ℕ) (x : X) → slice_get xs place ≡ Some x → test x ≡ true → some x ≡ true) →
    list_any test xs ≡ list_any test (filter some xs)
any_of_some test some [] only = refl
any_of_some test some (x ∷ xs) only = by (any_of_some test some xs (λ place y at is. only (suc place) y at is)) (test x) (some x) refl refl
  where
    by : list_any test xs ≡ list_any test (filter some xs) → (t s : Bool) → test x ≡ t → some x ≡ s → list_any test (x ∷ xs) ≡ list_any test (filter some (x ∷ xs))
    by rest t true is of_ =
        ap (λ (b : Bool). test x || b) rest ∙ ap (λ (s : Bool). list_any test (cond s (x ∷ filter some xs) (filter some xs))) (sym of_)
    by rest true false is of_ = absurd (let c : true ≡ false = sym (only 0 x refl is) ∙ of_ in cc c)
    by rest false false is of_ =
        ap (λ (b : Bool). b || list_any test xs) is ∙ rest ∙ ap (λ (s : Bool). list_any test (cond s (x ∷ filter some xs) (filter some xs))) (sym of_)

-- what only some elements give, of these and of all
pub given_by_some : {X Y : Type 0} (give : X → Option Y) (some : X → Bool) (xs : List X) →
    ((place : ℕ) (x : X) → slice_get xs place ≡ Some x → some x ≡ false → give x ≡ None) → filter_map give xs ≡ filter_map give (filter some xs)
given_by_some give some [] only = refl
given_by_some {X} {Y} give some (x ∷ xs) only = by (given_by_some give some xs (λ place y at is. only (suc place) y at is)) (some x) refl
  where
    by : filter_map give xs ≡ filter_map give (filter some xs) → (s : Bool) → some x ≡ s → filter_map give (x ∷ xs) ≡ filter_map give (filter some (x ∷ xs))
    by rest true of_ = ap (cons_option (give x)) rest ∙ ap (λ (s : Bool). filter_map give (cond s (x ∷ filter some xs) (filter some xs))) (sym of_)
    by rest false of_ =
        ap (λ (o : Option Y). cons_option o (filter_map give xs)) (only 0 x refl of_) ∙ rest
        ∙ ap (λ (s : Bool). filter_map give (cond s (x ∷ filter some xs) (filter some xs))) (sym of_)

of_ending : (feed : ℕ) (event : Event) → ends feed event ≡ true → is_of_feed feed event ≡ true
of_ending feed (Quoted key odds limit line) is = absurd (cc is)
of_ending feed (Withdrawn key line) is = absurd (cc is)
of_ending feed (Ended ended stop) is = is
of_ending feed (Pinned m) is = absurd (cc is)
of_ending feed (Filed v f) is = absurd (cc is)
of_ending feed (Released v) is = absurd (cc is)

pub tell_of_ends : (rules : List (Option VoidRule)) (allows : List Offer → Finding → Type 0) (history : List Entry) (feed : ℕ) →
    IsLegal rules allows history → has_ended history feed ≡ has_ended (calls (feed + 1) history) feed
tell_of_ends rules allows history feed legal =
    any_of_some (λ (entry : Entry). ends feed entry.event) (λ (entry : Entry). entry.caller == feed + 1) history
    (λ place entry at is. eq-eqb entry.caller (feed + 1) (their_callers rules allows history place entry feed legal at (of_ending feed entry.event is)))
