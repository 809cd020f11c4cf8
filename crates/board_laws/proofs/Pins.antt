-- Pins of one caller in a legal history.
use Rattle.std.proofs.Common.{ℕ, ◌≡◌, ◌≢◌, ◌≤◌, ◌<◌, ⊎_elim, Bool, true, false, cond, List, [], ◌∷◌, ◌++◌, length, take, drop, refl, sym, ap, ◌∙◌, subst, arith, zero, suc, Some, append-nil, eq-eqb, ne_eqb}
use Rattle.std.specs.Prelude.{Option, slice_get, ◌==◌, ◌||◌, ◌+◌, filter, find, reverse, min}
use Rattle.std.specs.List.{list_any}
use Rattle.std.specs.Option.{option_map_or}
use Rattle.std.proofs.lemmas.Bool.{cases_Bool, cases_lt, cases_eq, or_parts}
use Rattle.std.proofs.lemmas.Bool.Decides.{Decides-eqb}
use Rattle.std.proofs.lemmas.List.{take_all, take-append-drop, take-append-le, drop-append-le, reverse-append, length-take}
use Rattle.std.proofs.lemmas.List.Folds.{list_any-append}
use Rattle.std.proofs.lemmas.List.Elements.{filter-append}
use Rattle.std.proofs.lemmas.Option.{slice_get_within}
use Rattle.scan_types.specs.declared.rule.VoidRule.{VoidRule}
use Rattle.scan_types.specs.declared.offer.Offer.{Offer}
use Rattle.finding_definitions.specs.declared.finding.Finding.{Finding}
use Rattle.board_definitions.specs.declared.event.Event.{Event}
use Rattle.board_definitions.specs.declared.event.Event.TheVariants.{Quoted, Withdrawn, Ended, Pinned, Filed, Released}
use Rattle.board_definitions.specs.declared.event.Entry.{Entry}
use Rattle.board_definitions.specs.declared.pin.Pin.{Pin}
use Rattle.board_definitions.specs.Entries.{closes}
use Rattle.board_definitions.specs.Pins.{IsLive, HasNoPin}
use Rattle.board_definitions.specs.Legal.{IsLegal, MayFollow}
use Rattle.board_definitions.proofs.Live.{take_next, live_stays, slice_get-before}
use Rattle.board_definitions.proofs.More.{live_back}
use Rattle.board_definitions.proofs.Placed.{some_injective}
use Rattle.board_laws.specs.Callers.{calls, holds_pin, is_pin, is_about_pins}

clash : (b : Bool) → b ≡ true → b ≡ false → ⊥
clash true e h = cc h
clash false e h = cc e

slice_get-behind : {X : Type 0} (xs ys : List X) (k : ℕ) → slice_get (xs ++ ys) (length xs + k) ≡ slice_get ys k
slice_get-behind [] ys k = ap (slice_get ys) (let e : 0 + k ≡ k = omega arith in e)
slice_get-behind (x ∷ xs) ys k = ap (slice_get (x ∷ xs ++ ys)) (let e : length (x ∷ xs) + k ≡ suc (length xs + k) = omega arith in e) ∙ slice_get-behind xs ys k

-- entries of a caller, one more

pub calls_own : (caller : ℕ) (history : List Entry) (e : Entry) → e.caller ≡ caller → calls caller (history ++ e ∷ []) ≡ calls caller history ++ e ∷ []
calls_own caller history e is =
    filter-append (λ (x : Entry). x.caller == caller) history (e ∷ [])
    ∙ ap (λ (b : Bool). calls caller history ++ cond b (e ∷ []) []) (eq-eqb e.caller caller is)

pub calls_other : (caller : ℕ) (history : List Entry) (e : Entry) → e.caller ≢ caller → calls caller (history ++ e ∷ []) ≡ calls caller history
calls_other caller history e is_not =
    filter-append (λ (x : Entry). x.caller == caller) history (e ∷ [])
    ∙ ap (λ (b : Bool). calls caller history ++ cond b (e ∷ []) []) (ne_eqb e.caller caller is_not)
    ∙ append-nil (calls caller history)

pub calls_joined : (caller : ℕ) (history more : List Entry) → calls caller (history ++ more) ≡ calls caller history ++ calls caller more
calls_joined caller history more = filter-append (λ (x : Entry). x.caller == caller) history more

map_or_cond : {X Y : Type 0} (g : X → Y) (b : Bool) (x : X) (o : Option X) (d : Y) → option_map_or g (cond b (Some x) o) d ≡ cond b (g x) (option_map_or g o d)
map_or_cond g true x o d = refl
map_or_cond g false x o d = refl

pub holds_more : (entries : List Entry) (e : Entry) → holds_pin (entries ++ e ∷ []) ≡ cond (is_about_pins e.event) (is_pin e.event) (holds_pin entries)
holds_more entries e =
    ap (λ (xs : List Entry). option_map_or (λ (entry : Entry). is_pin entry.event) (find (λ (entry : Entry). is_about_pins entry.event) xs) false) (reverse-append entries (e ∷ []))
    ∙ map_or_cond (λ (entry : Entry). is_pin entry.event) (is_about_pins e.event) e (find (λ (entry : Entry). is_about_pins entry.event) (reverse entries)) false

-- histories and their fronts

pub front_is_legal : (rules : List (Option VoidRule)) (allows : List Offer → Finding → Type 0) (history more : List Entry) → IsLegal rules allows (history ++ more) → IsLegal rules allows history
unfolding IsLegal
front_is_legal rules allows history more legal = λ place entry at.
    let within : place < length history = slice_get_within history place entry at in
    let P : List Entry → Type 0 = λ xs. MayFollow rules allows xs entry in
    subst P (take-append-le place history more (omega (arith, within))) (legal place entry (slice_get-before history more place within ∙ at))

pub taken_is_legal : (rules : List (Option VoidRule)) (allows : List Offer → Finding → Type 0) (history : List Entry) (n : ℕ) → IsLegal rules allows history → IsLegal rules allows (take n history)
taken_is_legal rules allows history n legal = front_is_legal rules allows (take n history) (drop n history) (subst (IsLegal rules allows) (sym (take-append-drop n history)) legal)

-- what is found in a front stands in the whole
pub found_in_front : (history : List Entry) (n place : ℕ) (entry : Entry) → slice_get (take n history) place ≡ Some entry → slice_get history place ≡ Some entry
found_in_front history n place entry at =
    ap (λ (xs : List Entry). slice_get xs place) (sym (take-append-drop n history))
    ∙ slice_get-before (take n history) (drop n history) place (slice_get_within (take n history) place entry at)
    ∙ at

-- a pin that is live after more entries was live, once it was made
pub live_earlier : (history more : List Entry) (pin : Pin) → pin.version < length history → IsLive (history ++ more) pin → IsLive history pin
live_earlier history more pin within live = record {
  pinned = sym (slice_get-before history more pin.version within) ∙ live.pinned;
  open_ = (or_parts (list_any (λ (entry : Entry). closes pin.version entry.event) (drop pin.version history)) (list_any (λ (entry : Entry). closes pin.version entry.event) more)
      (sym (list_any-append (λ (entry : Entry). closes pin.version entry.event) (drop pin.version history) more)
      ∙ ap (list_any (λ (entry : Entry). closes pin.version entry.event)) (sym (drop-append-le pin.version history more (omega (arith, within))))
      ∙ live.open_)).0;
}

live_in_front : (history : List Entry) (n : ℕ) (pin : Pin) → pin.version < n → n ≤ length history → IsLive history pin → IsLive (take n history) pin
live_in_front history n pin early within live =
    let long : length (take n history) ≡ min n (length history) = length-take n history in
    live_earlier (take n history) (drop n history) pin (omega (arith, long, early, within)) (subst (λ (xs : List Entry). IsLive xs pin) (sym (take-append-drop n history)) live)

-- a caller has one pin

not_later : (rules : List (Option VoidRule)) (allows : List Offer → Finding → Type 0) (history : List Entry) (one other : Pin) →
    IsLegal rules allows history → IsLive history one → IsLive history other → one.caller ≡ other.caller → one.version < other.version → ⊥
unfolding IsLegal
not_later rules allows history one other legal live_one live_other same early =
    let within : other.version < length history = slice_get_within history other.version _ live_other.pinned in
    legal other.version (record { caller = other.caller; event = Pinned other.match_name }) live_other.pinned one same
    (live_in_front history other.version one early (omega (arith, within)) live_one)

pub same_version : (rules : List (Option VoidRule)) (allows : List Offer → Finding → Type 0) (history : List Entry) (one other : Pin) →
    IsLegal rules allows history → IsLive history one → IsLive history other → one.caller ≡ other.caller → one.version ≡ other.version
same_version rules allows history one other legal live_one live_other same =
    ⊎_elim
    (λ (early : one.version < other.version). absurd (not_later rules allows history one other legal live_one live_other same early))
    (λ (not_early : other.version ≤ one.version).
    ⊎_elim
    (λ (late : other.version < one.version). absurd (not_later rules allows history other one legal live_other live_one (sym same) late))
    (λ (not_late : one.version ≤ other.version). omega (arith, not_early, not_late))
    (cases_lt other.version one.version))
    (cases_lt one.version other.version)

abbrev pinned_name : Event → List ℕ
pinned_name (Pinned match_name) = match_name
pinned_name _ = []

pub one_pin : (rules : List (Option VoidRule)) (allows : List Offer → Finding → Type 0) (history : List Entry) (one other : Pin) →
    IsLegal rules allows history → IsLive history one → IsLive history other → one.caller ≡ other.caller → one ≡ other
one_pin rules allows history one other legal live_one live_other same =
    let version = same_version rules allows history one other legal live_one live_other same in
    let entries : record { caller = one.caller; event = Pinned one.match_name } ≡ record { caller = other.caller; event = Pinned other.match_name } =
    some_injective (record { caller = one.caller; event = Pinned one.match_name }) (record { caller = other.caller; event = Pinned other.match_name })
    (sym live_one.pinned ∙ ap (slice_get history) version ∙ live_other.pinned) in
    let name : one.match_name ≡ other.match_name = ap (λ (e : Entry). pinned_name e.event) entries in
    let P : ℕ → ℕ → List ℕ → Pin = λ c v m. record { caller = c; version = v; match_name = m } in
    ap (λ c. P c one.version one.match_name) same ∙ ap (λ v. P other.caller v one.match_name) version ∙ ap (λ m. P other.caller other.version m) name

-- who ends a pin has made it

any_found : {X : Type 0} (test : X → Bool) (xs : List X) → list_any test xs ≡ true → (place : ℕ) × (x : X) × (slice_get xs place ≡ Some x) × (test x ≡ true)
any_found test [] some = absurd (cc some)
any_found {X} test (x ∷ xs) some = by (any_found test xs) (test x) refl
  where
    by : (list_any test xs ≡ true → (place : ℕ) × (y : X) × (slice_get xs place ≡ Some y) × (test y ≡ true)) → (b : Bool) → test x ≡ b → (place : ℕ) × (y : X) × (slice_get (x ∷ xs) place ≡ Some y) × (test y ≡ true)
    by found true h = (0, x, refl, h)
    by found false h =
        let rest = found (ap (λ (b : Bool). b || list_any test xs) (sym h) ∙ some) in
        (suc rest.0, rest.1, rest.2, rest.3)

none_kept : {X : Type 0} (test : X → Bool) (xs : List X) (place : ℕ) (x : X) → slice_get xs place ≡ Some x → test x ≡ true → filter test xs ≡ [] → ⊥
none_kept test [] place x at is none = absurd (cc at)
none_kept {X} test (y ∷ ys) place x at is none = by (λ k at_ none_. none_kept test ys k x at_ is none_) (test y) refl place at
  where
    by : ((k : ℕ) → slice_get ys k ≡ Some x → filter test ys ≡ [] → ⊥) → (b : Bool) → test y ≡ b → (k : ℕ) → slice_get (y ∷ ys) k ≡ Some x → ⊥
    by rest true h k at = let e : y ∷ filter test ys ≡ [] = ap (λ (b : Bool). cond b (y ∷ filter test ys) (filter test ys)) (sym h) ∙ none in cc e
    by rest false h zero at = let same : y ≡ x = cc at in clash (test x) is (ap test (sym same) ∙ h)
    by rest false h (suc k) at = rest k at (ap (λ (b : Bool). cond b (y ∷ filter test ys) (filter test ys)) (sym h) ∙ none)

-- the entry that ends a pin is of the caller that made it
pub who_closes : (rules : List (Option VoidRule)) (allows : List Offer → Finding → Type 0) (history : List Entry) (place : ℕ) (entry : Entry) (version : ℕ) →
    IsLegal rules allows history → slice_get history place ≡ Some entry → closes version entry.event ≡ true →
    (m : List ℕ) × (slice_get history version ≡ Some (record { caller = entry.caller; event = Pinned m }))
unfolding IsLegal
who_closes rules allows history place entry version legal at closed = by entry.event refl
  where
    by : (event : Event) → entry.event ≡ event → (m : List ℕ) × (slice_get history version ≡ Some (record { caller = entry.caller; event = Pinned m }))
    by (Filed filed finding) is =
        let same : filed ≡ version = (Decides-eqb filed version).0 (ap (closes version) (sym is) ∙ closed) in
        let may : MayFollow rules allows (take place history) (record { caller = entry.caller; event = Filed filed finding }) =
        legal place (record { caller = entry.caller; event = Filed filed finding }) (at ∙ ap (λ (x : Event). Some (record { caller = entry.caller; event = x })) is) in
        (may.0, ap (slice_get history) (sym same) ∙ found_in_front history place filed _ may.1.live.pinned)
    by (Released released) is =
        let same : released ≡ version = (Decides-eqb released version).0 (ap (closes version) (sym is) ∙ closed) in
        let may : MayFollow rules allows (take place history) (record { caller = entry.caller; event = Released released }) =
        legal place (record { caller = entry.caller; event = Released released }) (at ∙ ap (λ (x : Event). Some (record { caller = entry.caller; event = x })) is) in
        (may.0, ap (slice_get history) (sym same) ∙ found_in_front history place released _ may.1.pinned)
    by (Quoted key odds limit line) is = absurd (let h : false ≡ true = ap (closes version) (sym is) ∙ closed in cc h)
    by (Withdrawn key line) is = absurd (let h : false ≡ true = ap (closes version) (sym is) ∙ closed in cc h)
    by (Ended feed stop) is = absurd (let h : false ≡ true = ap (closes version) (sym is) ∙ closed in cc h)
    by (Pinned m) is = absurd (let h : false ≡ true = ap (closes version) (sym is) ∙ closed in cc h)

pub others_keep : (rules : List (Option VoidRule)) (allows : List Offer → Finding → Type 0) (history more : List Entry) (pin : Pin) →
    IsLegal rules allows (history ++ more) → IsLive history pin → calls pin.caller more ≡ [] → IsLive (history ++ more) pin
others_keep rules allows history more pin legal live none =
    ⊎_elim
    (λ (some : list_any (λ (entry : Entry). closes pin.version entry.event) more ≡ true).
    let found = any_found (λ (entry : Entry). closes pin.version entry.event) more some in
    let at : slice_get (history ++ more) (length history + found.0) ≡ Some found.1 = slice_get-behind history more found.0 ∙ found.2 in
    let made = who_closes rules allows (history ++ more) (length history + found.0) found.1 pin.version legal at found.3 in
    let within : pin.version < length history = slice_get_within history pin.version _ live.pinned in
    let entries : record { caller = found.1.caller; event = Pinned made.0 } ≡ record { caller = pin.caller; event = Pinned pin.match_name } =
    some_injective (record { caller = found.1.caller; event = Pinned made.0 }) (record { caller = pin.caller; event = Pinned pin.match_name })
    (sym made.1 ∙ slice_get-before history more pin.version within ∙ live.pinned) in
    let caller : found.1.caller ≡ pin.caller = ap (λ (e : Entry). e.caller) entries in
    absurd (none_kept (λ (entry : Entry). entry.caller == pin.caller) more found.0 found.1 found.2 (eq-eqb found.1.caller pin.caller caller) none))
    (λ (not_some : list_any (λ (entry : Entry). closes pin.version entry.event) more ≡ false). live_stays history more pin live not_some)
    (cases_Bool (list_any (λ (entry : Entry). closes pin.version entry.event) more))

-- a caller's own entries tell whether it holds a pin

-- the caller has no pin in these entries if its own hold none
abbrev Told : ℕ → List Entry → Type 0
Told caller history = holds_pin (calls caller history) ≡ false → HasNoPin history caller

no_pin_stays : (h : List Entry) (e : Entry) (caller : ℕ) → ((m : List ℕ) → e ≡ record { caller = caller; event = Pinned m } → ⊥) → HasNoPin h caller → HasNoPin (h ++ e ∷ []) caller
no_pin_stays h e caller other none = λ pin of_ live. ⊎_elim
    (λ (was : IsLive h pin × (closes pin.version e.event ≡ false)). none pin of_ was.0)
    (λ (new : (pin.version ≡ length h) × (e ≡ record { caller = pin.caller; event = Pinned pin.match_name })).
    other pin.match_name (new.1 ∙ ap (λ (c : ℕ). record { caller = c; event = Pinned pin.match_name }) of_))
    (live_back h e pin live)

pub no_pin_of_another : (h : List Entry) (e : Entry) (caller : ℕ) → e.caller ≢ caller → HasNoPin h caller → HasNoPin (h ++ e ∷ []) caller
no_pin_of_another h e caller other none = no_pin_stays h e caller (λ m is. other (ap (λ (x : Entry). x.caller) is)) none

closed_now : (rules : List (Option VoidRule)) (allows : List Offer → Finding → Type 0) (h : List Entry) (e : Entry) (caller version : ℕ) (m : List ℕ) →
    IsLegal rules allows h → IsLive h (record { caller = caller; version = version; match_name = m }) → closes version e.event ≡ true → is_pin e.event ≡ false →
    HasNoPin (h ++ e ∷ []) caller
closed_now rules allows h e caller version m legal live closed quiet = λ pin of_ now. ⊎_elim
    (λ (was : IsLive h pin × (closes pin.version e.event ≡ false)).
    let same : pin.version ≡ version = same_version rules allows h pin (record { caller = caller; version = version; match_name = m }) legal was.0 live of_ in
    clash (closes pin.version e.event) (ap (λ (v : ℕ). closes v e.event) same ∙ closed) was.1)
    (λ (new : (pin.version ≡ length h) × (e ≡ record { caller = pin.caller; event = Pinned pin.match_name })).
    clash (is_pin e.event) (ap (λ (x : Entry). is_pin x.event) new.1) quiet)
    (live_back h e pin now)

own_more : (rules : List (Option VoidRule)) (allows : List Offer → Finding → Type 0) (h : List Entry) (caller : ℕ) (event : Event) →
    IsLegal rules allows h → MayFollow rules allows h (record { caller = caller; event = event }) → Told caller h → Told caller (h ++ record { caller = caller; event = event } ∷ [])
own_more rules allows h caller event legal may told now = by event may refl
  where
    e : Entry
    e = record { caller = caller; event = event }

    says : holds_pin (calls caller h ++ e ∷ []) ≡ false
    says = ap holds_pin (sym (calls_own caller h e refl)) ∙ now

    step : cond (is_about_pins event) (is_pin event) (holds_pin (calls caller h)) ≡ false
    step = sym (holds_more (calls caller h) e) ∙ says

    Goal : Event → Type 0
    Goal ev = HasNoPin (h ++ record { caller = caller; event = ev } ∷ []) caller

    aside : (ev : Event) → event ≡ ev → is_about_pins ev ≡ false → is_pin ev ≡ false → HasNoPin (h ++ e ∷ []) caller
    aside ev is about pin =
        no_pin_stays h e caller (λ m same. clash (is_pin ev) (ap is_pin (sym is) ∙ ap (λ (x : Entry). is_pin x.event) same) pin)
        (told (ap (λ (b : Bool). cond b (is_pin event) (holds_pin (calls caller h))) (sym (ap is_about_pins is ∙ about)) ∙ step))

    by : (ev : Event) → MayFollow rules allows h (record { caller = caller; event = ev }) → event ≡ ev → HasNoPin (h ++ e ∷ []) caller
    by (Pinned m) may is = absurd (let c : true ≡ false = ap (λ (x : Event). cond (is_about_pins x) (is_pin x) (holds_pin (calls caller h))) (sym is) ∙ step in cc c)
    by (Filed v f) may is = subst Goal (sym is) (closed_now rules allows h (record { caller = caller; event = Filed v f }) caller v may.0 legal may.1.live (eq-eqb v v refl) refl)
    by (Released v) may is = subst Goal (sym is) (closed_now rules allows h (record { caller = caller; event = Released v }) caller v may.0 legal may.1 (eq-eqb v v refl) refl)
    by (Quoted key odds limit line) may is = aside (Quoted key odds limit line) is refl refl
    by (Withdrawn key line) may is = aside (Withdrawn key line) is refl refl
    by (Ended feed stop) may is = aside (Ended feed stop) is refl refl

told_more : (rules : List (Option VoidRule)) (allows : List Offer → Finding → Type 0) (h : List Entry) (e : Entry) (caller : ℕ) →
    IsLegal rules allows h → MayFollow rules allows h e → Told caller h → Told caller (h ++ e ∷ [])
told_more rules allows h e caller legal may told = ⊎_elim
    (λ (own : e.caller ≡ caller).
    let P : ℕ → Type 0 = λ c. Told c h → Told c (h ++ e ∷ []) in
    subst P own (own_more rules allows h e.caller e.event legal may) told)
    (λ (other : e.caller ≡ caller → ⊥). λ now. no_pin_of_another h e caller other (told (ap holds_pin (sym (calls_other caller h e other)) ∙ now)))
    (cases_eq e.caller caller)

told_upto : (rules : List (Option VoidRule)) (allows : List Offer → Finding → Type 0) (history : List Entry) (caller : ℕ) → IsLegal rules allows history →
    (n : ℕ) → n ≤ length history → Told caller (take n history)
unfolding IsLegal
told_upto rules allows history caller legal zero within = λ now pin of_ live. absurd (let at = live.pinned in cc at)
told_upto rules allows history caller legal (suc n) within =
    let next = take_next history n (omega (arith, within)) in
    subst (Told caller) (sym next.2)
    (told_more rules allows (take n history) next.0 caller (taken_is_legal rules allows history n legal) (legal n next.0 next.1)
    (told_upto rules allows history caller legal n (omega (arith, within))))

pub tell_of_pins : (rules : List (Option VoidRule)) (allows : List Offer → Finding → Type 0) (history : List Entry) (caller : ℕ) →
    IsLegal rules allows history → holds_pin (calls caller history) ≡ false → HasNoPin history caller
tell_of_pins rules allows history caller legal =
    subst (Told caller) (take_all (length history) history (omega arith)) (told_upto rules allows history caller legal (length history) (omega arith))
