-- What one more entry changes: legality, live pins and due matches.
use Rattle.std.proofs.Common.{ℕ, ◌≡◌, ◌≤◌, ◌<◌, inl, inr, ⊎_elim, Bool, true, false, cond, List, [], ◌∷◌, ◌++◌, length, take, drop, refl, sym, ap, ◌∙◌, Some, None, arith, subst, length-append}
use Rattle.std.specs.Prelude.{◌⊎◌, ◌||◌, Option, slice_get, IsSomeAnd, MatchOption, IsTrue}
use Rattle.std.specs.List.{list_any}
use Rattle.std.specs.Option.{option_or}
use Rattle.std.proofs.lemmas.List.{take-append-le, drop-append-le}
use Rattle.std.proofs.Math.Seq.{drop-append_seam, take-append_seam}
use Rattle.std.proofs.lemmas.List.Folds.{list_any-append}
use Rattle.std.proofs.lemmas.Bool.{or_from, or_parts, cases_lt, both_ways}
use Rattle.std.proofs.lemmas.Option.{slice_get_within}
use Rattle.std.proofs.lemmas.Slice.Eq.{bytes_eq-Decides}
use Rattle.scan_types.specs.declared.rule.VoidRule.{VoidRule}
use Rattle.scan_types.specs.declared.offer.Offer.{Offer}
use Rattle.finding_definitions.specs.declared.finding.Finding.{Finding}
use Rattle.board_definitions.specs.declared.event.Event.{Event}
use Rattle.board_definitions.specs.declared.event.Event.TheVariants.{Quoted, Withdrawn, Ended, Pinned, Filed, Released}
use Rattle.board_definitions.specs.declared.event.Entry.{Entry}
use Rattle.board_definitions.specs.declared.pin.Pin.{Pin}
use Rattle.board_definitions.specs.Entries.{changes, pins, closes}
use Rattle.board_definitions.specs.Pins.{IsLive, IsUnpinnedChange, IsDue, IsDueSince}
use Rattle.board_definitions.specs.Legal.{IsLegal, MayFollow}
use Rattle.board_definitions.proofs.Live.{slice_get-before, slice_get-last}
use Rattle.board_definitions.proofs.Placed.{some_injective}

-- an entry of the longer history is one of the shorter, or the last
pub one_of : (h : List Entry) (e : Entry) (place : ℕ) (x : Entry) → slice_get (h ++ e ∷ []) place ≡ Some x →
    ((place < length h) × (slice_get h place ≡ Some x)) ⊎ ((place ≡ length h) × (e ≡ x))
one_of h e place x at =
    ⊎_elim
    (λ (before : place < length h). inl (before, sym (slice_get-before h (e ∷ []) place before) ∙ at))
    (λ (past : length h ≤ place).
    let within : place < length (h ++ e ∷ []) = slice_get_within (h ++ e ∷ []) place x at in
    let last : place ≡ length h = omega (arith, within, past, length-append h (e ∷ [])) in
    inr (last, some_injective e x (sym (slice_get-last h e) ∙ ap (slice_get (h ++ e ∷ [])) (sym last) ∙ at)))
    (cases_lt place (length h))

-- a legal entry keeps the history legal
pub legal_more : (rules : List (Option VoidRule)) (allows : List Offer → Finding → Type 0) (h : List Entry) (e : Entry) →
    IsLegal rules allows h → MayFollow rules allows h e → IsLegal rules allows (h ++ e ∷ [])
unfolding IsLegal
legal_more rules allows h e legal may = λ place x at.
    ⊎_elim
    (λ (before : (place < length h) × (slice_get h place ≡ Some x)).
    let P : List Entry → Type 0 = λ xs. MayFollow rules allows xs x in
    subst P (sym (take-append-le place h (e ∷ []) (omega (arith, before.0)))) (legal place x before.1))
    (λ (last : (place ≡ length h) × (e ≡ x)).
    let P : List Entry → Type 0 = λ xs. MayFollow rules allows xs x in
    let Q : Entry → Type 0 = λ y. MayFollow rules allows h y in
    subst P (sym (take-append_seam h (e ∷ [])) ∙ ap (λ (k : ℕ). take k (h ++ e ∷ [])) (sym last.0)) (subst Q last.1 may))
    (one_of h e place x at)

pub nothing_is_legal : (rules : List (Option VoidRule)) (allows : List Offer → Finding → Type 0) → IsLegal rules allows []
unfolding IsLegal
nothing_is_legal rules allows = λ place x at. absurd (cc at)

-- a test of the entries from a place on, with one more entry
any_more : (test : Entry → Bool) (h : List Entry) (e : Entry) (place : ℕ) → place ≤ length h →
    list_any test (drop place (h ++ e ∷ [])) ≡ (list_any test (drop place h) || list_any test (e ∷ []))
any_more test h e place within = ap (list_any test) (drop-append-le place h (e ∷ []) within) ∙ list_any-append test (drop place h) (e ∷ [])

one_any : (b : Bool) → b ≡ false → (b || false) ≡ false
one_any b h = or_from b false h refl

-- a live pin of the longer history was live, or is the last entry
pub live_back : (h : List Entry) (e : Entry) (pin : Pin) → IsLive (h ++ e ∷ []) pin →
    (IsLive h pin × (closes pin.version e.event ≡ false)) ⊎ ((pin.version ≡ length h) × (e ≡ record { caller = pin.caller; event = Pinned pin.match_name }))
live_back h e pin live =
    ⊎_elim
    (λ (before : (pin.version < length h) × (slice_get h pin.version ≡ Some (record { caller = pin.caller; event = Pinned pin.match_name }))).
    let both = or_parts (list_any (λ (x : Entry). closes pin.version x.event) (drop pin.version h)) (list_any (λ (x : Entry). closes pin.version x.event) (e ∷ []))
    (sym (any_more (λ (x : Entry). closes pin.version x.event) h e pin.version (omega (arith, before.0))) ∙ live.open_) in
    let last = or_parts (closes pin.version e.event) false both.1 in
    inl (record { pinned = before.1; open_ = both.0 }, last.0))
    (λ (last : (pin.version ≡ length h) × (e ≡ record { caller = pin.caller; event = Pinned pin.match_name })). inr last)
    (one_of h e pin.version (record { caller = pin.caller; event = Pinned pin.match_name }) live.pinned)

-- a pin is live once it is made
pub live_new : (h : List Entry) (pin : Pin) → pin.version ≡ length h → IsLive (h ++ record { caller = pin.caller; event = Pinned pin.match_name } ∷ []) pin
live_new h pin is =
    let e : Entry = record { caller = pin.caller; event = Pinned pin.match_name } in
    record {
      pinned = ap (slice_get (h ++ e ∷ [])) is ∙ slice_get-last h e;
      open_ = ap (λ (k : ℕ). list_any (λ (x : Entry). closes pin.version x.event) (drop k (h ++ e ∷ []))) is
          ∙ ap (list_any (λ (x : Entry). closes pin.version x.event)) (drop-append_seam h (e ∷ []));
    }

-- what changes a match does not pin it
changes_apart : (m : List ℕ) (event : Event) → changes m event ≡ true → pins m event ≡ false
changes_apart m (Quoted key odds limit line) h = refl
changes_apart m (Withdrawn key line) h = refl
changes_apart m (Ended feed stop) h = absurd (cc h)
changes_apart m (Pinned pinned) h = absurd (cc h)
changes_apart m (Filed version finding) h = absurd (cc h)
changes_apart m (Released version) h = absurd (cc h)

some_and : {X : Type 0} (P : X → Type 0) (o : Option X) → IsSomeAnd o P → (x : X) × (o ≡ Some x) × P x
some_and P None h = absurd h
some_and P (Some x) h = (x, refl, h)

some_and_from : {X : Type 0} (P : X → Type 0) (o : Option X) (x : X) → o ≡ Some x → P x → IsSomeAnd o P
some_and_from {X} P o x e h = let Q : Option X → Type 0 = λ q. IsSomeAnd q P in subst Q (sym e) h

-- the entry of a change
pub change_at : (h : List Entry) (m : List ℕ) (place : ℕ) → IsUnpinnedChange h m place → (x : Entry) × (slice_get h place ≡ Some x) × (changes m x.event ≡ true)
change_at h m place was = some_and (λ (x : Entry). IsTrue (changes m x.event)) (slice_get h place) was.change

pub change_within : (h : List Entry) (m : List ℕ) (place : ℕ) → IsUnpinnedChange h m place → place < length h
change_within h m place was = let at = change_at h m place was in slice_get_within h place at.0 at.1

-- an unpinned change stays one while its match is not pinned
unpinned_stays : (h : List Entry) (e : Entry) (m : List ℕ) (place : ℕ) → IsUnpinnedChange h m place → pins m e.event ≡ false → IsUnpinnedChange (h ++ e ∷ []) m place
unpinned_stays h e m place was none =
    let within : place < length h = change_within h m place was in
    record {
      change = let P : Option Entry → Type 0 = λ o. IsSomeAnd o (λ x. IsTrue (changes m x.event)) in subst P (sym (slice_get-before h (e ∷ []) place within)) was.change;
      unpinned = any_more (λ (x : Entry). pins m x.event) h e place (omega (arith, within)) ∙ or_from _ _ was.unpinned (one_any _ none);
    }

-- an unpinned change of the longer history was one, or is the last entry
pub unpinned_back : (h : List Entry) (e : Entry) (m : List ℕ) (place : ℕ) → IsUnpinnedChange (h ++ e ∷ []) m place →
    (IsUnpinnedChange h m place × (pins m e.event ≡ false)) ⊎ ((place ≡ length h) × (changes m e.event ≡ true))
unpinned_back h e m place now =
    let at = change_at (h ++ e ∷ []) m place now in
    ⊎_elim
    (λ (before : (place < length h) × (slice_get h place ≡ Some at.0)).
    let both = or_parts (list_any (λ (x : Entry). pins m x.event) (drop place h)) (list_any (λ (x : Entry). pins m x.event) (e ∷ []))
    (sym (any_more (λ (x : Entry). pins m x.event) h e place (omega (arith, before.0))) ∙ now.unpinned) in
    let last = or_parts (pins m e.event) false both.1 in
    inl (
      record {
        change = some_and_from (λ (x : Entry). IsTrue (changes m x.event)) (slice_get h place) at.0 before.1 at.2;
        unpinned = both.0;
      },
      last.0,
    ))
    (λ (last : (place ≡ length h) × (e ≡ at.0)). inr (last.0, ap (λ (x : Entry). changes m x.event) last.1 ∙ at.2))
    (one_of h e place at.0 at.1)

-- a change is unpinned when it is made
pub unpinned_new : (h : List Entry) (e : Entry) (m : List ℕ) → changes m e.event ≡ true → IsUnpinnedChange (h ++ e ∷ []) m (length h)
unpinned_new h e m change =
    record {
      change = some_and_from (λ (x : Entry). IsTrue (changes m x.event)) (slice_get (h ++ e ∷ []) (length h)) e (slice_get-last h e) change;
      unpinned = ap (list_any (λ (x : Entry). pins m x.event)) (drop-append_seam h (e ∷ [])) ∙ one_any _ (changes_apart m e.event change);
    }

-- what is known of a match: since when it is due
abbrev pub WaitsSince : List Entry → List ℕ → Option ℕ → Type 0
WaitsSince h m since = MatchOption since (IsDue h m → ⊥) (IsDueSince h m)

-- a match that is due stays so while it is not pinned
due_stays : (h : List Entry) (e : Entry) (m : List ℕ) (place : ℕ) → pins m e.event ≡ false → IsDueSince h m place → IsDueSince (h ++ e ∷ []) m place
due_stays h e m place none was =
    record {
      change = unpinned_stays h e m place was.change none;
      first = λ other now. ⊎_elim
          (λ (before : IsUnpinnedChange h m other × (pins m e.event ≡ false)). was.first other before.0)
          (λ (last : (other ≡ length h) × (changes m e.event ≡ true)). let within = change_within h m place was.change in omega (arith, within, last.0))
          (unpinned_back h e m other now);
    }

-- after an entry that changes the match, or leaves it alone
pub waits_changed : (h : List Entry) (e : Entry) (m : List ℕ) (b : Bool) (since : Option ℕ) → changes m e.event ≡ b → pins m e.event ≡ false →
    WaitsSince h m since → WaitsSince (h ++ e ∷ []) m (cond b (option_or since (Some (length h))) since)
waits_changed h e m true None change none was =
    record {
      change = unpinned_new h e m change;
      first = λ other now. ⊎_elim
          (λ (before : IsUnpinnedChange h m other × (pins m e.event ≡ false)). absurd (was (other, before.0)))
          (λ (last : (other ≡ length h) × (changes m e.event ≡ true)). omega (arith, last.0))
          (unpinned_back h e m other now);
    }
waits_changed h e m true (Some place) change none was = due_stays h e m place none was
waits_changed h e m false None change none was = λ due. ⊎_elim
    (λ (before : IsUnpinnedChange h m due.0 × (pins m e.event ≡ false)). was (due.0, before.0))
    (λ (last : (due.0 ≡ length h) × (changes m e.event ≡ true)). both_ways _ change last.1)
    (unpinned_back h e m due.0 due.1)
waits_changed h e m false (Some place) change none was = due_stays h e m place none was

-- after an entry that pins the match, or another
pub waits_pinned : (h : List Entry) (e : Entry) (m : List ℕ) (b : Bool) (since : Option ℕ) → changes m e.event ≡ false → pins m e.event ≡ b →
    WaitsSince h m since → WaitsSince (h ++ e ∷ []) m (cond b None since)
waits_pinned h e m true since change pin was = λ due. ⊎_elim
    (λ (before : IsUnpinnedChange h m due.0 × (pins m e.event ≡ false)). both_ways _ before.1 pin)
    (λ (last : (due.0 ≡ length h) × (changes m e.event ≡ true)). both_ways _ change last.1)
    (unpinned_back h e m due.0 due.1)
waits_pinned h e m false since change pin was = waits_changed h e m false since change pin was

-- after an entry that does neither
pub waits_kept : (h : List Entry) (e : Entry) (m : List ℕ) (since : Option ℕ) → changes m e.event ≡ false → pins m e.event ≡ false →
    WaitsSince h m since → WaitsSince (h ++ e ∷ []) m since
waits_kept h e m since change none was = waits_changed h e m false since change none was

one_match : (a b : List ℕ) (event : Event) → changes a event ≡ true → changes b event ≡ true → a ≡ b
one_match a b (Quoted key odds limit line) p q = sym ((bytes_eq-Decides key.match_name a).0 p) ∙ (bytes_eq-Decides key.match_name b).0 q
one_match a b (Withdrawn key line) p q = sym ((bytes_eq-Decides key.match_name a).0 p) ∙ (bytes_eq-Decides key.match_name b).0 q
one_match a b (Ended feed stop) p q = absurd (cc p)
one_match a b (Pinned pinned) p q = absurd (cc p)
one_match a b (Filed version finding) p q = absurd (cc p)
one_match a b (Released version) p q = absurd (cc p)

-- two matches are not due since one entry
pub due_apart : (h : List Entry) (a b : List ℕ) (place : ℕ) → IsDueSince h a place → IsDueSince h b place → a ≡ b
due_apart h a b place p q =
    let x = change_at h a place p.change in
    let y = change_at h b place q.change in
    let same : x.0 ≡ y.0 = some_injective x.0 y.0 (sym x.1 ∙ y.1) in
    one_match a b x.0.event x.2 (ap (λ (z : Entry). changes b z.event) same ∙ y.2)
