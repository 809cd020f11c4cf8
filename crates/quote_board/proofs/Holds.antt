-- The map of live pins after one more entry.
use Rattle.std.proofs.Common.{ℕ, ◌≡◌, ◌<◌, true, false, List, [], ◌∷◌, ◌++◌, length, refl, sym, ap, ◌∙◌, Some, None, ⊎_elim, arith}
use Rattle.std.specs.Prelude.{Option, MatchOption, ◌==◌, slice_get}
use Rattle.std.specs.BTreeMap.{is_at}
use Rattle.std.specs.Ordering.{nat_cmp}
use Rattle.std.proofs.lemmas.Bool.{or_from, both_ways}
use Rattle.std.proofs.lemmas.Bool.Decides.{nat_tests}
use Rattle.std.proofs.lemmas.Option.{slice_get_within}
use Rattle.scan_types.specs.declared.rule.VoidRule.{VoidRule}
use Rattle.board_definitions.specs.declared.event.Event.TheVariants.{Pinned}
use Rattle.board_definitions.specs.declared.event.Entry.{Entry}
use Rattle.board_definitions.specs.declared.pin.Pin.{Pin}
use Rattle.board_definitions.specs.Entries.{closes}
use Rattle.board_definitions.specs.Pins.{IsLive, HasNoPin}
use Rattle.board_definitions.specs.Sheets.{sheet}
use Rattle.board_definitions.proofs.Live.{live_stays, sheet_stays}
use Rattle.board_definitions.proofs.More.{live_back, live_new}
use Rattle.board_definitions.proofs.Placed.{some_injective}
use Rattle.quote_board.specs.declared.held.Held.{Held}
use Rattle.quote_board.specs.Kept.{IsHeld}

-- the entry pins no match for the caller
abbrev pub IsNoPinOf : ℕ → Entry → Type 0
IsNoPinOf caller e = (m : List ℕ) → e ≡ record { caller = caller; event = Pinned m } → ⊥

abbrev pub HoldsAt : List (Option VoidRule) → List Entry → ℕ → Option Held → Type 0
HoldsAt rules h caller there = MatchOption there (HasNoPin h caller) (IsHeld rules h caller)

none_stays : (h : List Entry) (e : Entry) (caller : ℕ) → IsNoPinOf caller e → HasNoPin h caller → HasNoPin (h ++ e ∷ []) caller
none_stays h e caller quiet none = λ pin is live.
    ⊎_elim
    (λ (before : IsLive h pin × (closes pin.version e.event ≡ false)). none pin is before.0)
    (λ (last : (pin.version ≡ length h) × (e ≡ record { caller = pin.caller; event = Pinned pin.match_name })).
    quiet pin.match_name (last.1 ∙ ap (λ (c : ℕ). record { caller = c; event = Pinned pin.match_name }) is))
    (live_back h e pin live)

pub version_within : (h : List Entry) (pin : Pin) → IsLive h pin → pin.version < length h
version_within h pin live = slice_get_within h pin.version _ live.pinned

held_stays : (rules : List (Option VoidRule)) (h : List Entry) (e : Entry) (caller : ℕ) (held : Held) → IsNoPinOf caller e → closes held.version e.event ≡ false →
    IsHeld rules h caller held → IsHeld rules (h ++ e ∷ []) caller held
held_stays rules h e caller held quiet stays was =
    let within = version_within h (record { caller = caller; version = held.version; match_name = held.match_name }) was.live in
    record {
      live = live_stays h (e ∷ []) (record { caller = caller; version = held.version; match_name = held.match_name }) was.live (or_from (closes held.version e.event) false stays refl);
      only = λ pin is live.
          ⊎_elim
          (λ (before : IsLive h pin × (closes pin.version e.event ≡ false)). was.only pin is before.0)
          (λ (last : (pin.version ≡ length h) × (e ≡ record { caller = pin.caller; event = Pinned pin.match_name })).
          absurd (quiet pin.match_name (last.1 ∙ ap (λ (c : ℕ). record { caller = c; event = Pinned pin.match_name }) is)))
          (live_back h e pin live);
      sheet_is = was.sheet_is ∙ sym (sheet_stays rules h (e ∷ []) held.version held.match_name (omega (arith, within)));
    }

-- an entry that neither pins for the caller nor closes its pin
pub holds_stay : (rules : List (Option VoidRule)) (h : List Entry) (e : Entry) (caller : ℕ) (there : Option Held) → IsNoPinOf caller e →
    ((held : Held) → IsHeld rules h caller held → closes held.version e.event ≡ false) → HoldsAt rules h caller there → HoldsAt rules (h ++ e ∷ []) caller there
holds_stay rules h e caller None quiet stays was = none_stays h e caller quiet was
holds_stay rules h e caller (Some held) quiet stays was = held_stays rules h e caller held quiet (stays held was) was

-- the caller's pin, once it is made
pub held_new : (rules : List (Option VoidRule)) (h : List Entry) (caller : ℕ) (held : Held) → HasNoPin h caller → held.version ≡ length h →
    held.offers.items ≡ sheet rules (h ++ record { caller = caller; event = Pinned held.match_name } ∷ []) held.version held.match_name →
    IsHeld rules (h ++ record { caller = caller; event = Pinned held.match_name } ∷ []) caller held
held_new rules h caller held none version is =
    let e : Entry = record { caller = caller; event = Pinned held.match_name } in
    record {
      live = live_new h (record { caller = caller; version = held.version; match_name = held.match_name }) version;
      only = λ pin of_ live.
          ⊎_elim
          (λ (before : IsLive h pin × (closes pin.version e.event ≡ false)). absurd (none pin of_ before.0))
          (λ (last : (pin.version ≡ length h) × (e ≡ record { caller = pin.caller; event = Pinned pin.match_name })). last.0 ∙ sym version)
          (live_back h e pin live);
      sheet_is = is;
    }

-- the caller has no pin, once its own is closed
pub none_after : (rules : List (Option VoidRule)) (h : List Entry) (e : Entry) (caller : ℕ) (held : Held) → IsNoPinOf caller e → closes held.version e.event ≡ true →
    IsHeld rules h caller held → HasNoPin (h ++ e ∷ []) caller
none_after rules h e caller held quiet closed was = λ pin is live.
    ⊎_elim
    (λ (before : IsLive h pin × (closes pin.version e.event ≡ false)).
    both_ways _ before.1 (ap (λ (v : ℕ). closes v e.event) (was.only pin is before.0) ∙ closed))
    (λ (last : (pin.version ≡ length h) × (e ≡ record { caller = pin.caller; event = Pinned pin.match_name })).
    quiet pin.match_name (last.1 ∙ ap (λ (c : ℕ). record { caller = c; event = Pinned pin.match_name }) is))
    (live_back h e pin live)

-- two callers' pins have two versions
pub versions_apart : (h : List Entry) (p q : Pin) → IsLive h p → IsLive h q → p.version ≡ q.version → p.caller ≡ q.caller
versions_apart h p q a b same =
    let e : Entry = record { caller = p.caller; event = Pinned p.match_name } in
    let f : Entry = record { caller = q.caller; event = Pinned q.match_name } in
    ap (λ (x : Entry). x.caller) (some_injective e f (sym a.pinned ∙ ap (slice_get h) same ∙ b.pinned))

pub at_caller : (caller q : ℕ) → is_at (nat_cmp caller) q ≡ (caller == q)
at_caller caller q = grind (arith, nat_tests)
