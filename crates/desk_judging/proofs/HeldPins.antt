-- Which pins a caller holds after one more entry.
use Rattle.std.proofs.Common.{◌≡◌, ℕ, Bool, true, false, ⊎_elim, List, [], ◌∷◌, ◌++◌, length, sym, ap, ◌∙◌, subst}
use Rattle.board_definitions.specs.declared.event.Event.{Event}
use Rattle.board_definitions.specs.declared.event.Event.TheVariants.{Pinned}
use Rattle.board_definitions.specs.declared.event.Entry.{Entry}
use Rattle.board_definitions.specs.declared.pin.Pin.{Pin}
use Rattle.board_definitions.specs.Entries.{closes}
use Rattle.board_definitions.specs.Pins.{IsLive, HasNoPin}
use Rattle.board_definitions.proofs.More.{live_back}
use Rattle.desk_definitions.specs.Judged.{pinned_entry}

-- the entry is no pin of the caller
abbrev pub IsNoPinOf : ℕ → Entry → Type 0
IsNoPinOf caller entry = (match_name : List ℕ) → entry ≡ pinned_entry caller match_name → ⊥

-- the entry pins a match
abbrev pub is_pin : Event → Bool
is_pin (Pinned match_name) = true
is_pin _ = false

clash : (b : Bool) → b ≡ true → b ≡ false → ⊥
clash true e h = cc h
clash false e h = cc e

pub no_pin_event : (c k : ℕ) (event : Event) → is_pin event ≡ false → IsNoPinOf c (record { caller = k; event = event })
no_pin_event c k event other m e = clash (is_pin event) (ap (λ (x : Entry). is_pin x.event) e) other

-- each pin that the caller holds has this version
abbrev pub HoldsOnly : List Entry → ℕ → ℕ → Type 0
HoldsOnly history caller version = (pin : Pin) → pin.caller ≡ caller → IsLive history pin → pin.version ≡ version

pub no_pin_at_first : (h : List Entry) (c : ℕ) → h ≡ [] → HasNoPin h c
no_pin_at_first h c none = subst (λ (xs : List Entry). HasNoPin xs c) (sym none) (λ pin of_ live. let at = live.pinned in cc at)

pub no_pin_more : (h after : List Entry) (e : Entry) (c : ℕ) → after ≡ h ++ e ∷ [] → IsNoPinOf c e → HasNoPin h c → HasNoPin after c
no_pin_more h after e c is other none = subst (λ (xs : List Entry). HasNoPin xs c) (sym is) (λ pin of_ live.
    ⊎_elim
    (λ (old : IsLive h pin × (closes pin.version e.event ≡ false)). none pin of_ old.0)
    (λ (new : (pin.version ≡ length h) × (e ≡ record { caller = pin.caller; event = Pinned pin.match_name })). other pin.match_name (new.1 ∙ ap (λ k. pinned_entry k pin.match_name) of_))
    (live_back h e pin live))

pub holds_new : (h after : List Entry) (e : Entry) (c v : ℕ) → after ≡ h ++ e ∷ [] → v ≡ length h → HasNoPin h c → HoldsOnly after c v
holds_new h after e c v is v_is none = subst (λ (xs : List Entry). HoldsOnly xs c v) (sym is) (λ pin of_ live.
    ⊎_elim
    (λ (old : IsLive h pin × (closes pin.version e.event ≡ false)). absurd (none pin of_ old.0))
    (λ (new : (pin.version ≡ length h) × (e ≡ record { caller = pin.caller; event = Pinned pin.match_name })). new.0 ∙ sym v_is)
    (live_back h e pin live))

pub holds_more : (h after : List Entry) (e : Entry) (c v : ℕ) → after ≡ h ++ e ∷ [] → IsNoPinOf c e → HoldsOnly h c v → HoldsOnly after c v
holds_more h after e c v is other only = subst (λ (xs : List Entry). HoldsOnly xs c v) (sym is) (λ pin of_ live.
    ⊎_elim
    (λ (old : IsLive h pin × (closes pin.version e.event ≡ false)). only pin of_ old.0)
    (λ (new : (pin.version ≡ length h) × (e ≡ record { caller = pin.caller; event = Pinned pin.match_name })). absurd (other pin.match_name (new.1 ∙ ap (λ k. pinned_entry k pin.match_name) of_)))
    (live_back h e pin live))

pub holds_none : (h after : List Entry) (e : Entry) (c v : ℕ) → after ≡ h ++ e ∷ [] → IsNoPinOf c e → closes v e.event ≡ true → HoldsOnly h c v → HasNoPin after c
holds_none h after e c v is other closed only = subst (λ (xs : List Entry). HasNoPin xs c) (sym is) (λ pin of_ live.
    ⊎_elim
    (λ (old : IsLive h pin × (closes pin.version e.event ≡ false)). clash (closes pin.version e.event) (ap (λ k. closes k e.event) (only pin of_ old.0) ∙ closed) old.1)
    (λ (new : (pin.version ≡ length h) × (e ≡ record { caller = pin.caller; event = Pinned pin.match_name })). other pin.match_name (new.1 ∙ ap (λ k. pinned_entry k pin.match_name) of_))
    (live_back h e pin live))
