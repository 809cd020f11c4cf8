-- How many changes wait for a pin: each judgment leaves fewer.
use Rattle.std.proofs.Common.{◌≡◌, ℕ, zero, suc, ◌+◌, ◌<◌, ◌≤◌, Bool, true, false, not, cond, ◌||◌, List, [], ◌∷◌, ◌++◌, refl, sym, ap, ◌∙◌, subst, arith}
use Rattle.std.specs.List.{list_any}
use Rattle.std.specs.Str.{bytes_eq}
use Rattle.std.proofs.lemmas.List.Folds.{list_any-append}
use Rattle.std.proofs.lemmas.Slice.Eq.{bytes_eq-Decides}
use Rattle.board_definitions.specs.declared.event.Event.{Event}
use Rattle.board_definitions.specs.declared.event.Event.TheVariants.{Quoted, Withdrawn, Ended, Pinned, Filed, Released}
use Rattle.board_definitions.specs.declared.event.Entry.{Entry}
use Rattle.board_definitions.specs.Entries.{changes, pins}
use Rattle.board_definitions.specs.Pins.{IsUnpinnedChange}

-- no entry of these pins the match
abbrev is_open : List ℕ → List Entry → Bool
is_open m later = not (list_any (λ entry. pins m entry.event) later)

-- the event changes a match that none of the later entries pins
abbrev waits : Event → List Entry → Bool
waits (Quoted key odds limit line) later = is_open key.match_name later
waits (Withdrawn key line) later = is_open key.match_name later
waits (Ended feed stop) later = false
waits (Pinned pinned) later = false
waits (Filed version finding) later = false
waits (Released version) later = false

-- how many changes wait for a pin
abbrev pub waiting : List Entry → ℕ
waiting [] = 0
waiting (entry ∷ later) = cond (waits entry.event later) 1 0 + waiting later

-- one more entry opens nothing
open_less : (m : List ℕ) (later : List Entry) (e : Entry) → is_open m later ≡ false → is_open m (later ++ e ∷ []) ≡ false
open_less m later e h =
    ap not (list_any-append (λ (entry : Entry). pins m entry.event) later (e ∷ [])) ∙ by_test (list_any (λ (entry : Entry). pins m entry.event) later) (list_any (λ (entry : Entry). pins m entry.event) (e ∷ [])) h
  where
    by_test : (a b : Bool) → not a ≡ false → not (a || b) ≡ false
    by_test true b h = refl
    by_test false b h = absurd (cc h)

-- what did not wait does not after one more entry
waits_less : (event : Event) (later : List Entry) (e : Entry) → waits event later ≡ false → waits event (later ++ e ∷ []) ≡ false
waits_less (Quoted key odds limit line) later e h = open_less key.match_name later e h
waits_less (Withdrawn key line) later e h = open_less key.match_name later e h
waits_less (Ended feed stop) later e h = refl
waits_less (Pinned pinned) later e h = refl
waits_less (Filed version finding) later e h = refl
waits_less (Released version) later e h = refl

at_most : (a b : Bool) → (a ≡ false → b ≡ false) → cond b 1 0 ≤ cond a 1 0
at_most true true h = omega arith
at_most true false h = omega arith
at_most false b h = let e = h refl in subst (λ (x : Bool). cond x 1 0 ≤ 0) (sym e) (omega arith)

-- the entry itself does not wait
abbrev pub IsNoChange : Entry → Type 0
IsNoChange e = waits e.event [] ≡ false

pub waiting_most : (h : List Entry) (e : Entry) → IsNoChange e → waiting (h ++ e ∷ []) ≤ waiting h
waiting_most [] e none = subst (λ (x : Bool). cond x 1 0 + 0 ≤ 0) (sym none) (omega arith)
waiting_most (x ∷ h) e none =
    let rest = waiting_most h e none in
    let here = at_most (waits x.event h) (waits x.event (h ++ e ∷ [])) (waits_less x.event h e) in
    omega (arith, rest, here)

-- a match that no entry pins is open, and is not once it is pinned
opened_then_closed : (name m : List ℕ) (caller : ℕ) (later : List Entry) → bytes_eq name m ≡ true → list_any (λ entry. pins m entry.event) later ≡ false → (is_open name later ≡ true) × (is_open name (later ++ record { caller = caller; event = Pinned m } ∷ []) ≡ false)
opened_then_closed name m caller later same none =
    let e : Entry = record { caller = caller; event = Pinned m } in
    let test : Entry → Bool = λ entry. pins m entry.event in
    let name_is : name ≡ m = (bytes_eq-Decides name m).0 same in
    let itself : bytes_eq m m ≡ true = (bytes_eq-Decides m m).1 refl in
    let found : list_any test (later ++ e ∷ []) ≡ true = list_any-append test later (e ∷ []) ∙ ap (λ b. list_any test later || (b || false)) itself ∙ ap (λ b. b || true) none in
    (subst (λ n. is_open n later ≡ true) (sym name_is) (ap not none), subst (λ n. is_open n (later ++ e ∷ []) ≡ false) (sym name_is) (ap not found))

-- a change of the match waits no more once it is pinned
pinned_now : (event : Event) (m : List ℕ) (caller : ℕ) (later : List Entry) → changes m event ≡ true → list_any (λ (entry : Entry). pins m entry.event) later ≡ false → (waits event later ≡ true) × (waits event (later ++ record { caller = caller; event = Pinned m } ∷ []) ≡ false)
pinned_now (Quoted key odds limit line) m caller later change none = opened_then_closed key.match_name m caller later change none
pinned_now (Withdrawn key line) m caller later change none = opened_then_closed key.match_name m caller later change none
pinned_now (Ended feed stop) m caller later change none = absurd (cc change)
pinned_now (Pinned pinned) m caller later change none = absurd (cc change)
pinned_now (Filed version finding) m caller later change none = absurd (cc change)
pinned_now (Released version) m caller later change none = absurd (cc change)

second : (a b : Bool) → (a || b) ≡ false → b ≡ false
second true b h = absurd (cc h)
second false b h = h

pub waiting_less : (h : List Entry) (m : List ℕ) (caller place : ℕ) → IsUnpinnedChange h m place → waiting (h ++ record { caller = caller; event = Pinned m } ∷ []) < waiting h
waiting_less [] m caller place was = absurd was.change
waiting_less (x ∷ h) m caller zero was =
    let e : Entry = record { caller = caller; event = Pinned m } in
    let now = pinned_now x.event m caller h was.change (second (pins m x.event) (list_any (λ entry. pins m entry.event) h) was.unpinned) in
    let here : ℕ = 1 in
    let none : ℕ = 0 in
    let before : cond (waits x.event h) here none ≡ here = ap (λ b. cond b here none) now.0 in
    let after : cond (waits x.event (h ++ e ∷ [])) here none ≡ none = ap (λ b. cond b here none) now.1 in
    omega (arith, before, after, waiting_most h e refl)
waiting_less (x ∷ h) m caller (suc place) was =
    let e : Entry = record { caller = caller; event = Pinned m } in
    let rest = waiting_less h m caller place (record { change = was.change; unpinned = was.unpinned }) in
    let here = at_most (waits x.event h) (waits x.event (h ++ e ∷ [])) (waits_less x.event h e) in
    omega (arith, rest, here)
