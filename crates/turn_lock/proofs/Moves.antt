-- The steps from what a seat knows and holds, as the functions of the lock find it.
use Rattle.std.proofs.Common.{◌≡◌, refl, ◌≢◌, eq-eqb, ne_eqb, ℕ, ◌+◌, ◌%◌, ◌<◌, ◌==◌, true, false, List, [], ◌∷◌, ◌++◌, map, length, sym, ap, ◌∙◌, subst, length-append, arith}
use Rattle.std.specs.Prelude.{IsSome, Option, Some, ◌^◌, MatchBool}
use mathlib.Core.Option.{some, none, some-injective}
use mathlib.Core.List.{IsPrefix}
use lib.ListN.{get_elem?}
use Rattle.atomic_table.specs.Table.{State, Me, step, rest, Allows, Final, Seen, opening}
use Rattle.turn_lock.specs.declared.rule.Stage.TheVariants.{Away, Waiting}
use Rattle.turn_lock.specs.declared.rule.View.{View}
use Rattle.turn_lock.specs.Calls.{calls_of, kept_of}
use Rattle.turn_lock.specs.Rule.{has_turn, root_view, Ruled}
use Rattle.turn_lock.specs.Steps.{after_join, passed_on, compared, committed, Enters, looked}
use Rattle.turn_lock.proofs.Lists.{one_out}
use Rattle.turn_lock.proofs.Keeps.{looks, adds, passes_on, compares, begins, ends}

-- the pass has the ticket of this number, and else knows and holds what it did
abbrev pub HasDrawn : {S E F : Type 0} → Me (Option S) (View E F) → ℕ → Me (Option S) (View E F) → Type 0
HasDrawn m n m' = (t : ℕ) × (n ≡ t % 2 ^ 64) × (m' ≡ (record m.0 { stage = Waiting t }, m.1))

module _ {S E F : Type 0} (entries : S → List E) (fixed : S → F) (caller : E → ℕ) where
  abbrev Rule : F → State (Option S) (View E F) → Type 0
  Rule part = Ruled entries fixed caller part

  abbrev Sat : Type 0
  Sat = Me (Option S) (View E F)

  pub begins_with : (x y : S) (slots : List (Option S)) → x ≡ y → entries y ≡ [] → slots ≡ Some y ∷ [] → Rule (fixed x) (opening (0 ∷ 0 ∷ 0 ∷ []) slots (root_view (fixed x)))
  begins_with x y slots same none-yet are = subst (λ (l : List (Option S)). Rule (fixed x) (opening (0 ∷ 0 ∷ 0 ∷ []) l (root_view (fixed x)))) (sym are) (begins entries fixed caller (fixed x) y none-yet (ap fixed (sym same)))

  -- while another ticket is served the pass keeps its own
  pub still_waits : (m now now' : Sat) (n found : ℕ) → HasDrawn m n now → looked entries fixed caller (step 1 1 0 0 none) now found now' → found ≢ n → HasDrawn m n now'
  still_waits m now now' n found drawn look other =
      let t = drawn.0 in
      let not-served : (found == t % 2 ^ 64) ≡ false = ne_eqb found (t % 2 ^ 64) (λ e. other (e ∙ sym drawn.1)) in
      let same : now' ≡ now = subst (λ b. MatchBool b (Enters entries fixed caller now t now') (now' ≡ now)) not-served (look t (ap (λ (x : Sat). x.0.stage) drawn.2)) in
      (t, drawn.1, same ∙ drawn.2)

  -- once it is served the pass enters
  pub now_enters : (m now now' : Sat) (n found : ℕ) → HasDrawn m n now → looked entries fixed caller (step 1 1 0 0 none) now found now' → found ≡ n → (t : ℕ) × Enters entries fixed caller m t now'
  now_enters m now now' n found drawn look own =
      let t = drawn.0 in
      let served : (found == t % 2 ^ 64) ≡ true = eq-eqb found (t % 2 ^ 64) (own ∙ drawn.1) in
      let enters : Enters entries fixed caller now t now' = subst (λ b. MatchBool b (Enters entries fixed caller now t now') (now' ≡ now)) served (look t (ap (λ (x : Sat). x.0.stage) drawn.2)) in
      (t, subst (λ (x : Sat). Enters entries fixed caller x t now') drawn.2 enters)

  module _ (part : F) (slots id : ℕ) where
    pub looks_drawn : (m now : Sat) (n : ℕ) → HasDrawn m n now → Allows (Rule part) slots id now 1 (λ k. k) (looked entries fixed caller (step slots 1 0 0 none) now)
    looks_drawn m now n drawn = looks entries fixed caller part slots id now.0 now.1 drawn.0 (ap (λ (x : Sat). x.0.stage) drawn.2)

    pub adds_one : (me : Sat) (xs : List E) (e : E) (y : S) → xs ≡ e ∷ [] → has_turn me.0.stage ≡ 1 → caller e ≡ me.0.number → entries y ≡ me.0.seen ++ xs → length (entries y) < 2 ^ 64
        → Allows (Rule part) slots id me 2 (λ n. (n + 1) % 2 ^ 64) (committed xs (step slots 2 1 0 none) me)
    adds_one me xs e y is turn by list room =
        let long : length (entries y) ≡ length me.0.seen + 1 = ap length list ∙ (length-append me.0.seen xs ∙ ap (λ (l : List E). length me.0.seen + length l) is) in
        subst (λ (l : List E). Allows (Rule part) slots id me 2 (λ n. (n + 1) % 2 ^ 64) (committed l (step slots 2 1 0 none) me)) (sym is) (adds entries fixed caller part slots id me.0 me.1 e turn by (omega arith))

    pub passes_home : (me now : Sat) (y : S) → now ≡ (me.0, (0, Some y) ∷ rest me.1) → map (λ x. x.0) me.1 ≡ 0 ∷ [] → has_turn me.0.stage ≡ 1 → entries y ≡ me.0.seen → me.0.fixed ≡ Some part → fixed y ≡ part
        → Allows (Rule part) slots id now 1 (λ n. (n + 1) % 2 ^ 64) (passed_on (step slots 1 1 0 none) now)
    passes_home me now y is slot turn list same-part part-is =
        subst (λ (m : Sat). Allows (Rule part) slots id m 1 (λ n. (n + 1) % 2 ^ 64) (passed_on (step slots 1 1 0 none) m)) (sym is)
        (passes_on entries fixed caller part slots id me.0 ((0, Some y) ∷ rest me.1) y (ap (λ (l : List (ℕ × Option S)). (0, Some y) ∷ l) (one_out me.1 slot).2) turn list (same-part ∙ ap Some (sym part-is)))

    pub compares_joined : (me now : Sat) (u : View E F) → now ≡ (after_join me.0 u, me.1) → me.0.stage ≡ Away → Allows (Rule part) slots id now 0 (λ n. n) (compared (step slots 0 0 0 none) now)
    compares_joined me now u is away =
        subst (λ (m : Sat). Allows (Rule part) slots id m 0 (λ n. n) (compared (step slots 0 0 0 none) m)) (sym is) (compares entries fixed caller part slots id (after_join me.0 u) me.1 away)

    pub closes : (v : View E F) (ws : List ℕ) (xs : List (Option S)) (slot : Option S) → v.stage ≡ Away → v.number ≡ 0 → length v.joined + 1 ≡ v.given → Final (Seen (Rule part) id v) ws xs → get_elem? xs 0 ≡ some slot → IsSome slot
    closes v ws xs slot away root all final found =
        let end = ends entries fixed caller part id v ws xs away root all final in
        subst IsSome (some-injective (Some end.0) slot (sym end.1 ∙ found)) refl

    pub closes_with : (v : View E F) (ws : List ℕ) (xs : List (Option S)) (slot : Option S) (y : S) → v.stage ≡ Away → v.number ≡ 0 → length v.joined + 1 ≡ v.given → v.fixed ≡ Some part → Final (Seen (Rule part) id v) ws xs → get_elem? xs 0 ≡ some slot → slot ≡ Some y
        → IsPrefix v.seen (entries y) × (fixed y ≡ part) × ((n : ℕ) → calls_of caller n (entries y) ≡ kept_of n ((0, v.own) ∷ v.joined))
    closes_with v ws xs slot y away root all same-part final found is =
        let end = ends entries fixed caller part id v ws xs away root all final in
        let same : end.0 ≡ y = let z : Some end.0 ≡ Some y = some-injective (Some end.0) slot (sym end.1 ∙ found) ∙ is in cc in
        subst (λ (s : S). IsPrefix v.seen (entries s) × (fixed s ≡ part) × ((n : ℕ) → calls_of caller n (entries s) ≡ kept_of n ((0, v.own) ∷ v.joined))) same
        (end.2, let z : Some (fixed end.0) ≡ Some part = sym end.3 ∙ same-part in cc, end.4)
