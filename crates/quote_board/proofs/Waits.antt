-- The map of due matches after a change of one match.
use Rattle.std.proofs.Common.{ℕ, ◌≡◌, Bool, true, false, cond, List, refl, sym, ap, ◌∙◌, Some, None, subst, ⊎_elim}
use Rattle.std.specs.Prelude.{Option, MatchOption, ◌==◌, ◌&&◌}
use Rattle.std.specs.Option.{option_or, is_none, option_map_or}
use Rattle.std.specs.Str.{bytes_eq}
use Rattle.std.proofs.lemmas.Bool.{cases_Bool, and_parts, and_from, both_ways}
use Rattle.std.proofs.lemmas.Bool.Decides.{Decides-eqb}
use Rattle.std.proofs.lemmas.Slice.Eq.{bytes_eq-Decides}
use Rattle.board_definitions.proofs.Placed.{some_injective}

-- the map has, at each place, the match that is due since it
abbrev pub Waits : (List ℕ → Option ℕ) → (ℕ → Option (List ℕ)) → ℕ → Type 0
Waits due waits place = MatchOption (waits place) ((m : List ℕ) → due m ≡ Some place → ⊥) (λ m. due m ≡ Some place)

abbrev WaitsAt : (List ℕ → Option ℕ) → Option (List ℕ) → ℕ → Type 0
WaitsAt due there place = MatchOption there ((m : List ℕ) → due m ≡ Some place → ⊥) (λ m. due m ≡ Some place)

none_is : (o : Option ℕ) → is_none o ≡ true → o ≡ None
none_is None h = refl
none_is (Some x) h = absurd (cc h)

same_name : (name m : List ℕ) → bytes_eq name m ≡ true → name ≡ m
same_name name m h = (bytes_eq-Decides name m).0 h

itself : (name : List ℕ) → bytes_eq name name ≡ true
itself name = (bytes_eq-Decides name name).1 refl

kept_some : (b : Bool) (o : Option ℕ) (place n : ℕ) → o ≡ Some place → cond b (option_or o (Some n)) o ≡ Some place
kept_some true None place n h = absurd (cc h)
kept_some true (Some x) place n h = h
kept_some false o place n h = h

-- a place that a change gives to a match
given : (old : Option ℕ) (place n : ℕ) → option_or old (Some n) ≡ Some place → (old ≡ Some place → ⊥) → (is_none old ≡ true) × (place ≡ n)
given None place n h was = (refl, sym (some_injective n place h))
given (Some x) place n h was = absurd (was h)

changed_at : (due due' : List ℕ → Option ℕ) (name : List ℕ) (n place : ℕ) →
    ((m : List ℕ) → due' m ≡ cond (bytes_eq name m) (option_or (due m) (Some n)) (due m)) →
    (is_none (due name) && place == n) ≡ false → (there : Option (List ℕ)) → WaitsAt due there place → WaitsAt due' there place
changed_at due due' name n place new other None was = λ m now.
    ⊎_elim
    (λ (here : bytes_eq name m ≡ true).
    let names : name ≡ m = same_name name m here in
    let got : option_or (due m) (Some n) ≡ Some place = ap (λ (b : Bool). cond b (option_or (due m) (Some n)) (due m)) (sym here) ∙ sym (new m) ∙ now in
    let it = given (due m) place n got (was m) in
    both_ways _ other (and_from (is_none (due name)) (place == n) (ap (λ (q : List ℕ). is_none (due q)) names ∙ it.0) ((Decides-eqb place n).1 it.1)))
    (λ (there : bytes_eq name m ≡ false). was m (ap (λ (b : Bool). cond b (option_or (due m) (Some n)) (due m)) (sym there) ∙ sym (new m) ∙ now))
    (cases_Bool (bytes_eq name m))
changed_at due due' name n place new other (Some m) was = new m ∙ kept_some (bytes_eq name m) (due m) place n was

-- after a change of a match: it is due since then, unless it was due before
pub waits_changed_at : (due due' : List ℕ → Option ℕ) (waits waits' : ℕ → Option (List ℕ)) (name : List ℕ) (n : ℕ) →
    ((m : List ℕ) → due' m ≡ cond (bytes_eq name m) (option_or (due m) (Some n)) (due m)) →
    ((place : ℕ) → waits' place ≡ cond (is_none (due name) && place == n) (Some name) (waits place)) →
    ((place : ℕ) → Waits due waits place) → (place : ℕ) → Waits due' waits' place
waits_changed_at due due' waits waits' name n new map was place =
    let P : Option (List ℕ) → Type 0 = λ there. WaitsAt due' there place in
    ⊎_elim
    (λ (here : (is_none (due name) && place == n) ≡ true).
    let parts = and_parts (is_none (due name)) (place == n) here in
    let at : place ≡ n = (Decides-eqb place n).0 parts.1 in
    let is : waits' place ≡ Some name = map place ∙ ap (λ (b : Bool). cond b (Some name) (waits place)) here in
    let now : due' name ≡ Some place =
    new name ∙ ap (λ (b : Bool). cond b (option_or (due name) (Some n)) (due name)) (itself name)
    ∙ ap (λ (o : Option ℕ). option_or o (Some n)) (none_is (due name) parts.0) ∙ ap Some (sym at) in
    subst P (sym is) now)
    (λ (there : (is_none (due name) && place == n) ≡ false).
    let is : waits' place ≡ waits place = map place ∙ ap (λ (b : Bool). cond b (Some name) (waits place)) there in
    subst P (sym is) (changed_at due due' name n place new there (waits place) (was place)))
    (cases_Bool (is_none (due name) && place == n))

cleared : (due due' : List ℕ → Option ℕ) (name : List ℕ) (place : ℕ) → ((m : List ℕ) → due' m ≡ cond (bytes_eq name m) None (due m)) →
    (m : List ℕ) → due' m ≡ Some place → (bytes_eq name m ≡ false) × (due m ≡ Some place)
cleared due due' name place new m now =
    ⊎_elim
    (λ (here : bytes_eq name m ≡ true).
    let none : None ≡ Some place = ap (λ (b : Bool). cond b None (due m)) (sym here) ∙ sym (new m) ∙ now in
    absurd (cc none))
    (λ (there : bytes_eq name m ≡ false). (there, ap (λ (b : Bool). cond b None (due m)) (sym there) ∙ sym (new m) ∙ now))
    (cases_Bool (bytes_eq name m))

is_place : (o : Option ℕ) (place : ℕ) → option_map_or (λ p. p == place) o false ≡ true → o ≡ Some place
is_place None place h = absurd (cc h)
is_place (Some p) place h = ap Some ((Decides-eqb p place).0 h)

not_place : (o : Option ℕ) (place : ℕ) → option_map_or (λ p. p == place) o false ≡ false → o ≡ Some place → ⊥
not_place None place h e = absurd (cc e)
not_place (Some p) place h e = both_ways _ h ((Decides-eqb p place).1 (some_injective p place e))

pinned_at : (due due' : List ℕ → Option ℕ) (name : List ℕ) (place : ℕ) →
    ((m : List ℕ) → due' m ≡ cond (bytes_eq name m) None (due m)) → (due name ≡ Some place → ⊥) →
    (there : Option (List ℕ)) → WaitsAt due there place → WaitsAt due' there place
pinned_at due due' name place new other None was = λ m now. was m (cleared due due' name place new m now).1
pinned_at due due' name place new other (Some m) was =
    ⊎_elim
    (λ (here : bytes_eq name m ≡ true). absurd (other (ap due (same_name name m here) ∙ was)))
    (λ (there : bytes_eq name m ≡ false). new m ∙ ap (λ (b : Bool). cond b None (due m)) there ∙ was)
    (cases_Bool (bytes_eq name m))

-- after a pin of a match: it is due no more
pub waits_pinned_at : (due due' : List ℕ → Option ℕ) (waits waits' : ℕ → Option (List ℕ)) (name : List ℕ) →
    ((m : List ℕ) → due' m ≡ cond (bytes_eq name m) None (due m)) →
    ((place : ℕ) → waits' place ≡ cond (option_map_or (λ p. p == place) (due name) false) None (waits place)) →
    ((a b : List ℕ) (place : ℕ) → due a ≡ Some place → due b ≡ Some place → a ≡ b) →
    ((place : ℕ) → Waits due waits place) → (place : ℕ) → Waits due' waits' place
waits_pinned_at due due' waits waits' name new map apart was place =
    let P : Option (List ℕ) → Type 0 = λ there. WaitsAt due' there place in
    ⊎_elim
    (λ (here : option_map_or (λ p. p == place) (due name) false ≡ true).
    let is : waits' place ≡ None = map place ∙ ap (λ (b : Bool). cond b None (waits place)) here in
    let due_here : due name ≡ Some place = is_place (due name) place here in
    let none : (m : List ℕ) → due' m ≡ Some place → ⊥ = λ m now.
    let it = cleared due due' name place new m now in
    both_ways _ it.0 ((bytes_eq-Decides name m).1 (apart name m place due_here it.1)) in
    subst P (sym is) none)
    (λ (there : option_map_or (λ p. p == place) (due name) false ≡ false).
    let is : waits' place ≡ waits place = map place ∙ ap (λ (b : Bool). cond b None (waits place)) there in
    subst P (sym is) (pinned_at due due' name place new (not_place (due name) place there) (waits place) (was place)))
    (cases_Bool (option_map_or (λ p. p == place) (due name) false))
