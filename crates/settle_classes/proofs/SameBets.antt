-- One offer of each selection and rule settles outcomes as all offers do.
use Rattle.std.proofs.Common.{◌≡◌, Bool, true, false, not, cond, ◌&&◌, List, [], ◌∷◌, ◌++◌, refl, sym, ap, subst, ◌∙◌}
use Rattle.std.specs.Prelude.{filter}
use Rattle.std.specs.List.{list_all, list_any}
use Rattle.std.specs.Bool.{Decides}
use Rattle.std.specs.Ordering.{int_eq}
use Rattle.std.proofs.lemmas.Bool.Decides.{Decides-and, Decides-like, Decides-int_eq, Decides-eqb, same_from_decides}
use Rattle.scan_types.specs.declared.rule.VoidRule.{VoidRule}
use Rattle.scan_types.specs.declared.rule.VoidRule.TheVariants.{Void, Score, Decided}
use Rattle.scan_types.specs.declared.offer.Offer.{Offer}
use Rattle.scan_types.specs.declared.outcome.Outcome.{Outcome}
use Rattle.scan_types.specs.Selections.{selection_number}
use Rattle.scan_types.proofs.Terms.{selection_same}
use Rattle.settlement_definitions.specs.Gain.{gain}
use Rattle.settlement_definitions.specs.StandIns.{is_final, stand_ins}
use Rattle.settlement_definitions.specs.Classes.{same_bool, settle_alike, distinct_by, classes_of}
use Rattle.settle_classes.specs.Bets.{same_rule, same_bet}
use Rattle.settlement_laws.proofs.SameBets.{same_bets_gain_alike}
use Rattle.settlement_laws.proofs.Distinct.{distinct_by-push}

-- the offers are of one selection and rule
abbrev IsSameBet : Offer → Offer → Type 0
IsSameBet one other = (one.selection ≡ other.selection) × (one.rule ≡ other.rule)

Decides-same_rule : (a b : VoidRule) → Decides (same_rule a b) (a ≡ b)
Decides-same_rule Void Void = (λ _. refl, λ _. refl)
Decides-same_rule Void Score = (λ h. absurd (cc), λ h. absurd (cc))
Decides-same_rule Void Decided = (λ h. absurd (cc), λ h. absurd (cc))
Decides-same_rule Score Void = (λ h. absurd (cc), λ h. absurd (cc))
Decides-same_rule Score Score = (λ _. refl, λ _. refl)
Decides-same_rule Score Decided = (λ h. absurd (cc), λ h. absurd (cc))
Decides-same_rule Decided Void = (λ h. absurd (cc), λ h. absurd (cc))
Decides-same_rule Decided Score = (λ h. absurd (cc), λ h. absurd (cc))
Decides-same_rule Decided Decided = (λ _. refl, λ _. refl)

-- the test is exact
Decides-same_bet : (one other : Offer) → Decides (same_bet one other) (IsSameBet one other)
Decides-same_bet one other =
    Decides-and _ _
    (Decides-like _ (selection_same one.selection other.selection) (ap selection_number) (Decides-eqb (selection_number one.selection) (selection_number other.selection)))
    (Decides-same_rule one.rule other.rule)

same_bet-trans : (one other third : Offer) → same_bet one other ≡ true → same_bet other third ≡ true → same_bet one third ≡ true
same_bet-trans one other third e f =
    let p = (Decides-same_bet one other).0 e in
    let q = (Decides-same_bet other third).0 f in
    (Decides-same_bet one third).1 (p.0 ∙ q.0, p.1 ∙ q.1)

-- a filter that drops only what passes a test does not change whether all pass
list_all-filter : {X : Type 0} (kept test : X → Bool) → ((x : X) → kept x ≡ false → test x ≡ true) → (xs : List X) → list_all test (filter kept xs) ≡ list_all test xs
list_all-filter kept test passes [] = refl
list_all-filter kept test passes (x ∷ xs) =
    let rest = list_all-filter kept test passes xs in
    elim (kept x) as (λ b. kept x ≡ b → list_all test (cond b (x ∷ filter kept xs) (filter kept xs)) ≡ (test x && list_all test xs)) [
      | true ↦ λ e. ap (λ t. test x && t) rest
      | false ↦ λ e. rest ∙ sym (ap (λ t. t && list_all test xs) (passes x e))
    ] refl

dropped_passes : {X : Type 0} (same : X → X → Bool) (test : X → Bool) → ((x y : X) → same x y ≡ true → test x ≡ test y) → (x y : X) → test x ≡ true → not (same x y) ≡ false → test y ≡ true
dropped_passes same test alike x y e f =
    elim (same x y) as (λ b. same x y ≡ b → not b ≡ false → test y ≡ true) [
      | true ↦ λ g h. sym (alike x y g) ∙ e
      | false ↦ λ g h. absurd (cc)
    ] refl f

-- all pass a test if those pass that are like none before, where like ones pass alike
list_all-distinct_by : {X : Type 0} (same : X → X → Bool) (test : X → Bool) → ((x y : X) → same x y ≡ true → test x ≡ test y) → (xs : List X) → list_all test (distinct_by same xs) ≡ list_all test xs
list_all-distinct_by same test alike [] = refl
list_all-distinct_by same test alike (x ∷ xs) =
    let rest = list_all-distinct_by same test alike xs in
    let kept = distinct_by same xs in
    let others = filter (λ y. not (same x y)) kept in
    elim (test x) as (λ b. test x ≡ b → (b && list_all test others) ≡ (b && list_all test xs)) [
      | true ↦ λ e. list_all-filter (λ y. not (same x y)) test (λ y f. dropped_passes same test alike x y e f) kept ∙ rest
      | false ↦ λ e. refl
    ] refl

-- offers of one selection and rule pass the test of a gain alike
gains_alike : (x y : Outcome) (one other : Offer) → same_bet one other ≡ true → int_eq (gain one x) (gain one y) ≡ int_eq (gain other x) (gain other y)
gains_alike x y one other same =
    let is = (Decides-same_bet one other).0 same in
    same_from_decides _ _ (Decides-int_eq (gain one x) (gain one y))
    (Decides-like _ (same_bets_gain_alike other one x y (sym is.0) (sym is.1)) (same_bets_gain_alike one other x y is.0 is.1) (Decides-int_eq (gain other x) (gain other y)))

bets_settle_alike : (offers : List Offer) (x y : Outcome) → settle_alike (distinct_by same_bet offers) x y ≡ settle_alike offers x y
unfolding settle_alike
bets_settle_alike offers x y =
    ap (λ t. same_bool (is_final x) (is_final y) && t) (list_all-distinct_by same_bet (λ offer. int_eq (gain offer x) (gain offer y)) (gains_alike x y) offers)

filter-like : {X : Type 0} (p q : X → Bool) → ((x : X) → p x ≡ q x) → (xs : List X) → filter p xs ≡ filter q xs
filter-like p q like [] = refl
filter-like p q like (x ∷ xs) = ap (λ t. cond t (x ∷ filter p xs) (filter p xs)) (like x) ∙ ap (λ l. cond (q x) (x ∷ l) l) (filter-like p q like xs)

distinct_by-like : {X : Type 0} (same also : X → X → Bool) → ((x y : X) → same x y ≡ also x y) → (xs : List X) → distinct_by same xs ≡ distinct_by also xs
distinct_by-like same also like [] = refl
distinct_by-like same also like (x ∷ xs) =
    ap (λ l. x ∷ l) (filter-like (λ y. not (same x y)) (λ y. not (also x y)) (λ y. ap not (like x y)) (distinct_by same xs) ∙ ap (filter (λ y. not (also x y))) (distinct_by-like same also like xs))

-- the bets have the classes of the offers
pub classes_of_bets : (offers bets : List Offer) → bets ≡ distinct_by same_bet offers → distinct_by (settle_alike bets) stand_ins ≡ classes_of offers
classes_of_bets offers bets is =
    ap (λ l. distinct_by (settle_alike l) stand_ins) is ∙ distinct_by-like (settle_alike (distinct_by same_bet offers)) (settle_alike offers) (bets_settle_alike offers) stand_ins

-- the bets of one offer more
pub bets_more : (before : List Offer) (offer : Offer) (bets : List Offer) (b : Bool) → bets ≡ distinct_by same_bet before → list_any (λ bet. same_bet bet offer) bets ≡ b → cond b bets (bets ++ offer ∷ []) ≡ distinct_by same_bet (before ++ offer ∷ [])
bets_more before offer bets b is found =
    let kept = distinct_by same_bet before in
    let test : list_any (λ bet. same_bet bet offer) kept ≡ b = subst (λ l. list_any (λ bet. same_bet bet offer) l ≡ b) is found in
    ap (λ l. cond b l (l ++ offer ∷ [])) is ∙ sym (distinct_by-push same_bet same_bet-trans before offer ∙ ap (λ t. cond t kept (kept ++ offer ∷ [])) test)
