-- The classes of a sheet are at most 98 distinct outcomes with few goals.
use Rattle.std.proofs.Common.{◌≡◌, ◌≢◌, ℕ, zero, suc, ◌<◌, ◌≤◌, Bool, true, false, cond, not, ◌&&◌, nat_le, List, [], ◌∷◌, ◌++◌, length, map, filter, refl, subst, arith}
use Rattle.std.specs.Prelude.{slice_index_or}
use Rattle.std.specs.List.{list_all}
use Rattle.std.proofs.lemmas.Bool.Decides.{nat_tests}
use Rattle.scan_types.specs.declared.limits.TheConstants.{MOST_SCORE}
use Rattle.scan_types.specs.declared.offer.Offer.{Offer}
use Rattle.scan_types.specs.declared.outcome.Outcome.{Outcome}
use Rattle.scan_types.specs.declared.outcome.Outcome.TheVariants.{Full, Abandoned}
use Rattle.settlement_definitions.specs.Scores.{HasScoresInRange}
use Rattle.settlement_definitions.specs.StandIns.{stand_ins, stand_scores}
use Rattle.settlement_definitions.specs.Classes.{settle_alike, distinct_by, classes_of}
use Rattle.settlement_laws.proofs.Table.{length-stand_ins}
use Rattle.settlement_laws.proofs.Alike.{Decides-settle_alike}

-- what holds of each element, by recursion
abbrev pub Each : {X : Type 0} → (X → Type 0) → List X → Type 0
Each P [] = Unit {0}
Each P (x ∷ xs) = P x × Each P xs

-- each element differs from each later one
abbrev pub Apart : {X : Type 0} → List X → Type 0
Apart [] = Unit {0}
Apart (x ∷ xs) = Each (λ y. x ≢ y) xs × Apart xs

pub each_at : {X : Type 0} (P : X → Type 0) (xs : List X) → Each P xs → (k : ℕ) (d : X) → k < length xs → P (slice_index_or xs k d)
each_at P [] each k d h = absurd (omega (arith, h))
each_at P (x ∷ xs) each zero d h = each.0
each_at P (x ∷ xs) each (suc k) d h = each_at P xs each.1 k d (omega (arith, h))

pub each_filter : {X : Type 0} (P : X → Type 0) (p : X → Bool) (xs : List X) → Each P xs → Each P (filter p xs)
each_filter P p [] each = tt
each_filter P p (x ∷ xs) each =
    let rest = each_filter P p xs each.1 in
    elim (p x) as (λ b. Each P (cond b (x ∷ filter p xs) (filter p xs))) [ true ↦ (each.0, rest) | false ↦ rest ]

pub each_weaker : {X : Type 0} (P Q : X → Type 0) → ((x : X) → P x → Q x) → (xs : List X) → Each P xs → Each Q xs
each_weaker P Q f [] each = tt
each_weaker P Q f (x ∷ xs) each = (f x each.0, each_weaker P Q f xs each.1)

-- the elements that pass do so
pub filter_each : {X : Type 0} (p : X → Bool) (xs : List X) → Each (λ x. p x ≡ true) (filter p xs)
filter_each p [] = tt
filter_each {X} p (x ∷ xs) =
    let rest = filter_each p xs in
    let P : Bool → Type 0 = λ b. p x ≡ b → Each (λ x. p x ≡ true) (cond b (x ∷ filter p xs) (filter p xs)) in
    let at : (b : Bool) → P b = λ b. elim b as P [ true ↦ λ e. (e, rest) | false ↦ λ e. rest ] in
    at (p x) refl

pub apart_filter : {X : Type 0} (p : X → Bool) (xs : List X) → Apart xs → Apart (filter p xs)
apart_filter p [] apart = tt
apart_filter p (x ∷ xs) apart =
    let rest = apart_filter p xs apart.1 in
    elim (p x) as (λ b. Apart (cond b (x ∷ filter p xs) (filter p xs))) [ true ↦ (each_filter (λ y. x ≢ y) p xs apart.0, rest) | false ↦ rest ]

pub length_filter : {X : Type 0} (p : X → Bool) (xs : List X) → length (filter p xs) ≤ length xs
length_filter p [] = omega arith
length_filter p (x ∷ xs) =
    let rest = length_filter p xs in
    elim (p x) as (λ b. length (cond b (x ∷ filter p xs) (filter p xs)) ≤ suc (length xs)) [ true ↦ omega (arith, rest) | false ↦ omega (arith, rest) ]

-- ---- stand-ins

small : ℕ × ℕ → Bool
small s = nat_le s.0 9 && nat_le s.1 9

small_all : list_all small stand_scores ≡ true
unfolding small stand_scores
small_all = refl

both_true : (a b : Bool) → (a && b) ≡ true → (a ≡ true) × (b ≡ true)
both_true true true h = (refl, refl)
both_true true false h = cc
both_true false b h = cc

small_is : (s : ℕ × ℕ) → small s ≡ true → (s.0 ≤ MOST_SCORE) × (s.1 ≤ MOST_SCORE)
unfolding small
small_is s h =
    let x = both_true (nat_le s.0 9) (nat_le s.1 9) h in
    let a : s.0 ≤ 9 = grind (arith, nat_tests) in
    let b : s.1 ≤ 9 = grind (arith, nat_tests) in
    (omega (arith, a), omega (arith, b))

in_range : (kind : ℕ × ℕ → Outcome) → ((s : ℕ × ℕ) → (s.0 ≤ MOST_SCORE) × (s.1 ≤ MOST_SCORE) → HasScoresInRange (kind s)) → (scores : List (ℕ × ℕ)) → list_all small scores ≡ true → Each HasScoresInRange (map kind scores)
in_range kind holds [] h = tt
in_range kind holds (s ∷ scores) h = let x = both_true (small s) (list_all small scores) h in (holds s (small_is s x.0), in_range kind holds scores x.1)

each_append : {X : Type 0} (P : X → Type 0) (xs ys : List X) → Each P xs → Each P ys → Each P (xs ++ ys)
each_append P [] ys a b = b
each_append P (x ∷ xs) ys a b = (a.0, each_append P xs ys a.1 b)

stand_ins_in_range : Each HasScoresInRange stand_ins
unfolding stand_ins
stand_ins_in_range = each_append HasScoresInRange (map (λ s. Full s.0 s.1) stand_scores) (map (λ s. Abandoned s.0 s.1) stand_scores) (in_range (λ s. Full s.0 s.1) (λ s h. h) stand_scores small_all) (in_range (λ s. Abandoned s.0 s.1) (λ s h. h) stand_scores small_all)

-- ---- classes

each_distinct : {X : Type 0} (P : X → Type 0) (same : X → X → Bool) (xs : List X) → Each P xs → Each P (distinct_by same xs)
each_distinct P same [] each = tt
each_distinct P same (x ∷ xs) each = (each.0, each_filter P (λ y. not (same x y)) (distinct_by same xs) (each_distinct P same xs each.1))

length_distinct : {X : Type 0} (same : X → X → Bool) (xs : List X) → length (distinct_by same xs) ≤ length xs
length_distinct same [] = omega arith
length_distinct same (x ∷ xs) = let a = length_filter (λ y. not (same x y)) (distinct_by same xs) in let b = length_distinct same xs in omega (arith, a, b)

differs : (b : Bool) → not b ≡ true → b ≡ true → ⊥
differs true h e = cc
differs false h e = cc

apart_distinct : {X : Type 0} (same : X → X → Bool) → ((x : X) → same x x ≡ true) → (xs : List X) → Apart (distinct_by same xs)
apart_distinct same itself [] = tt
apart_distinct {X} same itself (x ∷ xs) =
    let differ : (y : X) → not (same x y) ≡ true → x ≢ y = λ y h e. differs (same x y) h (subst (λ z. same x z ≡ true) e (itself x)) in
    (each_weaker (λ y. not (same x y) ≡ true) (λ y. x ≢ y) differ (filter (λ y. not (same x y)) (distinct_by same xs)) (filter_each (λ y. not (same x y)) (distinct_by same xs)), apart_filter (λ y. not (same x y)) (distinct_by same xs) (apart_distinct same itself xs))

alike_itself : (offers : List Offer) (x : Outcome) → settle_alike offers x x ≡ true
alike_itself offers x = (Decides-settle_alike offers x x).1 (record { kind = refl; gains = λ k d lt. refl })

pub classes_in_range : (offers : List Offer) → Each HasScoresInRange (classes_of offers)
classes_in_range offers = each_distinct HasScoresInRange (settle_alike offers) stand_ins stand_ins_in_range

pub classes_apart : (offers : List Offer) → Apart (classes_of offers)
classes_apart offers = apart_distinct (settle_alike offers) (alike_itself offers) stand_ins

pub classes_few : (offers : List Offer) → length (classes_of offers) ≤ 98
classes_few offers = let h = length_distinct (settle_alike offers) stand_ins in omega (arith, h, length-stand_ins)
