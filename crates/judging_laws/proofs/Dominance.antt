-- Each offer of a sheet has a leading offer that gains at least as much at every class.
use Rattle.std.proofs.Common.{◌≡◌, ℕ, zero, suc, ◌<◌, ◌⊎◌, inl, inr, Bool, true, false, cond, not, ◌&&◌, ◌||◌, nat_lt, List, [], ◌∷◌, length, filter, refl, sym, ap, ◌∙◌, subst, arith}
use Rattle.std.specs.Prelude.{slice_index_or, int_le, int_lt}
use Rattle.std.specs.List.{list_any, enumerate_from}
use Rattle.std.proofs.lemmas.Bool.Decides.{nat_tests}
use Rattle.std.proofs.lemmas.Bool.{cases_lt}
use Rattle.std.proofs.lemmas.Int.{ints, by_lt_z}
use lib.IntN.{ℤ, pos, ◌+ℤ◌}
use lib.Signed.{◌<ℤ◌, ◌≤ℤ◌}
use borrow.Author.Differences.{same_out, same_in, le_out}
use Rattle.pivot_definitions.proofs.Ring.{linear}
use Rattle.scan_types.specs.declared.offer.Offer.{Offer}
use Rattle.scan_types.specs.declared.outcome.Outcome.{Outcome}
use Rattle.settlement_definitions.specs.Gain.{gain}
use Rattle.judging_definitions.specs.Columns.{gains_no_less, gains_more_somewhere, dominates, is_undominated, leading_offers}

-- ---- membership by recursion

abbrev pub In : {X : Type 0} → X → List X → Type 0
In x [] = ⊥
In x (y ∷ ys) = (y ≡ x) ⊎ In x ys

pub in_filter : {X : Type 0} (p : X → Bool) (x : X) (xs : List X) → In x xs → p x ≡ true → In x (filter p xs)
in_filter p x [] i h = i
in_filter p x (y ∷ ys) (inl e) h = subst (λ b. In x (cond b (y ∷ filter p ys) (filter p ys))) (sym (ap p e ∙ h)) (inl e)
in_filter {X} p x (y ∷ ys) (inr i) h =
    let rest = in_filter p x ys i h in
    elim (p y) as (λ b. In x (cond b (y ∷ filter p ys) (filter p ys))) [ true ↦ inr rest | false ↦ rest ]

-- an element of a filtered list is one of the list, and passes
pub from_filter : {X : Type 0} (p : X → Bool) (x : X) (xs : List X) → In x (filter p xs) → In x xs × (p x ≡ true)
from_filter p x [] i = absurd i
from_filter {X} p x (y ∷ ys) i =
    let P : Bool → Type 0 = λ b. p y ≡ b → In x (cond b (y ∷ filter p ys) (filter p ys)) → In x (y ∷ ys) × (p x ≡ true) in
    let at : (b : Bool) → P b = λ b. elim b as P [
      | true ↦ λ e i. elim i [ inl same ↦ (inl same, ap p (sym same) ∙ e) | inr later ↦ let r = from_filter p x ys later in (inr r.0, r.1) ]
      | false ↦ λ e i. let r = from_filter p x ys i in (inr r.0, r.1)
    ] in
    at (p y) refl i

-- the place of an element
pub place_of : {X : Type 0} (x : X) (xs : List X) → In x xs → (k : ℕ) × (k < length xs) × ((d : X) → slice_index_or xs k d ≡ x)
place_of x [] i = absurd i
place_of x (y ∷ ys) (inl e) = (0, omega arith, λ d. e)
place_of x (y ∷ ys) (inr i) = let r = place_of x ys i in (suc r.0, omega (arith, r.1), r.2)

pub in_at : {X : Type 0} (xs : List X) (k : ℕ) (d : X) → k < length xs → In (slice_index_or xs k d) xs
in_at [] k d h = absurd (omega (arith, h))
in_at (x ∷ xs) zero d h = inl refl
in_at (x ∷ xs) (suc k) d h = inr (in_at xs k d (omega (arith, h)))

-- ---- tests on gains

le_from : (a b : ℤ) → int_le a b ≡ true → a ≤ℤ b
le_from a b h = grind (arith, ints)

le_to : (a b : ℤ) → a ≤ℤ b → int_le a b ≡ true
le_to a b h = grind (arith, ints)

lt_from : (a b : ℤ) → int_lt a b ≡ true → a <ℤ b
lt_from a b h = grind (arith, ints)

lt_not : (a b : ℤ) → int_lt a b ≡ false → b ≤ℤ a
lt_not a b h = grind (arith, ints)

both_true : (a b : Bool) → (a && b) ≡ true → (a ≡ true) × (b ≡ true)
both_true true true h = (refl, refl)
both_true true false h = cc
both_true false b h = cc

either_true : (a b : Bool) → (a || b) ≡ true → (a ≡ true) ⊎ (b ≡ true)
either_true true b h = inl refl
either_true false true h = inr refl
either_true false false h = cc

pub no_less_at : (classes : List Outcome) (other offer : Offer) → gains_no_less classes other offer ≡ true → (j : ℕ) (x : Outcome) → j < length classes → gain offer (slice_index_or classes j x) ≤ℤ gain other (slice_index_or classes j x)
no_less_at [] other offer h j x within = absurd (omega (arith, within))
no_less_at (y ∷ classes) other offer h zero x within = le_from (gain offer y) (gain other y) (both_true (int_le (gain offer y) (gain other y)) (gains_no_less classes other offer) h).0
no_less_at (y ∷ classes) other offer h (suc j) x within = no_less_at classes other offer (both_true (int_le (gain offer y) (gain other y)) (gains_no_less classes other offer) h).1 j x (omega (arith, within))

no_less_itself : (classes : List Outcome) (offer : Offer) → gains_no_less classes offer offer ≡ true
no_less_itself [] offer = refl
no_less_itself (y ∷ classes) offer = rw (le_to (gain offer y) (gain offer y) (omega (arith, linear)), no_less_itself classes offer) refl

no_less_trans : (classes : List Outcome) (a b c : Offer) → gains_no_less classes a b ≡ true → gains_no_less classes b c ≡ true → gains_no_less classes a c ≡ true
no_less_trans [] a b c h k = refl
no_less_trans (y ∷ classes) a b c h k =
    let x = both_true (int_le (gain b y) (gain a y)) (gains_no_less classes a b) h in
    let z = both_true (int_le (gain c y) (gain b y)) (gains_no_less classes b c) k in
    let p = le_from (gain b y) (gain a y) x.0 in
    let q = le_from (gain c y) (gain b y) z.0 in
    rw (le_to (gain c y) (gain a y) (omega (arith, linear, p, q)), no_less_trans classes a b c x.1 z.1) refl

-- ---- the best of offers

-- the sum of the gains at all classes
total : List Outcome → Offer → ℤ
total [] offer = pos 0
total (y ∷ classes) offer = gain offer y +ℤ total classes offer

total_no_less : (classes : List Outcome) (a b : Offer) → gains_no_less classes a b ≡ true → total classes b ≤ℤ total classes a
unfolding total
total_no_less [] a b h = omega (arith, linear)
total_no_less (y ∷ classes) a b h =
    let x = both_true (int_le (gain b y) (gain a y)) (gains_no_less classes a b) h in
    let p = le_from (gain b y) (gain a y) x.0 in
    let q = total_no_less classes a b x.1 in
    omega (arith, linear, p, q)

total_more : (classes : List Outcome) (a b : Offer) → gains_no_less classes a b ≡ true → gains_more_somewhere classes a b ≡ true → total classes b <ℤ total classes a
unfolding total
total_more [] a b h k = absurd (let e : false ≡ true = k in cc)
total_more (y ∷ classes) a b h k =
    let x = both_true (int_le (gain b y) (gain a y)) (gains_no_less classes a b) h in
    let p = le_from (gain b y) (gain a y) x.0 in
    elim (either_true (int_lt (gain b y) (gain a y)) (gains_more_somewhere classes a b) k) [
      | inl here ↦ (let q = lt_from (gain b y) (gain a y) here in let r = total_no_less classes a b x.1 in omega (arith, linear, q, r))
      | inr later ↦ (let r = total_more classes a b x.1 later in omega (arith, linear, p, r))
    ]

-- the one comes before the other: by its total, and of equal totals by its number
Before : List Outcome → ℕ × Offer → ℕ × Offer → Type 0
Before classes a b = (total classes b.1 <ℤ total classes a.1) ⊎ ((total classes a.1 ≡ total classes b.1) × (a.0 < b.0))

dominates_before : (classes : List Outcome) (a b : ℕ × Offer) → dominates classes a b ≡ true → Before classes a b
unfolding Before
dominates_before classes a b h =
    let x = both_true (gains_no_less classes a.1 b.1) (gains_more_somewhere classes a.1 b.1 || nat_lt a.0 b.0) h in
    elim (either_true (gains_more_somewhere classes a.1 b.1) (nat_lt a.0 b.0) x.1) [
      | inl more ↦ inl (total_more classes a.1 b.1 x.0 more)
      | inr lower ↦
          (let less : a.0 < b.0 = grind (arith, nat_tests) in
          let q = total_no_less classes a.1 b.1 x.0 in
          by_lt_z (total classes b.1) (total classes a.1) (λ k. inl k) (λ k. inr (same_in _ _ (omega (arith, linear, le_out _ _ q, le_out _ _ k)), less)))
    ]

before_trans : (classes : List Outcome) (a b c : ℕ × Offer) → Before classes a b → Before classes b c → Before classes a c
unfolding Before
before_trans classes a b c (inl h) (inl k) = inl (omega (arith, linear, h, k))
before_trans classes a b c (inl h) (inr k) = inl (omega (arith, linear, h, same_out _ _ k.0))
before_trans classes a b c (inr h) (inl k) = inl (omega (arith, linear, k, same_out _ _ h.0))
before_trans classes a b c (inr h) (inr k) = inr (h.0 ∙ k.0, omega (arith, h.1, k.1))

before_not_itself : (classes : List Outcome) (a : ℕ × Offer) → Before classes a a → ⊥
unfolding Before
before_not_itself classes a (inl h) = omega (arith, linear, h)
before_not_itself classes a (inr h) = omega (arith, h.1)

-- either the one comes before the other, or not
decide_before : (classes : List Outcome) (a b : ℕ × Offer) → Before classes a b ⊎ (Before classes a b → ⊥)
unfolding Before
decide_before classes a b =
    by_lt_z (total classes b.1) (total classes a.1) (λ h. inl (inl h)) (λ h.
    by_lt_z (total classes a.1) (total classes b.1)
    (λ k. inr (λ before. elim before [ inl x ↦ omega (arith, linear, x, k) | inr x ↦ omega (arith, linear, k, same_out _ _ x.0) ]))
    (λ k.
    let same : total classes a.1 ≡ total classes b.1 = same_in _ _ (omega (arith, linear, le_out _ _ h, le_out _ _ k)) in
    elim (cases_lt a.0 b.0) [
      | inl less ↦ inl (inr (same, less))
      | inr more ↦ inr (λ before. elim before [ inl x ↦ omega (arith, linear, x, h) | inr x ↦ omega (arith, x.1, more) ])
    ]))

-- of some offers one has none before it
record Foremost (classes : List Outcome) (xs : List (ℕ × Offer)) : Type 0 where
  offer : ℕ × Offer
  among : In offer xs
  first : (other : ℕ × Offer) → In other xs → Before classes other offer → ⊥

foremost : (classes : List Outcome) (x : ℕ × Offer) (xs : List (ℕ × Offer)) → Foremost classes (x ∷ xs)
foremost classes x [] = record { offer = x; among = inl refl; first = λ other i before. elim i [ inl e ↦ before_not_itself classes x (subst (λ o. Before classes o x) (sym e) before) | inr none ↦ none ] }
foremost classes x (y ∷ ys) =
    let rest = foremost classes y ys in
    elim (decide_before classes x rest.offer) [
      | inl ahead ↦ record {
        offer = x;
        among = inl refl;
        first = λ other i before. elim i [ inl e ↦ before_not_itself classes x (subst (λ o. Before classes o x) (sym e) before) | inr later ↦ rest.first other later (before_trans classes other x rest.offer before ahead) ];
      }
      | inr behind ↦ record {
        offer = rest.offer;
        among = inr rest.among;
        first = λ other i before. elim i [ inl e ↦ behind (subst (λ o. Before classes o rest.offer) (sym e) before) | inr later ↦ rest.first other later before ];
      }
    ]

foremost_in : (classes : List Outcome) (x : ℕ × Offer) (xs : List (ℕ × Offer)) → In x xs → Foremost classes xs
foremost_in classes x [] i = absurd i
foremost_in classes x (y ∷ ys) i = foremost classes y ys

is_false : (b : Bool) → (b ≡ true → ⊥) → b ≡ false
is_false true h = absurd (h refl)
is_false false h = refl

none_dominates : (classes : List Outcome) (offer : ℕ × Offer) (others : List (ℕ × Offer)) → ((other : ℕ × Offer) → In other others → dominates classes other offer ≡ true → ⊥) → list_any (λ other. dominates classes other offer) others ≡ false
none_dominates classes offer [] none = refl
none_dominates classes offer (y ∷ ys) none = rw (is_false (dominates classes y offer) (none y (inl refl)), none_dominates classes offer ys (λ other i. none other (inr i))) refl

-- each offer of a sheet has a leading offer that gains at least as much at every class
pub has_leading : (offers : List Offer) (classes : List Outcome) (e : ℕ × Offer) → In e (enumerate_from 0 offers) → (leader : ℕ × Offer) × In leader (leading_offers offers classes) × (gains_no_less classes leader.1 e.1 ≡ true)
has_leading offers classes e i =
    let all = enumerate_from 0 offers in
    let covers : ℕ × Offer → Bool = λ other. gains_no_less classes other.1 e.1 in
    let best = foremost_in classes e (filter covers all) (in_filter covers e all i (no_less_itself classes e.1)) in
    let found = from_filter covers best.offer all best.among in
    let free : (other : ℕ × Offer) → In other all → dominates classes other best.offer ≡ true → ⊥ = λ other j h.
    best.first other (in_filter covers other all j (no_less_trans classes other.1 best.offer.1 e.1 (both_true (gains_no_less classes other.1 best.offer.1) (gains_more_somewhere classes other.1 best.offer.1 || nat_lt other.0 best.offer.0) h).0 found.1)) (dominates_before classes other best.offer h) in
    (best.offer, in_filter (is_undominated classes all) best.offer all found.0 (ap not (none_dominates classes best.offer all free)), found.1)
