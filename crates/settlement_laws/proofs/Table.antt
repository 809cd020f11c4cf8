use Rattle.std.proofs.Common.{ℕ, ◌≡◌, ◌+◌, ◌-◌, ◌<◌, ◌≤◌, Bool, true, false, zero, suc, List, [], ◌∷◌, ◌++◌, map, length, get_or, refl, sym, ap, subst, ◌∙◌, arith, ◌&&◌, ◌||◌}
use Rattle.std.specs.Prelude.{nat_le, ◌==◌, slice_get, Some, Contains, if◌then◌else◌}
use Rattle.std.specs.List.{list_all, list_any}
use Rattle.std.proofs.Common.{take}
use Rattle.std.proofs.lemmas.List.{length-map, take_all}
use Rattle.std.proofs.Common.{inl, inr}
use Rattle.std.proofs.lemmas.Bool.{cases_lt}
use Rattle.std.proofs.lemmas.Bool.Decides.{nat_tests}
use Rattle.std.specs.Bool.{Decides}
use Rattle.std.proofs.lemmas.Bool.Decides.{Decides-and, Decides-by_and}
use Rattle.std.proofs.lemmas.Option.{slice_get-get_or, slice_get_within, get_or_from_slice_get}
use Rattle.scan_types.specs.declared.outcome.Outcome.{Outcome}
use Rattle.scan_types.specs.declared.outcome.Outcome.TheVariants.{Full, Abandoned}
use Rattle.settlement_definitions.specs.StandIns.{stand_scores, stand_ins, stand_for, stand_score, lead_step, high_score}

pub slice_get-append_left : {X : Type 0} (xs ys : List X) (k : ℕ) (x : X) → slice_get xs k ≡ Some x → slice_get (xs ++ ys) k ≡ Some x
slice_get-append_left [] ys k x h = cc
slice_get-append_left (y ∷ xs) ys zero x h = h
slice_get-append_left (y ∷ xs) ys (suc k) x h = slice_get-append_left xs ys k x h

pub slice_get-append_right : {X : Type 0} (xs ys : List X) (k : ℕ) → slice_get (xs ++ ys) (length xs + k) ≡ slice_get ys k
slice_get-append_right [] ys k = let e : 0 + k ≡ k = omega arith in rw e refl
slice_get-append_right (y ∷ xs) ys k = let e : suc (length xs) + k ≡ suc (length xs + k) = omega arith in rw e (slice_get-append_right xs ys k)

pub slice_get-map : {X Y : Type 0} (f : X → Y) (xs : List X) (k : ℕ) (x : X) → slice_get xs k ≡ Some x → slice_get (map f xs) k ≡ Some (f x)
slice_get-map f [] k x h = cc
slice_get-map f (y ∷ xs) zero x h = let e : y ≡ x = cc in ap (λ z. Some (f z)) e
slice_get-map f (y ∷ xs) (suc k) x h = slice_get-map f xs k x h

-- what a list has at a place, it contains
pub Contains-from_slice_get : {X : Type 0} (xs : List X) (k : ℕ) (x : X) → slice_get xs k ≡ Some x → Contains xs x
Contains-from_slice_get xs k x h = (k, slice_get_within xs k x h, get_or_from_slice_get xs k x x h)

pub length-stand_scores : length stand_scores ≡ 49
unfolding stand_scores
length-stand_scores = refl

pub length-stand_ins : length stand_ins ≡ 98
unfolding stand_ins stand_scores
length-stand_ins = refl

-- a stand-in of a number below 49 is the final score of that number
pub stand_ins-final : (k : ℕ) (s : ℕ × ℕ) → slice_get stand_scores k ≡ Some s → slice_get stand_ins k ≡ Some (Full s.0 s.1)
unfolding stand_ins
stand_ins-final k s h = slice_get-append_left _ _ k _ (slice_get-map (λ s. Full s.0 s.1) stand_scores k s h)

-- and from 49 on it is that score at abandonment
pub stand_ins-abandoned : (k : ℕ) (s : ℕ × ℕ) → slice_get stand_scores k ≡ Some s → slice_get stand_ins (49 + k) ≡ Some (Abandoned s.0 s.1)
unfolding stand_ins
stand_ins-abandoned k s h =
    let f : ℕ × ℕ → Outcome = λ s. Full s.0 s.1 in
    let g : ℕ × ℕ → Outcome = λ s. Abandoned s.0 s.1 in
    let long : length (map f stand_scores) ≡ 49 = length-map stand_scores f ∙ length-stand_scores in
    subst (λ n. slice_get (map f stand_scores ++ map g stand_scores) (n + k) ≡ Some (g s)) long
    (slice_get-append_right (map f stand_scores) (map g stand_scores) k ∙ slice_get-map g stand_scores k s h)

abbrev pair_eq : ℕ × ℕ → ℕ × ℕ → Bool
pair_eq s t = (s.0 == t.0) && (s.1 == t.1)

pair_eq-true : (s t : ℕ × ℕ) → pair_eq s t ≡ true → s ≡ t
pair_eq-true s t h =
    let first : s.0 ≡ t.0 = grind (arith, nat_tests) in
    let second : s.1 ≡ t.1 = grind (arith, nat_tests) in
    ap (λ n. (n, s.1)) first ∙ ap (λ n. (t.0, n)) second

found_step : (t x : ℕ × ℕ) (xs : List (ℕ × ℕ)) → (list_any (pair_eq t) xs ≡ true → (k : ℕ) × (slice_get xs k ≡ Some t)) → (b : Bool) → pair_eq t x ≡ b → (b || list_any (pair_eq t) xs) ≡ true → (k : ℕ) × (slice_get (x ∷ xs) k ≡ Some t)
found_step t x xs rest true e h = (0, ap (λ z. Some z) (sym (pair_eq-true t x e)))
found_step t x xs rest false e h = let r = rest h in (suc r.0, r.1)

-- what a test finds in a list stands at some place
found : (t : ℕ × ℕ) (xs : List (ℕ × ℕ)) → list_any (pair_eq t) xs ≡ true → (k : ℕ) × (slice_get xs k ≡ Some t)
found t [] h = cc
found t (x ∷ xs) h = found_step t x xs (found t xs) (pair_eq t x) refl h

-- a test of each number below a bound
abbrev all_below : (ℕ → Bool) → ℕ → Bool
all_below p zero = true
all_below p (suc n) = p n && all_below p n

and_left : (a b : Bool) → (a && b) ≡ true → a ≡ true
and_left true b h = refl
and_left false b h = h

and_right : (a b : Bool) → (a && b) ≡ true → b ≡ true
and_right true b h = h
and_right false b h = cc

all_below_at : (p : ℕ → Bool) (n k : ℕ) → all_below p n ≡ true → k < n → p k ≡ true
all_below_at p zero k h lt = absurd (omega arith)
all_below_at p (suc n) k h lt =
    elim (cases_lt k n) [
      | inl below ↦ all_below_at p n k (and_right (p n) (all_below p n) h) below
      | inr above ↦ let same : n ≡ k = omega arith in subst (λ j. p j ≡ true) same (and_left (p n) (all_below p n) h)
    ]

abbrev has_low : ℕ → ℕ → Bool
has_low t h = list_any (pair_eq (h, t - h)) stand_scores

abbrev has_high : ℕ → Bool
has_high step = list_any (pair_eq (high_score step)) stand_scores

low_table : all_below (λ t. all_below (has_low t) (t + 1)) 8 ≡ true
unfolding stand_scores
low_table = refl

high_table : all_below has_high 13 ≡ true
unfolding stand_scores
high_table = refl

-- every low score is in the table
low_found : (h a : ℕ) → h + a ≤ 7 → (k : ℕ) × (slice_get stand_scores k ≡ Some (h, a))
low_found h a few =
    let row = all_below_at (λ t. all_below (has_low t) (t + 1)) 8 (h + a) low_table (omega arith) in
    let test = all_below_at (has_low (h + a)) (h + a + 1) h row (omega arith) in
    let same : h + a - h ≡ a = omega arith in
    found (h, a) stand_scores (subst (λ n. list_any (pair_eq (h, n)) stand_scores ≡ true) same test)

-- every high one too
high_found : (step : ℕ) → step ≤ 12 → (k : ℕ) × (slice_get stand_scores k ≡ Some (high_score step))
high_found step few = found (high_score step) stand_scores (all_below_at has_high 13 step high_table (omega arith))

stand_score_found_at : (h a : ℕ) (b : Bool) → nat_le (h + a) 7 ≡ b → (k : ℕ) × (slice_get stand_scores k ≡ Some (if b then (h, a) else (high_score (lead_step h a))))
stand_score_found_at h a true e = low_found h a (grind (arith, nat_tests))
stand_score_found_at h a false e = high_found (lead_step h a) (omega arith)

-- the score that stands for a score is in the table
pub stand_score_found : (h a : ℕ) → (k : ℕ) × (slice_get stand_scores k ≡ Some (stand_score h a))
stand_score_found h a = stand_score_found_at h a (nat_le (h + a) 7) refl

-- each outcome has one of the 98 for it
pub each_has_stand_in : (x : Outcome) → Contains stand_ins (stand_for x)
each_has_stand_in (Full h a) =
    let at = stand_score_found h a in
    Contains-from_slice_get stand_ins at.0 _ (stand_ins-final at.0 (stand_score h a) at.1)
each_has_stand_in (Abandoned h a) =
    let at = stand_score_found h a in
    Contains-from_slice_get stand_ins (49 + at.0) _ (stand_ins-abandoned at.0 (stand_score h a) at.1)

Decides-nat_le : (a b : ℕ) → Decides (nat_le a b) (a ≤ b)
Decides-nat_le a b = (λ h. grind (arith, nat_tests), λ h. grind (arith, nat_tests))

abbrev is_small : ℕ × ℕ → Bool
is_small s = nat_le s.0 7 && nat_le s.1 7

small_table : list_all is_small stand_scores ≡ true
unfolding stand_scores
small_table = refl

-- no side has more than seven goals in the table
pub small_at : (k : ℕ) (s : ℕ × ℕ) → slice_get stand_scores k ≡ Some s → (s.0 ≤ 7) × (s.1 ≤ 7)
small_at k s h =
    let IsSmall : ℕ × ℕ → Type 0 = λ s. (s.0 ≤ 7) × (s.1 ≤ 7) in
    let all = (Decides-by_and is_small IsSmall (list_all is_small) (λ s. Decides-and _ _ (Decides-nat_le s.0 7) (Decides-nat_le s.1 7)) refl (λ _ _. refl) stand_scores).0 small_table in
    subst IsSmall (get_or_from_slice_get stand_scores k s s h) (all k s (slice_get_within stand_scores k s h))

pub slice_get-stand_scores : (k : ℕ) (d : ℕ × ℕ) → k < 49 → slice_get stand_scores k ≡ Some (get_or stand_scores k d)
slice_get-stand_scores k d lt = let long = length-stand_scores in slice_get-get_or stand_scores k d (omega arith)

-- all 98 stand-ins
pub take-stand_ins_all : (k : ℕ) → 98 ≤ k → take k stand_ins ≡ stand_ins
take-stand_ins_all k all = let long = length-stand_ins in take_all k stand_ins (omega arith)
