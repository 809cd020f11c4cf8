-- What is read as a measure is one.
use Rattle.std.proofs.Common.{◌≡◌, ◌≢◌, ℕ, zero, suc, ◌<◌, ◌≤◌, ◌==◌, Bool, true, false, cond, not, List, [], ◌∷◌, length, filter, refl, ap, ◌∙◌, subst, arith}
use Rattle.std.specs.Prelude.{slice_index_or, zip}
use Rattle.std.specs.List.{Any, AllPairs}
use Rattle.std.proofs.lemmas.Bool.Decides.{nat_tests}
use lib.IntN.{ℤ, pos, ◌+ℤ◌, ◌*ℤ◌}
use lib.Signed.{◌<ℤ◌}
use Rattle.pivot_definitions.proofs.Ring.{linear, times_zero}
use borrow.Author.Differences.{same_out}
use Rattle.scan_types.specs.declared.limits.TheConstants.{MOST_PART}
use Rattle.scan_types.specs.declared.offer.Offer.{Offer}
use Rattle.scan_types.specs.declared.outcome.Outcome.{Outcome}
use Rattle.scan_types.specs.declared.outcome.Outcome.TheVariants.{Full, Abandoned}
use Rattle.settlement_definitions.specs.Scores.{HasScoresInRange}
use Rattle.settlement_definitions.specs.Classes.{classes_of}
use Rattle.finding_definitions.specs.Arbitrage.{need}
use Rattle.finding_definitions.specs.Measure.{weighted_sum, IsFinal, IsMeasure}
use Rattle.judging_definitions.specs.Readings.{NoneAbove, weighted_classes}
use Rattle.judging_laws.proofs.ClassFacts.{Each, Apart, each_at, each_filter, filter_each, each_weaker, length_filter, classes_in_range, classes_apart, classes_few}

each_zip : (P : Outcome → Type 0) (classes : List Outcome) (weights : List ℕ) → Each P classes → Each (λ (e : Outcome × ℕ). P e.0) (zip classes weights)
each_zip P [] weights each = tt
each_zip P (x ∷ classes) [] each = tt
each_zip P (x ∷ classes) (w ∷ weights) each = (each.0, each_zip P classes weights each.1)

each_weight : (P : ℕ → Type 0) (classes : List Outcome) (weights : List ℕ) → ((k : ℕ) (d : ℕ) → k < length weights → P (slice_index_or weights k d)) → Each (λ (e : Outcome × ℕ). P e.1) (zip classes weights)
each_weight P [] weights each = tt
each_weight P (x ∷ classes) [] each = tt
each_weight P (x ∷ classes) (w ∷ weights) each = (each 0 w (omega arith), each_weight P classes weights (λ k d h. each (suc k) d (omega (arith, h))))

-- the outcomes of two entries differ
abbrev ApartEntries : List (Outcome × ℕ) → Type 0
ApartEntries [] = Unit {0}
ApartEntries (e ∷ es) = Each (λ (f : Outcome × ℕ). e.0 ≢ f.0) es × ApartEntries es

apart_zip : (classes : List Outcome) (weights : List ℕ) → Apart classes → ApartEntries (zip classes weights)
apart_zip [] weights apart = tt
apart_zip (x ∷ classes) [] apart = tt
apart_zip (x ∷ classes) (w ∷ weights) apart = (each_zip (λ y. x ≢ y) classes weights apart.0, apart_zip classes weights apart.1)

apart_filter : (p : Outcome × ℕ → Bool) (es : List (Outcome × ℕ)) → ApartEntries es → ApartEntries (filter p es)
apart_filter p [] apart = tt
apart_filter p (e ∷ es) apart =
    let rest = apart_filter p es apart.1 in
    elim (p e) as (λ b. ApartEntries (cond b (e ∷ filter p es) (filter p es))) [ true ↦ (each_filter (λ (f : Outcome × ℕ). e.0 ≢ f.0) p es apart.0, rest) | false ↦ rest ]

apart_pairs : (es : List (Outcome × ℕ)) → ApartEntries es → AllPairs (λ (e f : Outcome × ℕ). e.0 ≢ f.0) es
apart_pairs [] apart i j d h k = absurd (omega (arith, k))
apart_pairs (e ∷ es) apart zero zero d h k = absurd (omega (arith, h))
apart_pairs (e ∷ es) apart zero (suc j) d h k = each_at (λ (f : Outcome × ℕ). e.0 ≢ f.0) es apart.0 j d (omega (arith, k))
apart_pairs (e ∷ es) apart (suc i) zero d h k = absurd (omega (arith, h))
apart_pairs (e ∷ es) apart (suc i) (suc j) d h k = apart_pairs es apart.1 i j d (omega (arith, h)) (omega (arith, k))

length_zip : (classes : List Outcome) (weights : List ℕ) → length (zip classes weights) ≤ length classes
length_zip [] weights = omega arith
length_zip (x ∷ classes) [] = omega arith
length_zip (x ∷ classes) (w ∷ weights) = let h = length_zip classes weights in omega (arith, h)

above_zero : (n : ℕ) → not (n == 0) ≡ true → 1 ≤ n
above_zero n h = grind (arith, nat_tests)

both_each : (P Q : Outcome × ℕ → Type 0) (es : List (Outcome × ℕ)) → Each P es → Each Q es → Each (λ e. P e × Q e) es
both_each P Q [] a b = tt
both_each P Q (e ∷ es) a b = ((a.0, b.0), both_each P Q es a.1 b.1)

-- what is read of weights in range is a measure, if some weight stands
pub is_measure : (offers : List Offer) (weights : List ℕ) → NoneAbove MOST_PART weights → 1 ≤ length (weighted_classes (classes_of offers) weights) → IsMeasure (weighted_classes (classes_of offers) weights)
is_measure offers weights none some =
    let classes = classes_of offers in
    let stands : Outcome × ℕ → Bool = λ e. not (e.1 == 0) in
    let all = zip classes weights in
    let entries = filter stands all in
    record {
      some = some;
      few = omega (arith, length_filter stands all, length_zip classes weights, classes_few offers);
      distinct = apart_pairs entries (apart_filter stands all (apart_zip classes weights (classes_apart offers)));
      scores = each_at (λ (e : Outcome × ℕ). HasScoresInRange e.0) entries (each_filter (λ (e : Outcome × ℕ). HasScoresInRange e.0) stands all (each_zip HasScoresInRange classes weights (classes_in_range offers)));
      weights = each_at (λ (e : Outcome × ℕ). (1 ≤ e.1) × (e.1 ≤ MOST_PART)) entries
          (both_each (λ e. 1 ≤ e.1) (λ e. e.1 ≤ MOST_PART) entries (each_weaker (λ e. stands e ≡ true) (λ e. 1 ≤ e.1) (λ e h. above_zero e.1 h) entries (filter_each stands all))
          (each_filter (λ (e : Outcome × ℕ). e.1 ≤ MOST_PART) stands all (each_weight (λ n. n ≤ MOST_PART) classes weights none)));
    }

-- ---- weight on a final score

no_weight : (x w s : ℤ) → x ≡ pos 0 → w *ℤ x +ℤ s ≡ s
no_weight x w s e = ap (λ y. w *ℤ y +ℤ s) e ∙ (let z = times_zero w in let f : w *ℤ pos 0 +ℤ s ≡ s = omega (arith, linear, same_out _ _ z) in f)

pub final_stands : (es : List (Outcome × ℕ)) → pos 0 <ℤ weighted_sum need es → Any (λ (e : Outcome × ℕ). IsFinal e.0) es
final_stands [] h = absurd (omega (arith, linear, h))
final_stands ((Full a b, w) ∷ es) h = (0, (Full a b, w), omega arith, refl, tt)
final_stands ((Abandoned a b, w) ∷ es) h =
    let rest = final_stands es (subst (λ s. pos 0 <ℤ s) (no_weight (pos 0) (pos w) (weighted_sum need es) refl) h) in
    (suc rest.0, rest.1, omega (arith, rest.2), rest.3, rest.4)

pub some_entry : (f : Outcome → ℤ) (es : List (Outcome × ℕ)) → pos 0 <ℤ weighted_sum f es → 1 ≤ length es
some_entry f [] h = absurd (omega (arith, linear, h))
some_entry f (e ∷ es) h = omega arith
