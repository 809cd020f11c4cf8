-- Where all tests are passed the verdict is right, and a right verdict passes each of them.
use Rattle.std.proofs.Common.{◌≡◌, ℕ, ℤ, ◌*◌, ◌≤◌, ◌≤ℤ◌, ◌<ℤ◌, List, zero, suc, [], ◌∷◌, length, get_or, inl, inr, subst, arith}
use Rattle.std.specs.List.{AllZip}
use Rattle.std.proofs.lemmas.Int.{ints}
use Rattle.std.proofs.lemmas.Slice.Zip.{AllZip-long}
use Rattle.scan_types.specs.declared.offer.Offer.{Offer}
use Rattle.scan_types.specs.declared.outcome.Outcome.{Outcome}
use Rattle.scan_types.specs.declared.outcome.Outcome.TheVariants.{Full}
use Rattle.settlement_definitions.specs.StandIns.{stand_ins}
use Rattle.settlement_laws.proofs.Sums.{need_at_each, total_net-stand_for, total_gain-stand_for}
use Rattle.finding_definitions.specs.declared.finding.Finding.{Finding}
use Rattle.finding_definitions.specs.declared.finding.Finding.TheVariants.{Arb, Coherent, Thin, Narrow, Wide, OutOfPivots}
use Rattle.finding_definitions.specs.Arbitrage.{need, total_net, total_gain}
use Rattle.finding_definitions.specs.Measure.{IsPriceMeasure}
use Rattle.finding_definitions.specs.Verdicts.{reach, IsRightArb, IsRightCoherent, IsRightThin}
use Rattle.finding_definitions.specs.Findings.{IsRightVerdict}
use Rattle.price_duality.proofs.Verdict.{no_unit, reached_wins, arbitrage_wins}
use Rattle.price_duality.proofs.Limits.{thin_rules_out_unit, arbitrage_reaches}
use Rattle.cert_checker.specs.declared.answer.Answer.{Answer}
use Rattle.cert_checker.specs.Places.{AllHold, IsFirstFailure}
use Rattle.cert_checker.specs.Shapes.{HasShape, IsShapeFault, IsMeasureFault}
use Rattle.cert_checker.specs.Losses.{Meets}
use Rattle.cert_checker.specs.Gains.{GainsNothing}
use Rattle.cert_checker.specs.Answers.{IsYes, Tests, IsWithin, IsAnswer, RefusesOutcome, unit_need}
use Rattle.cert_checker.specs.Arbitrage.{LeavesNoArbitrage}
use Rattle.cert_checker.proofs.Measures.{entries_fit}

-- numbers within what the offers allow, by place and side by side
pub zip_within : (most : Offer → ℕ) (offers : List Offer) (numbers : List ℕ) → length numbers ≡ length offers → AllHold (IsWithin most numbers) offers → AllZip (λ o n. n ≤ most o) offers numbers
zip_within most [] [] same within = tt
zip_within most [] (n ∷ numbers) same within = absurd (omega arith)
zip_within most (o ∷ offers) [] same within = absurd (omega arith)
zip_within most (o ∷ offers) (n ∷ numbers) same within =
    (within 0 o (omega arith), zip_within most offers numbers (omega arith) (λ j d below. within (suc j) d (omega arith)))

pub within_zip : (most : Offer → ℕ) (offers : List Offer) (numbers : List ℕ) → AllZip (λ o n. n ≤ most o) offers numbers → AllHold (IsWithin most numbers) offers
within_zip most [] numbers zipped j d below = absurd (omega arith)
within_zip most (o ∷ offers) [] zipped j d below = absurd zipped
within_zip most (o ∷ offers) (n ∷ numbers) zipped zero d below = zipped.0
within_zip most (o ∷ offers) (n ∷ numbers) zipped (suc j) d below = within_zip most offers numbers zipped.1 j d (omega arith)

pub arb_right : (offers : List Offer) (stakes : List ℕ) → length stakes ≡ length offers → AllHold (IsWithin (λ o. o.limit) stakes) offers → AllHold (Meets (total_net offers stakes)) stand_ins → IsRightArb offers stakes
arb_right offers stakes count within met = record {
  within_limits = zip_within (λ o. o.limit) offers stakes count within;
  wins = need_at_each (total_net offers stakes) (total_net-stand_for offers stakes) met;
}

pub coherent_right : (offers : List Offer) (m : List (Outcome × ℕ)) → IsPriceMeasure m → AllHold (GainsNothing m) offers → IsRightCoherent offers m
coherent_right offers m price none = record { price = price; no_gain = none }

pub thin_right : (offers : List Offer) (d : ℕ) (parts : List ℕ) (m : List (Outcome × ℕ)) → HasShape (length offers) (record { divisor = d; parts = parts }) → IsPriceMeasure m → AllHold (IsWithin (λ o. o.limit * d) parts) offers → AllHold (Meets (total_gain offers parts)) stand_ins → reach offers m <ℤ unit_need m → IsRightThin offers d parts m
thin_right offers d parts m shape price within met bound = record {
  divides = shape.divisor.0;
  divisor_small = shape.divisor.1;
  parts_small = shape.small;
  within_limits = zip_within (λ o. o.limit * d) offers parts shape.count within;
  gains = need_at_each (total_gain offers parts) (total_gain-stand_for offers parts) met;
  price = price;
  bound = bound;
}

-- what is passed when a test does not refuse
pub passed : {R P L : Type 0} → Tests R P L → (R → ⊥) → P × L
passed (inl r) never = absurd (never r)
passed (inr p) never = p

pub yes_right : (offers : List Offer) (finding : Finding) (answer : Answer) → IsAnswer offers finding answer → IsYes answer → IsRightVerdict offers finding
yes_right offers (Arb stakes) answer tests told =
    let count = passed tests (λ r. subst IsYes r.1 told) in
    let limit = passed count.1 (λ r. subst IsYes r.1 told) in
    let won = passed limit.1 (λ r. subst IsYes r.2 told) in
    arb_right offers stakes count.0 limit.0 won.0
yes_right offers (Coherent m) answer tests told =
    let price = passed tests (λ r. subst IsYes r.1 told) in
    let none = passed price.1 (λ r. subst IsYes r.2 told) in
    coherent_right offers m price.0 none.0
yes_right offers (Thin stakes m) answer tests told =
    let shape = passed tests (λ r. subst IsYes r.1 told) in
    let price = passed shape.1 (λ r. subst IsYes r.1 told) in
    let limit = passed price.1 (λ r. subst IsYes r.1 told) in
    let won = passed limit.1 (λ r. subst IsYes r.2 told) in
    let bound = passed won.1 (λ r. subst IsYes r.0 told) in
    thin_right offers stakes.divisor stakes.parts m shape.0 price.0 limit.0 won.0 bound.0
yes_right offers (Narrow stakes m) answer tests told = subst IsYes tests told
yes_right offers (Wide stage pivots place) answer tests told = subst IsYes tests told
yes_right offers (OutOfPivots stage pivots) answer tests told = subst IsYes tests told

pub no_measure_fault : (m : List (Outcome × ℕ)) (k : ℕ) → IsPriceMeasure m → IsMeasureFault m k → ⊥
no_measure_fault m k price (inl first) = let nothing : Outcome × ℕ = (Full 0 0, 0) in first.fails nothing (entries_fit m price.form k nothing first.within)
no_measure_fault m k price (inr none) = none.1 price.final

pub no_shape_fault : (offers : ℕ) (d : ℕ) (parts : List ℕ) (k : ℕ) → HasShape offers (record { divisor = d; parts = parts }) → IsShapeFault offers (record { divisor = d; parts = parts }) k → ⊥
no_shape_fault offers d parts k shape (inl count) = count.0 shape.count
no_shape_fault offers d parts k shape (inr (count, inl divisor)) = divisor.0 shape.divisor
no_shape_fault offers d parts k shape (inr (count, inr (divisor, first))) = first.fails 0 (shape.small k 0 first.within)

pub no_limit_fault : (most : Offer → ℕ) (offers : List Offer) (numbers : List ℕ) (i : ℕ) → AllZip (λ o n. n ≤ most o) offers numbers → IsFirstFailure (IsWithin most numbers) offers i → ⊥
no_limit_fault most [] numbers i zipped first = let w = first.within in omega arith
no_limit_fault most (o ∷ offers) numbers i zipped first = first.fails o (within_zip most (o ∷ offers) numbers zipped i o first.within)

no_loss : (total : Outcome → ℤ) (answer : Answer) → ((x : Outcome) → need x ≤ℤ total x) → RefusesOutcome total answer → ⊥
no_loss total answer wins r = let (k, first, at, won) = r.3 in first.fails r.0 (wins (get_or stand_ins k r.0))

pub right_yes : (offers : List Offer) (finding : Finding) (answer : Answer) → IsAnswer offers finding answer → IsRightVerdict offers finding → IsYes answer
right_yes offers (Arb stakes) answer tests right =
    let count = passed tests (λ r. r.2.0 (AllZip-long (λ o s. s ≤ o.limit) offers stakes right.within_limits)) in
    let limit = passed count.1 (λ r. no_limit_fault (λ o. o.limit) offers stakes r.0 right.within_limits r.2) in
    (passed limit.1 (no_loss (total_net offers stakes) answer right.wins)).1
right_yes offers (Coherent m) answer tests right =
    let price = passed tests (λ r. no_measure_fault m r.0 right.price r.2) in
    (passed price.1 (λ r. let (first, offer, at, is) = r.3 in first.fails offer (right.no_gain r.0 offer first.within))).1
right_yes offers (Thin stakes m) answer tests right =
    let shaped : HasShape (length offers) (record { divisor = stakes.divisor; parts = stakes.parts }) =
    record {
      count = AllZip-long (λ o p. p ≤ o.limit * stakes.divisor) offers stakes.parts right.within_limits;
      divisor = (right.divides, right.divisor_small);
      small = right.parts_small;
    } in
    let shape = passed tests (λ r. no_shape_fault (length offers) stakes.divisor stakes.parts r.0 shaped r.2) in
    let price = passed shape.1 (λ r. no_measure_fault m r.0 right.price r.2) in
    let limit = passed price.1 (λ r. no_limit_fault (λ o. o.limit * stakes.divisor) offers stakes.parts r.0 right.within_limits r.2) in
    let won = passed limit.1 (no_loss (total_gain offers stakes.parts) answer right.gains) in
    (passed won.1 (λ r. let low = right.bound in let high = r.1 in omega (arith, ints, low, high))).1
right_yes offers (Narrow stakes m) answer tests right = absurd right
right_yes offers (Wide stage pivots place) answer tests right = absurd right
right_yes offers (OutOfPivots stage pivots) answer tests right = absurd right

-- a right verdict without stakes rules every arbitrage out
pub right_admits_none : (offers : List Offer) (finding : Finding) → IsRightVerdict offers finding → LeavesNoArbitrage offers finding
right_admits_none offers (Arb stakes) right = tt
right_admits_none offers (Coherent m) right = record {
  fractions = λ d parts r. no_unit offers m d parts right (reached_wins offers d parts r);
  whole = λ stakes a. no_unit offers m 1 stakes right (arbitrage_wins offers stakes a);
}
right_admits_none offers (Thin found m) right = record {
  fractions = λ d parts r. thin_rules_out_unit offers m found.divisor d found.parts parts right r;
  whole = λ stakes a. thin_rules_out_unit offers m found.divisor 1 found.parts stakes right (arbitrage_reaches offers stakes a);
}
right_admits_none offers (Narrow stakes m) right = tt
right_admits_none offers (Wide stage pivots place) right = tt
right_admits_none offers (OutOfPivots stage pivots) right = tt
