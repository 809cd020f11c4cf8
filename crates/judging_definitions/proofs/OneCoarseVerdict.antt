-- A sheet with a budget has one coarse verdict, and one finding.
use Rattle.std.proofs.Common.{◌≡◌, ℕ, inl, inr, List, length, sym, ap, ◌∙◌, subst}
use Rattle.pivot_definitions.specs.Tableaus.{SimplexTableau, built}
use Rattle.pivot_definitions.specs.Runs.{EndsBest}
use Rattle.pivot_definitions.proofs.One.{best_best, run_is_one}
use Rattle.scan_types.specs.declared.offer.Offer.{Offer}
use Rattle.scan_types.specs.declared.outcome.Outcome.{Outcome}
use Rattle.settlement_definitions.specs.Classes.{classes_of}
use Rattle.finding_definitions.specs.Arbitrage.{IsArbitrage}
use Rattle.finding_definitions.specs.Fractions.{Fractions}
use Rattle.finding_definitions.specs.declared.finding.Finding.{Finding}
use Rattle.finding_definitions.specs.declared.finding.Finding.TheVariants.{Arb, Coherent}
use Rattle.judging_definitions.specs.CoarseOdds.{raised_offers, kept_numbers, lowered_offers, with_zeros}
use Rattle.judging_definitions.specs.FirstRun.{first_program, first_stakes, FirstRunEndsBest}
use Rattle.judging_definitions.specs.Stakes.{AreScaledFloors}
use Rattle.judging_definitions.specs.Readings.{HasLevelOne, Reads, MeasureReads, DirectionReads}
use Rattle.judging_definitions.specs.CoarseFinding.{FirstOf, IsMeasureAt, IsCoarseMeasure, AreStakesInDirection, AreStakesAt, AreCoarseStakes, IsCoarseVerdict}
use Rattle.judging_definitions.specs.ExactFinding.{IsExactFinding, IsCoarseInstead, IsFindingOf}
use Rattle.judging_definitions.proofs.OneReading.{measure_reads_one, direction_reads_one, scaled_floors_one}
use Rattle.judging_definitions.proofs.OneFinding.{exact_finding_one}

-- a first run ends at one tableau
ends_one : (offers : List Offer) (budget : ℕ) (a b : SimplexTableau) → FirstRunEndsBest offers budget a → FirstRunEndsBest offers budget b → b ≡ a
ends_one offers budget a b first second =
    let start = built (first_program offers) in
    let pivots : second.pivots ≡ first.pivots = best_best start budget second.pivots first.pivots b a second.ends first.ends in
    let there : EndsBest start budget first.pivots b = subst (λ n. EndsBest start budget n b) pivots second.ends in
    run_is_one start first.pivots b a there.run first.ends.run

-- ---- the verdict, told of the tableau at which the run ends

pub measure_at : (offers : List Offer) (budget : ℕ) (end : SimplexTableau) (finding : Finding) → FirstRunEndsBest (raised_offers offers) budget end → IsCoarseMeasure offers budget finding → IsMeasureAt (raised_offers offers) end finding
measure_at offers budget end finding ends found = subst (λ t. IsMeasureAt (raised_offers offers) t finding) (ends_one (raised_offers offers) budget end found.0 ends found.1) found.2

pub stakes_at : (offers : List Offer) (budget : ℕ) (end : SimplexTableau) (finding : Finding) → FirstRunEndsBest (lowered_offers offers) budget end → AreCoarseStakes offers budget finding → AreStakesAt offers end finding
stakes_at offers budget end finding ends found = subst (λ t. AreStakesAt offers t finding) (ends_one (lowered_offers offers) budget end found.0 ends found.1) found.2

-- ---- there is one

measures_one : (offers : List Offer) (end : SimplexTableau) (a b : Finding) → IsMeasureAt offers end a → IsMeasureAt offers end b → a ≡ b
measures_one offers end a b first second =
    let same : first.measure ≡ second.measure = (let e = measure_reads_one (classes_of offers) end (Reads first.measure) (Reads second.measure) first.reads second.reads in cc) in
    first.is ∙ ap Coherent same ∙ sym second.is

in_direction_one : (offers : List Offer) (direction : List ℕ) (a b : Finding) → AreStakesInDirection offers direction a → AreStakesInDirection offers direction b → a ≡ b
in_direction_one offers direction a b first second = first.is ∙ ap Arb (scaled_floors_one offers direction first.stakes second.stakes first.are_scaled second.are_scaled) ∙ sym second.is

-- where a direction is read, stakes are those in it
pub in_direction : (offers : List Offer) (end : SimplexTableau) (direction : Fractions) (finding : Finding) → DirectionReads (lowered_offers offers) (first_stakes (lowered_offers offers) end) (Reads direction) → AreStakesAt offers end finding → AreStakesInDirection offers (with_zeros (kept_numbers offers) direction.parts (length offers)) finding
in_direction offers end direction finding reads found =
    let lowered = lowered_offers offers in
    let same : found.direction ≡ direction = (let e = direction_reads_one lowered (first_stakes lowered end) (Reads found.direction) (Reads direction) found.reads reads in cc) in
    subst (λ (d : Fractions). AreStakesInDirection offers (with_zeros (kept_numbers offers) d.parts (length offers)) finding) same found.stakes

all_stakes_one : (offers : List Offer) (end : SimplexTableau) (a b : Finding) → AreStakesAt offers end a → AreStakesAt offers end b → a ≡ b
all_stakes_one offers end a b first second = in_direction_one offers (with_zeros (kept_numbers offers) first.direction.parts (length offers)) a b first.stakes (in_direction offers end first.direction b first.reads second)

first_of_one : (first second : Finding → Type 0) → ((a b : Finding) → first a → first b → a ≡ b) → ((a b : Finding) → second a → second b → a ≡ b) → (a b : Finding) → FirstOf first second a → FirstOf first second b → a ≡ b
first_of_one first second f s a b (inl x) (inl y) = f a b x y
first_of_one first second f s a b (inl x) (inr y) = absurd (y.0 a x)
first_of_one first second f s a b (inr x) (inl y) = absurd (x.0 b y)
first_of_one first second f s a b (inr x) (inr y) = s a b x.1 y.1

coarse_verdict_one : (offers : List Offer) (budget : ℕ) (a b : Finding) → IsCoarseVerdict offers budget a → IsCoarseVerdict offers budget b → a ≡ b
coarse_verdict_one offers budget =
    first_of_one (IsCoarseMeasure offers budget) (AreCoarseStakes offers budget)
    (λ a b first second. measures_one (raised_offers offers) first.0 a b first.2 (measure_at offers budget first.0 b first.1 second))
    (λ a b first second. all_stakes_one offers first.0 a b first.2 (stakes_at offers budget first.0 b first.1 second))

-- the finding of a sheet with a budget is one
pub finding_one : (offers : List Offer) (budget : ℕ) (finding other : Finding) → IsFindingOf offers budget finding → IsFindingOf offers budget other → finding ≡ other
finding_one offers budget =
    first_of_one (IsCoarseInstead offers budget) (IsExactFinding offers budget)
    (λ a b first second. coarse_verdict_one offers budget a b first.3 second.3)
    (exact_finding_one offers budget)
