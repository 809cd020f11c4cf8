-- The answers of the checker, in the order in which they are tried.
use Rattle.std.specs.Prelude.{ℕ, ℤ, pos, ◌≡◌, ◌*◌, ◌≤◌, ◌≤ℤ◌, ◌<ℤ◌, ◌*ℤ◌, ◌⊎◌, List, length, slice_index}
use Rattle.scan_types.specs.declared.offer.Offer.{Offer}
use Rattle.scan_types.specs.declared.outcome.Outcome.{Outcome}
use Rattle.settlement_definitions.specs.StandIns.{stand_ins}
use Rattle.finding_definitions.specs.declared.finding.Finding.{Finding}
use Rattle.finding_definitions.specs.declared.finding.Finding.TheVariants.{Arb, Coherent, Thin, Narrow, Wide, OutOfPivots}
use Rattle.finding_definitions.specs.Arbitrage.{total_net, total_gain}
use Rattle.finding_definitions.specs.Measure.{final_weight, IsPriceMeasure}
use Rattle.finding_definitions.specs.Verdicts.{reach}
use Rattle.cert_checker.specs.declared.answer.Answer.{Answer}
use Rattle.cert_checker.specs.declared.answer.Answer.TheVariants.{Yes, NotAVerdict, NoShape, NoOffer, NoAt, NoBound}
use Rattle.cert_checker.specs.declared.answer.Part.TheVariants.{Stakes, Measure}
use Rattle.cert_checker.specs.Places.{AllHold, IsFirstFailure}
use Rattle.cert_checker.specs.Shapes.{IsMiscount, HasShape, IsShapeFault, IsMeasureFault}
use Rattle.cert_checker.specs.Losses.{Meets, IsLoss}
use Rattle.cert_checker.specs.Gains.{GainsNothing, IsGain}

-- the answer is that the verdict is right
abbrev pub IsYes : Answer → Type 0
IsYes (Yes checked) = Unit {0}
IsYes NotAVerdict = ⊥
IsYes (NoShape part k) = ⊥
IsYes (NoOffer i n) = ⊥
IsYes (NoAt x n) = ⊥
IsYes (NoBound reach need) = ⊥

-- a right verdict is handed back with its sheet
abbrev pub Holds : Answer → List Offer → Finding → Type 0
Holds (Yes checked) offers finding = (checked.sheet.now ≡ offers) × (checked.finding.now ≡ finding)
Holds NotAVerdict offers finding = Unit {0}
Holds (NoShape part k) offers finding = Unit {0}
Holds (NoOffer i n) offers finding = Unit {0}
Holds (NoAt x n) offers finding = Unit {0}
Holds (NoBound reach need) offers finding = Unit {0}

-- one test of several in order: it refuses, or it is passed and the later ones decide
abbrev pub Tests : Type 0 → Type 0 → Type 0 → Type 0
Tests Refuses Passes Later = Refuses ⊎ (Passes × Later)

-- the stakes are not one for each offer
abbrev pub RefusesCount : List Offer → List ℕ → Answer → Type 0
RefusesCount offers stakes answer = (k : ℕ) × (answer ≡ NoShape Stakes k) × IsMiscount (length stakes) (length offers) k

-- the entries are no price measure
abbrev pub RefusesMeasure : List (Outcome × ℕ) → Answer → Type 0
RefusesMeasure measure answer = (k : ℕ) × (answer ≡ NoShape Measure k) × IsMeasureFault measure k

-- each number is at most what its offer allows
abbrev pub IsWithin : (Offer → ℕ) → List ℕ → ℕ → Offer → Type 0
IsWithin most numbers i offer = slice_index numbers i ≤ most offer

-- the first that is above it
abbrev pub RefusesLimit : (Offer → ℕ) → List Offer → List ℕ → Answer → Type 0
RefusesLimit most offers numbers answer =
    (i : ℕ) × (answer ≡ NoOffer i (pos (slice_index numbers i))) × IsFirstFailure (IsWithin most numbers) offers i

-- the first stand-in at which the stakes win too little
abbrev pub RefusesOutcome : (Outcome → ℤ) → Answer → Type 0
RefusesOutcome total answer = (x : Outcome) × (won : ℤ) × (answer ≡ NoAt x won) × IsLoss total x won

-- the first offer that gains on average
abbrev pub RefusesMean : List Offer → List (Outcome × ℕ) → Answer → Type 0
RefusesMean offers measure answer =
    (i : ℕ) × (gained : ℤ) × (answer ≡ NoOffer i gained) × IsGain offers measure i gained

-- what one unit needs on average
abbrev pub unit_need : List (Outcome × ℕ) → ℤ
unit_need measure = pos 2000 *ℤ final_weight measure

-- stakes within the limits may win on average what one unit needs
abbrev pub RefusesBound : List Offer → List (Outcome × ℕ) → Answer → Type 0
RefusesBound offers measure answer =
    (answer ≡ NoBound (reach offers measure) (unit_need measure)) × (unit_need measure ≤ℤ reach offers measure)

-- the tests of fractional stakes and of a measure that bounds them
abbrev pub IsThinAnswer : List Offer → ℕ → List ℕ → List (Outcome × ℕ) → Answer → Type 0
IsThinAnswer offers divisor parts measure answer =
    Tests ((k : ℕ) × (answer ≡ NoShape Stakes k) × IsShapeFault (length offers) (record { divisor = divisor; parts = parts }) k) (HasShape (length offers) (record { divisor = divisor; parts = parts }))
    (Tests (RefusesMeasure measure answer) (IsPriceMeasure measure)
    (Tests (RefusesLimit (λ offer. offer.limit * divisor) offers parts answer) (AllHold (IsWithin (λ offer. offer.limit * divisor) parts) offers)
    (Tests (RefusesOutcome (total_gain offers parts) answer) (AllHold (Meets (total_gain offers parts)) stand_ins)
    (Tests (RefusesBound offers measure answer) (reach offers measure <ℤ unit_need measure) (IsYes answer)))))

-- the tests of each kind of finding in their order: the first that refuses gives the answer, and if none
-- does the verdict is right
abbrev pub IsAnswer : List Offer → Finding → Answer → Type 0
IsAnswer offers (Arb stakes) answer =
    Tests (RefusesCount offers stakes answer) (length stakes ≡ length offers)
    (Tests (RefusesLimit (λ offer. offer.limit) offers stakes answer) (AllHold (IsWithin (λ offer. offer.limit) stakes) offers)
    (Tests (RefusesOutcome (total_net offers stakes) answer) (AllHold (Meets (total_net offers stakes)) stand_ins) (IsYes answer)))
IsAnswer offers (Coherent measure) answer =
    Tests (RefusesMeasure measure answer) (IsPriceMeasure measure)
    (Tests (RefusesMean offers measure answer) (AllHold (GainsNothing measure) offers) (IsYes answer))
IsAnswer offers (Thin stakes measure) answer = IsThinAnswer offers stakes.divisor stakes.parts measure answer
IsAnswer offers (Narrow stakes measure) answer = answer ≡ NotAVerdict
IsAnswer offers (Wide stage pivots place) answer = answer ≡ NotAVerdict
IsAnswer offers (OutOfPivots stage pivots) answer = answer ≡ NotAVerdict
