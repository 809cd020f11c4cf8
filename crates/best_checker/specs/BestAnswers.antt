-- The answers of the checker of best stakes, in the order in which they are tried.
use Rattle.std.specs.Prelude.{ℕ, ℤ, pos, ◌≡◌, ◌≢◌, ◌*◌, List, length, slice_index}
use Rattle.scan_types.specs.declared.offer.Offer.{Offer}
use Rattle.scan_types.specs.declared.outcome.Outcome.{Outcome}
use Rattle.settlement_definitions.specs.StandIns.{stand_ins}
use Rattle.finding_definitions.specs.Fractions.{Fractions}
use Rattle.finding_definitions.specs.Arbitrage.{total_gain}
use Rattle.finding_definitions.specs.Measure.{IsPriceMeasure}
use Rattle.finding_definitions.specs.Best.{Ties}
use Rattle.cert_checker.specs.declared.answer.Part.TheVariants.{Stakes, Measure}
use Rattle.cert_checker.specs.Places.{AllHold, IsFirstFailure}
use Rattle.cert_checker.specs.Shapes.{HasShape, IsShapeFault, IsMeasureFault}
use Rattle.cert_checker.specs.Answers.{Tests, IsWithin}
use Rattle.best_checker.specs.declared.answer.BestAnswer.{BestAnswer}
use Rattle.best_checker.specs.declared.answer.BestAnswer.TheVariants.{Yes, NoShape, NoOffer, NoAt, NoTie}
use Rattle.best_checker.specs.Abandonments.{KeepsAll, IsLossAbandoned}
use Rattle.best_checker.specs.Amounts.{IsSureGain, IsBound}

-- the answer is that the stakes are the best
abbrev pub IsYes : BestAnswer → Type 0
IsYes Yes = Unit {0}
IsYes (NoShape part k) = ⊥
IsYes (NoOffer i n) = ⊥
IsYes (NoAt x n) = ⊥
IsYes (NoTie gain bound) = ⊥

-- the divisor or a part is out of range, or the parts are not one for each offer
abbrev pub RefusesShape : List Offer → Fractions → BestAnswer → Type 0
RefusesShape offers stakes answer = (k : ℕ) × (answer ≡ NoShape Stakes k) × IsShapeFault (length offers) stakes k

-- the entries are no price measure
abbrev pub RefusesMeasure : List (Outcome × ℕ) → BestAnswer → Type 0
RefusesMeasure measure answer = (k : ℕ) × (answer ≡ NoShape Measure k) × IsMeasureFault measure k

-- the first part above its limit times the divisor
abbrev pub RefusesLimit : List Offer → Fractions → BestAnswer → Type 0
RefusesLimit offers stakes answer =
    (i : ℕ) × (answer ≡ NoOffer i (pos (slice_index stakes.parts i))) × IsFirstFailure (IsWithin (λ offer. offer.limit * stakes.divisor) stakes.parts) offers i

-- the first abandonment at which the parts lose
abbrev pub RefusesAbandonment : List Offer → Fractions → BestAnswer → Type 0
RefusesAbandonment offers stakes answer =
    (x : Outcome) × (won : ℤ) × (answer ≡ NoAt x won) × IsLossAbandoned (total_gain offers stakes.parts) x won

-- the sure gain and the bound, which differ
pub record RefusesTie (offers : List Offer) (stakes : Fractions) (measure : List (Outcome × ℕ)) (answer : BestAnswer) : Type 0 where
  pub gain : ℤ × ℤ
  pub bound : ℤ × ℤ
  pub is : answer ≡ NoTie gain bound
  pub gains : IsSureGain offers stakes.divisor stakes.parts gain
  pub bounds : IsBound offers measure bound
  pub differ : gain ≢ bound

-- the tests in their order: the first that refuses gives the answer, and if none does the stakes are the best
abbrev pub IsBestAnswer : List Offer → Fractions → List (Outcome × ℕ) → BestAnswer → Type 0
IsBestAnswer offers stakes measure answer =
    Tests (RefusesShape offers stakes answer) (HasShape (length offers) stakes)
    (Tests (RefusesMeasure measure answer) (IsPriceMeasure measure)
    (Tests (RefusesLimit offers stakes answer) (AllHold (IsWithin (λ offer. offer.limit * stakes.divisor) stakes.parts) offers)
    (Tests (RefusesAbandonment offers stakes answer) (AllHold (KeepsAll (total_gain offers stakes.parts)) stand_ins)
    (Tests (RefusesTie offers stakes measure answer) (Ties offers stakes.divisor stakes.parts measure) (IsYes answer)))))
