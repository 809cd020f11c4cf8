-- The finding of a sheet with a budget of pivots, in six steps over exact programs.
use Rattle.std.specs.Prelude.{◌≡◌, ℕ, ◌⊎◌, List, map}
use Rattle.pivot_definitions.specs.Programs.{LinearProgram}
use Rattle.pivot_definitions.specs.Tableaus.{SimplexTableau, built}
use Rattle.pivot_definitions.specs.Runs.{EndsBest, EndsWide, EndsOutOfPivots}
use Rattle.scan_types.specs.declared.offer.Offer.{Offer}
use Rattle.scan_types.specs.declared.outcome.Outcome.{Outcome}
use Rattle.settlement_definitions.specs.Classes.{classes_of}
use Rattle.finding_definitions.specs.Arbitrage.{IsArbitrage}
use Rattle.finding_definitions.specs.Fractions.{Fractions}
use Rattle.finding_definitions.specs.declared.finding.Finding.{Finding}
use Rattle.finding_definitions.specs.declared.finding.Finding.TheVariants.{Arb, Coherent, Thin, Narrow, Wide, OutOfPivots}
use Rattle.finding_definitions.specs.declared.finding.Stage.{Stage}
use Rattle.finding_definitions.specs.declared.finding.Stage.TheVariants.{First, Slack, Plain}
use Rattle.finding_definitions.specs.declared.finding.WideAt.{WideAt}
use Rattle.finding_definitions.specs.declared.finding.WideAt.TheVariants.{Entry}
use Rattle.judging_definitions.specs.Columns.{leading_offers}
use Rattle.judging_definitions.specs.JudgingPrograms.{homogeneous_program, limited_program, plain_need, slack_need}
use Rattle.judging_definitions.specs.Stakes.{fractional_stakes, all_numbers, floors, AreScaledFloors}
use Rattle.judging_definitions.specs.CoarseFinding.{FirstOf, IsCoarseVerdict}
use Rattle.judging_definitions.specs.Readings.{HasLevelOne, Reading, Reads, ReadsWide, MeasureReads, DirectionReads, PartsRead}

-- the finding where a run passes 128 bits: the place
pub record IsWideRun (program : LinearProgram) (budget : ℕ) (stage : Stage) (finding : Finding) : Type 0 where
  pub pivots : ℕ
  pub row : ℕ
  pub column : ℕ
  pub end : SimplexTableau
  pub ends : EndsWide (built program) budget pivots row column end
  pub is : finding ≡ Wide stage pivots (Entry row column)

-- the finding where a run spends its budget
pub record IsSpentRun (program : LinearProgram) (budget : ℕ) (stage : Stage) (finding : Finding) : Type 0 where
  pub pivots : ℕ
  pub end : SimplexTableau
  pub ends : EndsOutOfPivots (built program) budget pivots end
  pub is : finding ≡ OutOfPivots stage pivots

-- a run of a program with the budget: where it is not at its best at the end, that is the finding; else what follows from its pivots and the tableau at its end
abbrev pub AfterRun : LinearProgram → ℕ → Stage → (ℕ → SimplexTableau → Type 0) → Finding → Type 0
AfterRun program budget stage next finding =
    (IsWideRun program budget stage finding ⊎ IsSpentRun program budget stage finding)
    ⊎ ((pivots : ℕ) × (end : SimplexTableau) × EndsBest (built program) budget pivots end × next pivots end)

-- a reading after so many pivots: where a number is too wide, that is the finding; else what follows from the value that is read
abbrev pub AfterReading : {A : Type 0} → (Reading A → Type 0) → Stage → ℕ → (A → Type 0) → Finding → Type 0
AfterReading {A} reads stage pivots next finding =
    ((place : WideAt) × reads (ReadsWide place) × (finding ≡ Wide stage pivots place))
    ⊎ ((value : A) × reads (Reads value) × next value)

-- the one where a fact holds, and the other where it does not
abbrev pub Either : Type 0 → Type 0 → Type 0 → Type 0
Either fact holds fails = (fact × holds) ⊎ ((fact → ⊥) × fails)

-- step 6: the stakes of the plain run, rounded down, if they are an arbitrage, else those stakes with the slack run's measure
abbrev pub IsFoundWithinLimits : List Offer → ℕ → SimplexTableau → List (Outcome × ℕ) → Finding → Type 0
IsFoundWithinLimits offers pivots end slack_measure finding =
    let stakes = fractional_stakes (classes_of offers) offers (all_numbers offers) end in
    Either (IsArbitrage offers (floors stakes)) (finding ≡ Arb (floors stakes))
    (AfterReading (PartsRead stakes) Plain pivots (λ parts. finding ≡ Narrow parts slack_measure) finding)

-- step 5: the program with limits and no slack, for stakes that win one minor unit
abbrev pub IsFoundByPlainRun : List Offer → ℕ → Fractions → List (Outcome × ℕ) → Finding → Type 0
IsFoundByPlainRun offers budget direction slack_measure finding =
    AfterRun (limited_program (classes_of offers) offers plain_need) budget Plain
    (λ pivots end. Either (HasLevelOne end)
    (IsFoundWithinLimits offers pivots end slack_measure finding)
    (AfterReading (MeasureReads (classes_of offers) end) Plain pivots (λ measure. finding ≡ Thin direction measure) finding))
    finding

-- step 4: the program with limits and slack, for stakes that win one minor unit also after rounding
abbrev pub IsFoundBySlackRun : List Offer → ℕ → Fractions → Finding → Type 0
IsFoundBySlackRun offers budget direction finding =
    AfterRun (limited_program (classes_of offers) offers (slack_need offers)) budget Slack
    (λ pivots end. Either (HasLevelOne end)
    (finding ≡ Arb (floors (fractional_stakes (classes_of offers) offers (all_numbers offers) end)))
    (AfterReading (MeasureReads (classes_of offers) end) Slack pivots (λ measure. IsFoundByPlainRun offers budget direction measure finding) finding))
    finding

-- step 3: stakes in the direction, as large as the limits let them be, if they are an arbitrage
abbrev pub IsFoundInDirection : List Offer → ℕ → Fractions → Finding → Type 0
IsFoundInDirection offers budget direction finding =
    (stakes : List ℕ) × AreScaledFloors offers direction.parts stakes × Either (IsArbitrage offers stakes) (finding ≡ Arb stakes) (IsFoundBySlackRun offers budget direction finding)

-- the finding by exact programs: steps 1 and 2 run the program without limits, and read a measure at level 0, else a direction
abbrev pub IsExactFinding : List Offer → ℕ → Finding → Type 0
IsExactFinding offers budget finding =
    let classes = classes_of offers in
    let leading = leading_offers offers classes in
    AfterRun (homogeneous_program classes (map (λ offer. offer.1) leading)) budget First
    (λ pivots end. Either (HasLevelOne end)
    (AfterReading (DirectionReads offers (fractional_stakes classes offers (map (λ offer. offer.0) leading) end)) First pivots (λ direction. IsFoundInDirection offers budget direction finding) finding)
    (AfterReading (MeasureReads classes end) First pivots (λ measure. finding ≡ Coherent measure) finding))
    finding

-- the finding is wide in the first run, or in what is read at its end
abbrev pub IsWideAtFirst : Finding → Type 0
IsWideAtFirst (Wide First pivots place) = Unit {0}
IsWideAtFirst _ = ⊥

-- the coarse verdict, where the exact finding is wide in the first run
abbrev pub IsCoarseInstead : List Offer → ℕ → Finding → Type 0
IsCoarseInstead offers budget finding = (exact : Finding) × IsExactFinding offers budget exact × IsWideAtFirst exact × IsCoarseVerdict offers budget finding

-- the finding of a sheet with a budget of pivots for each run: the exact one, except where that is wide in the first run and there is a coarse verdict; there it is the coarse verdict
abbrev pub IsFindingOf : List Offer → ℕ → Finding → Type 0
IsFindingOf offers budget finding = FirstOf (IsCoarseInstead offers budget) (IsExactFinding offers budget) finding
