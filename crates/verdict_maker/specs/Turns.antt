-- What follows from the best tableau of each run, told by its kept form.
use Rattle.std.specs.Prelude.{◌≡◌, ℕ, ◌<◌, ◌≤◌, List, length, slice_index}
use Rattle.pivot_definitions.specs.Tableaus.{SimplexTableau, kept}
use Rattle.scan_types.specs.declared.offer.Offer.{Offer}
use Rattle.scan_types.specs.declared.outcome.Outcome.{Outcome}
use Rattle.settlement_definitions.specs.Classes.{classes_of}
use Rattle.finding_definitions.specs.Fractions.{Fractions}
use Rattle.finding_definitions.specs.declared.finding.Finding.{Finding}
use Rattle.finding_definitions.specs.declared.finding.Finding.TheVariants.{Arb, Coherent, Thin}
use Rattle.finding_definitions.specs.declared.finding.Stage.TheVariants.{First, Slack, Plain}
use Rattle.judging_definitions.specs.Stakes.{floors}
use Rattle.judging_definitions.specs.Readings.{HasLevelOne, MeasureReads, DirectionReads}
use Rattle.judging_definitions.specs.ExactFinding.{Either, AfterReading, IsFoundInDirection, IsFoundByPlainRun, IsFoundWithinLimits}
use Rattle.judging_definitions.specs.FirstRun.{first_stakes}
use Rattle.judging_laws.specs.Laws.{limited_stakes}

-- a finding follows from the tableau that is left, whatever plain tableau it is the kept form of
abbrev pub FromKept : SimplexTableau → (SimplexTableau → Finding → Type 0) → Finding → Type 0
FromKept left follows finding = (plain : SimplexTableau) → left ≡ kept plain → follows plain finding

-- after the first run
abbrev pub AfterFirst : List Offer → ℕ → ℕ → SimplexTableau → Finding → Type 0
AfterFirst offers budget pivots end finding =
    Either (HasLevelOne end)
    (AfterReading (DirectionReads offers (first_stakes offers end)) First pivots (λ direction. IsFoundInDirection offers budget direction finding) finding)
    (AfterReading (MeasureReads (classes_of offers) end) First pivots (λ measure. finding ≡ Coherent measure) finding)

-- after the run with slack
abbrev pub AfterSlack : List Offer → ℕ → Fractions → ℕ → SimplexTableau → Finding → Type 0
AfterSlack offers budget direction pivots end finding =
    Either (HasLevelOne end)
    (finding ≡ Arb (floors (limited_stakes offers end)))
    (AfterReading (MeasureReads (classes_of offers) end) Slack pivots (λ measure. IsFoundByPlainRun offers budget direction measure finding) finding)

-- after the run without slack
abbrev pub AfterPlain : List Offer → Fractions → List (Outcome × ℕ) → ℕ → SimplexTableau → Finding → Type 0
AfterPlain offers direction slack_measure pivots end finding =
    Either (HasLevelOne end)
    (IsFoundWithinLimits offers pivots end slack_measure finding)
    (AfterReading (MeasureReads (classes_of offers) end) Plain pivots (λ measure. finding ≡ Thin direction measure) finding)

-- some number of the list is above 0
abbrev pub HasSome : List ℕ → Type 0
HasSome numbers = (k : ℕ) × (k < length numbers) × (1 ≤ slice_index numbers k)
