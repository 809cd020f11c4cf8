-- Which texts are read as findings, and where a text stops being one.
use Rattle.std.specs.Prelude.{ℕ, ◌≡◌, ◌<◌, ◌≤◌, ◌^◌, List, ◌++◌, length, take, All}
use Rattle.scan_types.specs.declared.outcome.Outcome.{Outcome}
use Rattle.scan_types.specs.declared.outcome.Outcome.TheVariants.{Full, Abandoned}
use Rattle.scan_types.specs.declared.limits.TheConstants.{MOST_OFFERS, MOST_MEASURE_ENTRIES}
use Rattle.finding_definitions.specs.declared.finding.WideAt.{WideAt}
use Rattle.finding_definitions.specs.declared.finding.WideAt.TheVariants.{Entry, Weight, Stake}
use Rattle.finding_definitions.specs.declared.finding.Finding.{Finding}
use Rattle.finding_definitions.specs.declared.finding.Finding.TheVariants.{Arb, Coherent, Thin, Narrow, Wide, OutOfPivots}
use Rattle.finding_definitions.specs.Fractions.{Fractions}
use Rattle.finding_definitions.specs.Text.{finding_text}

-- a number of 32 bits
abbrev pub IsShort : ℕ → Type 0
IsShort n = n < 2 ^ 32

-- a number of 64 bits
abbrev pub IsLong : ℕ → Type 0
IsLong n = n < 2 ^ 64

-- at most MOST_OFFERS stakes of 32 bits
abbrev pub AreReadableStakes : List ℕ → Type 0
AreReadableStakes stakes = (length stakes ≤ MOST_OFFERS) × All IsShort stakes

-- a divisor and at most MOST_OFFERS parts of 64 bits
abbrev pub AreReadableParts : Fractions → Type 0
AreReadableParts fractions = IsLong fractions.divisor × (length fractions.parts ≤ MOST_OFFERS) × All IsLong fractions.parts

-- goals of 64 bits
abbrev pub IsReadableOutcome : Outcome → Type 0
IsReadableOutcome (Full home away) = IsLong home × IsLong away
IsReadableOutcome (Abandoned home away) = IsLong home × IsLong away

-- at most MOST_MEASURE_ENTRIES entries, with goals and a weight of 64 bits each
abbrev pub IsReadableMeasure : List (Outcome × ℕ) → Type 0
IsReadableMeasure measure =
    (length measure ≤ MOST_MEASURE_ENTRIES) × All (λ entry. IsReadableOutcome entry.0 × IsLong entry.1) measure

-- places of 32 bits
abbrev pub IsReadablePlace : WideAt → Type 0
IsReadablePlace (Entry row column) = IsShort row × IsShort column
IsReadablePlace (Weight entry) = IsShort entry
IsReadablePlace (Stake offer) = IsShort offer

-- a finding whose counts and numbers are within the limits for reading; nothing else of it is asked
abbrev pub IsReadable : Finding → Type 0
IsReadable (Arb stakes) = AreReadableStakes stakes
IsReadable (Coherent measure) = IsReadableMeasure measure
IsReadable (Thin parts measure) = AreReadableParts parts × IsReadableMeasure measure
IsReadable (Narrow parts measure) = AreReadableParts parts × IsReadableMeasure measure
IsReadable (Wide stage pivots place) = IsShort pivots × IsReadablePlace place
IsReadable (OutOfPivots stage pivots) = IsShort pivots

-- the text begins the text of a readable finding: it can be continued to one
abbrev pub BeginsFinding : List ℕ → Type 0
BeginsFinding text = (finding : Finding) × (rest : List ℕ) × IsReadable finding × (finding_text finding ≡ text ++ rest)

-- the text is no readable finding's text, and so many bytes of it, and no more, begin one
pub record IsFaultAt (text : List ℕ) (place : ℕ) : Type 0 where
  pub no_finding : (finding : Finding) → IsReadable finding → finding_text finding ≡ text → ⊥
  pub within : place ≤ length text
  pub begins : BeginsFinding (take place text)
  pub longest : (longer : ℕ) → place < longer → longer ≤ length text → BeginsFinding (take longer text) → ⊥
