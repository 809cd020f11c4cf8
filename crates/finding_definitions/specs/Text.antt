-- The one text of a finding: fields separated by one space, numbers in decimal digits without a leading zero.
use Rattle.std.specs.Prelude.{ℕ, List, [], ◌∷◌, ◌++◌, length, codes, decimal}
use Rattle.std.specs.List.{flat_map, join_with_byte}
use Rattle.scan_types.specs.declared.outcome.Outcome.{Outcome}
use Rattle.scan_types.specs.declared.outcome.Outcome.TheVariants.{Full, Abandoned}
use Rattle.finding_definitions.specs.declared.finding.Stage.{Stage}
use Rattle.finding_definitions.specs.declared.finding.Stage.TheVariants.{First, Slack, Plain}
use Rattle.finding_definitions.specs.declared.finding.WideAt.{WideAt}
use Rattle.finding_definitions.specs.declared.finding.WideAt.TheVariants.{Entry, Weight, Stake}
use Rattle.finding_definitions.specs.declared.finding.Finding.{Finding}
use Rattle.finding_definitions.specs.declared.finding.Finding.TheVariants.{Arb, Coherent, Thin, Narrow, Wide, OutOfPivots}
use Rattle.finding_definitions.specs.Fractions.{Fractions}

-- an outcome as its kind and the goals of the home and of the away side
abbrev pub outcome_fields : Outcome → List (List ℕ)
outcome_fields (Full home away) = codes "full" ∷ decimal home ∷ decimal away ∷ []
outcome_fields (Abandoned home away) = codes "abandoned" ∷ decimal home ∷ decimal away ∷ []

-- a list with its length before it
abbrev pub counted : {A : Type 0} → (A → List (List ℕ)) → List A → List (List ℕ)
counted fields items = decimal (length items) ∷ flat_map fields items

-- whole stakes, or the parts of fractional ones
abbrev pub stake_fields : List ℕ → List (List ℕ)
stake_fields stakes = counted (λ stake. decimal stake ∷ []) stakes

-- an outcome with its weight
abbrev pub entry_fields : Outcome × ℕ → List (List ℕ)
entry_fields entry = outcome_fields entry.0 ++ decimal entry.1 ∷ []

-- outcomes, each with its weight
abbrev pub measure_fields : List (Outcome × ℕ) → List (List ℕ)
measure_fields measure = counted entry_fields measure

-- the divisor, and then the parts
abbrev pub fraction_fields : Fractions → List (List ℕ)
fraction_fields fractions = decimal fractions.divisor ∷ stake_fields fractions.parts

-- the three runs of a judgement by their numbers
abbrev pub stage_number : Stage → ℕ
stage_number First = 1
stage_number Slack = 2
stage_number Plain = 3

-- which run of a judgement it was, and its pivots
abbrev pub run_fields : Stage → ℕ → List (List ℕ)
run_fields stage pivots = decimal (stage_number stage) ∷ decimal pivots ∷ []

-- where a number left the 128 bits
abbrev pub place_fields : WideAt → List (List ℕ)
place_fields (Entry row column) = codes "entry" ∷ decimal row ∷ decimal column ∷ []
place_fields (Weight entry) = codes "weight" ∷ decimal entry ∷ []
place_fields (Stake offer) = codes "stake" ∷ decimal offer ∷ []

-- a finding as its kind and what it carries
abbrev pub finding_fields : Finding → List (List ℕ)
finding_fields (Arb stakes) = codes "arb" ∷ stake_fields stakes
finding_fields (Coherent measure) = codes "coherent" ∷ measure_fields measure
finding_fields (Thin parts measure) = codes "thin" ∷ (fraction_fields parts ++ measure_fields measure)
finding_fields (Narrow parts measure) = codes "narrow" ∷ (fraction_fields parts ++ measure_fields measure)
finding_fields (Wide stage pivots place) = codes "wide" ∷ (run_fields stage pivots ++ place_fields place)
finding_fields (OutOfPivots stage pivots) = codes "out-of-pivots" ∷ run_fields stage pivots

-- the text of a finding
abbrev pub finding_text : Finding → List ℕ
finding_text finding = join_with_byte 32 (finding_fields finding)
