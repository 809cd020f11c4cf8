-- How many pivots a finding that is out of pivots has made.
use Rattle.std.specs.Prelude.{ℕ, ◌<◌, List, map}
use Rattle.pivot_definitions.specs.Programs.{LinearProgram}
use Rattle.bland_laws.specs.Bases.{basis_count}
use Rattle.scan_types.specs.declared.offer.Offer.{Offer}
use Rattle.settlement_definitions.specs.Classes.{classes_of}
use Rattle.finding_definitions.specs.declared.finding.Finding.{Finding}
use Rattle.finding_definitions.specs.declared.finding.Finding.TheVariants.{OutOfPivots}
use Rattle.finding_definitions.specs.declared.finding.Stage.{Stage}
use Rattle.finding_definitions.specs.declared.finding.Stage.TheVariants.{First, Slack, Plain}
use Rattle.judging_definitions.specs.Columns.{leading_offers}
use Rattle.judging_definitions.specs.JudgingPrograms.{homogeneous_program, limited_program, plain_need, slack_need}
use Rattle.judging_definitions.specs.ExactFinding.{IsFindingOf}

-- the program of a stage
abbrev pub program_of : List Offer → Stage → LinearProgram
program_of offers First = homogeneous_program (classes_of offers) (map (λ offer. offer.1) (leading_offers offers (classes_of offers)))
program_of offers Slack = limited_program (classes_of offers) offers (slack_need offers)
program_of offers Plain = limited_program (classes_of offers) offers plain_need

-- where a finding is out of pivots, its run made fewer than the program of its stage has bases
abbrev pub MadeFewPivots : List Offer → Finding → Type 0
MadeFewPivots offers (OutOfPivots stage pivots) = pivots < basis_count (program_of offers stage)
MadeFewPivots offers _ = Unit {0}

-- so it is with the finding of a sheet
abbrev pub SpentRunIsShort : Type 0
SpentRunIsShort = (offers : List Offer) (budget : ℕ) (finding : Finding) → IsFindingOf offers budget finding → MadeFewPivots offers finding
