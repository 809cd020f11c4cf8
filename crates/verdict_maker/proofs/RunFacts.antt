-- What is told of a run is what the definition of a finding says of it.
use Rattle.std.proofs.Common.{◌≡◌, ℕ, inr, refl, subst}
use Rattle.pivot_definitions.specs.Programs.{LinearProgram, IsProgram, IsCapped}
use Rattle.pivot_definitions.specs.Tableaus.{SimplexTableau, built}
use Rattle.pivot_definitions.specs.Runs.{IsBest, EndsBest, EndsWide, EndsOutOfPivots}
use Rattle.pivot_rule.specs.Ends.{RunEndsAs}
use Rattle.pivot_rule.specs.declared.bland.RunEnd.TheVariants.{Best, Wide, OutOfPivots}
use Rattle.finding_definitions.specs.declared.finding.Finding.{Finding}
use Rattle.finding_definitions.specs.declared.finding.Finding.TheVariants as findings
use Rattle.finding_definitions.specs.declared.finding.WideAt.TheVariants.{Entry}
use Rattle.finding_definitions.specs.declared.finding.Stage.{Stage}
use Rattle.judging_definitions.specs.ExactFinding.{IsWideRun, IsSpentRun, AfterRun}
use Rattle.verdict_maker.specs.Runs.{LeavesBest}
use Rattle.verdict_maker.specs.Turns.{FromKept}

pub ran_best : (program : LinearProgram) (start left : SimplexTableau) (budget pivots : ℕ) → IsProgram program → IsCapped program → start ≡ built program → RunEndsAs start budget (Best pivots) left → IsBest left → LeavesBest program budget pivots left
ran_best program start left budget pivots is_program capped built_is ran best =
    let ends = subst (λ s. EndsBest s budget pivots ran.0) built_is ran.2 in
    record { plain = ran.0; ends = ends; is_kept = ran.1; at_best = ((is_program, capped, pivots, ran.0, ends.run, ran.1), best) }

pub ran_wide : (program : LinearProgram) (start left : SimplexTableau) (budget pivots row column : ℕ) (stage : Stage) → start ≡ built program → RunEndsAs start budget (Wide pivots row column) left → IsWideRun program budget stage (findings.Wide stage pivots (Entry row column))
ran_wide program start left budget pivots row column stage built_is ran =
    record { pivots = pivots; row = row; column = column; end = ran.0; ends = subst (λ s. EndsWide s budget pivots row column ran.0) built_is ran.2; is = refl }

pub ran_spent : (program : LinearProgram) (start left : SimplexTableau) (budget pivots : ℕ) (stage : Stage) → start ≡ built program → RunEndsAs start budget (OutOfPivots pivots) left → IsSpentRun program budget stage (findings.OutOfPivots stage pivots)
ran_spent program start left budget pivots stage built_is ran =
    record { pivots = pivots; end = ran.0; ends = subst (λ s. EndsOutOfPivots s budget pivots ran.0) built_is ran.2; is = refl }

-- what follows from the tableau that a run leaves follows after the run
pub after_best : (program : LinearProgram) (budget pivots : ℕ) (stage : Stage) (next : ℕ → SimplexTableau → Finding → Type 0) (left : SimplexTableau) (finding : Finding) → LeavesBest program budget pivots left → FromKept left (next pivots) finding → AfterRun program budget stage (λ n end. next n end finding) finding
after_best program budget pivots stage next left finding leaves follows = inr (pivots, leaves.plain, leaves.ends, follows leaves.plain leaves.is_kept)
