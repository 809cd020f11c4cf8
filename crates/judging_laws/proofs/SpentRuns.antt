-- A finding that is out of pivots made fewer than the program of its stage has bases, whichever of the six steps it comes from.
use Rattle.std.proofs.Common.{◌≡◌, ℕ, inl, inr, List, map, sym, subst}
use Rattle.pivot_definitions.specs.Programs.{IsProgram, IsCapped}
use Rattle.pivot_definitions.specs.Tableaus.{SimplexTableau}
use Rattle.bland_laws.proofs.RunsAreShort.{out_of_pivots_is_short}
use Rattle.scan_types.specs.declared.offer.Offer.{Offer}
use Rattle.scan_types.specs.declared.outcome.Outcome.{Outcome}
use Rattle.settlement_definitions.specs.Classes.{classes_of}
use Rattle.finding_definitions.specs.Fractions.{Fractions}
use Rattle.finding_definitions.specs.declared.finding.Finding.{Finding}
use Rattle.finding_definitions.specs.declared.finding.Finding.TheVariants.{Coherent, Thin, Narrow}
use Rattle.finding_definitions.specs.declared.finding.Stage.{Stage}
use Rattle.finding_definitions.specs.declared.finding.Stage.TheVariants.{First, Slack, Plain}
use Rattle.judging_definitions.specs.Columns.{leading_offers}
use Rattle.judging_definitions.specs.JudgingPrograms.{plain_need, slack_need}
use Rattle.judging_definitions.specs.Stakes.{fractional_stakes, all_numbers}
use Rattle.judging_definitions.specs.Readings.{Reading, MeasureReads, DirectionReads, PartsRead}
use Rattle.judging_definitions.specs.ExactFinding.{AfterRun, AfterReading, IsFoundWithinLimits, IsFoundByPlainRun, IsFoundBySlackRun, IsFoundInDirection, IsExactFinding}
use Rattle.judging_definitions.specs.CoarseFinding.{IsCoarseVerdict}
use Rattle.judging_laws.specs.SpentRuns.{program_of, MadeFewPivots, SpentRunIsShort}
use Rattle.judging_laws.proofs.ProgramRows.{homogeneous_is_capped, limited_is_capped}

after_run : (offers : List Offer) (budget : ℕ) (stage : Stage) (next : ℕ → SimplexTableau → Type 0) (finding : Finding) → IsProgram (program_of offers stage) × IsCapped (program_of offers stage)
    → ((pivots : ℕ) (end : SimplexTableau) → next pivots end → MadeFewPivots offers finding) → AfterRun (program_of offers stage) budget stage next finding → MadeFewPivots offers finding
after_run offers budget stage next finding capped few (inl (inl wide)) = subst (MadeFewPivots offers) (sym wide.is) tt
after_run offers budget stage next finding capped few (inl (inr spent)) =
    subst (MadeFewPivots offers) (sym spent.is) (out_of_pivots_is_short (program_of offers stage) capped.0 capped.1 budget spent.pivots spent.end spent.ends)
after_run offers budget stage next finding capped few (inr (pivots, end, ends, more)) = few pivots end more

after_reading : {A : Type 0} (offers : List Offer) (reads : Reading A → Type 0) (stage : Stage) (pivots : ℕ) (next : A → Type 0) (finding : Finding)
    → ((value : A) → next value → MadeFewPivots offers finding) → AfterReading reads stage pivots next finding → MadeFewPivots offers finding
after_reading offers reads stage pivots next finding few (inl (place, wide, is)) = subst (MadeFewPivots offers) (sym is) tt
after_reading offers reads stage pivots next finding few (inr (value, read, more)) = few value more

within_limits_few : (offers : List Offer) (pivots : ℕ) (end : SimplexTableau) (measure : List (Outcome × ℕ)) (finding : Finding) → IsFoundWithinLimits offers pivots end measure finding → MadeFewPivots offers finding
within_limits_few offers pivots end measure finding (inl (arbitrage, is)) = subst (MadeFewPivots offers) (sym is) tt
within_limits_few offers pivots end measure finding (inr (fails, next)) =
    after_reading offers (PartsRead (fractional_stakes (classes_of offers) offers (all_numbers offers) end)) Plain pivots (λ parts. finding ≡ Narrow parts measure) finding
    (λ parts is. subst (MadeFewPivots offers) (sym is) tt) next

plain_few : (offers : List Offer) (budget : ℕ) (direction : Fractions) (measure : List (Outcome × ℕ)) (finding : Finding) → IsFoundByPlainRun offers budget direction measure finding → MadeFewPivots offers finding
plain_few offers budget direction measure finding found =
    after_run offers budget Plain _ finding (limited_is_capped (classes_of offers) offers plain_need) (λ pivots end next. elim next [
      | inl (one, more) ↦ within_limits_few offers pivots end measure finding more
      | inr (below, more) ↦ after_reading offers (MeasureReads (classes_of offers) end) Plain pivots (λ m. finding ≡ Thin direction m) finding (λ m is. subst (MadeFewPivots offers) (sym is) tt) more
    ]) found

slack_few : (offers : List Offer) (budget : ℕ) (direction : Fractions) (finding : Finding) → IsFoundBySlackRun offers budget direction finding → MadeFewPivots offers finding
slack_few offers budget direction finding found =
    after_run offers budget Slack _ finding (limited_is_capped (classes_of offers) offers (slack_need offers)) (λ pivots end next. elim next [
      | inl (one, is) ↦ subst (MadeFewPivots offers) (sym is) tt
      | inr (below, more) ↦ after_reading offers (MeasureReads (classes_of offers) end) Slack pivots (λ m. IsFoundByPlainRun offers budget direction m finding) finding (λ m next. plain_few offers budget direction m finding next) more
    ]) found

direction_few : (offers : List Offer) (budget : ℕ) (direction : Fractions) (finding : Finding) → IsFoundInDirection offers budget direction finding → MadeFewPivots offers finding
direction_few offers budget direction finding (stakes, are, inl (arbitrage, is)) = subst (MadeFewPivots offers) (sym is) tt
direction_few offers budget direction finding (stakes, are, inr (fails, next)) = slack_few offers budget direction finding next

exact_few : (offers : List Offer) (budget : ℕ) (finding : Finding) → IsExactFinding offers budget finding → MadeFewPivots offers finding
exact_few offers budget finding found =
    let classes = classes_of offers in
    let leading = leading_offers offers classes in
    let numbers = map (λ (e : ℕ × Offer). e.0) leading in
    after_run offers budget First _ finding (homogeneous_is_capped classes (map (λ (e : ℕ × Offer). e.1) leading)) (λ pivots end next. elim next [
      | inl (one, more) ↦ after_reading offers (DirectionReads offers (fractional_stakes classes offers numbers end)) First pivots (λ d. IsFoundInDirection offers budget d finding) finding (λ d next. direction_few offers budget d finding next) more
      | inr (below, more) ↦ after_reading offers (MeasureReads classes end) First pivots (λ m. finding ≡ Coherent m) finding (λ m is. subst (MadeFewPivots offers) (sym is) tt) more
    ]) found

coarse_few : (offers : List Offer) (budget : ℕ) (finding : Finding) → IsCoarseVerdict offers budget finding → MadeFewPivots offers finding
coarse_few offers budget finding (inl measure) = subst (MadeFewPivots offers) (sym measure.2.is) tt
coarse_few offers budget finding (inr (none, stakes)) = subst (MadeFewPivots offers) (sym stakes.2.stakes.is) tt

pub spent_run_is_short : SpentRunIsShort
spent_run_is_short offers budget finding (inl coarse) = coarse_few offers budget finding coarse.3
spent_run_is_short offers budget finding (inr (none, exact)) = exact_few offers budget finding exact
