-- What is found with coarse odds at a kept form is what the definition says of its plain tableau.
use Rattle.std.proofs.Common.{◌≡◌, ℕ, length, inl, inr, refl, sym, subst, arith}
use Rattle.std.specs.Prelude.{Option, None, Some, IfSome, ◌⊎◌, List, map}
use Rattle.pivot_definitions.specs.Tableaus.{SimplexTableau, built, kept}
use Rattle.pivot_definitions.proofs.One.{best_wide, best_out}
use Rattle.pivot_definitions.proofs.Ring.{linear}
use Rattle.scan_types.specs.declared.offer.Offer.{Offer}
use Rattle.scan_types.specs.declared.outcome.Outcome.TheVariants.{Full}
use Rattle.settlement_definitions.specs.Classes.{classes_of}
use Rattle.finding_definitions.specs.Findings.{IsVerdict, IsRightVerdict}
use Rattle.finding_definitions.specs.Fractions.{Fractions}
use Rattle.finding_definitions.specs.declared.finding.Finding.{Finding}
use Rattle.finding_definitions.specs.declared.finding.Stage.{Stage}
use Rattle.judging_definitions.specs.Columns.{leading_offers}
use Rattle.judging_definitions.specs.CoarseOdds.{raised_offers, kept_numbers, lowered_offers, with_zeros}
use Rattle.judging_definitions.specs.FirstRun.{first_program, first_stakes, FirstRunEndsBest}
use Rattle.judging_definitions.specs.Readings.{HasLevelOne, Reads, MeasureReads, IsDirection, DirectionReads}
use Rattle.judging_definitions.specs.CoarseFinding.{FirstOf, IsMeasureAt, IsCoarseMeasure, AreStakesInDirection, AreStakesAt, AreCoarseStakes, IsCoarseVerdict}
use Rattle.judging_definitions.specs.ExactFinding.{IsWideRun, IsSpentRun, IsExactFinding, IsWideAtFirst, IsFindingOf}
use Rattle.judging_definitions.proofs.OneFinding.{exact_finding_one}
use Rattle.judging_definitions.proofs.OneCoarseVerdict.{measure_at, stakes_at, in_direction}
use Rattle.judging_laws.proofs.KeptReadings.{same_measure, same_direction}
use Rattle.judging_laws.proofs.Directions.{direction_gains}
use Rattle.judging_laws.proofs.CoarseOdds.{lowered_stakes_gain_no_less}
use Rattle.judging_laws.proofs.RightFindings.{coarse_right}
use Rattle.judging_laws.specs.Laws.{IsAtBest}
use Rattle.verdict_maker.specs.Runs.{LeavesBest}
use Rattle.verdict_maker.specs.Turns.{HasSome}
use Rattle.verdict_maker.specs.Tries.{FoundBy}
use Rattle.verdict_maker.proofs.TurnFacts.{level_there, level_here, no_level_there, measure_there, direction_there, some_item, right_verdict}

-- ---- runs

-- a run that is wide or spends its budget has no best end
no_best_end : (offers : List Offer) (budget : ℕ) (stage : Stage) (finding : Finding) → IsWideRun (first_program offers) budget stage finding ⊎ IsSpentRun (first_program offers) budget stage finding → (end : SimplexTableau) → FirstRunEndsBest offers budget end → ⊥
no_best_end offers budget stage finding (inl wide) end best = best_wide (built (first_program offers)) budget best.pivots wide.pivots wide.row wide.column end wide.end best.ends wide.ends
no_best_end offers budget stage finding (inr spent) end best = best_out (built (first_program offers)) budget best.pivots spent.pivots end spent.end best.ends spent.ends

best_end : (offers : List Offer) (budget pivots : ℕ) (left : SimplexTableau) → (leaves : LeavesBest (first_program offers) budget pivots left) → FirstRunEndsBest offers budget leaves.plain
best_end offers budget pivots left leaves = record { pivots = pivots; ends = leaves.ends }

-- ---- measures

measure_from_kept : (offers : List Offer) (plain left : SimplexTableau) (finding : Finding) → left ≡ kept plain → IsMeasureAt offers left finding → IsMeasureAt offers plain finding
measure_from_kept offers plain left finding e found = record {
  level_zero = no_level_there plain left e found.level_zero;
  measure = found.measure;
  reads = measure_there (classes_of offers) (classes_of offers) plain left refl e (Reads found.measure) found.reads;
  is = found.is;
}

measure_to_kept : (offers : List Offer) (plain left : SimplexTableau) (finding : Finding) → left ≡ kept plain → IsMeasureAt offers plain finding → IsMeasureAt offers left finding
measure_to_kept offers plain left finding e found = record {
  level_zero = λ one. found.level_zero (level_there plain left e one);
  measure = found.measure;
  reads = subst (λ t. MeasureReads (classes_of offers) t (Reads found.measure)) (sym e) ((same_measure (classes_of offers) plain (Reads found.measure)).0 found.reads);
  is = found.is;
}

pub coarse_measure_open : (offers : List Offer) (budget : ℕ) (stage : Stage) (finding : Finding) → IsWideRun (first_program (raised_offers offers)) budget stage finding ⊎ IsSpentRun (first_program (raised_offers offers)) budget stage finding → FoundBy (IsCoarseMeasure offers budget) None
coarse_measure_open offers budget stage finding ended other found = no_best_end (raised_offers offers) budget stage finding ended found.0 found.1

pub coarse_measure_best : (offers : List Offer) (budget pivots : ℕ) (left : SimplexTableau) (found : Option Finding) → LeavesBest (first_program (raised_offers offers)) budget pivots left → FoundBy (IsMeasureAt (raised_offers offers) left) found → FoundBy (IsCoarseMeasure offers budget) found
coarse_measure_best offers budget pivots left (Some finding) leaves found =
    (leaves.plain, best_end (raised_offers offers) budget pivots left leaves, measure_from_kept (raised_offers offers) leaves.plain left finding leaves.is_kept found)
coarse_measure_best offers budget pivots left None leaves none =
    λ other found. none other (measure_to_kept (raised_offers offers) leaves.plain left other leaves.is_kept (measure_at offers budget leaves.plain other (best_end (raised_offers offers) budget pivots left leaves) found))

-- ---- stakes

stakes_from_kept : (offers : List Offer) (plain left : SimplexTableau) (finding : Finding) → left ≡ kept plain → AreStakesAt offers left finding → AreStakesAt offers plain finding
stakes_from_kept offers plain left finding e found = record {
  level_one = level_there plain left e found.level_one;
  direction = found.direction;
  reads = direction_there (lowered_offers offers) plain left e (Reads found.direction) found.reads;
  stakes = found.stakes;
}

stakes_to_kept : (offers : List Offer) (plain left : SimplexTableau) (finding : Finding) → left ≡ kept plain → AreStakesAt offers plain finding → AreStakesAt offers left finding
stakes_to_kept offers plain left finding e found =
    let lowered = lowered_offers offers in
    let numbers = map (λ (o : ℕ × Offer). o.0) (leading_offers lowered (classes_of lowered)) in
    record {
      level_one = level_here plain left e found.level_one;
      direction = found.direction;
      reads = subst (λ t. DirectionReads lowered (first_stakes lowered t) (Reads found.direction)) (sym e) ((same_direction (classes_of lowered) lowered numbers plain (Reads found.direction)).0 found.reads);
      stakes = found.stakes;
    }

pub coarse_stakes_open : (offers : List Offer) (budget : ℕ) (stage : Stage) (finding : Finding) → IsWideRun (first_program (lowered_offers offers)) budget stage finding ⊎ IsSpentRun (first_program (lowered_offers offers)) budget stage finding → FoundBy (AreCoarseStakes offers budget) None
coarse_stakes_open offers budget stage finding ended other found = no_best_end (lowered_offers offers) budget stage finding ended found.0 found.1

pub coarse_stakes_best : (offers : List Offer) (budget pivots : ℕ) (left : SimplexTableau) (found : Option Finding) → LeavesBest (first_program (lowered_offers offers)) budget pivots left → FoundBy (AreStakesAt offers left) found → FoundBy (AreCoarseStakes offers budget) found
coarse_stakes_best offers budget pivots left (Some finding) leaves found =
    (leaves.plain, best_end (lowered_offers offers) budget pivots left leaves, stakes_from_kept offers leaves.plain left finding leaves.is_kept found)
coarse_stakes_best offers budget pivots left None leaves none =
    λ other found. none other (stakes_to_kept offers leaves.plain left other leaves.is_kept (stakes_at offers budget leaves.plain other (best_end (lowered_offers offers) budget pivots left leaves) found))

-- ---- one try after another

pub by_second : (first second : Finding → Type 0) (found : Option Finding) → FoundBy first None → FoundBy second found → FoundBy (FirstOf first second) found
by_second first second (Some finding) none found = inr (none, found)
by_second first second None none nothing = λ other found. elim found [ inl x ↦ none other x | inr y ↦ nothing other y.1 ]

-- ---- stakes in a direction

-- the direction of the lowered sheet has an item above 0 for some offer
pub lowered_direction_some : (offers : List Offer) (tableau : SimplexTableau) (direction : Fractions) → IsAtBest (first_program (lowered_offers offers)) tableau → HasLevelOne tableau → IsDirection (lowered_offers offers) (first_stakes (lowered_offers offers) tableau) direction → HasSome (with_zeros (kept_numbers offers) direction.parts (length offers))
lowered_direction_some offers tableau direction at one is =
    let gains = direction_gains (lowered_offers offers) tableau direction at.0 at.1 one is (Full 0 0) in
    let more = lowered_stakes_gain_no_less offers direction.parts (Full 0 0) in
    some_item offers (with_zeros (kept_numbers offers) direction.parts (length offers)) (Full 0 0) (omega (arith, linear, gains, more))

-- where a direction is read, the stakes are those in it
pub found_in_direction : (offers : List Offer) (left : SimplexTableau) (direction : Fractions) (found : Option Finding) → HasLevelOne left → DirectionReads (lowered_offers offers) (first_stakes (lowered_offers offers) left) (Reads direction) → FoundBy (AreStakesInDirection offers (with_zeros (kept_numbers offers) direction.parts (length offers))) found → FoundBy (AreStakesAt offers left) found
found_in_direction offers left direction (Some finding) one reads found = record { level_one = one; direction = direction; reads = reads; stakes = found }
found_in_direction offers left direction None one reads none = λ other at. none other (in_direction offers left direction other reads at)

-- ---- the finding

coarse_is_verdict : (offers : List Offer) (budget : ℕ) (finding : Finding) → IsCoarseVerdict offers budget finding → IsVerdict finding
coarse_is_verdict offers budget finding (inl measure) = subst IsVerdict (sym measure.2.is) tt
coarse_is_verdict offers budget finding (inr (none, stakes)) = subst IsVerdict (sym stakes.2.stakes.is) tt

-- a coarse verdict is a right verdict
pub coarse_right_verdict : (offers : List Offer) (budget : ℕ) (found : Option Finding) → FoundBy (IsCoarseVerdict offers budget) found → IfSome found (IsRightVerdict offers)
coarse_right_verdict offers budget None none = tt
coarse_right_verdict offers budget (Some finding) verdict = right_verdict offers finding (coarse_right offers budget finding verdict) (coarse_is_verdict offers budget finding verdict)

-- the exact finding stays, if it is not wide in the first run
pub exact_stays : (offers : List Offer) (budget : ℕ) (exact : Finding) → IsExactFinding offers budget exact → (IsWideAtFirst exact → ⊥) → IsFindingOf offers budget exact
exact_stays offers budget exact is narrow = inr ((λ other coarse. narrow (subst IsWideAtFirst (exact_finding_one offers budget coarse.0 exact coarse.1 is) coarse.2)), is)

-- and if there is no coarse verdict
pub exact_alone : (offers : List Offer) (budget : ℕ) (exact : Finding) → IsExactFinding offers budget exact → FoundBy (IsCoarseVerdict offers budget) None → IsFindingOf offers budget exact
exact_alone offers budget exact is none = inr ((λ other coarse. none other coarse.3), is)
