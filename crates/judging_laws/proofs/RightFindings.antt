-- The finding of a sheet is right.
use Rattle.std.proofs.Common.{◌≡◌, ℕ, ◌*◌, ◌/◌, ◌≤◌, inl, inr, List, [], ◌∷◌, map, refl, sym, ap, ◌∙◌, subst, arith}
use Rattle.std.specs.List.{AllZip}
use Rattle.std.proofs.lemmas.List.Elements.{All-head, All-tail}
use lib.IntN.{ℤ, pos, ◌+ℤ◌, ◌*ℤ◌}
use lib.Signed.{◌<ℤ◌}
use borrow.Author.Differences.{same_out}
use Rattle.pivot_definitions.specs.Programs.{LinearProgram, IsProgram, IsCapped}
use Rattle.pivot_definitions.specs.Tableaus.{SimplexTableau, built, kept}
use Rattle.pivot_definitions.specs.Runs.{IsBest, EndsBest}
use Rattle.pivot_definitions.specs.Duality.{IsReached}
use Rattle.pivot_definitions.proofs.Signs.{same_best}
use Rattle.pivot_definitions.proofs.Ring.{dif_is, difs, dif_same, linear, times_zero, positive_from_product}
use Rattle.scan_types.specs.declared.limits.TheConstants.{MOST_PART}
use Rattle.scan_types.specs.declared.offer.Offer.{Offer}
use Rattle.scan_types.specs.declared.outcome.Outcome.{Outcome}
use Rattle.settlement_definitions.specs.Classes.{classes_of}
use Rattle.finding_definitions.specs.Arbitrage.{need, IsArbitrage}
use Rattle.finding_definitions.specs.Measure.{weighted_sum}
use Rattle.finding_definitions.specs.Verdicts.{IsRightCoherent, IsRightThin, IsRightNarrow, need_with_slack}
use Rattle.finding_definitions.specs.Findings.{IsRight}
use Rattle.finding_definitions.specs.Fractions.{Fractions}
use Rattle.finding_definitions.specs.declared.finding.Finding.{Finding}
use Rattle.finding_definitions.specs.declared.finding.Finding.TheVariants.{Coherent, Thin, Narrow}
use Rattle.finding_definitions.specs.declared.finding.Stage.{Stage}
use Rattle.finding_definitions.specs.declared.finding.Stage.TheVariants.{First, Slack, Plain}
use Rattle.judging_definitions.specs.Columns.{leading_offers}
use Rattle.judging_definitions.specs.JudgingPrograms.{homogeneous_program, limited_program, plain_need, slack_need}
use Rattle.judging_definitions.specs.Stakes.{fractional_stakes, all_numbers, floors}
use Rattle.judging_definitions.specs.Readings.{HasLevelOne, NoneAbove, Reading, Reads, class_weights, weighted_classes, MeasureReads, IsDirection, DirectionReads, AreParts, PartsRead}
use Rattle.judging_definitions.specs.ExactFinding.{AfterRun, AfterReading, IsFoundWithinLimits, IsFoundByPlainRun, IsFoundBySlackRun, IsFoundInDirection, IsExactFinding, IsFindingOf}
use Rattle.judging_definitions.specs.CoarseOdds.{raised_offers}
use Rattle.judging_definitions.specs.FirstRun.{first_program}
use Rattle.judging_definitions.specs.CoarseFinding.{IsCoarseVerdict}
use Rattle.judging_laws.proofs.CoarseOdds.{raised_measure_is_right}
use Rattle.judging_laws.proofs.ProgramRows.{homogeneous_is_capped, limited_is_capped}
use Rattle.judging_laws.proofs.Levels.{best_facts}
use Rattle.judging_laws.proofs.KeptReadings.{same_weights, level_kept, level_plain, stakes_scaled, read_alike, direction_there, parts_there}
use Rattle.judging_laws.proofs.Measures.{is_measure, final_stands, some_entry}
use Rattle.judging_laws.proofs.Coherence.{coherent}
use Rattle.judging_laws.proofs.Directions.{direction_gains}
use Rattle.judging_laws.proofs.Limits.{below_what_is_asked}
use Rattle.judging_laws.proofs.Parts.{floors_are, limited_denominators, slack_floors, parts_reach}

-- ---- the best end of a run, in kept form

reached_end : (program : LinearProgram) (budget pivots : ℕ) (end : SimplexTableau) → IsProgram program × IsCapped program → EndsBest (built program) budget pivots end → IsReached program (kept end)
reached_end program budget pivots end is ends = (is.0, is.1, pivots, end, ends.run, refl)

best_end : (program : LinearProgram) (budget pivots : ℕ) (end : SimplexTableau) → EndsBest (built program) budget pivots end → IsBest (kept end)
best_end program budget pivots end ends = (same_best end).0 ends.best

below_kept : (end : SimplexTableau) → (HasLevelOne end → ⊥) → HasLevelOne (kept end) → ⊥
below_kept end below one = below (level_plain end one)

-- ---- the parts of a step

after_run : (offers : List Offer) (program : LinearProgram) (budget : ℕ) (stage : Stage) (next : ℕ → SimplexTableau → Type 0) (finding : Finding) → ((pivots : ℕ) (end : SimplexTableau) → EndsBest (built program) budget pivots end → next pivots end → IsRight offers finding) → AfterRun program budget stage next finding → IsRight offers finding
after_run offers program budget stage next finding then (inl (inl w)) = subst (IsRight offers) (sym w.is) tt
after_run offers program budget stage next finding then (inl (inr s)) = subst (IsRight offers) (sym s.is) tt
after_run offers program budget stage next finding then (inr b) = then b.0 b.1 b.2 b.3

after_reading : {A : Type 0} (offers : List Offer) (reads : Reading A → Type 0) (stage : Stage) (pivots : ℕ) (next : A → Type 0) (finding : Finding) → ((value : A) → reads (Reads value) → next value → IsRight offers finding) → AfterReading reads stage pivots next finding → IsRight offers finding
after_reading offers reads stage pivots next finding then (inl w) = subst (IsRight offers) (sym w.2) tt
after_reading offers reads stage pivots next finding then (inr r) = then r.0 r.1 r.2

-- ---- measures

times_step : (p w f s : ℤ) → w *ℤ (p *ℤ f) +ℤ p *ℤ s ≡ p *ℤ (w *ℤ f +ℤ s)
times_step p w f s = rw (dif_is p, dif_is w, dif_is f, dif_is s) (simp difs (dif_same _ _ _ _ (omega arith)))

weighted_times : (p : ℤ) (f : Outcome → ℤ) (m : List (Outcome × ℕ)) → weighted_sum (λ x. p *ℤ f x) m ≡ p *ℤ weighted_sum f m
weighted_times p f [] = sym (times_zero p)
weighted_times p f (e ∷ m) = ap (λ s. pos e.1 *ℤ (p *ℤ f e.0) +ℤ s) (weighted_times p f m) ∙ times_step p (pos e.1) (f e.0) (weighted_sum f m)

-- ---- thin

small_fits : (offers : List Offer) (parts : List ℕ) (d : ℕ) → AllZip (λ offer part. part ≤ offer.limit * d) offers parts → NoneAbove MOST_PART parts → AllZip (λ offer part. part ≤ offer.limit * MOST_PART) offers parts
small_fits [] [] d zip none = tt
small_fits [] (part ∷ parts) d zip none = absurd zip
small_fits (offer ∷ offers) [] d zip none = absurd zip
small_fits (offer ∷ offers) (part ∷ parts) d zip none =
    let P : ℕ → Type 0 = λ n. n ≤ MOST_PART in
    (let h = All-head P part parts none in let k = offer.limit_at_least in omega (arith, h, k), small_fits offers parts d zip.1 (All-tail P part parts none))

-- a direction and the measure of a plain run below level 1
thin_right : (offers : List Offer) (direction : Fractions) (first : SimplexTableau) (tableau : SimplexTableau) → IsReached (homogeneous_program (classes_of offers) (map (λ e. e.1) (leading_offers offers (classes_of offers)))) first → IsBest first → HasLevelOne first → IsDirection offers (fractional_stakes (classes_of offers) offers (map (λ e. e.0) (leading_offers offers (classes_of offers))) first) direction → IsReached (limited_program (classes_of offers) offers plain_need) tableau → IsBest tableau → (HasLevelOne tableau → ⊥) → NoneAbove MOST_PART (class_weights (classes_of offers) tableau) → IsRightThin offers direction.divisor direction.parts (weighted_classes (classes_of offers) (class_weights (classes_of offers) tableau))
thin_right offers direction first tableau reached best one is plain_reached plain_best below small =
    let classes = classes_of offers in
    let measure = weighted_classes classes (class_weights classes tableau) in
    let bound = below_what_is_asked offers plain_need tableau plain_reached plain_best below in
    let times = weighted_times (pos 2000) need measure in
    let final : pos 0 <ℤ weighted_sum need measure = positive_from_product (pos 2000) (weighted_sum need measure) (omega (arith, linear)) (subst (λ z. pos 0 <ℤ z) times bound.1) in
    record {
      divides = is.fits.above_zero;
      divisor_small = is.fits.least MOST_PART (omega arith) (small_fits offers direction.parts direction.divisor is.fits.within_limits is.small);
      parts_small = is.small;
      within_limits = is.fits.within_limits;
      gains = direction_gains offers first direction reached best one is;
      price = record { form = is_measure offers (class_weights classes tableau) small (some_entry need measure final); final = final_stands measure final };
      bound = omega (arith, linear, bound.0, same_out _ _ times);
    }

-- ---- narrow

narrow_right : (offers : List Offer) (parts : Fractions) (slack_tableau tableau : SimplexTableau) → IsReached (limited_program (classes_of offers) offers (slack_need offers)) slack_tableau → IsBest slack_tableau → (HasLevelOne slack_tableau → ⊥) → NoneAbove MOST_PART (class_weights (classes_of offers) slack_tableau) → IsReached (limited_program (classes_of offers) offers plain_need) tableau → IsBest tableau → HasLevelOne tableau → AreParts (fractional_stakes (classes_of offers) offers (all_numbers offers) tableau) parts → (IsArbitrage offers (floors (fractional_stakes (classes_of offers) offers (all_numbers offers) tableau)) → ⊥) → IsRightNarrow offers parts.divisor parts.parts (weighted_classes (classes_of offers) (class_weights (classes_of offers) slack_tableau))
narrow_right offers parts slack_tableau tableau slack_reached slack_best below small reached best one are fails =
    let classes = classes_of offers in
    let measure = weighted_classes classes (class_weights classes slack_tableau) in
    let bound = below_what_is_asked offers (slack_need offers) slack_tableau slack_reached slack_best below in
    let times = weighted_times (pos 2) (need_with_slack offers) measure in
    let stakes = fractional_stakes classes offers (all_numbers offers) tableau in
    let facts = best_facts (limited_program classes offers plain_need) tableau reached best in
    let has = limited_denominators offers plain_need tableau reached facts in
    let rounded : map (λ part. part / parts.divisor) parts.parts ≡ floors stakes = ap (map (λ part. part / parts.divisor)) are.are ∙ floors_are parts.divisor stakes are.common.common.above_zero has are.common.common.whole in
    record {
      divisor_small = are.common.small;
      parts_small = are.small;
      reaches = parts_reach offers tableau parts reached best one are;
      floors_fail = λ arbitrage. fails (subst (IsArbitrage offers) rounded arbitrage);
      measured = is_measure offers (class_weights classes slack_tableau) small (some_entry (slack_need offers) measure bound.1);
      bound = omega (arith, linear, bound.0, same_out _ _ times);
    }

-- ---- the steps

-- what is known once a run is at its best
record Stands (program : LinearProgram) (end : SimplexTableau) : Type 0 where
  reached : IsReached program (kept end)
  best : IsBest (kept end)

stands : (program : LinearProgram) (budget pivots : ℕ) (end : SimplexTableau) → IsProgram program × IsCapped program → EndsBest (built program) budget pivots end → Stands program end
stands program budget pivots end is ends = record { reached = reached_end program budget pivots end is ends; best = best_end program budget pivots end ends }

-- what is known of the first run at level 1
record Directed (offers : List Offer) (direction : Fractions) : Type 0 where
  tableau : SimplexTableau
  reached : IsReached (homogeneous_program (classes_of offers) (map (λ e. e.1) (leading_offers offers (classes_of offers)))) tableau
  best : IsBest tableau
  one : HasLevelOne tableau
  is : IsDirection offers (fractional_stakes (classes_of offers) offers (map (λ e. e.0) (leading_offers offers (classes_of offers))) tableau) direction

-- what is known of the slack run below level 1
record Slackened (offers : List Offer) (measure : List (Outcome × ℕ)) : Type 0 where
  tableau : SimplexTableau
  reached : IsReached (limited_program (classes_of offers) offers (slack_need offers)) tableau
  best : IsBest tableau
  below : HasLevelOne tableau → ⊥
  small : NoneAbove MOST_PART (class_weights (classes_of offers) tableau)
  is : measure ≡ weighted_classes (classes_of offers) (class_weights (classes_of offers) tableau)

kept_small : (classes : List Outcome) (end : SimplexTableau) → NoneAbove MOST_PART (class_weights classes end) → NoneAbove MOST_PART (class_weights classes (kept end))
kept_small classes end small = subst (NoneAbove MOST_PART) (same_weights classes end) small

kept_measure : (classes : List Outcome) (end : SimplexTableau) (measure : List (Outcome × ℕ)) → measure ≡ weighted_classes classes (class_weights classes end) → measure ≡ weighted_classes classes (class_weights classes (kept end))
kept_measure classes end measure is = is ∙ ap (weighted_classes classes) (same_weights classes end)

within_limits_right : (offers : List Offer) (pivots : ℕ) (end : SimplexTableau) (measure : List (Outcome × ℕ)) (finding : Finding) → Slackened offers measure → Stands (limited_program (classes_of offers) offers plain_need) end → HasLevelOne end → IsFoundWithinLimits offers pivots end measure finding → IsRight offers finding
within_limits_right offers pivots end measure finding slackened at one (inl (arbitrage, is)) = subst (IsRight offers) (sym is) arbitrage
within_limits_right offers pivots end measure finding slackened at one (inr (fails, next)) =
    let classes = classes_of offers in
    let stakes = fractional_stakes classes offers (all_numbers offers) end in
    let alike = read_alike stakes (fractional_stakes classes offers (all_numbers offers) (kept end)) (stakes_scaled classes offers (all_numbers offers) end) in
    after_reading offers (PartsRead stakes) Plain pivots (λ parts. finding ≡ Narrow parts measure) finding
    (λ parts are is. subst (IsRight offers) (sym is)
    (subst (λ m. IsRightNarrow offers parts.divisor parts.parts m) (sym slackened.is)
    (narrow_right offers parts slackened.tableau (kept end) slackened.reached slackened.best slackened.below slackened.small at.reached at.best (level_kept end one) (parts_there stakes (fractional_stakes classes offers (all_numbers offers) (kept end)) (Reads parts) alike are) (λ arbitrage. fails (subst (IsArbitrage offers) (sym alike.floors_same) arbitrage)))))
    next

plain_right : (offers : List Offer) (budget : ℕ) (direction : Fractions) (measure : List (Outcome × ℕ)) (finding : Finding) → Directed offers direction → Slackened offers measure → IsFoundByPlainRun offers budget direction measure finding → IsRight offers finding
plain_right offers budget direction measure finding directed slackened found =
    let classes = classes_of offers in
    let program = limited_program classes offers plain_need in
    after_run offers program budget Plain _ finding (λ pivots end ends next.
    let at = stands program budget pivots end (limited_is_capped classes offers plain_need) ends in
    elim next [
      | inl (one, more) ↦ within_limits_right offers pivots end measure finding slackened at one more
      | inr (below, more) ↦ after_reading offers (MeasureReads classes end) Plain pivots (λ m. finding ≡ Thin direction m) finding
          (λ m reads is. subst (IsRight offers) (sym is)
          (subst (λ q. IsRightThin offers direction.divisor direction.parts q) (sym (kept_measure classes end m reads.1))
          (thin_right offers direction directed.tableau (kept end) directed.reached directed.best directed.one directed.is at.reached at.best (below_kept end below) (kept_small classes end reads.0))))
          more
    ]) found

slack_right : (offers : List Offer) (budget : ℕ) (direction : Fractions) (finding : Finding) → Directed offers direction → IsFoundBySlackRun offers budget direction finding → IsRight offers finding
slack_right offers budget direction finding directed found =
    let classes = classes_of offers in
    let program = limited_program classes offers (slack_need offers) in
    after_run offers program budget Slack _ finding (λ pivots end ends next.
    let at = stands program budget pivots end (limited_is_capped classes offers (slack_need offers)) ends in
    let stakes = fractional_stakes classes offers (all_numbers offers) end in
    let alike = read_alike stakes (fractional_stakes classes offers (all_numbers offers) (kept end)) (stakes_scaled classes offers (all_numbers offers) end) in
    elim next [
      | inl (one, is) ↦ subst (IsRight offers) (sym is) (subst (IsArbitrage offers) (sym alike.floors_same) (slack_floors offers (kept end) at.reached at.best (level_kept end one)))
      | inr (below, more) ↦ after_reading offers (MeasureReads classes end) Slack pivots (λ m. IsFoundByPlainRun offers budget direction m finding) finding
          (λ m reads next. plain_right offers budget direction m finding directed
          (record { tableau = kept end; reached = at.reached; best = at.best; below = below_kept end below; small = kept_small classes end reads.0; is = kept_measure classes end m reads.1 }) next)
          more
    ]) found

direction_right : (offers : List Offer) (budget : ℕ) (direction : Fractions) (finding : Finding) → Directed offers direction → IsFoundInDirection offers budget direction finding → IsRight offers finding
direction_right offers budget direction finding directed (stakes, are, inl (arbitrage, is)) = subst (IsRight offers) (sym is) arbitrage
direction_right offers budget direction finding directed (stakes, are, inr (fails, next)) = slack_right offers budget direction finding directed next

-- a measure that is read below level 1 of the first run is right
measure_right : (offers : List Offer) (budget pivots : ℕ) (end : SimplexTableau) (measure : List (Outcome × ℕ)) → EndsBest (built (first_program offers)) budget pivots end → (HasLevelOne end → ⊥) → MeasureReads (classes_of offers) end (Reads measure) → IsRightCoherent offers measure
measure_right offers budget pivots end measure ends below reads =
    let classes = classes_of offers in
    let columns = map (λ (e : ℕ × Offer). e.1) (leading_offers offers classes) in
    let at = stands (first_program offers) budget pivots end (homogeneous_is_capped classes columns) ends in
    subst (IsRightCoherent offers) (sym (kept_measure classes end measure reads.1)) (coherent offers (kept end) at.reached at.best (below_kept end below) (kept_small classes end reads.0))

-- the finding of a sheet by exact programs is right
exact_finding_right : (offers : List Offer) (budget : ℕ) (finding : Finding) → IsExactFinding offers budget finding → IsRight offers finding
exact_finding_right offers budget finding found =
    let classes = classes_of offers in
    let leading = leading_offers offers classes in
    let columns = map (λ (e : ℕ × Offer). e.1) leading in
    let numbers = map (λ (e : ℕ × Offer). e.0) leading in
    let program = homogeneous_program classes columns in
    after_run offers program budget First _ finding (λ pivots end ends next.
    let at = stands program budget pivots end (homogeneous_is_capped classes columns) ends in
    let stakes = fractional_stakes classes offers numbers end in
    let alike = read_alike stakes (fractional_stakes classes offers numbers (kept end)) (stakes_scaled classes offers numbers end) in
    elim next [
      | inl (one, more) ↦ after_reading offers (DirectionReads offers stakes) First pivots (λ d. IsFoundInDirection offers budget d finding) finding
          (λ d reads next. direction_right offers budget d finding
          (record { tableau = kept end; reached = at.reached; best = at.best; one = level_kept end one; is = direction_there offers stakes (fractional_stakes classes offers numbers (kept end)) (Reads d) alike reads }) next)
          more
      | inr (below, more) ↦ after_reading offers (MeasureReads classes end) First pivots (λ m. finding ≡ Coherent m) finding
          (λ m reads is. subst (IsRight offers) (sym is) (measure_right offers budget pivots end m ends below reads))
          more
    ]) found

-- ---- coarse odds

pub coarse_right : (offers : List Offer) (budget : ℕ) (finding : Finding) → IsCoarseVerdict offers budget finding → IsRight offers finding
coarse_right offers budget finding (inl m) =
    let found = m.2 in
    subst (IsRight offers) (sym found.is) (raised_measure_is_right offers found.measure (measure_right (raised_offers offers) budget m.1.pivots m.0 found.measure m.1.ends found.level_zero found.reads))
coarse_right offers budget finding (inr (none, s)) = let found = s.2.stakes in subst (IsRight offers) (sym found.is) found.arbitrage

-- the finding of a sheet with a budget is right
pub finding_right : (offers : List Offer) (budget : ℕ) (finding : Finding) → IsFindingOf offers budget finding → IsRight offers finding
finding_right offers budget finding (inl coarse) = coarse_right offers budget finding coarse.3
finding_right offers budget finding (inr (none, exact)) = exact_finding_right offers budget finding exact
