-- What is read of the tableau that the run leaves is read of its plain tableau, and is right.
use Rattle.std.proofs.Common.{◌≡◌, ℕ, List, inl, inr, refl, sym, subst}
use Rattle.std.specs.Prelude.{Err}
use Rattle.pivot_definitions.specs.Tableaus.{SimplexTableau, built, kept}
use Rattle.pivot_definitions.specs.Runs.{IsBest, EndsBest, EndsWide, EndsOutOfPivots}
use Rattle.pivot_definitions.proofs.Signs.{same_best}
use Rattle.pivot_rule.specs.Ends.{IsCappedStart, RunEndsAs}
use Rattle.pivot_rule.specs.declared.bland.RunEnd.TheVariants as ends
use Rattle.scan_types.specs.declared.offer.Offer.{Offer}
use Rattle.settlement_definitions.specs.Classes.{classes_of}
use Rattle.finding_definitions.specs.Fractions.{Fractions}
use Rattle.finding_definitions.specs.Best.{IsRightBest}
use Rattle.finding_definitions.specs.declared.finding.WideAt.{WideAt}
use Rattle.finding_definitions.specs.declared.finding.WideAt.TheVariants.{Entry}
use Rattle.judging_definitions.specs.Stakes.{all_numbers}
use Rattle.judging_definitions.specs.Readings.{Reading, Reads, ReadsWide}
use Rattle.judging_laws.specs.Laws.{IsAtBest}
use Rattle.judging_laws.proofs.ProgramRows.{limited_is_capped}
use Rattle.judging_laws.proofs.KeptReadings.{same_measure, same_parts}
use Rattle.judging_definitions.specs.MostProgram.{most_need}
use Rattle.price_duality.proofs.MostGain.{most_gained}
use Rattle.coherence_lp.specs.declared.fault.ReadingFault.{ReadingFault}
use Rattle.coherence_lp.specs.declared.fault.ReadingFault.TheVariants as faults
use Rattle.coherence_lp.specs.Faults.{IfWide}
use Rattle.bland_laws.proofs.RunsAreShort.{out_of_pivots_is_short}
use Rattle.best_laws.specs.Laws.{most_program}
use Rattle.best_laws.proofs.RightBest.{right_best}
use Rattle.best_stakes.specs.declared.out.BestOut.{BestOut}
use Rattle.best_stakes.specs.declared.out.BestOut.TheVariants.{Best, Wide, OutOfPivots}
use Rattle.best_stakes.specs.BestFound.{ReadWith, ReadAs, IsBestOf, IsRightOut, GainsMostOut, MadeFewPivots}

-- a reading that gives no value
pub wide_place : {A : Type 0} (B : Type 0) (reads : Reading A → Type 0) (pivots : ℕ) (out : BestOut) (fault : ReadingFault) → IfWide {A = B} (Err fault) (λ place. reads (ReadsWide place)) → (place : WideAt) × (fault ≡ faults.Wide place) × (out ≡ Wide pivots place) → (place : WideAt) × reads (ReadsWide place) × (out ≡ Wide pivots place)
wide_place B reads pivots out fault wide unread =
    (unread.0, subst (λ f. IfWide {A = B} (Err f) (λ place. reads (ReadsWide place))) unread.1 wide, unread.2)

-- ---- from the kept form to the plain tableau and back

with_there : (offers : List Offer) (plain : SimplexTableau) (pivots : ℕ) (parts : Fractions) (out : BestOut) → ReadWith offers (kept plain) pivots parts out → ReadWith offers plain pivots parts out
with_there offers plain pivots parts out (inl r) = inl (r.0, (same_measure (classes_of offers) plain (Reads r.0)).1 r.1, r.2)
with_there offers plain pivots parts out (inr w) = inr (w.0, (same_measure (classes_of offers) plain (ReadsWide w.0)).1 w.1, w.2)

pub read_there : (offers : List Offer) (plain : SimplexTableau) (pivots : ℕ) (out : BestOut) → ReadAs offers (kept plain) pivots out → ReadAs offers plain pivots out
read_there offers plain pivots out (inl r) = inl (r.0, (same_parts (classes_of offers) offers (all_numbers offers) plain (Reads r.0)).1 r.1, with_there offers plain pivots r.0 out r.2)
read_there offers plain pivots out (inr w) = inr (w.0, (same_parts (classes_of offers) offers (all_numbers offers) plain (ReadsWide w.0)).1 w.1, w.2)

-- ---- the run

pub starts : (offers : List Offer) (start : SimplexTableau) → start ≡ built (most_program offers) → IsCappedStart start
starts offers start is = let capped = limited_is_capped (classes_of offers) offers (most_need offers) in (most_program offers, capped.0, capped.1, is)

pub at_best : (offers : List Offer) (start left : SimplexTableau) (budget pivots : ℕ) → start ≡ built (most_program offers) → RunEndsAs start budget (ends.Best pivots) left → IsBest left → IsAtBest (most_program offers) left
at_best offers start left budget pivots is ran best =
    let capped = limited_is_capped (classes_of offers) offers (most_need offers) in
    let ends = subst (λ s. EndsBest s budget pivots ran.0) is ran.2 in
    ((capped.0, capped.1, pivots, ran.0, ends.run, ran.1), best)

pub found_best : (offers : List Offer) (start left : SimplexTableau) (budget pivots : ℕ) (out : BestOut) → start ≡ built (most_program offers) → RunEndsAs start budget (ends.Best pivots) left → ReadAs offers left pivots out → IsBestOf offers budget out
found_best offers start left budget pivots out is ran read =
    inr (inr (pivots, ran.0, subst (λ s. EndsBest s budget pivots ran.0) is ran.2, read_there offers ran.0 pivots out (subst (λ t. ReadAs offers t pivots out) ran.1 read)))

pub found_wide : (offers : List Offer) (start left : SimplexTableau) (budget pivots row column : ℕ) → start ≡ built (most_program offers) → RunEndsAs start budget (ends.Wide pivots row column) left → IsBestOf offers budget (Wide pivots (Entry row column))
found_wide offers start left budget pivots row column is ran = inl (pivots, row, column, ran.0, subst (λ s. EndsWide s budget pivots row column ran.0) is ran.2, refl)

pub found_spent : (offers : List Offer) (start left : SimplexTableau) (budget pivots : ℕ) → start ≡ built (most_program offers) → RunEndsAs start budget (ends.OutOfPivots pivots) left → IsBestOf offers budget (OutOfPivots pivots)
found_spent offers start left budget pivots is ran = inr (inl (pivots, ran.0, subst (λ s. EndsOutOfPivots s budget pivots ran.0) is ran.2, refl))

-- ---- what comes of it is right

right_read : (offers : List Offer) (plain : SimplexTableau) (budget pivots : ℕ) (out : BestOut) → EndsBest (built (most_program offers)) budget pivots plain → ReadAs offers plain pivots out → IsRightOut offers out
right_read offers plain budget pivots out ended (inr w) = subst (IsRightOut offers) (sym w.2) tt
right_read offers plain budget pivots out ended (inl (parts, reads, inr w)) = subst (IsRightOut offers) (sym w.2) tt
right_read offers plain budget pivots out ended (inl (parts, reads, inl (measure, weighs, is))) =
    let capped = limited_is_capped (classes_of offers) offers (most_need offers) in
    let are = (same_parts (classes_of offers) offers (all_numbers offers) plain (Reads parts)).0 reads in
    let weights = (same_measure (classes_of offers) plain (Reads measure)).0 weighs in
    let right = right_best offers (kept plain) parts (capped.0, capped.1, pivots, plain, ended.run, refl) ((same_best plain).0 ended.best) are weights.0 in
    subst (IsRightOut offers) (sym is) (subst (λ m. IsRightBest offers parts.divisor parts.parts m) (sym weights.1) right)

pub right_out : (offers : List Offer) (budget : ℕ) (out : BestOut) → IsBestOf offers budget out → IsRightOut offers out
right_out offers budget out (inl w) = subst (IsRightOut offers) (sym w.5) tt
right_out offers budget out (inr (inl s)) = subst (IsRightOut offers) (sym s.3) tt
right_out offers budget out (inr (inr b)) = right_read offers b.1 budget b.0 out b.2 b.3

pub gains_most : (offers : List Offer) (out : BestOut) → IsRightOut offers out → GainsMostOut offers out
gains_most offers (Best parts measure) right = most_gained offers parts.divisor parts.parts measure right
gains_most offers (Wide pivots place) right = tt
gains_most offers (OutOfPivots pivots) right = tt

-- a run that is out of pivots was short
pub few_pivots : (offers : List Offer) (budget : ℕ) (out : BestOut) → IsBestOf offers budget out → MadeFewPivots offers out
few_pivots offers budget out (inl w) = subst (MadeFewPivots offers) (sym w.5) tt
few_pivots offers budget out (inr (inl s)) =
    let capped = limited_is_capped (classes_of offers) offers (most_need offers) in
    subst (MadeFewPivots offers) (sym s.3) (out_of_pivots_is_short (most_program offers) capped.0 capped.1 budget s.0 s.1 s.2)
few_pivots offers budget out (inr (inr b)) = few_read offers b.1 b.0 out b.3
  where
    few_read : (offers : List Offer) (end : SimplexTableau) (pivots : ℕ) (out : BestOut) → ReadAs offers end pivots out → MadeFewPivots offers out
    few_read offers end pivots out (inr w) = subst (MadeFewPivots offers) (sym w.2) tt
    few_read offers end pivots out (inl (parts, reads, inr w)) = subst (MadeFewPivots offers) (sym w.2) tt
    few_read offers end pivots out (inl (parts, reads, inl m)) = subst (MadeFewPivots offers) (sym m.2) tt
