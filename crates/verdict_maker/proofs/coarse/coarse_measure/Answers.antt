use Rattle.std.proofs.Common.{List, subst}
use Rattle.std.proofs.lemmas.Result.{IfOk-weaker}
use Rattle.scan_types.specs.declared.offer.Offer.{Offer}
use Rattle.finding_definitions.specs.declared.finding.Stage.TheVariants.{First}
use Rattle.judging_definitions.specs.FirstRun.{first_program}
use Rattle.judging_definitions.specs.CoarseFinding.{IsMeasureAt}
use Rattle.verdict_maker.specs.declared.runs.Ran.TheVariants.{Open}
use Rattle.verdict_maker.specs.Runs.{RanAs, LeavesBest}
use Rattle.verdict_maker.specs.Tries.{FoundBy}
use Rattle.verdict_maker.proofs.CoarseFacts.{coarse_measure_open, coarse_measure_best}
use Rattle.verdict_maker.proofs.coarse.coarse_measure.Goals as goal

pub returns-in-Open : goal.returns-in-Open
returns-in-Open c =
    let budget = c.args.budget in
    let left = c.first_run.new.tableau in
    let ran = subst (λ r. RanAs (first_program c.in_ok-raised.raised) budget First r left) c.in-Open.is c.in_ok-first.ensures.ran in
    let there = subst (λ (offers : List Offer). RanAs (first_program offers) budget First (Open c.in-Open.field-0) left) c.in_ok-raised.ensures ran in
    coarse_measure_open c.args.sheet.now budget First c.in-Open.field-0 there

pub returns : goal.returns
returns c =
    let budget = c.args.budget in
    let left = c.first_run.new.tableau in
    let pivots = c.in-AtBest.field-0 in
    let ran : LeavesBest (first_program c.in_ok-raised.raised) budget pivots left = subst (λ r. RanAs (first_program c.in_ok-raised.raised) budget First r left) c.in-AtBest.is c.in_ok-first.ensures.ran in
    let there = subst (λ (offers : List Offer). LeavesBest (first_program offers) budget pivots left) c.in_ok-raised.ensures ran in
    IfOk-weaker c.measure_at_level_zero.result _ _
    (λ found is. coarse_measure_best c.args.sheet.now budget pivots left found there (subst (λ (offers : List Offer). FoundBy (IsMeasureAt offers left) found) c.in_ok-raised.ensures is))
    c.measure_at_level_zero.ensures
