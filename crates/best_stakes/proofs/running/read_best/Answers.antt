use Rattle.std.proofs.Common.{inl, inr}
use Rattle.std.proofs.lemmas.Result.{IfOk-weaker}
use Rattle.finding_definitions.specs.Fractions.{Fractions}
use Rattle.judging_definitions.specs.Readings.{PartsRead}
use Rattle.judging_laws.specs.Laws.{limited_stakes}
use Rattle.best_stakes.proofs.BestFacts.{wide_place}
use Rattle.best_stakes.proofs.running.read_best.Goals as goal

pub returns-in-Ok : goal.returns-in-Ok
returns-in-Ok c =
    IfOk-weaker c.with_measure.result _ _ (λ out read. inl (c.in-Ok.parts, c.in-Ok.ensures.parts, read)) c.with_measure.ensures

pub returns-in-Err : goal.returns-in-Err
returns-in-Err c =
    IfOk-weaker c.unread.result _ _
    (λ out unread. inr (wide_place Fractions (PartsRead (limited_stakes c.args.sheet.now c.args.tableau.now)) c.args.pivots out c.in-Err.fault c.in-Err.ensures.wide unread))
    c.unread.ensures
