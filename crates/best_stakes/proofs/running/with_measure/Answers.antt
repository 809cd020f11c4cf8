use Rattle.std.proofs.Common.{ℕ, List, inl, inr, refl, subst}
use Rattle.std.proofs.lemmas.Result.{IfOk-weaker}
use Rattle.scan_types.specs.declared.outcome.Outcome.{Outcome}
use Rattle.judging_definitions.specs.Readings.{Reads, ReadsWide, MeasureReads}
use Rattle.judging_definitions.specs.MostProgram.{most_need}
use Rattle.best_stakes.proofs.BestFacts.{wide_place}
use Rattle.best_stakes.proofs.running.with_measure.Goals as goal

pub read_measure-requires : goal.read_measure-requires
read_measure-requires c = (c.args.sheet.now, c.requires.classes, inr (most_need c.args.sheet.now, c.requires.best))

pub returns-in-Ok : goal.returns-in-Ok
returns-in-Ok c =
    let measure = c.in-Ok.measure in
    inl (measure, subst (λ cs. MeasureReads cs c.args.tableau.now (Reads measure)) c.requires.classes c.in-Ok.ensures.measure, refl)

pub returns-in-Err : goal.returns-in-Err
returns-in-Err c =
    IfOk-weaker c.unread.result _ _
    (λ out unread.
    let wide = wide_place (List (Outcome × ℕ)) (MeasureReads c.args.classes.now c.args.tableau.now) c.args.pivots out c.in-Err.fault c.in-Err.ensures.wide unread in
    inr (wide.0, subst (λ cs. MeasureReads cs c.args.tableau.now (ReadsWide wide.0)) c.requires.classes wide.1, wide.2))
    c.unread.ensures
