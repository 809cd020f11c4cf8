use Rattle.std.proofs.Common.{◌≡◌, ℕ, false, true, List, inl, inr, ap, ◌∙◌, refl}
use Rattle.std.proofs.lemmas.Result.{IfOk-weaker}
use Rattle.scan_types.specs.declared.outcome.Outcome.{Outcome}
use Rattle.settlement_definitions.specs.Classes.{classes_of}
use Rattle.finding_definitions.specs.declared.finding.Finding.TheVariants.{Arb}
use Rattle.finding_definitions.specs.declared.finding.Stage.TheVariants.{Slack}
use Rattle.judging_definitions.specs.Readings.{MeasureReads}
use Rattle.judging_definitions.specs.ExactFinding.{IsFoundByPlainRun}
use Rattle.verdict_maker.proofs.TurnFacts.{read_value, read_nothing, level_there, no_level_there, measure_there, floors_there}
use Rattle.verdict_maker.proofs.judging.after_slack_run.Goals as goal

pub returns-then-has_level_one : goal.returns-then-has_level_one
returns-then-has_level_one c plain e =
    inl (level_there plain c.args.tableau.now e (c.if-has_level_one.ensures.0 refl), ap Arb (c.in_ok-stakes.ensures ∙ floors_there c.args.sheet.now plain c.args.tableau.now e))

pub returns-in-Ok : goal.returns-in-Ok
returns-in-Ok c =
    let left = c.args.tableau.now in
    let classes = classes_of c.args.sheet.now in
    IfOk-weaker c.found_by_plain_run.result _ _
    (λ finding found plain e.
    inr (
      no_level_there plain left e (λ one. let x : false ≡ true = c.if-has_level_one.ensures.1 one in cc),
      read_value (MeasureReads c.args.classes.now left) (MeasureReads classes plain) Slack c.args.pivots (λ measure. IsFoundByPlainRun c.args.sheet.now c.args.budget c.args.direction measure finding) finding c.in-Ok.measure (measure_there c.args.classes.now classes plain left c.requires.classes e) c.in-Ok.ensures.measure found,
    ))
    c.found_by_plain_run.ensures

pub returns-in-Err : goal.returns-in-Err
returns-in-Err c =
    let left = c.args.tableau.now in
    let classes = classes_of c.args.sheet.now in
    IfOk-weaker c.unread.result _ _
    (λ finding unread plain e.
    inr (
      no_level_there plain left e (λ one. let x : false ≡ true = c.if-has_level_one.ensures.1 one in cc),
      read_nothing (List (Outcome × ℕ)) (MeasureReads c.args.classes.now left) (MeasureReads classes plain) Slack c.args.pivots (λ measure. IsFoundByPlainRun c.args.sheet.now c.args.budget c.args.direction measure finding) finding c.in-Err.fault (measure_there c.args.classes.now classes plain left c.requires.classes e) c.in-Err.ensures.wide unread,
    ))
    c.unread.ensures
