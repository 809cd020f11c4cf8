use Rattle.std.proofs.Common.{◌≡◌, ℕ, false, true, List, inl, inr, refl}
use Rattle.std.proofs.lemmas.Result.{IfOk-weaker}
use Rattle.scan_types.specs.declared.outcome.Outcome.{Outcome}
use Rattle.settlement_definitions.specs.Classes.{classes_of}
use Rattle.finding_definitions.specs.declared.finding.Finding.TheVariants.{Thin}
use Rattle.finding_definitions.specs.declared.finding.Stage.TheVariants.{Plain}
use Rattle.judging_definitions.specs.Readings.{MeasureReads}
use Rattle.verdict_maker.proofs.TurnFacts.{read_value, read_nothing, level_there, no_level_there, measure_there}
use Rattle.verdict_maker.proofs.turns.after_plain_run.Goals as goal

pub returns-then-has_level_one : goal.returns-then-has_level_one
returns-then-has_level_one c =
    IfOk-weaker c.found_within_limits.result _ _
    (λ finding follows plain e. inl (level_there plain c.args.tableau.now e (c.if-has_level_one.ensures.0 refl), follows plain e))
    c.found_within_limits.ensures

pub returns-in-Ok : goal.returns-in-Ok
returns-in-Ok c plain e =
    let left = c.args.tableau.now in
    let classes = classes_of c.args.sheet.now in
    let finding = Thin c.args.direction c.in-Ok.measure in
    inr (
      no_level_there plain left e (λ one. let x : false ≡ true = c.if-has_level_one.ensures.1 one in cc),
      read_value (MeasureReads c.args.classes.now left) (MeasureReads classes plain) Plain c.args.pivots (λ measure. finding ≡ Thin c.args.direction measure) finding c.in-Ok.measure (measure_there c.args.classes.now classes plain left c.requires.classes e) c.in-Ok.ensures.measure refl,
    )

pub returns-in-Err : goal.returns-in-Err
returns-in-Err c =
    let left = c.args.tableau.now in
    let classes = classes_of c.args.sheet.now in
    IfOk-weaker c.unread.result _ _
    (λ finding unread plain e.
    inr (
      no_level_there plain left e (λ one. let x : false ≡ true = c.if-has_level_one.ensures.1 one in cc),
      read_nothing (List (Outcome × ℕ)) (MeasureReads c.args.classes.now left) (MeasureReads classes plain) Plain c.args.pivots (λ measure. finding ≡ Thin c.args.direction measure) finding c.in-Err.fault (measure_there c.args.classes.now classes plain left c.requires.classes e) c.in-Err.ensures.wide unread,
    ))
    c.unread.ensures
