use Rattle.std.proofs.Common.{◌≡◌, ℕ, false, true, List, inl, inr, refl}
use Rattle.std.proofs.lemmas.Result.{IfOk-weaker}
use Rattle.scan_types.specs.declared.outcome.Outcome.{Outcome}
use Rattle.settlement_definitions.specs.Classes.{classes_of}
use Rattle.finding_definitions.specs.Fractions.{Fractions}
use Rattle.finding_definitions.specs.declared.finding.Finding.TheVariants.{Coherent}
use Rattle.finding_definitions.specs.declared.finding.Stage.TheVariants.{First}
use Rattle.judging_definitions.specs.Readings.{MeasureReads, DirectionReads}
use Rattle.judging_definitions.specs.ExactFinding.{IsFoundInDirection}
use Rattle.judging_definitions.specs.FirstRun.{first_stakes}
use Rattle.verdict_maker.proofs.TurnFacts.{read_value, read_nothing, level_there, no_level_there, measure_there, direction_there, direction_long, direction_some}
use Rattle.verdict_maker.proofs.judging.after_first_run.Goals as goal

pub returns-in-Ok : goal.returns-in-Ok
returns-in-Ok c plain e =
    let left = c.args.tableau.now in
    let classes = classes_of c.args.sheet.now in
    let finding = Coherent c.in-Ok.measure in
    inr (
      no_level_there plain left e (λ one. let x : false ≡ true = c.if-not-has_level_one.ensures.1 one in cc),
      read_value (MeasureReads c.args.classes.now left) (MeasureReads classes plain) First c.args.pivots (λ measure. finding ≡ Coherent measure) finding c.in-Ok.measure (measure_there c.args.classes.now classes plain left c.requires.classes e) c.in-Ok.ensures.measure refl,
    )

pub returns-in-Err : goal.returns-in-Err
returns-in-Err c =
    let left = c.args.tableau.now in
    let classes = classes_of c.args.sheet.now in
    IfOk-weaker c.unread.result _ _
    (λ finding unread plain e.
    inr (
      no_level_there plain left e (λ one. let x : false ≡ true = c.if-not-has_level_one.ensures.1 one in cc),
      read_nothing (List (Outcome × ℕ)) (MeasureReads c.args.classes.now left) (MeasureReads classes plain) First c.args.pivots (λ measure. finding ≡ Coherent measure) finding c.in-Err.fault (measure_there c.args.classes.now classes plain left c.requires.classes e) c.in-Err.ensures.wide unread,
    ))
    c.unread.ensures

pub found_in_direction-requires-clause-each : goal.found_in_direction-requires-clause-each
found_in_direction-requires-clause-each c = direction_long c.args.sheet.now c.args.tableau.now c.in-Ok-read_direction.direction c.in-Ok-read_direction.ensures.direction

pub found_in_direction-requires-clause-some : goal.found_in_direction-requires-clause-some
found_in_direction-requires-clause-some c = direction_some c.args.sheet.now c.args.tableau.now c.in-Ok-read_direction.direction c.requires.best (c.if-not-has_level_one.ensures.0 refl) c.in-Ok-read_direction.ensures.direction

pub returns-in-Ok-read_direction : goal.returns-in-Ok-read_direction
returns-in-Ok-read_direction c =
    let offers = c.args.sheet.now in
    let left = c.args.tableau.now in
    IfOk-weaker c.found_in_direction.result _ _
    (λ finding found plain e.
    inl (
      level_there plain left e (c.if-not-has_level_one.ensures.0 refl),
      read_value (DirectionReads offers (first_stakes offers left)) (DirectionReads offers (first_stakes offers plain)) First c.args.pivots (λ direction. IsFoundInDirection offers c.args.budget direction finding) finding c.in-Ok-read_direction.direction (direction_there offers plain left e) c.in-Ok-read_direction.ensures.direction found,
    ))
    c.found_in_direction.ensures

pub returns-in-Err-read_direction : goal.returns-in-Err-read_direction
returns-in-Err-read_direction c =
    let offers = c.args.sheet.now in
    let left = c.args.tableau.now in
    IfOk-weaker c.unread-in-Err-read_direction.result _ _
    (λ finding unread plain e.
    inl (
      level_there plain left e (c.if-not-has_level_one.ensures.0 refl),
      read_nothing Fractions (DirectionReads offers (first_stakes offers left)) (DirectionReads offers (first_stakes offers plain)) First c.args.pivots (λ direction. IsFoundInDirection offers c.args.budget direction finding) finding c.in-Err-read_direction.fault (direction_there offers plain left e) c.in-Err-read_direction.ensures.wide unread,
    ))
    c.unread-in-Err-read_direction.ensures
