use Rattle.std.proofs.Common.{◌≡◌, false, true, refl}
use Rattle.std.proofs.lemmas.Result.{IfOk-weaker}
use Rattle.finding_definitions.specs.Fractions.{Fractions}
use Rattle.finding_definitions.specs.declared.finding.Finding.TheVariants.{Narrow}
use Rattle.finding_definitions.specs.declared.finding.Stage.TheVariants.{Plain}
use Rattle.judging_definitions.specs.Readings.{PartsRead}
use Rattle.judging_laws.specs.Laws.{limited_stakes}
use Rattle.verdict_maker.proofs.TurnFacts.{floors_win, floors_fail, read_value, read_nothing, parts_there}
use Rattle.verdict_maker.proofs.turns.found_within_limits.Goals as goal

pub returns-then-says_yes : goal.returns-then-says_yes
returns-then-says_yes c plain e = floors_win c.args.sheet.now c.args.pivots plain c.args.tableau.now c.args.slack_measure c.in_ok-stakes.stakes e c.in_ok-stakes.ensures (c.if-says_yes.ensures.0 refl)

pub returns-in-Ok : goal.returns-in-Ok
returns-in-Ok c plain e =
    let offers = c.args.sheet.now in
    let left = c.args.tableau.now in
    let finding = Narrow c.in-Ok.parts c.args.slack_measure in
    floors_fail offers c.args.pivots plain left c.args.slack_measure c.in_ok-stakes.stakes finding e c.in_ok-stakes.ensures (λ w. let x : false ≡ true = c.if-says_yes.ensures.1 w in cc)
    (read_value (PartsRead (limited_stakes offers left)) (PartsRead (limited_stakes offers plain)) Plain c.args.pivots (λ parts. finding ≡ Narrow parts c.args.slack_measure) finding c.in-Ok.parts (parts_there offers plain left e) c.in-Ok.ensures.parts refl)

pub returns-in-Err : goal.returns-in-Err
returns-in-Err c =
    let offers = c.args.sheet.now in
    let left = c.args.tableau.now in
    IfOk-weaker c.unread.result _ _
    (λ finding unread plain e.
    floors_fail offers c.args.pivots plain left c.args.slack_measure c.in_ok-stakes.stakes finding e c.in_ok-stakes.ensures (λ w. let x : false ≡ true = c.if-says_yes.ensures.1 w in cc)
    (read_nothing Fractions (PartsRead (limited_stakes offers left)) (PartsRead (limited_stakes offers plain)) Plain c.args.pivots (λ parts. finding ≡ Narrow parts c.args.slack_measure) finding c.in-Err.fault (parts_there offers plain left e) c.in-Err.ensures.wide unread))
    c.unread.ensures
