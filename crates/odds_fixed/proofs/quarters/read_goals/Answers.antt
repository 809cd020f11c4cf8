use Rattle.std.proofs.Common.{◌∙◌, refl, Some, None}
use Rattle.number_definitions.specs.Readings.{fraction_of}
use Rattle.odds_fixed.proofs.GoalParts.{whole_goals, goals_and_fraction}
use Rattle.odds_fixed.proofs.quarters.read_goals.Goals as goal

pub returns-in_err-read_number-in-None-clause-value :
    goal.returns-in_err-read_number-in-None-clause-value
returns-in_err-read_number-in-None-clause-value c = c.from_residual.ensures ∙ whole_goals c.args.text.now None c.in-None.ensures c.in_err-read_number-in-None.ensures.value

pub returns-in_err-goals-in-Some-clause-value : goal.returns-in_err-goals-in-Some-clause-value
returns-in_err-goals-in-Some-clause-value c = c.from_residual-in_err-goals-in-Some.ensures
    ∙ goals_and_fraction c.args.text.now c.in-Some.whole.now c.in-Some.fraction.now c.in-Some.ensures None (fraction_of c.in-Some.fraction.now) c.in_err-goals-in-Some.ensures.value refl

pub returns-in_err-quarters-in-Some-clause-value :
    goal.returns-in_err-quarters-in-Some-clause-value
returns-in_err-quarters-in-Some-clause-value c = c.from_residual-in_err-quarters-in-Some.ensures
    ∙ goals_and_fraction c.args.text.now c.in-Some.whole.now c.in-Some.fraction.now c.in-Some.ensures (Some c.in_ok-goals-in-Some.goals) None c.in_ok-goals-in-Some.ensures.value c.in_err-quarters-in-Some.ensures.value

pub returns-in_ok-read_number-in-None-clause-value :
    goal.returns-in_ok-read_number-in-None-clause-value
returns-in_ok-read_number-in-None-clause-value c = whole_goals c.args.text.now (Some c.in_ok-read_number-in-None.field-0) c.in-None.ensures c.in_ok-read_number-in-None.ensures.value

pub returns-in_ok-quarters-in-Some-clause-value : goal.returns-in_ok-quarters-in-Some-clause-value
returns-in_ok-quarters-in-Some-clause-value c =
    goals_and_fraction c.args.text.now c.in-Some.whole.now c.in-Some.fraction.now c.in-Some.ensures (Some c.in_ok-goals-in-Some.goals) (Some c.in_ok-quarters-in-Some.quarters) c.in_ok-goals-in-Some.ensures.value c.in_ok-quarters-in-Some.ensures.value
