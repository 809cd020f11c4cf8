use Rattle.std.proofs.Common.{◌∙◌, arith}
use Rattle.std.proofs.lemmas.Bool.Decides.{nat_tests}
use Rattle.odds_fixed.proofs.GoalParts.{plus_sign, minus_sign, no_sign, no_text}
use Rattle.odds_fixed.proofs.quarters.read_quarters.Goals as goal

pub returns-then-is_empty : goal.returns-then-is_empty
returns-then-is_empty c = no_text c.args.text.now (grind (arith, nat_tests))

pub returns-then-sign-eq43 : goal.returns-then-sign-eq43
returns-then-sign-eq43 c = c.goals_above.ensures ∙ plus_sign c.args.text.now (grind (arith, nat_tests)) (grind (arith, nat_tests))

pub returns-then-sign-eq45 : goal.returns-then-sign-eq45
returns-then-sign-eq45 c = c.goals_below.ensures ∙ minus_sign c.args.text.now (grind (arith, nat_tests)) (grind (arith, nat_tests))

pub returns : goal.returns
returns c = c.goals_above-2.ensures ∙ no_sign c.args.text.now (grind (arith, nat_tests)) (λ e. grind (arith, nat_tests, e)) (λ e. grind (arith, nat_tests, e))
