use Rattle.std.proofs.Common.{◌≡◌, ◌∙◌, ℕ, ◌<◌, length, arith, refl, subst}
use Rattle.pivot_definitions.specs.Tableaus.{column_count}
use Rattle.bland_laws.specs.Ways.{ways}
use Rattle.pivot_rule.proofs.Steps.{RunSoFar, run_none, run_choosable, run_not_basic, run_more, ends_best, ends_wide, ends_out}
use Rattle.pivot_rule.proofs.FewPivots.{few_pivots}
use Rattle.pivot_rule.proofs.bland.run.Goals as goal

pub loop-pivots-init : goal.loop-pivots-init
loop-pivots-init c = record { run = run_none c.args.tableau.now c.requires; shape = (refl, refl) }

pub choose-requires : goal.choose-requires
choose-requires c = run_choosable c.args.tableau.now c.loop-pivots.tableau c.loop-pivots.pivots c.requires c.loop-pivots.invariant.run

pub pivot-requires-clause-not_basic : goal.pivot-requires-clause-not_basic
pivot-requires-clause-not_basic c = run_not_basic c.args.tableau.now c.loop-pivots.tableau c.loop-pivots.pivots c.in-Some.choice.row c.in-Some.choice.column c.requires c.loop-pivots.invariant.run c.in-Some.ensures.some

pub returns-in_default-clause-end : goal.returns-in_default-clause-end
returns-in_default-clause-end c = ends_best c.args.tableau.now c.loop-pivots.tableau c.args.budget c.loop-pivots.pivots (omega arith) c.loop-pivots.invariant.run c.in_default.ensures.none

pub returns-in-Err-clause-end : goal.returns-in-Err-clause-end
returns-in-Err-clause-end c = ends_wide c.args.tableau.now c.loop-pivots.tableau c.pivot.new.self c.args.budget c.loop-pivots.pivots c.in-Some.choice.row c.in-Some.choice.column c.in-Err.place.row c.in-Err.place.column (omega arith) c.loop-pivots.invariant.run c.in-Err.ensures.unchanged c.in-Some.ensures.some c.in-Err.ensures.passes_first

pub loop-pivots-preserved : goal.loop-pivots-preserved
loop-pivots-preserved c = record {
  run = run_more c.args.tableau.now c.loop-pivots.tableau c.pivot.new.self c.loop-pivots.pivots c.in-Some.choice.row c.in-Some.choice.column c.loop-pivots.invariant.run c.in-Some.ensures.some c.in_default-pivot.ensures.fits c.in_default-pivot.ensures.ok;
  shape = (let before = c.loop-pivots.invariant.shape in let step = c.pivot.ensures.shape in (step.0 ∙ before.0, step.1 ∙ before.1));
}

pub choose-requires-2 : goal.choose-requires-2
choose-requires-2 c = run_choosable c.args.tableau.now c.loop-pivots.tableau c.loop-pivots.pivots c.requires c.loop-pivots.invariant.run

pub returns-in-Some-choose-clause-end : goal.returns-in-Some-choose-clause-end
returns-in-Some-choose-clause-end c = ends_out c.args.tableau.now c.loop-pivots.tableau c.args.budget c.loop-pivots.pivots c.in-Some-choose.field-0.row c.in-Some-choose.field-0.column (omega arith) c.loop-pivots.invariant.run c.in-Some-choose.ensures.some

pub returns-in-None-clause-end : goal.returns-in-None-clause-end
returns-in-None-clause-end c =
    let whole : c.loop-pivots.pivots ≡ c.args.budget = omega arith in
    ends_best c.args.tableau.now c.loop-pivots.tableau c.args.budget c.args.budget (omega arith) (subst (λ (n : ℕ). RunSoFar c.args.tableau.now n c.loop-pivots.tableau) whole c.loop-pivots.invariant.run) c.in-None.ensures.none

pub returns-in-Some-choose-clause-few_pivots : goal.returns-in-Some-choose-clause-few_pivots
returns-in-Some-choose-clause-few_pivots c =
    let whole : c.loop-pivots.pivots ≡ c.args.budget = omega arith in
    subst (λ (n : ℕ). n < ways (column_count c.args.tableau.now) (length c.args.tableau.now.basis)) whole (few_pivots c.args.tableau.now c.loop-pivots.tableau c.loop-pivots.pivots c.requires c.loop-pivots.invariant.run)
