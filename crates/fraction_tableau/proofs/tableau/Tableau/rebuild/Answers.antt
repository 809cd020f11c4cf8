use Rattle.std.proofs.Common.{◌≡◌, sym, ap, subst, ◌∙◌}
use Rattle.condensed_laws.specs.Tableaus.{expanded}
use Rattle.fraction_tableau.specs.Kept.{StandsForKept}
use Rattle.fraction_tableau.proofs.Lifted.{built_is, stands_built, stands_empty}
use Rattle.fraction_tableau.proofs.tableau.Tableau.rebuild.Goals as goal

pub invariant_of-self : goal.invariant_of-self
invariant_of-self c = subst StandsForKept (sym c.in_err-rebuild.ensures.err) stands_empty

pub invariant_of-self-2 : goal.invariant_of-self-2
invariant_of-self-2 c = subst StandsForKept (sym c.in_ok-rebuild.ensures.ok) (stands_built c.args.program.now c.in_ok-rebuild.ensures.limits)

pub returns-clause-ok : goal.returns-clause-ok
returns-clause-ok c = ap expanded c.in_ok-rebuild.ensures.ok ∙ built_is c.args.program.now c.in_ok-rebuild.ensures.limits
