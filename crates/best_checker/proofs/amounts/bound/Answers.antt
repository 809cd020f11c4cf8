use Rattle.std.proofs.Common.{◌<ℤ◌, pos, sym, subst, ◌∙◌, SFits, to_z-of_z, rules}
use Rattle.std.specs.Int.{w128}
use Rattle.best_checker.proofs.Rightness.{final_need_above}
use Rattle.best_checker.proofs.amounts.bound.Goals as goal

pub in_lowest_terms-requires : goal.in_lowest_terms-requires
in_lowest_terms-requires c =
    let fits : SFits w128 c.need_of_unit.result = search rules in
    subst (λ z. pos 0 <ℤ z) (sym (to_z-of_z fits ∙ c.need_of_unit.ensures)) (final_need_above c.args.entries.now c.requires.price)
