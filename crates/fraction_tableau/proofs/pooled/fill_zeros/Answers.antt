use Rattle.std.proofs.Common.{SFits, to_z-of_z, rules}
use Rattle.std.specs.Int.{w128}
use Rattle.fraction_tableau.proofs.PoolRows.{filled_is}
use Rattle.fraction_tableau.proofs.pooled.fill_zeros.Goals as goal

pub returns-clause-value : goal.returns-clause-value
returns-clause-value c =
    let fits : SFits w128 c.args.right = search rules in
    filled_is c.args.coefs.now c.copy_from_slice.new.self c.args.row.now c.args.right _ c.copy_from_slice.ensures.after c.requires (to_z-of_z fits)
