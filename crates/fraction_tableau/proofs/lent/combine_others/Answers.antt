use Rattle.std.proofs.Common.{◌≤◌, List, length, ℤ, arith}
use Rattle.row_definitions.specs.Combination.{combined}
use Rattle.condensed_laws.specs.Heads.{moved}
use Rattle.fraction_tableau.specs.Lent.{row_of}
use Rattle.fraction_tableau.proofs.LentRows.{between_end}
use Rattle.fraction_tableau.proofs.lent.combine_others.Goals as goal

pub returns : goal.returns
returns c =
    let f : List ℤ → List ℤ = λ target. moved c.args.width c.args.place (combined target (row_of c.args.rows.now c.args.pivot) c.args.place) in
    let all : length c.args.rows.now ≤ c.loop-other.other = omega arith in
    between_end f c.args.rows.now c.loop-other.rows c.args.pivot c.loop-other.other c.loop-other.invariant all c.requires.combinable.pivot_within
