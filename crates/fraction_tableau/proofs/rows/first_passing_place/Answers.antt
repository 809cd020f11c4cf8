use Rattle.std.proofs.Common.{◌≡◌, rules, arith}
use Rattle.std.specs.Int.{w128}
use Rattle.std.proofs.lemmas.Int.{ints}
use lib.IntN.{pos}
use mir.Val.{SFits}
use Rattle.row_definitions.specs.Rows.{entry}
use Rattle.row_definitions.proofs.Combinations.{fits-zero}
use Rattle.fraction_tableau.proofs.rows.first_passing_place.Goals as goal

pub returns-then-target-place-eq0-clause-nowhere : goal.returns-then-target-place-eq0-clause-nowhere
returns-then-target-place-eq0-clause-nowhere c =
    let r = c.requires.combinable in
    let fits : SFits w128 (entry c.args.target.now c.args.place) = search rules in
    let none : entry c.args.target.now c.args.place ≡ pos 0 = omega (arith, ints, c.if-target-place-eq0.true) in
    fits-zero c.args.target.now c.args.pivot.now c.args.place r.rows.target_fits r.rows.positive none
