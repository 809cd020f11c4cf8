use Rattle.std.proofs.Common.{◌≡◌, ◌-◌, List, get_or, take, drop, length, sym, subst, arith, rules}
use Rattle.std.specs.List.{All}
use Rattle.std.proofs.lemmas.List.{take_rest}
use Rattle.std.specs.Int.{w128}
use Rattle.std.proofs.lemmas.Int.{ints}
use lib.IntN.{ℤ, pos}
use mir.Val.{SFits}
use Rattle.fraction_tableau.proofs.UnitRows.{to_unit, from_unit}
use Rattle.fraction_tableau.proofs.program.is_unit.Goals as goal

pub returns-then-row-eq1 : goal.returns-then-row-eq1
returns-then-row-eq1 c =
    let row = c.args.row.now in
    let fits : SFits w128 (get_or row 0 (pos 0)) = search rules in
    let one : get_or row 0 (pos 0) ≡ pos 1 = omega (arith, ints, c.if-row-eq1.true) in
    let tail : take (length row - 1) (drop 1 row) ≡ drop 1 row = take_rest row 1 in (
      λ zero. to_unit row c.requires one (subst (λ (xs : List ℤ). All (λ x. x ≡ pos 0) xs) tail (c.are_zero.ensures.0 zero)),
      λ unit. c.are_zero.ensures.1 (subst (λ (xs : List ℤ). All (λ x. x ≡ pos 0) xs) (sym tail) (from_unit row _ unit)),
    )
