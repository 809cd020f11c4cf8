use Rattle.std.proofs.Common.{◌≡◌, ◌+◌, ◌∙◌, length, arith}
use Rattle.fraction_tableau.specs.Lent.{row_of}
use Rattle.fraction_tableau.proofs.LentRows.{moved_rows, combined_count}
use Rattle.fraction_tableau.proofs.lent.combine_one.Goals as goal

pub swap-requires-clause-one : goal.swap-requires-clause-one
swap-requires-clause-one c =
    let r = c.requires in
    let count : length (row_of c.combine.new.self c.args.target) ≡ c.args.width + 3 = combined_count c.args.width c.args.place c.args.target c.args.rows.now c.combine.new.self (row_of c.args.rows.now c.args.target) (row_of c.args.rows.now c.args.pivot) r.combinable.rows.lengths r.within c.combine.ensures ∙ r.count in
    omega (arith, count, r.place)

pub swap-requires-clause-other : goal.swap-requires-clause-other
swap-requires-clause-other c =
    let r = c.requires in
    let count : length (row_of c.combine.new.self c.args.target) ≡ c.args.width + 3 = combined_count c.args.width c.args.place c.args.target c.args.rows.now c.combine.new.self (row_of c.args.rows.now c.args.target) (row_of c.args.rows.now c.args.pivot) r.combinable.rows.lengths r.within c.combine.ensures ∙ r.count in
    omega (arith, count)

pub returns : goal.returns
returns c =
    let r = c.requires in
    moved_rows c.args.width c.args.place c.args.target c.args.rows.now c.combine.new.self c.swap.new.self (row_of c.args.rows.now c.args.target) (row_of c.args.rows.now c.args.pivot) r.combinable.rows.lengths r.within c.combine.ensures c.swap.ensures
