use Rattle.std.proofs.Common.{sym}
use Rattle.row_definitions.proofs.Primitives.{row_divisor-pos, scaled-primitive_row, primitive_row-zeros, IsPositiveMultiple-primitive_row, primitive_row-primitive_row, primitive_row-unit, primitive_row-scaled, primitive_row-proportional, signs-multiple, FitsEntry-primitive_row}
use Rattle.row_definitions.proofs.primitive_law.Goals as goal

pub returns-clause-by_the_divisor : goal.returns-clause-by_the_divisor
returns-clause-by_the_divisor c row w = (row_divisor-pos row w, sym (scaled-primitive_row row))

pub returns-clause-zeros : goal.returns-clause-zeros
returns-clause-zeros c = primitive_row-zeros

pub returns-clause-direction : goal.returns-clause-direction
returns-clause-direction c = IsPositiveMultiple-primitive_row

pub returns-clause-stays : goal.returns-clause-stays
returns-clause-stays c = primitive_row-primitive_row

pub returns-clause-unit_entry : goal.returns-clause-unit_entry
returns-clause-unit_entry c = primitive_row-unit

pub returns-clause-multiple : goal.returns-clause-multiple
returns-clause-multiple c row factor h = primitive_row-scaled factor row h

pub returns-clause-proportional : goal.returns-clause-proportional
returns-clause-proportional c = primitive_row-proportional

pub returns-clause-signs : goal.returns-clause-signs
returns-clause-signs c = signs-multiple

pub returns-clause-fits : goal.returns-clause-fits
returns-clause-fits c = FitsEntry-primitive_row
