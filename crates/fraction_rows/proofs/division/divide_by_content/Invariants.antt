use Rattle.std.proofs.Common.{◌≡◌, ◌<◌, ◌^◌}
use Rattle.std.specs.Int.{◌∣◌}
use Rattle.row_definitions.specs.Rows.{row_divisor}
use Rattle.fraction_rows.proofs.division.divide_by_content.Given as goal

abbrev pub invariant-loop-divisor : goal.invariant-loop-divisor
invariant-loop-divisor l = record {
  same : l.row ≡ l.fn.row;
  multiple : row_divisor l.fn.row ∣ l.divisor;
  fits : l.divisor < 2 ^ 127;
  zeros : l.divisor ≡ 0 → row_divisor l.fn.row ≡ 0;
}

abbrev pub decreases-loop-divisor : goal.decreases-loop-divisor
decreases-loop-divisor l = l.divisor
