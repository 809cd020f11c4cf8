use Rattle.std.proofs.Common.{ℕ, ◌<◌, ◌^◌, ◌↔◌}
use Rattle.std.specs.List.{AllWithin}
use Rattle.fraction_rows.specs.BitLengths.{HasBits}
use Rattle.fraction_rows.proofs.bits.bit_length.Given as goal

abbrev pub invariant-loop-x : goal.invariant-loop-x
invariant-loop-x l = (k : ℕ) → (l.sizes < 2 ^ k) ↔ AllWithin (HasBits k) l.row 0 l.x-index
