use Rattle.std.proofs.Common.{◌≡◌, ◌≤◌, ◌++◌, length, take, drop}
use Rattle.snapshot_pins.specs.Kept.{offers_in}
use Rattle.snapshot_pins.proofs.match_cells.copy_at.Given as goal

-- so many offers are copied, one for each that was yielded
abbrev pub invariant-loop-offer : goal.invariant-loop-offer
invariant-loop-offer l = record {
  counted : l.count ≡ length l.yielded;
  within : l.count ≤ length l.fn.out;
  copied : l.out ≡ take l.count (drop l.from (offers_in l.cells l.fn.version)) ++ drop l.count l.fn.out;
}
