use Rattle.std.proofs.Common.{◌≡◌, ◌≤◌, ◌++◌, take, drop, length}
use Rattle.snapshot_pins.specs.Values.{kept}
use Rattle.snapshot_pins.proofs.cell.gather.Given as goal

-- the values that are needed so far stand at the front, and those that are not looked at yet stand where they stood
abbrev pub invariant-loop-place : goal.invariant-loop-place
invariant-loop-place l = record {
  long : length l.values ≡ length l.fn.values;
  within : l.count ≤ l.place;
  later : drop l.place l.values ≡ drop l.place l.fn.values;
  gathered : take l.count l.values ++ kept l.live (drop l.place l.fn.values) ≡ kept l.live l.fn.values;
}
