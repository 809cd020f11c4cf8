use Rattle.std.proofs.Common.{◌≡◌, ◌≤◌, ◌-◌, length, take, drop}
use Rattle.std.specs.Io.KnownBytes.{Appends}
use Rattle.desk_io.proofs.put.put_all.Given as goal

-- what is not left to write was appended
abbrev pub invariant-loop-rest : goal.invariant-loop-rest
invariant-loop-rest g l =
    let K = g.K.Sink in
    let done = length l.bytes - length l.rest in
    record {
      within : length l.rest ≤ length l.bytes;
      rest : l.rest ≡ drop done l.bytes;
      appended : Appends (K.written l.fn.sink) (K.written l.sink) (take done l.bytes);
      faults : K.faults l.sink ≡ K.faults l.fn.sink;
      untouched : length l.rest ≡ length l.bytes → l.sink ≡ l.fn.sink;
    }

abbrev pub decreases-loop-rest : goal.decreases-loop-rest
decreases-loop-rest g l = length l.rest
