use Rattle.std.proofs.Common.{◌≡◌, ◌≤◌, ◌++◌, length, map, take, drop, vec_len}
use Rattle.std.specs.Prelude.{vec_capacity}
use Rattle.std.specs.List.{AllZip}
use Rattle.desk_once.specs.Reports.{IsPartOf, emptied}
use Rattle.desk_once.proofs.reporting.take_parts.Given as goal

abbrev pub invariant-loop-k : goal.invariant-loop-k
invariant-loop-k g l = record {
  ends : l.ends ≡ take l.k (map emptied l.initial.ends) ++ drop l.k l.initial.ends;
  parts : AllZip IsPartOf (take l.k l.initial.ends) l.parts.items;
  count : vec_len l.parts ≡ l.k;
  room : length l.ends ≤ vec_capacity l.parts;
}
