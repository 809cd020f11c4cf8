use Rattle.std.proofs.Common.{◌≡◌, ◌++◌, length, map, take, drop, zip}
use Rattle.desk_once.specs.Reports.{filled}
use Rattle.desk_once.proofs.reporting.put_back.Given as goal

abbrev pub invariant-loop-k : goal.invariant-loop-k
invariant-loop-k g l = record {
  ends : l.ends ≡ take l.k (map filled (zip l.initial.ends l.initial.parts)) ++ drop l.k l.initial.ends;
  parts : drop l.k l.parts ≡ drop l.k l.initial.parts;
}
