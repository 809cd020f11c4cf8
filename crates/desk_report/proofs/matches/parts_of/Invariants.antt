use Rattle.std.proofs.Common.{map, length, ◌≤◌}
use Rattle.std.specs.Prelude.{vec_capacity}
use Rattle.std.specs.List.{AllZip}
use Rattle.std.specs.Map.Iter.{deref_pair}
use Rattle.desk_report.specs.Judged.{IsPart}
use Rattle.desk_report.proofs.matches.parts_of.Given as goal

-- each match so far is that of its entry, and there is room for all
abbrev pub invariant-loop-match_name : goal.invariant-loop-match_name
invariant-loop-match_name g l = record {
  parts : AllZip (λ entry part. IsPart l.board.fixed.rules l.board.history entry.0 entry.1 part) (map deref_pair l.yielded) l.parts.items;
  room : length l.marks.entries ≤ vec_capacity l.parts;
}
