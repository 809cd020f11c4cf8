use Rattle.std.proofs.Common.{ℕ, ◌≡◌, List}
use Rattle.desk_report.specs.Marks.{mark_in, mark_at}
use Rattle.desk_report.proofs.marks.noted.Given as goal

-- each match has its mark after the entries so far
abbrev pub invariant-loop-place : goal.invariant-loop-place
invariant-loop-place l = (q : List ℕ) → mark_in l.marks q ≡ mark_at l.history l.place q
