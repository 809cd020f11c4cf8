use Rattle.std.proofs.Common.{◌≡◌, ◌-◌}
use Rattle.feed_bodies.specs.Bodies.{IsBetween, ReadsOn}
use Rattle.feed_bodies.proofs.body.read_lines.Given as goal

-- between two steps
abbrev pub invariant-loop-stop : goal.invariant-loop-stop
invariant-loop-stop g l = record {
  between : IsBetween g.S.Source.left l.feed l.header l.fn.board l.board l.refusals l.reader;
  no_fault : g.S.Source.faults l.reader.source ≡ g.S.Source.faults l.fn.reader.source;
  goes_on : ReadsOn g.S.Source.left g.S.Source.faults g.S.Source.later g.S.Source.never_fails l.fn.reader l.reader;
}

-- a feed has at most so many lines, and one ending
abbrev pub decreases-loop-stop : goal.decreases-loop-stop
decreases-loop-stop g l = 16386 - l.reader.answers
