use Rattle.std.proofs.Common.{◌≡◌, ◌≤◌, ◌<◌, ◌-◌, List, length}
use Rattle.std.specs.Prelude.{Option, ◌⊎◌}
use Rattle.scan_types.specs.declared.rule.VoidRule.{VoidRule}
use Rattle.feed_definitions.specs.declared.accepted.Accepted.{Accepted}
use Rattle.feed_definitions.specs.declared.header.Header.{Header}
use Rattle.feed_definitions.specs.Lines.{ended_lines}
use Rattle.feed_bodies.specs.Bodies.{ReadsOn}
use Rattle.feed_workers.specs.Runs.{IsGathered, IsSomewhereIn}
use Rattle.feed_workers.proofs.gathering.gather.Given as goal

-- between two steps
abbrev pub invariant-loop-stop : goal.invariant-loop-stop
invariant-loop-stop g l = record {
  somewhere : IsSomewhereIn g.S.Source.left l.feed l.lines.items l.refusals l.reader;
  between : (rules : List (Option VoidRule)) (header : Header) (put : List Accepted) → IsGathered g.S.Source.left l.feed rules header put l.fn.lines.items l.fn.refusals l.fn.reader →
      IsGathered g.S.Source.left l.feed rules header put l.lines.items l.refusals l.reader;
  in_hand : (l.lines.items ≡ l.fn.lines.items) ⊎ (l.reader.answers < length (ended_lines l.reader.taken));
  more : l.fn.reader.answers ≤ l.reader.answers;
  no_fault : g.S.Source.faults l.reader.source ≡ g.S.Source.faults l.fn.reader.source;
  goes_on : ReadsOn g.S.Source.left g.S.Source.faults g.S.Source.later g.S.Source.never_fails l.fn.reader l.reader;
}

-- a feed has at most so many lines, and one ending
abbrev pub decreases-loop-stop : goal.decreases-loop-stop
decreases-loop-stop g l = 16386 - l.reader.answers
