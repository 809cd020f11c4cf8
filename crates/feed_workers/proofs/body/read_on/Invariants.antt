use Rattle.std.proofs.Common.{◌≡◌, ◌-◌, []}
use Rattle.turn_lock.specs.Passes.{known, IsPassOf}
use Rattle.quote_board.specs.Shared.{board_part, IsLaterPass}
use Rattle.feed_bodies.specs.Bodies.{ReadsOn}
use Rattle.feed_workers.specs.Runs.{IsPut}
use Rattle.feed_workers.proofs.body.read_on.Given as goal

-- between two rounds
abbrev pub invariant-loop-stop : goal.invariant-loop-stop
invariant-loop-stop g l = record {
  of : IsPassOf l.lock l.pass;
  put : IsPut g.S.Source.left l.feed (board_part l.lock).rules l.header (known l.pass).own l.refusals l.reader;
  empty : l.lines.items ≡ [];
  later : IsLaterPass (known l.fn.pass) (known l.pass);
  no_fault : g.S.Source.faults l.reader.source ≡ g.S.Source.faults l.fn.reader.source;
  goes_on : ReadsOn g.S.Source.left g.S.Source.faults g.S.Source.later g.S.Source.never_fails l.fn.reader l.reader;
}

-- a feed has at most so many lines, and one ending
abbrev pub decreases-loop-stop : goal.decreases-loop-stop
decreases-loop-stop g l = 16386 - l.reader.answers
