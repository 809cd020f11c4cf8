use Rattle.std.proofs.Common.{ℕ, List, Option, ◌≡◌, ◌≢◌, ◌+◌, ◌≤◌, length, vec_capacity}
use Rattle.std.specs.Prelude.{All}
use Rattle.board_definitions.specs.declared.event.FeedStop.TheVariants as stops
use Rattle.std.specs.VecDeque.{deque_len}
use Rattle.desk_once.specs.Counts.{AreCounted, AreFresh}
use Rattle.desk_once.specs.Bodies.{AreReadSoFar, headers_of}
use Rattle.desk_once.proofs.bodies.read_while.Given as goal

-- the feeds so far were read whole
abbrev pub invariant-loop-next : goal.invariant-loop-next
invariant-loop-next g l = record {
  fixed : l.board.fixed ≡ l.fn.board.fixed;
  headers : headers_of l.ends.items l.begun.items ≡ headers_of l.fn.ends.items l.fn.begun.items;
  few : length l.ends.items + deque_len l.begun ≡ length l.fn.ends.items + deque_len l.fn.begun;
  promised : All (λ end. end.stop ≢ stops.ReadFault) l.fn.ends.items → All (λ feed. g.S.Source.never_fails feed.reader.source) l.fn.begun.items →
      All (λ end. end.stop ≢ stops.ReadFault) l.ends.items × All (λ feed. g.S.Source.never_fails feed.reader.source) l.begun.items;
  counted : AreCounted g.S.Source.faults l.fn.ends.items → AreFresh g.S.Source.faults l.fn.begun.items → AreCounted g.S.Source.faults l.ends.items × AreFresh g.S.Source.faults l.begun.items;
  room : vec_capacity l.fn.ends ≤ vec_capacity l.ends;
  so_far : (told : ℕ → Option (List ℕ)) → AreReadSoFar g.S.Source.left g.S.Source.faults told l.fn.board.fixed.rules l.fn.ends.items l.fn.begun.items l.fn.board.history →
      AreReadSoFar g.S.Source.left g.S.Source.faults told l.board.fixed.rules l.ends.items l.begun.items l.board.history;
}

abbrev pub decreases-loop-next : goal.decreases-loop-next
decreases-loop-next g l = deque_len l.begun
