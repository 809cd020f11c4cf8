use Rattle.std.proofs.Common.{◌≡◌, ◌++◌, take}
use Rattle.turn_lock.specs.Turns.{knows, in_hand, state_of, lock_of, pass_name, IsTurn}
use Rattle.desk_definitions.specs.Lines.{entries_of}
use Rattle.feed_workers.specs.Runs.{with_all}
use Rattle.feed_workers.proofs.turns.put_each.Given as goal

-- the first lines are put
abbrev pub invariant-loop-k : goal.invariant-loop-k
invariant-loop-k g l = record {
  turn : IsTurn l.turn;
  lock : lock_of l.turn ≡ lock_of l.fn.turn;
  pass : pass_name l.turn ≡ pass_name l.fn.turn;
  fixed : (state_of l.turn).fixed ≡ (state_of l.fn.turn).fixed;
  put : in_hand l.turn ≡ in_hand l.fn.turn ++ entries_of l.feed (take l.k l.lines);
  knows : knows l.turn ≡ with_all (knows l.fn.turn) (entries_of l.feed (take l.k l.lines));
}
