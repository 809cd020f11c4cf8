use Rattle.std.proofs.Common.{◌≡◌, false, List}
use Rattle.board_laws.specs.Callers.{holds_pin}
use Rattle.turn_lock.specs.Passes.{known, IsPassOf}
use Rattle.quote_board.specs.Shared.{board_part}
use Rattle.solver_workers.specs.Works.{Work, HasWorked, AreFiled}
use Rattle.solver_workers.proofs.body.solver_body.Given as goal

-- the worker has filed a finding for each pin so far
abbrev pub invariant-loop : goal.invariant-loop
invariant-loop g l = record {
  of : IsPassOf l.lock l.pass;
  free : holds_pin (known l.pass).own ≡ false;
  worked : (works : List Work) × HasWorked (board_part l.lock).rules (g.J.W.Law.allows (board_part l.lock).law) (known l.fn.pass) (known l.pass) works × AreFiled works;
  law_stays : g.J.Judge.law_of l.judge ≡ g.J.Judge.law_of l.fn.judge;
}
