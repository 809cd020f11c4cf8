use Rattle.std.proofs.Common.{[], ◌++◌, refl, ◌∙◌}
use Rattle.turn_lock.specs.Passes.{known}
use Rattle.quote_board.specs.Shared.{board_part}
use Rattle.solver_workers.proofs.Working.{worked_none, worked_on, free_then, filed_more, ended_so}
use Rattle.solver_workers.proofs.body.solver_body.Goals as goal

pub loop-init : goal.loop-init
loop-init g c = record {
  of = c.requires.of;
  free = c.requires.free;
  worked = ([], worked_none (board_part c.args.lock.now).rules (g.J.W.Law.allows (board_part c.args.lock.now).law) (known c.args.pass), tt);
  law_stays = refl;
}

pub returns-in-Some-judge_next-clause-worked : goal.returns-in-Some-judge_next-clause-worked
returns-in-Some-judge_next-clause-worked g c =
    let so_far = c.loop.invariant.worked in
    let one = c.in-Some-judge_next.ensures.worked in
    let new = known c.judge_next.new.pass in (
      so_far.0 ++ one.0,
      worked_on (board_part c.args.lock.now).rules (g.J.W.Law.allows (board_part c.args.lock.now).law) (known c.args.pass) (known c.loop.pass) new so_far.0 one.0 so_far.1 one.1,
      ended_so (board_part c.args.lock.now).rules new.seen c.in-Some-judge_next.stop so_far.0 one.0 so_far.2 one.2,
    )

pub returns-in-Some-judge_next-clause-free : goal.returns-in-Some-judge_next-clause-free
returns-in-Some-judge_next-clause-free g c =
    let one = c.in-Some-judge_next.ensures.worked in
    free_then (board_part c.args.lock.now).rules (g.J.W.Law.allows (board_part c.args.lock.now).law) (known c.loop.pass) (known c.judge_next.new.pass) one.0 one.1 c.loop.invariant.free

pub loop-preserved : goal.loop-preserved
loop-preserved g c =
    let so_far = c.loop.invariant.worked in
    let one = c.in_default.ensures.worked in
    let new = known c.judge_next.new.pass in
    record {
      of = c.in_default.ensures.of;
      free = free_then (board_part c.args.lock.now).rules (g.J.W.Law.allows (board_part c.args.lock.now).law) (known c.loop.pass) new one.0 one.1 c.loop.invariant.free;
      worked = (so_far.0 ++ one.0, worked_on (board_part c.args.lock.now).rules (g.J.W.Law.allows (board_part c.args.lock.now).law) (known c.args.pass) (known c.loop.pass) new so_far.0 one.0 so_far.1 one.1, filed_more so_far.0 one.0 so_far.2 one.2);
      law_stays = c.in_default.ensures.law_stays ∙ c.loop.invariant.law_stays;
    }
