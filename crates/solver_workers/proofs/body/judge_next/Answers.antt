use Rattle.std.proofs.Common.{[], refl, subst, arith, Some, None}
use Rattle.turn_lock.specs.Passes.{known}
use Rattle.quote_board.specs.Shared.{board_part}
use Rattle.solver_workers.specs.Turns.{Picks}
use Rattle.solver_workers.proofs.Holding.{holds_made}
use Rattle.solver_workers.proofs.Working.{one_work, no_work, legal_seen, finished_work}
use Rattle.solver_workers.proofs.body.judge_next.Goals as goal

pub judge_pin-requires-clause-holds : goal.judge_pin-requires-clause-holds
judge_pin-requires-clause-holds g c =
    let old = known c.args.pass.now in
    let mid = known c.pin_due.new.pass in
    let picked = c.in-Ok-Pinned.ensures.picked in
    let made = subst (Picks (board_part c.args.lock.now).rules (g.J.W.Law.allows (board_part c.args.lock.now).law) old picked.0 mid) c.in-Ok-Pinned.field-0-is picked.1 in
    holds_made (board_part c.args.lock.now).rules (g.J.W.Law.allows (board_part c.args.lock.now).law) old mid picked.0 c.in-Ok-Pinned.pin made

pub returns-in-Ok-clause-worked : goal.returns-in-Ok-clause-worked
returns-in-Ok-clause-worked g c =
    let old = known c.args.pass.now in
    let mid = known c.pin_due.new.pass in
    let picked = c.in-Ok-Pinned.ensures.picked in
    let made = subst (Picks (board_part c.args.lock.now).rules (g.J.W.Law.allows (board_part c.args.lock.now).law) old picked.0 mid) c.in-Ok-Pinned.field-0-is picked.1 in
    let ended = c.in-Ok.ensures.filed in
    (_, one_work (board_part c.args.lock.now).rules (g.J.W.Law.allows (board_part c.args.lock.now).law) old mid (known c.judge_pin.new.pass) picked.0 c.in-Ok-Pinned.pin (Some ended.0) made ended.1, (refl, tt))

pub returns-in-Ok-clause-legal : goal.returns-in-Ok-clause-legal
returns-in-Ok-clause-legal g c = c.in-Ok.ensures.filed.1.legal

pub returns-in-Err-judge_pin-clause-worked : goal.returns-in-Err-judge_pin-clause-worked
returns-in-Err-judge_pin-clause-worked g c =
    let old = known c.args.pass.now in
    let mid = known c.pin_due.new.pass in
    let picked = c.in-Ok-Pinned.ensures.picked in
    let made = subst (Picks (board_part c.args.lock.now).rules (g.J.W.Law.allows (board_part c.args.lock.now).law) old picked.0 mid) c.in-Ok-Pinned.field-0-is picked.1 in
    (_, one_work (board_part c.args.lock.now).rules (g.J.W.Law.allows (board_part c.args.lock.now).law) old mid (known c.judge_pin.new.pass) picked.0 c.in-Ok-Pinned.pin None made c.in-Err-judge_pin.ensures.released, omega arith)

pub returns-in-Err-judge_pin-clause-legal : goal.returns-in-Err-judge_pin-clause-legal
returns-in-Err-judge_pin-clause-legal g c = c.in-Err-judge_pin.ensures.released.legal

pub returns-in-Ok-Idle-clause-worked : goal.returns-in-Ok-Idle-clause-worked
returns-in-Ok-Idle-clause-worked g c =
    let old = known c.args.pass.now in
    let new = known c.pin_due.new.pass in
    let picked = c.in-Ok-Idle.ensures.picked in
    let turn = subst (Picks (board_part c.args.lock.now).rules (g.J.W.Law.allows (board_part c.args.lock.now).law) old picked.0 new) c.in-Ok-Idle.field-0-is picked.1 in
    ([], no_work (board_part c.args.lock.now).rules (g.J.W.Law.allows (board_part c.args.lock.now).law) old new picked.0 turn, tt)

pub returns-in-Ok-Idle-clause-legal : goal.returns-in-Ok-Idle-clause-legal
returns-in-Ok-Idle-clause-legal g c =
    let old = known c.args.pass.now in
    let new = known c.pin_due.new.pass in
    let picked = c.in-Ok-Idle.ensures.picked in
    let turn = subst (Picks (board_part c.args.lock.now).rules (g.J.W.Law.allows (board_part c.args.lock.now).law) old picked.0 new) c.in-Ok-Idle.field-0-is picked.1 in
    legal_seen (board_part c.args.lock.now).rules (g.J.W.Law.allows (board_part c.args.lock.now).law) old new picked.0 [] turn

pub returns-in-Ok-Finished-clause-worked : goal.returns-in-Ok-Finished-clause-worked
returns-in-Ok-Finished-clause-worked g c =
    let old = known c.args.pass.now in
    let new = known c.pin_due.new.pass in
    let picked = c.in-Ok-Finished.ensures.picked in
    let told = subst (Picks (board_part c.args.lock.now).rules (g.J.W.Law.allows (board_part c.args.lock.now).law) old picked.0 new) c.in-Ok-Finished.field-0-is picked.1 in
    ([], no_work (board_part c.args.lock.now).rules (g.J.W.Law.allows (board_part c.args.lock.now).law) old new picked.0 told.0, finished_work (board_part c.args.lock.now).rules (g.J.W.Law.allows (board_part c.args.lock.now).law) old new picked.0 told)

pub returns-in-Ok-Finished-clause-legal : goal.returns-in-Ok-Finished-clause-legal
returns-in-Ok-Finished-clause-legal g c =
    let old = known c.args.pass.now in
    let new = known c.pin_due.new.pass in
    let picked = c.in-Ok-Finished.ensures.picked in
    let told = subst (Picks (board_part c.args.lock.now).rules (g.J.W.Law.allows (board_part c.args.lock.now).law) old picked.0 new) c.in-Ok-Finished.field-0-is picked.1 in
    legal_seen (board_part c.args.lock.now).rules (g.J.W.Law.allows (board_part c.args.lock.now).law) old new picked.0 [] told.0

pub returns-in-Err-clause-worked : goal.returns-in-Err-clause-worked
returns-in-Err-clause-worked g c =
    let stopped = c.in-Err.ensures.stopped in
    ([], no_work (board_part c.args.lock.now).rules (g.J.W.Law.allows (board_part c.args.lock.now).law) (known c.args.pass.now) (known c.pin_due.new.pass) stopped.0 stopped.1, omega arith)

pub returns-in-Err-clause-legal : goal.returns-in-Err-clause-legal
returns-in-Err-clause-legal g c =
    let stopped = c.in-Err.ensures.stopped in
    legal_seen (board_part c.args.lock.now).rules (g.J.W.Law.allows (board_part c.args.lock.now).law) (known c.args.pass.now) (known c.pin_due.new.pass) stopped.0 [] stopped.1
