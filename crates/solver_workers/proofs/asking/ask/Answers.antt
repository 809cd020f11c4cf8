use Rattle.std.proofs.Common.{ℕ, List, [], ◌∷◌, refl, subst, Some, None}
use Rattle.turn_lock.specs.Passes.{known}
use Rattle.quote_board.specs.Shared.{board_part}
use Rattle.solver_workers.specs.Works.{HasWorked}
use Rattle.solver_workers.proofs.Holding.{holds_made}
use Rattle.solver_workers.proofs.Working.{one_work, no_work, legal_seen, free_then, version_most}
use Rattle.solver_workers.proofs.asking.ask.Goals as goal

pub answer_pin-requires-clause-holds : goal.answer_pin-requires-clause-holds
answer_pin-requires-clause-holds g c =
    let made = c.in-Ok.ensures.pinned in
    holds_made (board_part c.args.lock.now).rules (g.J.W.Law.allows (board_part c.args.lock.now).law) (known c.args.pass.now) (known c.pin_match.new.pass) made.0 c.in-Ok.pin made.2

pub returns-in-Ok-answer_pin-clause-answered : goal.returns-in-Ok-answer_pin-clause-answered
returns-in-Ok-answer_pin-clause-answered g c =
    let made = c.in-Ok.ensures.pinned in
    let new = known c.answer_pin.new.pass in
    subst (λ (m : List ℕ). HasWorked (board_part c.args.lock.now).rules (g.J.W.Law.allows (board_part c.args.lock.now).law) (known c.args.pass.now) new (record { match_name = m; version = c.in-Ok.pin.version; finding = Some c.in-Ok-answer_pin.finding } ∷ [])) made.1
    (one_work (board_part c.args.lock.now).rules (g.J.W.Law.allows (board_part c.args.lock.now).law) (known c.args.pass.now) (known c.pin_match.new.pass) new made.0 c.in-Ok.pin (Some c.in-Ok-answer_pin.finding) made.2 c.in-Ok-answer_pin.ensures.filed)

pub returns-in-Ok-answer_pin-clause-recent : goal.returns-in-Ok-answer_pin-clause-recent
returns-in-Ok-answer_pin-clause-recent g c =
    let made = c.in-Ok.ensures.pinned in
    version_most (board_part c.args.lock.now).rules (g.J.W.Law.allows (board_part c.args.lock.now).law) (known c.args.pass.now) (known c.pin_match.new.pass) made.0 c.in-Ok.pin made.2

pub returns-in-Ok-answer_pin-clause-free : goal.returns-in-Ok-answer_pin-clause-free
returns-in-Ok-answer_pin-clause-free g c =
    let made = c.in-Ok.ensures.pinned in
    let new = known c.answer_pin.new.pass in
    let worked = one_work (board_part c.args.lock.now).rules (g.J.W.Law.allows (board_part c.args.lock.now).law) (known c.args.pass.now) (known c.pin_match.new.pass) new made.0 c.in-Ok.pin (Some c.in-Ok-answer_pin.finding) made.2 c.in-Ok-answer_pin.ensures.filed in
    free_then (board_part c.args.lock.now).rules (g.J.W.Law.allows (board_part c.args.lock.now).law) (known c.args.pass.now) new _ worked c.requires.free

pub returns-in-Ok-answer_pin-clause-legal : goal.returns-in-Ok-answer_pin-clause-legal
returns-in-Ok-answer_pin-clause-legal g c = c.in-Ok-answer_pin.ensures.filed.legal

pub returns-in-Err-answer_pin-clause-given_up : goal.returns-in-Err-answer_pin-clause-given_up
returns-in-Err-answer_pin-clause-given_up g c =
    let made = c.in-Ok.ensures.pinned in
    let new = known c.answer_pin.new.pass in
    (_, one_work (board_part c.args.lock.now).rules (g.J.W.Law.allows (board_part c.args.lock.now).law) (known c.args.pass.now) (known c.pin_match.new.pass) new made.0 c.in-Ok.pin None made.2 c.in-Err-answer_pin.ensures.released, (made.1, refl))

pub returns-in-Err-answer_pin-clause-free : goal.returns-in-Err-answer_pin-clause-free
returns-in-Err-answer_pin-clause-free g c =
    let made = c.in-Ok.ensures.pinned in
    let new = known c.answer_pin.new.pass in
    let worked = one_work (board_part c.args.lock.now).rules (g.J.W.Law.allows (board_part c.args.lock.now).law) (known c.args.pass.now) (known c.pin_match.new.pass) new made.0 c.in-Ok.pin None made.2 c.in-Err-answer_pin.ensures.released in
    free_then (board_part c.args.lock.now).rules (g.J.W.Law.allows (board_part c.args.lock.now).law) (known c.args.pass.now) new _ worked c.requires.free

pub returns-in-Err-answer_pin-clause-legal : goal.returns-in-Err-answer_pin-clause-legal
returns-in-Err-answer_pin-clause-legal g c = c.in-Err-answer_pin.ensures.released.legal

pub returns-in-Err-clause-given_up : goal.returns-in-Err-clause-given_up
returns-in-Err-clause-given_up g c =
    let stopped = c.in-Err.ensures.stopped in
    ([], no_work (board_part c.args.lock.now).rules (g.J.W.Law.allows (board_part c.args.lock.now).law) (known c.args.pass.now) (known c.pin_match.new.pass) stopped.0 stopped.1, tt)

pub returns-in-Err-clause-free : goal.returns-in-Err-clause-free
returns-in-Err-clause-free g c =
    let stopped = c.in-Err.ensures.stopped in
    free_then (board_part c.args.lock.now).rules (g.J.W.Law.allows (board_part c.args.lock.now).law) (known c.args.pass.now) (known c.pin_match.new.pass) [] (no_work (board_part c.args.lock.now).rules (g.J.W.Law.allows (board_part c.args.lock.now).law) (known c.args.pass.now) (known c.pin_match.new.pass) stopped.0 stopped.1) c.requires.free

pub returns-in-Err-clause-legal : goal.returns-in-Err-clause-legal
returns-in-Err-clause-legal g c =
    let stopped = c.in-Err.ensures.stopped in
    legal_seen (board_part c.args.lock.now).rules (g.J.W.Law.allows (board_part c.args.lock.now).law) (known c.args.pass.now) (known c.pin_match.new.pass) stopped.0 [] stopped.1
