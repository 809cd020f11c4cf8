use Rattle.std.proofs.Common.{List, sym, subst, Some, None}
use Rattle.scan_types.specs.declared.offer.Offer.{Offer}
use Rattle.finding_definitions.specs.declared.finding.Finding.{Finding}
use Rattle.turn_lock.specs.Passes.{known}
use Rattle.quote_board.specs.Shared.{board_part}
use Rattle.solver_workers.specs.Turns.{EndsPin}
use Rattle.solver_workers.proofs.Holding.{same_sheet}
use Rattle.solver_workers.proofs.Working.{ends_pin}
use Rattle.solver_workers.proofs.asking.answer_pin.Goals as goal

pub file_pin-requires-clause-allowed : goal.file_pin-requires-clause-allowed
file_pin-requires-clause-allowed g c =
    let still = c.in-Ok.ensures.holds in
    subst (λ (offers : List Offer). g.J.W.Law.allows (board_part c.args.lock.now).law offers c.in-Ok.finding)
    (sym (same_sheet (board_part c.args.lock.now).rules (known c.args.pass.now) (known c.found_twice.new.pass).seen c.args.pin c.requires.holds still.later.seen))
    c.in-Ok.ensures.allowed

pub returns-in-Ok-clause-filed : goal.returns-in-Ok-clause-filed
returns-in-Ok-clause-filed g c =
    let turn = c.file_pin.ensures.filed in
    let new = known c.file_pin.new.pass in
    subst (λ (finding : Finding). EndsPin (board_part c.args.lock.now).rules (g.J.W.Law.allows (board_part c.args.lock.now).law) (known c.args.pass.now) new c.args.pin (Some finding)) (sym c.in-Ok.ensures.equal)
    (ends_pin (board_part c.args.lock.now).rules (g.J.W.Law.allows (board_part c.args.lock.now).law) (known c.args.pass.now) (known c.found_twice.new.pass) new turn.0 c.args.pin (Some c.in-Ok.finding) c.in-Ok.ensures.holds turn.1 c.in-Ok.ensures.allowed)

pub returns-in-Err-clause-released : goal.returns-in-Err-clause-released
returns-in-Err-clause-released g c =
    let turn = c.release_pin.ensures.released in
    ends_pin (board_part c.args.lock.now).rules (g.J.W.Law.allows (board_part c.args.lock.now).law) (known c.args.pass.now) (known c.found_twice.new.pass) _ turn.0 c.args.pin None c.in-Err.ensures.holds turn.1 tt
