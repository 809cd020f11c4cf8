use Rattle.std.proofs.Common.{[], ◌∷◌, ◌++◌, sym, ap, subst, ◌∙◌, rules}
use Rattle.board_definitions.specs.declared.event.Entry.{Entry}
use Rattle.board_definitions.specs.Legal.{IsLegal}
use Rattle.turn_lock.specs.Passes.{Known, known, with_entry}
use Rattle.quote_board.specs.Views.{BoardView}
use Rattle.quote_board.specs.Shared.{board_part}
use Rattle.quote_board.proofs.Turning.{seeing}
use Rattle.desk_definitions.specs.Judged.{pinned_entry}
use Rattle.solver_workers.proofs.Picking.{may_pin, pin_entry, pin_made, looked, idled, finished}
use Rattle.solver_workers.proofs.turns.pin_due.Goals as goal

pub pin-requires : goal.pin-requires
pin-requires g c =
    may_pin g.W.Law.allows (known c.args.pass.now) c.enter-turn.result.state c.state-2.result.now c.number-caller.result c.number-caller.ensures c.requires.free c.enter-turn.ensures.own
    (subst (λ (b : BoardView _). IsLegal b.fixed.rules (g.W.Law.allows b.fixed.law) b.history) c.state.ensures.value c.history-legal.ensures.legal)
    (c.state-2.ensures.value ∙ c.state.ensures.value)

pub returns-in-Ok-Pinned-clause-picked : goal.returns-in-Ok-Pinned-clause-picked
returns-in-Ok-Pinned-clause-picked g c =
    let old = known c.args.pass.now in
    let found = c.enter-turn.result.state in
    let m = c.in-Ok-Pinned.pin.match_name in
    let e = pinned_entry old.number m in
    let same = c.state-2.ensures.value ∙ c.state.ensures.value in
    let at = pin_entry g.W.Law.allows (board_part c.args.lock.now) old (seeing old found.history) found c.state-2.result.now c.pin.new.self c.number-caller.result c.enter-turn.ensures.seen c.enter-turn.ensures.own c.enter-turn.ensures.fixed same c.number-caller.ensures c.pin.ensures.legal
    c.in-Ok-Pinned.field-0 c.in-Ok-Pinned.pin c.in-Ok-Pinned.field-0-is c.in-Ok-Pinned.ensures.pick in
    let k = c.commit_one.ensures.entry e (ap (λ (b : BoardView _). b.history) at ∙ ap (λ (n : Known Entry). n.seen ++ e ∷ []) (sym c.enter-turn.ensures.knows)) in (
      found.history,
      pin_made g.W.Law.allows (board_part c.args.lock.now) old _ found c.state-2.result.now c.pin.new.self c.number-caller.result c.enter-turn.ensures.seen c.enter-turn.ensures.own c.enter-turn.ensures.fixed same c.number-caller.ensures c.pin.ensures.legal
          c.in-Ok-Pinned.field-0 c.in-Ok-Pinned.pin c.in-Ok-Pinned.field-0-is c.in-Ok-Pinned.ensures.pick
          (search rules ∙ c.leave.ensures.knows ∙ k ∙ ap (λ (n : Known Entry). with_entry n e) c.enter-turn.ensures.knows),
    )

pub returns-in-Ok-Idle-clause-picked : goal.returns-in-Ok-Idle-clause-picked
returns-in-Ok-Idle-clause-picked g c =
    let old = known c.args.pass.now in
    let found = c.enter-turn.result.state in
    let same = c.state-2.ensures.value ∙ c.state.ensures.value in (
      found.history,
      idled g.W.Law.allows (board_part c.args.lock.now) old _ found c.state-2.result.now c.pin.new.self c.number-caller.result c.enter-turn.ensures.seen c.enter-turn.ensures.own c.enter-turn.ensures.fixed same c.number-caller.ensures c.pin.ensures.legal
          c.in-Ok-Idle.field-0 c.in-Ok-Idle.field-0-is c.in-Ok-Idle.ensures.pick
          (search rules ∙ c.leave-in-Ok-Idle.ensures.knows ∙ c.enter-turn.ensures.knows),
    )

pub returns-in-Ok-Finished-clause-picked : goal.returns-in-Ok-Finished-clause-picked
returns-in-Ok-Finished-clause-picked g c =
    let old = known c.args.pass.now in
    let found = c.enter-turn.result.state in
    let same = c.state-2.ensures.value ∙ c.state.ensures.value in (
      found.history,
      finished g.W.Law.allows (board_part c.args.lock.now) old _ found c.state-2.result.now c.pin.new.self c.number-caller.result c.enter-turn.ensures.seen c.enter-turn.ensures.own c.enter-turn.ensures.fixed same c.number-caller.ensures c.pin.ensures.legal
          c.in-Ok-Finished.field-0 c.in-Ok-Finished.field-0-is c.in-Ok-Finished.ensures.pick
          (search rules ∙ c.leave-in-Ok-Finished.ensures.knows ∙ c.enter-turn.ensures.knows),
    )

pub returns-in-Err-clause-stopped : goal.returns-in-Err-clause-stopped
returns-in-Err-clause-stopped g c =
    let old = known c.args.pass.now in
    let found = c.enter-turn.result.state in
    let same = c.state-2.ensures.value ∙ c.state.ensures.value in (
      found.history,
      looked g.W.Law.allows (board_part c.args.lock.now) old _ found c.state-2.result.now c.pin.new.self c.number-caller.result c.enter-turn.ensures.seen c.enter-turn.ensures.own c.enter-turn.ensures.fixed same c.number-caller.ensures c.pin.ensures.legal
          c.in-Err.ensures.unchanged
          (search rules ∙ c.leave-in-Err.ensures.knows ∙ c.enter-turn.ensures.knows),
    )
