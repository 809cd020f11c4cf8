use Rattle.std.proofs.Common.{[], ◌∷◌, ◌++◌, sym, ap, subst, ◌∙◌, rules}
use Rattle.board_definitions.specs.declared.event.Entry.{Entry}
use Rattle.board_definitions.specs.Legal.{IsLegal}
use Rattle.turn_lock.specs.Passes.{Known, known, with_entry}
use Rattle.quote_board.specs.Views.{BoardView}
use Rattle.quote_board.specs.Shared.{board_part}
use Rattle.quote_board.proofs.Turning.{seeing}
use Rattle.desk_definitions.specs.Judged.{pinned_entry}
use Rattle.solver_workers.proofs.Picking.{may_pin, named_entry, named_made, looked}
use Rattle.solver_workers.proofs.turns.pin_match.Goals as goal

pub pin_named-requires : goal.pin_named-requires
pin_named-requires g c =
    may_pin g.W.Law.allows (known c.args.pass.now) c.enter-turn.result.state c.state-2.result.now c.number-caller.result c.number-caller.ensures c.requires.free c.enter-turn.ensures.own
    (subst (λ (b : BoardView _). IsLegal b.fixed.rules (g.W.Law.allows b.fixed.law) b.history) c.state.ensures.value c.history-legal.ensures.legal)
    (c.state-2.ensures.value ∙ c.state.ensures.value)

pub returns-in-Ok-clause-pinned : goal.returns-in-Ok-clause-pinned
returns-in-Ok-clause-pinned g c =
    let old = known c.args.pass.now in
    let found = c.enter-turn.result.state in
    let e = pinned_entry old.number c.in-Ok.pin.match_name in
    let same = (c.state-2.ensures.value ∙ c.state.ensures.value) in
    let at = named_entry g.W.Law.allows (board_part c.args.lock.now) old (seeing old found.history) found c.state-2.result.now c.pin_named.new.self c.number-caller.result c.enter-turn.ensures.seen c.enter-turn.ensures.own c.enter-turn.ensures.fixed same c.number-caller.ensures c.in-Ok.ensures.legal
    c.args.match_name c.in-Ok.pin c.in-Ok.ensures.pinned c.in-Ok.ensures.added in
    let k = c.commit_one.ensures.entry e (ap (λ (b : BoardView _). b.history) at ∙ ap (λ (n : Known Entry). n.seen ++ e ∷ []) (sym c.enter-turn.ensures.knows)) in
    let made = named_made g.W.Law.allows (board_part c.args.lock.now) old _ found c.state-2.result.now c.pin_named.new.self c.number-caller.result c.enter-turn.ensures.seen c.enter-turn.ensures.own c.enter-turn.ensures.fixed same c.number-caller.ensures c.in-Ok.ensures.legal
    c.args.match_name c.in-Ok.pin c.in-Ok.ensures.pinned c.in-Ok.ensures.added
    (search rules ∙ c.leave.ensures.knows ∙ k ∙ ap (λ (n : Known Entry). with_entry n e) c.enter-turn.ensures.knows) in
    (found.history, made.0, made.1)

pub returns-in-Err-clause-stopped : goal.returns-in-Err-clause-stopped
returns-in-Err-clause-stopped g c =
    let old = known c.args.pass.now in
    let found = c.enter-turn.result.state in (
      found.history,
      looked g.W.Law.allows (board_part c.args.lock.now) old _ found c.state-2.result.now c.pin_named.new.self c.number-caller.result c.enter-turn.ensures.seen c.enter-turn.ensures.own c.enter-turn.ensures.fixed (c.state-2.ensures.value ∙ c.state.ensures.value) c.number-caller.ensures c.in-Err.ensures.legal
          c.in-Err.ensures.unchanged
          (search rules ∙ c.leave-in-Err.ensures.knows ∙ c.enter-turn.ensures.knows),
    )
