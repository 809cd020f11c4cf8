use Rattle.std.proofs.Common.{ℕ, [], ◌∷◌, ◌++◌, sym, ap, ap₂, subst, ◌∙◌, rules}
use Rattle.board_definitions.specs.declared.event.Event.TheVariants.{Released}
use Rattle.board_definitions.specs.declared.event.Entry.{Entry}
use Rattle.board_definitions.specs.Legal.{IsLegal}
use Rattle.turn_lock.specs.Passes.{Known, known, with_entry}
use Rattle.quote_board.specs.Views.{BoardView}
use Rattle.quote_board.specs.Shared.{board_part}
use Rattle.desk_definitions.specs.Judged.{released_entry}
use Rattle.solver_workers.proofs.Holding.{live_now, one_added}
use Rattle.solver_workers.proofs.turns.release_pin.Goals as goal

pub release-requires : goal.release-requires
release-requires g c =
    live_now g.W.Law.allows (board_part c.args.lock.now) (known c.args.pass.now) c.enter-turn.result.state c.args.pin c.requires.holds c.enter-turn.ensures.seen c.enter-turn.ensures.own c.enter-turn.ensures.fixed
    (subst (λ (b : BoardView _). IsLegal b.fixed.rules (g.W.Law.allows b.fixed.law) b.history) c.state.ensures.value c.history-legal.ensures.legal)
    c.state-2.result.now (c.state-2.ensures.value ∙ c.state.ensures.value)

pub returns-clause-released : goal.returns-clause-released
returns-clause-released g c =
    let old = known c.args.pass.now in
    let found = c.enter-turn.result.state in
    let e = released_entry old.number c.args.pin.version in
    let same = (c.state-2.ensures.value ∙ c.state.ensures.value) in
    let k = c.commit_one.ensures.entry e
    (ap (λ (b : BoardView _). b.history) c.release.ensures.added
    ∙ ap₂ (λ (b : BoardView _) (n : ℕ). b.history ++ record { caller = n; event = Released c.args.pin.version } ∷ []) same c.requires.holds.caller
    ∙ ap (λ (n : Known Entry). n.seen ++ e ∷ []) (sym c.enter-turn.ensures.knows)) in (
      found.history,
      one_added g.W.Law.allows (board_part c.args.lock.now) (known c.args.pass.now) c.enter-turn.result.state c.args.pin c.requires.holds c.enter-turn.ensures.seen c.enter-turn.ensures.own c.enter-turn.ensures.fixed
          (subst (λ (b : BoardView _). IsLegal b.fixed.rules (g.W.Law.allows b.fixed.law) b.history) c.state.ensures.value c.history-legal.ensures.legal)
          _ c.state-2.result.now c.release.new.self (Released c.args.pin.version) same c.release.ensures.added c.release.ensures.legal
          (search rules ∙ c.leave.ensures.knows ∙ k ∙ ap (λ (n : Known Entry). with_entry n e) c.enter-turn.ensures.knows),
    )
