use Rattle.std.proofs.Common.{List, length, ◌≤◌, refl, sym, subst, ◌∙◌, rules}
use Rattle.scan_types.specs.declared.offer.Offer.{Offer}
use Rattle.board_definitions.specs.Legal.{IsLegal}
use Rattle.turn_lock.specs.Passes.{known}
use Rattle.quote_board.specs.Answers.{IsCopied}
use Rattle.quote_board.specs.Views.{BoardView}
use Rattle.quote_board.specs.Shared.{board_part}
use Rattle.quote_board.proofs.Turning.{look_of}
use Rattle.solver_workers.proofs.Holding.{live_now, sheet_now}
use Rattle.solver_workers.proofs.turns.read_part.Goals as goal

pub read-count-requires-clause-live : goal.read-count-requires-clause-live
read-count-requires-clause-live g c =
    live_now g.W.Law.allows (board_part c.args.lock.now) (known c.args.pass.now) c.enter-turn.result.state c.args.pin.now c.requires.holds c.enter-turn.ensures.seen c.enter-turn.ensures.own c.enter-turn.ensures.fixed
    (subst (λ (b : BoardView _). IsLegal b.fixed.rules (g.W.Law.allows b.fixed.law) b.history) c.state.ensures.value c.history-legal.ensures.legal)
    c.state-2.result.now (c.state-2.ensures.value ∙ c.state.ensures.value)

pub read-count-requires-clause-within : goal.read-count-requires-clause-within
read-count-requires-clause-within g c =
    subst (λ (offers : List Offer). c.args.from ≤ length offers)
    (sym (sheet_now g.W.Law.allows (board_part c.args.lock.now) (known c.args.pass.now) c.enter-turn.result.state c.args.pin.now c.requires.holds c.enter-turn.ensures.seen c.enter-turn.ensures.own c.enter-turn.ensures.fixed
    (subst (λ (b : BoardView _). IsLegal b.fixed.rules (g.W.Law.allows b.fixed.law) b.history) c.state.ensures.value c.history-legal.ensures.legal)
    c.state-2.result.now (c.state-2.ensures.value ∙ c.state.ensures.value)))
    c.requires.within

pub returns-clause-turn : goal.returns-clause-turn
returns-clause-turn g c =
    let old = known c.args.pass.now in
    let found = c.enter-turn.result.state in (
      found.history,
      look_of g.W.Law.allows (board_part c.args.lock.now) old _ found found c.enter-turn.ensures.seen c.enter-turn.ensures.own c.enter-turn.ensures.fixed
          (subst (λ (b : BoardView _). IsLegal b.fixed.rules (g.W.Law.allows b.fixed.law) b.history) c.state.ensures.value c.history-legal.ensures.legal)
          refl refl
          (search rules ∙ c.leave.ensures.knows ∙ c.enter-turn.ensures.knows),
    )

pub returns-clause-copied : goal.returns-clause-copied
returns-clause-copied g c =
    subst (λ (offers : List Offer). IsCopied offers c.args.from c.args.out.now c.read-count.new.out c.read-count.result)
    (sheet_now g.W.Law.allows (board_part c.args.lock.now) (known c.args.pass.now) c.enter-turn.result.state c.args.pin.now c.requires.holds c.enter-turn.ensures.seen c.enter-turn.ensures.own c.enter-turn.ensures.fixed
    (subst (λ (b : BoardView _). IsLegal b.fixed.rules (g.W.Law.allows b.fixed.law) b.history) c.state.ensures.value c.history-legal.ensures.legal)
    c.state-2.result.now (c.state-2.ensures.value ∙ c.state.ensures.value))
    c.read-count.ensures
