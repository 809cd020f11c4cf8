use Rattle.std.proofs.Common.{ℕ, List, [], ◌∷◌, ◌++◌, sym, ap, ap₂, subst, ◌∙◌, rules}
use Rattle.scan_types.specs.declared.offer.Offer.{Offer}
use Rattle.board_definitions.specs.declared.event.Event.TheVariants.{Filed}
use Rattle.board_definitions.specs.declared.event.Entry.{Entry}
use Rattle.board_definitions.specs.Sheets.{sheet}
use Rattle.board_definitions.specs.Legal.{IsLegal}
use Rattle.turn_lock.specs.Passes.{Known, known, with_entry}
use Rattle.quote_board.specs.Views.{BoardView}
use Rattle.quote_board.specs.Shared.{board_part}
use Rattle.desk_definitions.specs.Judged.{filed_entry}
use Rattle.solver_workers.proofs.Holding.{live_now, sheet_now, law_now, one_added}
use Rattle.solver_workers.proofs.turns.file_pin.Goals as goal

pub file-requires-clause-live : goal.file-requires-clause-live
file-requires-clause-live g c =
    live_now g.W.Law.allows (board_part c.args.lock.now) (known c.args.pass.now) c.enter-turn.result.state c.args.pin c.requires.holds c.enter-turn.ensures.seen c.enter-turn.ensures.own c.enter-turn.ensures.fixed
    (subst (λ (b : BoardView _). IsLegal b.fixed.rules (g.W.Law.allows b.fixed.law) b.history) c.state.ensures.value c.history-legal.ensures.legal)
    c.state-2.result.now (c.state-2.ensures.value ∙ c.state.ensures.value)

pub file-requires-clause-allowed : goal.file-requires-clause-allowed
file-requires-clause-allowed g c =
    let same = (c.state-2.ensures.value ∙ c.state.ensures.value) in
    subst (λ (offers : List Offer). g.W.Law.allows c.state-2.result.now.fixed.law offers c.args.finding)
    (sym (sheet_now g.W.Law.allows (board_part c.args.lock.now) (known c.args.pass.now) c.enter-turn.result.state c.args.pin c.requires.holds c.enter-turn.ensures.seen c.enter-turn.ensures.own c.enter-turn.ensures.fixed
    (subst (λ (b : BoardView _). IsLegal b.fixed.rules (g.W.Law.allows b.fixed.law) b.history) c.state.ensures.value c.history-legal.ensures.legal)
    c.state-2.result.now same))
    (subst (λ law. g.W.Law.allows law (sheet (board_part c.args.lock.now).rules (known c.args.pass.now).seen c.args.pin.version c.args.pin.match_name) c.args.finding)
    (sym (law_now g.W.Law.allows (board_part c.args.lock.now) (known c.args.pass.now) c.enter-turn.result.state c.args.pin c.requires.holds c.enter-turn.ensures.seen c.enter-turn.ensures.own c.enter-turn.ensures.fixed
    (subst (λ (b : BoardView _). IsLegal b.fixed.rules (g.W.Law.allows b.fixed.law) b.history) c.state.ensures.value c.history-legal.ensures.legal)
    c.state-2.result.now same))
    c.requires.allowed)

pub returns-clause-filed : goal.returns-clause-filed
returns-clause-filed g c =
    let old = known c.args.pass.now in
    let found = c.enter-turn.result.state in
    let e = filed_entry old.number c.args.pin.version c.args.finding in
    let same = (c.state-2.ensures.value ∙ c.state.ensures.value) in
    let k = c.commit_one.ensures.entry e
    (ap (λ (b : BoardView _). b.history) c.file.ensures.added
    ∙ ap₂ (λ (b : BoardView _) (n : ℕ). b.history ++ record { caller = n; event = Filed c.args.pin.version c.args.finding } ∷ []) same c.requires.holds.caller
    ∙ ap (λ (n : Known Entry). n.seen ++ e ∷ []) (sym c.enter-turn.ensures.knows)) in (
      found.history,
      one_added g.W.Law.allows (board_part c.args.lock.now) (known c.args.pass.now) c.enter-turn.result.state c.args.pin c.requires.holds c.enter-turn.ensures.seen c.enter-turn.ensures.own c.enter-turn.ensures.fixed
          (subst (λ (b : BoardView _). IsLegal b.fixed.rules (g.W.Law.allows b.fixed.law) b.history) c.state.ensures.value c.history-legal.ensures.legal)
          _ c.state-2.result.now c.file.new.self (Filed c.args.pin.version c.args.finding) same c.file.ensures.added c.file.ensures.legal
          (search rules ∙ c.leave.ensures.knows ∙ k ∙ ap (λ (n : Known Entry). with_entry n e) c.enter-turn.ensures.knows),
    )
