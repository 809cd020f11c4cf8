use Rattle.std.proofs.Common.{ℕ, ◌+◌, [], ◌∷◌, ◌++◌, refl, sym, ap, subst, ◌∙◌, rules}
use Rattle.std.specs.Prelude.{IsSome}
use Rattle.board_definitions.specs.declared.event.Entry.{Entry}
use Rattle.board_definitions.specs.Entries.{rule_of}
use Rattle.board_definitions.specs.Legal.{IsLegal, IsOpenFeed}
use Rattle.turn_lock.specs.Passes.{Known, known, with_entry}
use Rattle.quote_board.specs.declared.part.BoardPart.{BoardPart}
use Rattle.quote_board.specs.Views.{BoardView}
use Rattle.quote_board.specs.Shared.{board_part, calls_by}
use Rattle.quote_board.proofs.Turning.{turn_of}
use Rattle.desk_definitions.specs.Lines.{ended_entry}
use Rattle.feed_workers.proofs.Lines.{held_in}
use Rattle.feed_workers.proofs.turns.put_end.Goals as goal

pub end_feed-requires-clause-open : goal.end_feed-requires-clause-open
end_feed-requires-clause-open g c =
    let running = c.requires.running in
    let found = c.enter-turn.result.state in
    let legal = subst (λ (b : BoardView _). IsLegal b.fixed.rules (g.W.Law.allows b.fixed.law) b.history) c.state.ensures.value c.history-legal.ensures.legal in
    let exists : IsSome (rule_of found.fixed.rules c.args.feed) =
    subst (λ (part : BoardPart _). IsSome (rule_of part.rules c.args.feed)) (sym c.enter-turn.ensures.fixed) c.requires.exists in
    let own = ap (λ (n : ℕ). calls_by n found.history) (sym c.requires.number) ∙ c.enter-turn.ensures.own ∙ running.1 in
    let holds = held_in found.fixed.rules (g.W.Law.allows found.fixed.law) found.history c.args.feed running.0 legal exists own in
    subst (λ (b : BoardView _). IsOpenFeed b.fixed.rules b.history (c.args.feed + 1) c.args.feed) (sym (c.state-2.ensures.value ∙ c.state.ensures.value))
    (record { caller_is = refl; exists = exists; not_ended = holds.running })

pub returns-clause-ended : goal.returns-clause-ended
returns-clause-ended g c =
    let old = known c.args.pass.now in
    let found = c.enter-turn.result.state in
    let e = ended_entry c.args.feed c.args.stop in
    let same = c.state-2.ensures.value ∙ c.state.ensures.value in
    let k = c.commit_one.ensures.entry e
    (ap (λ (b : BoardView _). b.history) c.end_feed.ensures.added
    ∙ ap (λ (b : BoardView _). b.history ++ e ∷ []) same
    ∙ ap (λ (n : Known Entry). n.seen ++ e ∷ []) (sym c.enter-turn.ensures.knows)) in (
      found.history,
      turn_of g.W.Law.allows (board_part c.args.lock.now) old _ found c.end_feed.new.self c.enter-turn.ensures.seen c.enter-turn.ensures.own c.enter-turn.ensures.fixed
          c.end_feed.ensures.legal
          (ap (λ (b : BoardView _). b.fixed) c.end_feed.ensures.added ∙ ap (λ (b : BoardView _). b.fixed) same)
          (e ∷ [])
          (ap (λ (b : BoardView _). b.history) c.end_feed.ensures.added ∙ ap (λ (b : BoardView _). b.history ++ e ∷ []) same)
          (search rules ∙ c.leave.ensures.knows ∙ k ∙ ap (λ (n : Known Entry). with_entry n e) c.enter-turn.ensures.knows),
    )
