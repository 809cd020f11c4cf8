use Rattle.std.proofs.Common.{ℕ, ◌+◌, ◌++◌, take, sym, ap, subst, ◌∙◌, rules}
use Rattle.std.specs.Prelude.{IsSome}
use Rattle.board_definitions.specs.declared.event.Entry.{Entry}
use Rattle.board_definitions.specs.Entries.{rule_of}
use Rattle.turn_lock.specs.Passes.{Known, known}
use Rattle.quote_board.specs.declared.part.BoardPart.{BoardPart}
use Rattle.quote_board.specs.Views.{BoardView}
use Rattle.quote_board.specs.Shared.{board_part, calls_by}
use Rattle.quote_board.proofs.Turning.{turn_of}
use Rattle.desk_definitions.specs.Lines.{entries_of}
use Rattle.feed_workers.specs.Runs.{with_all}
use Rattle.feed_workers.proofs.Lines.{held_in}
use Rattle.feed_workers.proofs.turns.put_lines.Goals as goal

pub put_each-count-requires-clause-may : goal.put_each-count-requires-clause-may
put_each-count-requires-clause-may g c =
    let may = c.requires.may in
    let now = c.state.result.now in
    let value = c.state.ensures.value in
    let exists : IsSome (rule_of now.fixed.rules c.args.feed) =
    subst (λ (part : BoardPart _). IsSome (rule_of part.rules c.args.feed)) (sym (ap (λ (b : BoardView _). b.fixed) value ∙ c.enter-turn.ensures.fixed)) c.requires.exists in
    let own = ap (λ (b : BoardView _). calls_by (c.args.feed + 1) b.history) value ∙ ap (λ (n : ℕ). calls_by n c.enter-turn.result.state.history) (sym c.requires.number) ∙ c.enter-turn.ensures.own ∙ may.1 in
    (may.0, held_in now.fixed.rules (g.W.Law.allows now.fixed.law) now.history c.args.feed may.0 c.history-before.ensures.legal exists own, may.2)

pub returns-clause-put : goal.returns-clause-put
returns-clause-put g c =
    let old = known c.args.pass.now in
    let found = c.enter-turn.result.state in
    let value = c.state.ensures.value in
    let added = entries_of c.args.feed (take c.put_each-count.result c.args.lines.now) in
    let after = c.state-2.result.now in (
      found.history,
      turn_of g.W.Law.allows (board_part c.args.lock.now) old _ found after c.enter-turn.ensures.seen c.enter-turn.ensures.own c.enter-turn.ensures.fixed
          c.history-after.ensures.legal
          (ap (λ (b : BoardView _). b.fixed) c.state-2.ensures.value ∙ c.put_each-count.ensures.fixed ∙ ap (λ (b : BoardView _). b.fixed) value)
          added
          (ap (λ (b : BoardView _). b.history) c.state-2.ensures.value ∙ c.put_each-count.ensures.put ∙ ap (λ (b : BoardView _). b.history ++ added) value)
          (search rules ∙ c.leave.ensures.knows ∙ c.put_each-count.ensures.knows ∙ ap (λ (k : Known Entry). with_all k added) c.enter-turn.ensures.knows),
    )
