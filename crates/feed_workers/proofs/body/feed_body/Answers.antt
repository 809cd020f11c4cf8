use Rattle.std.proofs.Common.{List, sym, subst}
use Rattle.feed_definitions.specs.declared.cause.Refusal.{Refusal}
use Rattle.turn_lock.specs.Passes.{known}
use Rattle.quote_board.specs.Shared.{board_part}
use Rattle.feed_workers.specs.Runs.{IsPut}
use Rattle.feed_workers.proofs.Rounds.{put_none}
use Rattle.feed_workers.proofs.body.feed_body.Goals as goal

pub read_on-stop-requires-clause-put : goal.read_on-stop-requires-clause-put
read_on-stop-requires-clause-put g c =
    subst (λ (kept : List Refusal). IsPut g.S.Source.left c.args.feed (board_part c.args.lock.now).rules c.args.header (known c.args.pass).own kept c.args.reader) (sym c.new-refusals.ensures)
    (put_none g.S.Source.left c.args.feed (board_part c.args.lock.now).rules c.args.header c.args.reader (known c.args.pass).own c.requires.rule c.requires.fresh c.requires.reader)
