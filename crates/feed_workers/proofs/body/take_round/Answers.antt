use Rattle.std.proofs.Common.{◌≡◌, ◌≤◌, ◌<◌, inl, inr, ⊎_elim, List, ◌++◌, length, take, sym, ap, subst, ◌∙◌, arith}
use Rattle.feed_definitions.specs.declared.accepted.Accepted.{Accepted}
use Rattle.turn_lock.specs.Passes.{Known, known}
use Rattle.quote_board.specs.Shared.{board_part}
use Rattle.desk_definitions.specs.Lines.{entries_of}
use Rattle.feed_workers.specs.Runs.{IsGathered}
use Rattle.feed_workers.proofs.Rounds.{round_short, round_whole, none_counted}
use Rattle.feed_workers.proofs.body.take_round.Goals as goal

pub returns-then-count-len-clause-round : goal.returns-then-count-len-clause-round
returns-then-count-len-clause-round g c =
    let was = c.requires.put in
    let lines = c.gather-stop.new.lines.items in
    let start = subst (λ (xs : List Accepted). IsGathered g.S.Source.left c.args.feed (board_part c.args.lock.now).rules c.args.header.now was.0 xs c.args.refusals.now c.args.reader.now) (sym c.requires.empty) was.1 in
    let turn = c.put_lines-count.ensures.put in
    let added = ap (λ (k : Known _). k.own) turn.1.then_ ∙ ap (λ (xs : List Accepted). (known c.args.pass.now).own ++ entries_of c.args.feed (take c.put_lines-count.result xs)) c.as_slice.ensures.value in
    round_short g.S.Source.left g.S.Source.faults c.args.feed (board_part c.args.lock.now).rules c.args.header.now c.requires.exists was.0 lines c.gather-stop.new.refusals c.gather-stop.new.reader
    (known c.args.pass.now).own (known c.put_lines-count.new.pass).own c.put_lines-count.result was.2 added c.gather-stop.result
    (c.gather-stop.ensures.gathered (board_part c.args.lock.now).rules c.args.header.now was.0 start)

pub returns-clause-round : goal.returns-clause-round
returns-clause-round g c =
    let was = c.requires.put in
    let lines = c.gather-stop.new.lines.items in
    let start = subst (λ (xs : List Accepted). IsGathered g.S.Source.left c.args.feed (board_part c.args.lock.now).rules c.args.header.now was.0 xs c.args.refusals.now c.args.reader.now) (sym c.requires.empty) was.1 in
    let turn = c.put_lines-count.ensures.put in
    let added = ap (λ (k : Known _). k.own) turn.1.then_ ∙ ap (λ (xs : List Accepted). (known c.args.pass.now).own ++ entries_of c.args.feed (take c.put_lines-count.result xs)) c.as_slice.ensures.value in
    let many : length lines ≤ c.put_lines-count.result = omega (arith, c.if-count-len.false, c.len.ensures) in
    round_whole g.S.Source.left g.S.Source.faults c.args.feed (board_part c.args.lock.now).rules c.args.header.now c.requires.exists was.0 lines c.gather-stop.new.refusals c.gather-stop.new.reader
    (known c.args.pass.now).own (known c.put_lines-count.new.pass).own c.put_lines-count.result was.2 added many c.gather-stop.result
    (c.gather-stop.ensures.gathered (board_part c.args.lock.now).rules c.args.header.now was.0 start)

pub returns-then-count-len-clause-no_fault : goal.returns-then-count-len-clause-no_fault
returns-then-count-len-clause-no_fault g c = λ other.
    let lines = c.gather-stop.new.lines.items in
    let some : 0 < length lines = omega (arith, c.if-count-len.true, c.len.ensures) in
    none_counted c.gather-stop.result lines c.gather-stop.ensures.no_fault
    (λ fault. let hand = c.gather-stop.ensures.before_a_read fault in ⊎_elim (λ (same : lines ≡ c.args.lines.now.items). inl (same ∙ c.requires.empty)) (λ kept. inr kept) hand)
    some
