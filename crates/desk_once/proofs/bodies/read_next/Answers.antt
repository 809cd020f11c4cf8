use Rattle.std.proofs.Common.{◌≡◌, ◌∙◌, ℕ, is_ok, length, true, sym, subst, rules}
use Rattle.feed_bodies.specs.Bodies.{IsBodyRead}
use Rattle.desk_once.proofs.Counts.{push_counted}
use Rattle.desk_once.proofs.Promises.{pushed_promise}
use Rattle.desk_once.proofs.BodyReads.{next_read}
use Rattle.desk_once.proofs.bodies.read_next.Goals as goal

pub returns-clause-next : goal.returns-clause-next
returns-clause-next g c = λ told head.
    let ok : is_ok c.push-pushed.result ≡ true = sym c.if-prove.ensures.value in
    let e : c.len.result ≡ length c.args.ends.now.items = search rules in
    let P : ℕ → Type 0 = λ n. IsBodyRead g.S.Source.left g.S.Source.faults g.S.Source.later g.S.Source.never_fails n c.args.next.header c.args.next.reader c.read_body-end.result c.args.board.now c.read_body-end.new.board in
    next_read g.S.Source.left g.S.Source.faults g.S.Source.later g.S.Source.never_fails told c.args.ends.now.items c.push-pushed.new.self.items c.args.next.header c.args.next.reader
    c.read_body-end.result c.args.board.now c.read_body-end.new.board c.is_reported-whole.result head (subst P e c.read_body-end.ensures.body) (rw ok at c.push-pushed.ensures.items) c.is_reported-whole.ensures

pub returns-clause-promised : goal.returns-clause-promised
returns-clause-promised g c = λ none never.
    let ok : is_ok c.push-pushed.result ≡ true = sym c.if-prove.ensures.value in
    pushed_promise c.args.ends.now.items c.push-pushed.new.self.items c.read_body-end.result (rw ok at c.push-pushed.ensures.items) (c.read_body-end.ensures.promised never) none

pub returns-clause-counted : goal.returns-clause-counted
returns-clause-counted g c = λ counted fresh.
    let ok : is_ok c.push-pushed.result ≡ true = sym c.if-prove.ensures.value in
    push_counted g.S.Source.faults c.args.ends.now.items c.push-pushed.new.self.items c.read_body-end.result (rw ok at c.push-pushed.ensures.items) (λ stop. c.read_body-end.ensures.no_fault stop ∙ fresh) counted
