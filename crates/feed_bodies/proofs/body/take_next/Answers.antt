use Rattle.std.proofs.Common.{List, sym, subst, ◌∙◌}
use Rattle.feed_definitions.specs.declared.accepted.Accepted.{Accepted}
use Rattle.feed_definitions.specs.declared.cause.Refusal.{Refusal}
use Rattle.board_definitions.specs.declared.event.FeedStop.TheVariants.{NoMemory}
use Rattle.quote_board.specs.Views.{BoardView}
use Rattle.feed_lines.specs.Reader.{ReaderView}
use Rattle.feed_board_laws.specs.Bodies.{IsAcceptedAfter}
use Rattle.feed_bodies.specs.Bodies.{IsOver}
use Rattle.feed_bodies.proofs.Moments.{IsNext, may_take, between_next, over_stopped, over_spilt, over_full}
use Rattle.feed_bodies.proofs.body.take_next.Goals as goal

pub take_step-requires-clause-accepted : goal.take_step-requires-clause-accepted
take_step-requires-clause-accepted g c = λ line is.
    let header = c.requires.between.0 in
    let before = c.requires.between.1 in
    let was = c.requires.between.2 in
    let next : IsNext g.S.Source.left g.S.Source.faults c.args.reader.now c.next.new.self c.in-Ok.step = record {
      item = c.in-Ok.ensures.step;
      earlier = c.in-Ok.ensures.earlier;
      one_more = c.in-Ok.ensures.answered;
      last = c.in-Ok.ensures.last;
      counted = c.in-Ok.ensures.counted;
      over_is = c.in-Ok.ensures.over;
      ended_is = c.in-Ok.ensures.ended;
      drained = c.in-Ok.ensures.drained;
      stays = c.in-Ok.ensures.drained_stays;
      fault = c.in-Ok.ensures.fault;
    } in
    let P : List Accepted → Type 0 = λ xs. IsAcceptedAfter xs line in
    subst P (sym was.holds.lines_are) (may_take g.S.Source.left g.S.Source.faults c.args.feed header before c.args.board.now c.args.refusals.now c.args.reader.now c.next.new.self c.in-Ok.step was next line is)

pub returns-in-Some-clause-stop : goal.returns-in-Some-clause-stop
returns-in-Some-clause-stop g c = λ header before was.
    let next : IsNext g.S.Source.left g.S.Source.faults c.args.reader.now c.next.new.self c.in-Ok.step = record {
      item = c.in-Ok.ensures.step;
      earlier = c.in-Ok.ensures.earlier;
      one_more = c.in-Ok.ensures.answered;
      last = c.in-Ok.ensures.last;
      counted = c.in-Ok.ensures.counted;
      over_is = c.in-Ok.ensures.over;
      ended_is = c.in-Ok.ensures.ended;
      drained = c.in-Ok.ensures.drained;
      stays = c.in-Ok.ensures.drained_stays;
      fault = c.in-Ok.ensures.fault;
    } in
    over_stopped g.S.Source.left g.S.Source.faults c.args.feed header before c.args.board.now c.args.refusals.now c.args.reader.now c.next.new.self c.in-Ok.step was next c.in-Some.stop (sym c.stop_of.ensures ∙ c.in-Some.is)

pub returns-in-Ok-take_step-clause-stop : goal.returns-in-Ok-take_step-clause-stop
returns-in-Ok-take_step-clause-stop g c = λ header before was.
    let next : IsNext g.S.Source.left g.S.Source.faults c.args.reader.now c.next.new.self c.in-Ok.step = record {
      item = c.in-Ok.ensures.step;
      earlier = c.in-Ok.ensures.earlier;
      one_more = c.in-Ok.ensures.answered;
      last = c.in-Ok.ensures.last;
      counted = c.in-Ok.ensures.counted;
      over_is = c.in-Ok.ensures.over;
      ended_is = c.in-Ok.ensures.ended;
      drained = c.in-Ok.ensures.drained;
      stays = c.in-Ok.ensures.drained_stays;
      fault = c.in-Ok.ensures.fault;
    } in
    between_next g.S.Source.left g.S.Source.faults c.args.feed header before c.args.board.now c.args.refusals.now c.args.reader.now c.next.new.self c.in-Ok.step was next c.take_step.new.board c.take_step.new.refusals (sym c.stop_of.ensures ∙ c.in-None.is)
    c.in-Ok-take_step.ensures.added c.in-Ok-take_step.ensures.kept

pub returns-in-Err-take_step-clause-stop : goal.returns-in-Err-take_step-clause-stop
returns-in-Err-take_step-clause-stop g c = λ header before was.
    let next : IsNext g.S.Source.left g.S.Source.faults c.args.reader.now c.next.new.self c.in-Ok.step = record {
      item = c.in-Ok.ensures.step;
      earlier = c.in-Ok.ensures.earlier;
      one_more = c.in-Ok.ensures.answered;
      last = c.in-Ok.ensures.last;
      counted = c.in-Ok.ensures.counted;
      over_is = c.in-Ok.ensures.over;
      ended_is = c.in-Ok.ensures.ended;
      drained = c.in-Ok.ensures.drained;
      stays = c.in-Ok.ensures.drained_stays;
      fault = c.in-Ok.ensures.fault;
    } in
    let P : BoardView _ → Type 0 = λ board. IsOver g.S.Source.left g.S.Source.faults c.args.feed header before board c.args.refusals.now c.next.new.self NoMemory in
    let Q : List Refusal → Type 0 = λ kept. IsOver g.S.Source.left g.S.Source.faults c.args.feed header before c.take_step.new.board kept c.next.new.self NoMemory in
    subst Q (sym c.in-Err-take_step.ensures.kept_before)
    (subst P (sym c.in-Err-take_step.ensures.unchanged) (over_spilt g.S.Source.left g.S.Source.faults c.args.feed header before c.args.board.now c.args.refusals.now c.args.reader.now c.next.new.self c.in-Ok.step was next (sym c.stop_of.ensures ∙ c.in-None.is)))

pub returns-in-Err-clause-stop : goal.returns-in-Err-clause-stop
returns-in-Err-clause-stop g c = λ header before was.
    let P : ReaderView _ → Type 0 = λ reader. IsOver g.S.Source.left g.S.Source.faults c.args.feed header before c.args.board.now c.args.refusals.now reader NoMemory in
    subst P (sym c.in-Err.ensures.memory)
    (over_full g.S.Source.left g.S.Source.faults c.args.feed header before c.args.board.now c.args.refusals.now c.args.reader.now was)
