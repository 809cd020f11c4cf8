use Rattle.std.proofs.Common.{List, sym, subst, ◌∙◌}
use Rattle.feed_definitions.specs.declared.accepted.Accepted.{Accepted}
use Rattle.feed_definitions.specs.declared.cause.Refusal.{Refusal}
use Rattle.board_definitions.specs.declared.event.FeedStop.TheVariants.{NoMemory}
use Rattle.feed_lines.specs.Reader.{ReaderView}
use Rattle.feed_bodies.proofs.Moments.{IsNext}
use Rattle.feed_workers.specs.Runs.{IsGatheredOver}
use Rattle.feed_workers.proofs.Gathered.{gathered_next, gathered_stopped, gathered_spilt, gathered_full}
use Rattle.feed_workers.proofs.gathering.take_next.Goals as goal

pub returns-in-Some-clause-step : goal.returns-in-Some-clause-step
returns-in-Some-clause-step g c = λ rules header put was.
    let next : IsNext g.S.Source.left g.S.Source.faults c.args.reader.now c.next.new.self c.in-Ok.step = record {
      item = c.in-Ok.ensures.step;
      earlier = c.in-Ok.ensures.earlier;
      one_more = c.in-Ok.ensures.answered;
      last = c.in-Ok.ensures.last;
      counted = c.in-Ok.ensures.counted;
      over_is = c.in-Ok.ensures.over;
      ended_is = c.in-Ok.ensures.ended;
      drained = c.in-Ok.ensures.drained;
      stays = c.in-Ok.ensures.drained_stays;
      fault = c.in-Ok.ensures.fault;
    } in
    gathered_stopped g.S.Source.left g.S.Source.faults c.args.feed rules header put c.args.lines.now.items c.args.refusals.now c.args.reader.now c.next.new.self c.in-Ok.step was next c.in-Some.stop (sym c.stop_of.ensures ∙ c.in-Some.is)

pub returns-in-Ok-keep_step-clause-step : goal.returns-in-Ok-keep_step-clause-step
returns-in-Ok-keep_step-clause-step g c = λ rules header put was.
    let next : IsNext g.S.Source.left g.S.Source.faults c.args.reader.now c.next.new.self c.in-Ok.step = record {
      item = c.in-Ok.ensures.step;
      earlier = c.in-Ok.ensures.earlier;
      one_more = c.in-Ok.ensures.answered;
      last = c.in-Ok.ensures.last;
      counted = c.in-Ok.ensures.counted;
      over_is = c.in-Ok.ensures.over;
      ended_is = c.in-Ok.ensures.ended;
      drained = c.in-Ok.ensures.drained;
      stays = c.in-Ok.ensures.drained_stays;
      fault = c.in-Ok.ensures.fault;
    } in
    gathered_next g.S.Source.left g.S.Source.faults c.args.feed rules header put c.args.lines.now.items c.args.refusals.now c.args.reader.now c.next.new.self c.in-Ok.step was next c.keep_step.new.lines.items c.keep_step.new.refusals (sym c.stop_of.ensures ∙ c.in-None.is) c.in-Ok-keep_step.ensures.gathered c.in-Ok-keep_step.ensures.kept

pub returns-in-Err-keep_step-clause-step : goal.returns-in-Err-keep_step-clause-step
returns-in-Err-keep_step-clause-step g c = λ rules header put was.
    let next : IsNext g.S.Source.left g.S.Source.faults c.args.reader.now c.next.new.self c.in-Ok.step = record {
      item = c.in-Ok.ensures.step;
      earlier = c.in-Ok.ensures.earlier;
      one_more = c.in-Ok.ensures.answered;
      last = c.in-Ok.ensures.last;
      counted = c.in-Ok.ensures.counted;
      over_is = c.in-Ok.ensures.over;
      ended_is = c.in-Ok.ensures.ended;
      drained = c.in-Ok.ensures.drained;
      stays = c.in-Ok.ensures.drained_stays;
      fault = c.in-Ok.ensures.fault;
    } in
    let P : List Accepted → Type 0 = λ lines. IsGatheredOver g.S.Source.left c.args.feed rules header g.S.Source.faults put lines c.keep_step.new.refusals c.next.new.self NoMemory in
    let Q : List Refusal → Type 0 = λ kept. IsGatheredOver g.S.Source.left c.args.feed rules header g.S.Source.faults put c.args.lines.now.items kept c.next.new.self NoMemory in
    subst P (sym c.in-Err-keep_step.ensures.unchanged)
    (subst Q (sym c.in-Err-keep_step.ensures.kept_before) (gathered_spilt g.S.Source.left g.S.Source.faults c.args.feed rules header put c.args.lines.now.items c.args.refusals.now c.args.reader.now c.next.new.self c.in-Ok.step was next (sym c.stop_of.ensures ∙ c.in-None.is)))

pub returns-in-Err-clause-step : goal.returns-in-Err-clause-step
returns-in-Err-clause-step g c = λ rules header put was.
    let R : ReaderView _ → Type 0 = λ reader. IsGatheredOver g.S.Source.left c.args.feed rules header g.S.Source.faults put c.args.lines.now.items c.args.refusals.now reader NoMemory in
    subst R (sym c.in-Err.ensures.memory) (gathered_full g.S.Source.left g.S.Source.faults c.args.feed rules header put c.args.lines.now.items c.args.refusals.now c.args.reader.now was)
