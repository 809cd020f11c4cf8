use Rattle.std.proofs.Common.{◌≡◌, ◌+◌, ◌∙◌, inr, arith}
use Rattle.feed_bodies.proofs.Moments.{few_answers}
use Rattle.feed_workers.proofs.Going.{goes_further}
use Rattle.feed_workers.proofs.gathering.gather.Goals as goal

pub loop-stop-smaller : goal.loop-stop-smaller
loop-stop-smaller g c =
    let few = few_answers c.loop-stop.reader c.loop-stop.invariant.somewhere.3.between.each_answer in
    let counted : c.take_next.new.reader.answers ≡ c.loop-stop.reader.answers + 1 = c.in_default.ensures.counted in
    omega (arith, counted, few)

pub returns-in-Some-clause-gathered : goal.returns-in-Some-clause-gathered
returns-in-Some-clause-gathered g c = λ rules_ header put was. c.in-Some.ensures.step rules_ header put (c.loop-stop.invariant.between rules_ header put was)

pub returns-then-len-ge-MOST_IN_HAND-clause-gathered : goal.returns-then-len-ge-MOST_IN_HAND-clause-gathered
returns-then-len-ge-MOST_IN_HAND-clause-gathered g c = λ rules_ header put was. c.in_default.ensures.step rules_ header put (c.loop-stop.invariant.between rules_ header put was)

pub loop-stop-preserved : goal.loop-stop-preserved
loop-stop-preserved g c =
    let kept = c.loop-stop.invariant in
    let was = kept.somewhere in
    let more = kept.more in
    let counted : c.take_next.new.reader.answers ≡ c.loop-stop.reader.answers + 1 = c.in_default.ensures.counted in
    record {
      somewhere = (was.0, was.1, was.2, c.in_default.ensures.step was.0 was.1 was.2 was.3);
      between = λ rules_ header put start. c.in_default.ensures.step rules_ header put (kept.between rules_ header put start);
      in_hand = inr (c.has_line.ensures.no_read c.if-not-has_line.false);
      more = omega (arith, more, counted);
      no_fault = c.in_default.ensures.no_fault (λ h. absurd (cc h)) ∙ kept.no_fault;
      goes_on = goes_further g.S.Source.left g.S.Source.faults g.S.Source.later g.S.Source.never_fails g.met.S.Source.later_transitive c.args.reader.now c.loop-stop.reader c.take_next.new.reader kept.goes_on c.in_default.ensures.goes_on;
    }
