use Rattle.std.proofs.Common.{◌<◌, arith}
use Rattle.feed_bodies.proofs.Moments.{few_answers}
use Rattle.feed_workers.proofs.body.read_on.Goals as goal

pub loop-stop-smaller : goal.loop-stop-smaller
loop-stop-smaller g c =
    let few = few_answers c.loop-stop.reader c.loop-stop.invariant.put.1.between.each_answer in
    let more : c.loop-stop.reader.answers < c.take_round.new.reader.answers = c.in_default.ensures.counted in
    omega (arith, more, few)
