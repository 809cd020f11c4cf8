use Rattle.std.proofs.Common.{◌≡◌, ◌+◌, arith}
use Rattle.feed_bodies.proofs.Moments.{few_answers}
use Rattle.feed_bodies.proofs.body.read_lines.Goals as goal

pub loop-stop-smaller : goal.loop-stop-smaller
loop-stop-smaller g c =
    let few = few_answers c.loop-stop.reader c.loop-stop.invariant.between.each_answer in
    let counted : c.take_next.new.reader.answers ≡ c.loop-stop.reader.answers + 1 = c.in_default.ensures.counted in
    omega (arith, counted, few)
