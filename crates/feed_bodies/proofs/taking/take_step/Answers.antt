use Rattle.feed_bodies.proofs.taking.take_step.Goals as goal

pub add_line-requires-clause-accepted : goal.add_line-requires-clause-accepted
add_line-requires-clause-accepted g c = c.requires.accepted c.in-Line.line c.in-Line.is
