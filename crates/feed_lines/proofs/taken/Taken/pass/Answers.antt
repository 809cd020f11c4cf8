use Rattle.std.proofs.Common.{arith}
use Rattle.feed_lines.proofs.Takings.{length-looked_at}
use Rattle.feed_lines.proofs.taken.Taken.pass.Goals as goal

pub overflow_add-self : goal.overflow_add-self
overflow_add-self c = omega (arith, c.requires, length-looked_at c.args.self.now.bytes.items)

pub invariant_of-self : goal.invariant_of-self
invariant_of-self c = record { start_within = omega (arith, c.requires, length-looked_at c.args.self.now.bytes.items, c.args.self.now.bytes.ok.0) }
