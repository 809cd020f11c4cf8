use Rattle.std.proofs.Common.{arith, false}
use Rattle.feed_lines.proofs.Takings.{length-looked_at}
use Rattle.feed_lines.proofs.Lines.{large_after, whole_next}
use Rattle.feed_lines.proofs.reading.too_large.Goals as goal

pub returns-then-lines-eq0-clause-stands : goal.returns-then-lines-eq0-clause-stands
returns-then-lines-eq0-clause-stands c = record {
  line = whole_next c.args.taken.now.bytes.items c.args.taken.now.start c.args.lines c.requires.at_line c.requires.one c.requires.many false (omega arith);
  first = omega arith;
  long = omega (arith, length-looked_at c.args.taken.now.bytes.items, c.requires.many);
}

pub returns-else-lines-eq0-clause-stands : goal.returns-else-lines-eq0-clause-stands
returns-else-lines-eq0-clause-stands c =
    large_after c.args.taken.now.bytes.items c.args.taken.now.start c.args.lines c.requires.at_line c.requires.one c.requires.many false (omega (arith, c.requires.few_lines)) (omega arith)
