use Rattle.std.proofs.Common.{arith, inl, inr, length-drop}
use Rattle.feed_lines.proofs.Lines.{last_next, last_read_out, end_after}
use Rattle.feed_lines.proofs.reading.drained.Goals as goal

pub returns-then-lines-eq0-clause-stands : goal.returns-then-lines-eq0-clause-stands
returns-then-lines-eq0-clause-stands c = record {
  line = last_next c.args.taken.now.bytes.items c.args.taken.now.start c.args.lines c.requires.at_line c.requires.one c.requires.few c.requires.few_lines (inr (omega arith));
  out = last_read_out c.args.taken.now.bytes.items c.args.taken.now.start c.args.lines c.requires.at_line c.requires.one c.requires.few c.requires.few_lines (inr (omega arith));
}

pub returns-then-taken-len-clause-stands : goal.returns-then-taken-len-clause-stands
returns-then-taken-len-clause-stands c = record {
  line = last_next c.args.taken.now.bytes.items c.args.taken.now.start c.args.lines c.requires.at_line c.requires.one c.requires.few c.requires.few_lines (inl (omega (arith, length-drop c.args.taken.now.start c.args.taken.now.bytes.items)));
  out = last_read_out c.args.taken.now.bytes.items c.args.taken.now.start c.args.lines c.requires.at_line c.requires.one c.requires.few c.requires.few_lines (inl (omega (arith, length-drop c.args.taken.now.start c.args.taken.now.bytes.items)));
}

pub returns-clause-stands : goal.returns-clause-stands
returns-clause-stands c =
    end_after c.args.taken.now.bytes.items c.args.taken.now.start c.args.lines c.requires.at_line c.requires.one c.requires.few (omega (arith, c.requires.few_lines)) (omega arith) (omega (arith, length-drop c.args.taken.now.start c.args.taken.now.bytes.items))
