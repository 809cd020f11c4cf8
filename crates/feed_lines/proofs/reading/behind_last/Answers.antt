use Rattle.std.proofs.Common.{ℕ, List, true, false, sym, subst, arith}
use Rattle.feed_definitions.specs.declared.step.Step.TheVariants as step
use Rattle.feed_lines.specs.Reader.{IsAfterLines}
use Rattle.feed_lines.proofs.Takings.{nothing_more}
use Rattle.feed_lines.proofs.Lines.{more_bytes, behind_after, full_at_end}
use Rattle.feed_lines.proofs.reading.behind_last.Goals as goal

pub returns-then-taken-len-clause-stands : goal.returns-then-taken-len-clause-stands
returns-then-taken-len-clause-stands g c =
    behind_after c.args.taken.now.bytes.items c.args.taken.now.start c.args.lines c.requires.at_line false c.requires.full (omega arith)

pub returns-in-Ok-eq0-clause-stands : goal.returns-in-Ok-eq0-clause-stands
returns-in-Ok-eq0-clause-stands g c =
    let read = c.in-Ok-eq0.ensures in
    let same = nothing_more _ _ c.args.taken.now.bytes.items c.read_more.new.self.bytes.items read.goes_on.takes (omega (arith, read.count, c.in-Ok-eq0.field-0-is, c.in-Ok-eq0.field-0-test)) in
    subst (λ (b : List ℕ). IsAfterLines true b c.args.lines step.End) (sym same)
    (full_at_end c.args.taken.now.bytes.items c.args.taken.now.start c.args.lines c.requires.at_line (omega arith) c.requires.full).0

pub returns-in-Ok-clause-stands : goal.returns-in-Ok-clause-stands
returns-in-Ok-clause-stands g c =
    let read = c.in-Ok.ensures in
    let takes = read.goes_on.takes in
    behind_after c.read_more.new.self.bytes.items c.args.taken.now.start c.args.lines
    (more_bytes c.args.taken.now.bytes.items c.args.taken.now.start c.args.lines c.requires.at_line c.read_more.new.self.bytes.items takes.more takes.appended)
    false c.requires.full (omega (arith, read.count, c.in-Ok.field-0-test, c.in-Ok.field-0-is))

pub returns-in-Err-clause-stands : goal.returns-in-Err-clause-stands
returns-in-Err-clause-stands g c =
    subst (λ (b : List ℕ). IsAfterLines false b c.args.lines step.ReadFault) (sym c.in-Err.ensures.nothing)
    (full_at_end c.args.taken.now.bytes.items c.args.taken.now.start c.args.lines c.requires.at_line (omega arith) c.requires.full).1
