use Rattle.std.proofs.Common.{◌≡◌, ℕ, List, drop, subst, sym, arith, false}
use Rattle.feed_lines.specs.Taking.{looked_at, IsOneLine, IsEndedAt}
use Rattle.feed_lines.specs.Reader.{IsAtLine, StandsSo}
use Rattle.feed_lines.proofs.Lines.{more_bytes, more_lines, ended_next, ended_at, fault_after, few_more}
use Rattle.feed_lines.proofs.reading.next_line.Goals as goal

pub returns-in-LineFeed-clause-stands : goal.returns-in-LineFeed-clause-stands
returns-in-LineFeed-clause-stands g c =
    let bytes = c.search.new.self.bytes.items in
    let start = c.args.taken.now.start in
    let takes = c.in-LineFeed.ensures.goes_on.takes in
    let at = more_bytes c.args.taken.now.bytes.items start c.args.lines c.requires.at_line bytes takes.more takes.appended in
    let found = subst (λ (s : ℕ). IsEndedAt (looked_at bytes) s c.in-LineFeed.end) c.in-LineFeed.ensures.start c.in-LineFeed.ensures.found in
    record {
      after = found.after;
      within = found.within;
      line = ended_next bytes start c.args.lines at c.in-LineFeed.end found false (omega arith);
      next_line = ended_at bytes start c.args.lines at c.in-LineFeed.end found;
    }

pub returns-in-LineFeed-clause-no_read : goal.returns-in-LineFeed-clause-no_read
returns-in-LineFeed-clause-no_read g c = λ more.
    c.in-LineFeed.ensures.no_read (more_lines c.args.taken.now.bytes.items c.args.taken.now.start c.args.lines c.requires.at_line more).1

at_start : (bytes : List ℕ) (old new lines : ℕ) → IsAtLine bytes old lines → (new ≡ old) → IsAtLine bytes new lines
at_start bytes old new lines at same = subst (λ s. IsAtLine bytes s lines) (sym same) at

pub too_large-requires-clause-at_line : goal.too_large-requires-clause-at_line
too_large-requires-clause-at_line g c =
    let takes = c.in-TooLarge.ensures.goes_on.takes in
    at_start c.search.new.self.bytes.items c.args.taken.now.start c.search.new.self.start c.args.lines
    (more_bytes c.args.taken.now.bytes.items c.args.taken.now.start c.args.lines c.requires.at_line c.search.new.self.bytes.items takes.more takes.appended) c.in-TooLarge.ensures.start

pub returns-in-TooLarge-clause-stands : goal.returns-in-TooLarge-clause-stands
returns-in-TooLarge-clause-stands g c =
    subst (λ (s : ℕ). StandsSo c.search.new.self.bytes.items s c.args.lines c.too_large.result) c.in-TooLarge.ensures.start c.too_large.ensures.stands

pub returns-in-TooLarge-clause-no_read : goal.returns-in-TooLarge-clause-no_read
returns-in-TooLarge-clause-no_read g c = λ more.
    c.in-TooLarge.ensures.no_read (more_lines c.args.taken.now.bytes.items c.args.taken.now.start c.args.lines c.requires.at_line more).1

pub drained-requires-clause-at_line : goal.drained-requires-clause-at_line
drained-requires-clause-at_line g c =
    let takes = c.in-Drained.ensures.goes_on.takes in
    at_start c.search.new.self.bytes.items c.args.taken.now.start c.search.new.self.start c.args.lines
    (more_bytes c.args.taken.now.bytes.items c.args.taken.now.start c.args.lines c.requires.at_line c.search.new.self.bytes.items takes.more takes.appended) c.in-Drained.ensures.start

pub returns-in-Drained-clause-stands : goal.returns-in-Drained-clause-stands
returns-in-Drained-clause-stands g c =
    subst (λ (s : ℕ). StandsSo c.search.new.self.bytes.items s c.args.lines c.drained.result) c.in-Drained.ensures.start c.drained.ensures.stands

pub returns-in-Drained-clause-no_read : goal.returns-in-Drained-clause-no_read
returns-in-Drained-clause-no_read g c = λ more.
    c.in-Drained.ensures.no_read (more_lines c.args.taken.now.bytes.items c.args.taken.now.start c.args.lines c.requires.at_line more).1

pub returns-in-Failed-clause-stands : goal.returns-in-Failed-clause-stands
returns-in-Failed-clause-stands g c =
    let bytes = c.search.new.self.bytes.items in
    let start = c.args.taken.now.start in
    let takes = c.in-Failed.ensures.goes_on.takes in
    let at = more_bytes c.args.taken.now.bytes.items start c.args.lines c.requires.at_line bytes takes.more takes.appended in
    let found = c.in-Failed.ensures.found in
    let one = subst (λ (s : ℕ). IsOneLine (drop s (looked_at bytes))) c.in-Failed.ensures.start found.0 in
    fault_after bytes start c.args.lines at one found.1 (omega arith) (few_more bytes start c.args.lines at one found.1 (omega arith))

pub returns-in-Failed-clause-no_read : goal.returns-in-Failed-clause-no_read
returns-in-Failed-clause-no_read g c = λ more.
    c.in-Failed.ensures.no_read (more_lines c.args.taken.now.bytes.items c.args.taken.now.start c.args.lines c.requires.at_line more).1
