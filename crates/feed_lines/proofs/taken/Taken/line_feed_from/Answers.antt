use Rattle.std.proofs.Common.{ℕ, rules}
use Rattle.feed_lines.specs.Taking.{looked_at}
use Rattle.feed_lines.proofs.Splits.{one_line_rest, ended_at_rest}
use Rattle.feed_lines.proofs.taken.Taken.line_feed_from.Goals as goal

pub returns : goal.returns
returns c =
    let none = one_line_rest c.looked_at-looked.result.now (looked_at c.args.self.now.bytes.items) c.args.from c.looked_at-looked.ensures in
    let some = λ (at : ℕ). ended_at_rest c.looked_at-looked.result.now (looked_at c.args.self.now.bytes.items) c.args.from at c.looked_at-looked.ensures in
    search (rules, none, some)
