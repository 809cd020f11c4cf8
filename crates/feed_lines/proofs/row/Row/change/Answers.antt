use Rattle.std.proofs.Common.{Some, sym, ap, ◌∙◌}
use Rattle.feed_lines.specs.Rows.{refused_by}
use Rattle.feed_lines.proofs.row.Row.change.Goals as goal

pub returns-in-Quote-clause-refused : goal.returns-in-Quote-clause-refused
returns-in-Quote-clause-refused c = λ rows.
    c.quote.ensures.refused rows ∙ ap (refused_by (Some c.args.self.now) rows c.args.number) (sym c.in-Quote.is)
