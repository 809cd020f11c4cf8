use Rattle.std.proofs.Common.{sym, ap, ◌∙◌}
use Rattle.feed_definitions.specs.Feed.{form_step}
use Rattle.feed_lines.proofs.line_step.line_step.Goals as goal

pub returns-in-Asks-clause-step : goal.returns-in-Asks-clause-step
returns-in-Asks-clause-step c = λ before is.
    c.request_step.ensures.step before is ∙ ap (form_step before c.args.number) (sym c.in-Asks.is ∙ c.read_line.ensures.value)
