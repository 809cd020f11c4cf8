use Rattle.std.proofs.Common.{List, [], ◌∷◌, ◌++◌, sym, ap, ◌∙◌, subst, arith}
use Rattle.std.specs.Str.{bytes_eq}
use Rattle.indexmap.specs.IndexMap.{get as row_at, index_map_len}
use Rattle.feed_definitions.specs.declared.accepted.Accepted.{Accepted}
use Rattle.feed_definitions.specs.declared.step.Step.{Step}
use Rattle.feed_definitions.specs.Feed.{accepted_in}
use Rattle.feed_definitions.proofs.Walk.{accepted_joined}
use Rattle.feed_lines.specs.Rows.{IsStanding}
use Rattle.feed_lines.proofs.Answering.{answer_first, answer_other, accepted_first_answer}
use Rattle.feed_lines.proofs.answer.line_answer.Goals as goal

pub returns-then-lines-eq0-clause-step : goal.returns-then-lines-eq0-clause-step
returns-then-lines-eq0-clause-step c = λ before count is. c.first_step.ensures.step ∙ answer_first before c.args.line.now (omega (arith, count))

pub returns-then-lines-eq0-clause-standing : goal.returns-then-lines-eq0-clause-standing
returns-then-lines-eq0-clause-standing c = λ before count is.
    subst (λ (l : List Accepted). IsStanding (row_at bytes_eq c.args.standing.now.rows) (index_map_len c.args.standing.now.rows) l)
    (sym (ap (λ (s : Step). accepted_in (before ++ s ∷ [])) c.first_step.ensures.step ∙ accepted_first_answer before c.args.line.now (omega (arith, count)))) is

pub returns-else-lines-eq0-clause-step : goal.returns-else-lines-eq0-clause-step
returns-else-lines-eq0-clause-step c = λ before count is.
    c.line_step.ensures.step (accepted_in before) is ∙ answer_other before c.args.line.now c.args.lines (omega arith) count

pub returns-else-lines-eq0-clause-standing : goal.returns-else-lines-eq0-clause-standing
returns-else-lines-eq0-clause-standing c = λ before count is.
    subst (λ (l : List Accepted). IsStanding (row_at bytes_eq c.line_step.new.standing.rows) (index_map_len c.line_step.new.standing.rows) l)
    (sym (accepted_joined before (c.line_step.result ∷ []))) (c.line_step.ensures.standing (accepted_in before) is)
