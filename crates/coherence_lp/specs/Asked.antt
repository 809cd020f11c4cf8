-- What a program with limits asks for.
use Rattle.std.specs.Prelude.{List, ℤ}
use Rattle.scan_types.specs.declared.offer.Offer.{Offer}
use Rattle.scan_types.specs.declared.outcome.Outcome.{Outcome}
use Rattle.judging_definitions.specs.JudgingPrograms.{plain_need, slack_need}
use Rattle.judging_definitions.specs.MostProgram.{most_need}
use Rattle.coherence_lp.specs.declared.asked.Needs.{Needs}
use Rattle.coherence_lp.specs.declared.asked.Needs.TheVariants.{Plain, Slack, Most}

-- what is asked for at an outcome, in 1/2000 of a minor unit
abbrev pub asked_for : Needs → List Offer → Outcome → ℤ
asked_for Plain offers x = plain_need x
asked_for Slack offers x = slack_need offers x
asked_for Most offers x = most_need offers x
