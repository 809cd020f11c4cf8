use Rattle.std.proofs.Common.{[], ◌∷◌, ◌++◌}
use Rattle.finding_definitions.specs.Text.{finding_text}
use Rattle.text_out.proofs.Writes.{and_then, cut}
use Rattle.arb_report.proofs.writing.put_found.Goals as goal

pub returns-in_err-gather : goal.returns-in_err-gather
returns-in_err-gather g c = cut c.in_err-gather.ensures (finding_text c.args.finding.now ++ 10 ∷ []) _ c.from_residual.ensures.0

pub returns-in_err-gather_finding : goal.returns-in_err-gather_finding
returns-in_err-gather_finding g c =
    cut (and_then c.in_ok-gather.ensures c.in_err-gather_finding.ensures) (10 ∷ []) _ c.from_residual-in_err-gather_finding.ensures.0

pub returns : goal.returns
returns g c = and_then (and_then c.in_ok-gather.ensures c.in_ok-gather_finding.ensures) c.gather-2.ensures
