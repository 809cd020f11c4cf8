use Rattle.text_out.proofs.Writes.{from_nothing, and_the_rest, gathered_short}
use Rattle.certificates.proofs.writing.put_whole.Goals as goal

pub returns-in_err-gather_finding : goal.returns-in_err-gather_finding
returns-in_err-gather_finding g c = gathered_short (from_nothing c.in_err-gather_finding.ensures c.new-held.ensures) _ c.from_residual.ensures.0

pub returns : goal.returns
returns g c = and_the_rest (from_nothing c.in_ok-gather_finding.ensures c.new-held.ensures) c.hand_on.ensures.written
