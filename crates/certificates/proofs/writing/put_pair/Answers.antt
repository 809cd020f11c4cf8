use Rattle.std.proofs.Common.{◌∷◌, decimal}
use Rattle.text_out.proofs.Writes.{and_then, cut}
use Rattle.certificates.proofs.writing.put_pair.Goals as goal

pub returns-in_err-put_number : goal.returns-in_err-put_number
returns-in_err-put_number g c = cut c.in_err-put_number.ensures (32 ∷ decimal c.args.second) _ c.from_residual.ensures.0

pub returns : goal.returns
returns g c = and_then c.in_ok-put_number.ensures c.put_number-2.ensures
