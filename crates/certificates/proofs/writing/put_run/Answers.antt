use Rattle.finding_definitions.specs.Text.{stage_number}
use Rattle.text_out.proofs.Writes.{same_text, numbers_shape}
use Rattle.certificates.proofs.writing.put_run.Goals as goal

pub returns : goal.returns
returns g c = same_text c.put_pair.ensures _ (rw c.number_of.ensures (numbers_shape (stage_number c.args.stage) c.args.pivots))
