use Rattle.std.proofs.Common.{sym}
use Rattle.finding_definitions.specs.Text.{measure_fields, fraction_fields}
use Rattle.text_out.specs.Written.{spaced}
use Rattle.text_out.proofs.Writes.{and_then, cut, same_text, spaced-append}
use Rattle.certificates.proofs.writing.put_bound.Goals as goal

pub returns-in_err-put_parts : goal.returns-in_err-put_parts
returns-in_err-put_parts g c =
    same_text (cut c.in_err-put_parts.ensures (spaced (measure_fields c.args.measure.now)) _ c.from_residual.ensures.0) _ (sym (spaced-append (fraction_fields c.args.parts.now) (measure_fields c.args.measure.now)))

pub returns : goal.returns
returns g c =
    same_text (and_then c.in_ok-put_parts.ensures c.put_measure.ensures) _ (sym (spaced-append (fraction_fields c.args.parts.now) (measure_fields c.args.measure.now)))
