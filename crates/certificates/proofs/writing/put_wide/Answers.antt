use Rattle.std.proofs.Common.{sym}
use Rattle.finding_definitions.specs.Text.{run_fields, place_fields}
use Rattle.text_out.specs.Written.{spaced}
use Rattle.text_out.proofs.Writes.{and_then, cut, same_text, spaced-append}
use Rattle.certificates.proofs.writing.put_wide.Goals as goal

pub returns-in_err-put_run : goal.returns-in_err-put_run
returns-in_err-put_run g c =
    same_text (cut c.in_err-put_run.ensures (spaced (place_fields c.args.place)) _ c.from_residual.ensures.0) _ (sym (spaced-append (run_fields c.args.stage c.args.pivots) (place_fields c.args.place)))

pub returns : goal.returns
returns g c =
    same_text (and_then c.in_ok-put_run.ensures c.put_place.ensures) _ (sym (spaced-append (run_fields c.args.stage c.args.pivots) (place_fields c.args.place)))
