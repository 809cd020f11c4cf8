use Rattle.std.proofs.Common.{rules, ◌≡◌, ◌-◌, ◌<◌, ◌^◌, length, sym, ◌∙◌}
use Rattle.std.specs.Prelude.{Err}
use Rattle.certificates.specs.Reading.{whole_at}
use Rattle.certificates.proofs.Readers.{ok_is, not_both}
use Rattle.certificates.proofs.Whole.{whole_takes, whole_again, whole_fault, left_within}
use Rattle.certificates.proofs.Lengths.{fault_short}
use Rattle.certificates.proofs.reading.read_finding.Goals as goal

pub overflow_sub-result : goal.overflow_sub-result
overflow_sub-result c =
    let stopped : whole_at c.args.text.now ≡ Err c.in-Err-Left.left = rw c.in-Err-Left.field-0-is at c.in-Err-Left.ensures in
    left_within c.args.text.now c.in-Err-Left.left stopped

pub overflow_cast-result : goal.overflow_cast-result
overflow_cast-result c =
    let stopped : whole_at c.args.text.now ≡ Err c.in-Err-Left.left = rw c.in-Err-Left.field-0-is at c.in-Err-Left.ensures in
    let small : length c.args.text.now - c.in-Err-Left.left < 2 ^ 32 = fault_short c.args.text.now (length c.args.text.now - c.in-Err-Left.left) (whole_fault c.args.text.now c.in-Err-Left.left stopped) in
    search rules

pub returns-in-Ok-clause-read_then_put : goal.returns-in-Ok-clause-read_then_put
returns-in-Ok-clause-read_then_put c = whole_takes c.args.text.now c.in-Ok.finding c.in-Ok.ensures

pub returns-in-Ok-clause-put_then_read : goal.returns-in-Ok-clause-put_then_read
returns-in-Ok-clause-put_then_read c = λ finding fits is. ok_is c.in-Ok.finding finding (sym c.in-Ok.ensures ∙ whole_again c.args.text.now finding fits is)

pub returns-in-Err-Left-clause-put_then_read : goal.returns-in-Err-Left-clause-put_then_read
returns-in-Err-Left-clause-put_then_read c = λ finding fits is.
    let stopped : whole_at c.args.text.now ≡ Err c.in-Err-Left.left = rw c.in-Err-Left.field-0-is at c.in-Err-Left.ensures in
    not_both finding c.in-Err-Left.left (sym (whole_again c.args.text.now finding fits is) ∙ stopped)

pub returns-in-Err-Left-clause-fault : goal.returns-in-Err-Left-clause-fault
returns-in-Err-Left-clause-fault c =
    let stopped : whole_at c.args.text.now ≡ Err c.in-Err-Left.left = rw c.in-Err-Left.field-0-is at c.in-Err-Left.ensures in
    whole_fault c.args.text.now c.in-Err-Left.left stopped
