use Rattle.std.proofs.Common.{List, sym, ap, ◌∙◌, arith, ◌+◌, length-set}
use Rattle.snapshot_pins.specs.declared.value.CellValue.{CellValue}
use Rattle.snapshot_pins.specs.Values.{is_kept}
use Rattle.snapshot_pins.proofs.Keeps.{gather_more, gather_less, later_more, later_set, rest_of}
use Rattle.snapshot_pins.proofs.cell.gather.Goals as goal
use Rattle.snapshot_pins.proofs.cell.gather.Goals.{then-is_needed, else-is_needed}

pub loop-place-preserved : goal.loop-place-preserved
loop-place-preserved c =
    let old = c.args.values.now in
    let now = c.loop-place.values in
    let place = c.loop-place.place in
    let x = c.index-values-place.result in
    let was = c.loop-place.invariant in
    let within = was.within in
    let fits = c.loop-place-test.true in
    let asked = c.is_needed.ensures ∙ ap (λ (ys : List CellValue). is_kept c.args.live.now x ys) (rest_of now (place + 1)) in
    elim c.if-is_needed.branch [
      | then-is_needed w ↦ rw (w.values-is, w.count-is) (record {
        long = omega (arith, length-set now c.loop-place.count x, was.long);
        within = omega (arith, within);
        later = later_set old now c.loop-place.count place x within was.later;
        gathered = gather_more c.args.live.now old now c.loop-place.count place x was.long within (omega (arith, fits, was.long)) was.later (sym c.index-values-place.is) (sym asked ∙ w.if-is_needed.true) was.gathered;
      })
      | else-is_needed w ↦ rw (w.values-is, w.count-is) (record {
        long = was.long;
        within = omega (arith, within);
        later = later_more old now place was.later;
        gathered = gather_less c.args.live.now old now c.loop-place.count place x (omega (arith, fits, was.long)) was.later (sym c.index-values-place.is) (sym asked ∙ w.if-is_needed.false) was.gathered;
      })
    ]
