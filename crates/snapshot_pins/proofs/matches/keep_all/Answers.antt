use Rattle.std.proofs.Common.{List, [], refl, rules}
use Rattle.std.specs.BTreeMap.{BTreeMap}
use Rattle.std.specs.Str.{bytes_eq}
use Rattle.snapshot_pins.specs.declared.value.CellValue.{CellValue}
use Rattle.snapshot_pins.specs.declared.cell.Cell.{Cell}
use Rattle.snapshot_pins.specs.declared.match_cells.Slot.{Slot}
use Rattle.snapshot_pins.specs.Values.{kept}
use Rattle.snapshot_pins.specs.Kept.{cell_in}
use Rattle.snapshot_pins.proofs.Changes.{all_after}
use Rattle.snapshot_pins.proofs.matches.keep_all.Goals as goal

pub returns : goal.returns
returns c = λ m feed number.
    let read : BTreeMap Slot Cell → List CellValue = λ cells. cell_in cells feed number in
    all_after _ read [] (kept c.args.live.now) refl _ (λ k v b w f' t. search rules) _ _ c.retain.ensures.filtered (bytes_eq m)
