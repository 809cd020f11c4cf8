use Rattle.std.proofs.Common.{List, [], refl, rules}
use Rattle.std.specs.BTreeMap.{is_at}
use Rattle.snapshot_pins.specs.declared.value.CellValue.{CellValue}
use Rattle.snapshot_pins.specs.declared.cell.Cell.{Cell}
use Rattle.snapshot_pins.specs.Values.{kept}
use Rattle.snapshot_pins.specs.Kept.{slot_cmp}
use Rattle.snapshot_pins.proofs.Changes.{all_after}
use Rattle.snapshot_pins.proofs.match_cells.keep_cells.Goals as goal

pub returns : goal.returns
returns c = λ feed number.
    let read : Cell → List CellValue = λ cell. cell.values.items in
    all_after _ read [] (kept c.args.live.now) refl _ (λ k v b w f' t. search rules) _ _ c.retain.ensures.filtered (is_at (slot_cmp (record { feed = feed; number = number })))
