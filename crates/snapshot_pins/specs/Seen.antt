-- How contracts see what is kept, and what holds of each cell that is kept.
use Rattle.std.specs.Prelude.{ℕ, List, map}
use Rattle.std.specs.BTreeMap.{BTreeMap}
use Rattle.indexmap.specs.IndexMap.{IndexMap}
use Rattle.snapshot_pins.specs.declared.cell.Cell.{Cell}
use Rattle.snapshot_pins.specs.declared.match_cells.Slot.{Slot}
use Rattle.snapshot_pins.specs.Values.{IsCell}
use Rattle.snapshot_pins.specs.Kept.{cell_on}
use Rattle.snapshot_pins.specs.Cells.{CellsView}

module _ {S : Type 0} where
  -- what is kept, with the version of the last value that was added, as contracts see it
  abbrev pub seen : IndexMap (List ℕ) (BTreeMap Slot Cell) S → ℕ → CellsView
  seen matches newest = record { matches = map (λ m. (m.0, map (λ c. (c.0, c.1.values.items)) m.1.entries)) matches.entries; newest = newest }

  -- each cell that is kept is one
  abbrev pub AreCells : IndexMap (List ℕ) (BTreeMap Slot Cell) S → ℕ → Type 0
  AreCells matches newest = (match_name : List ℕ) (feed number : ℕ) → IsCell newest feed number (cell_on matches match_name feed number)
