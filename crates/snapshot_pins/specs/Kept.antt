-- How the cells are kept: by match in the order in which matches came, and on each match by feed and selection.
use Rattle.std.specs.Prelude.{ℕ, List, []}
use Rattle.std.specs.BTreeMap.{BTreeMap, get, values}
use Rattle.std.specs.List.{filter_map}
use Rattle.std.specs.Option.{option_map_or}
use Rattle.std.specs.Ordering.{nat_cmp, ordering_then}
use Rattle.std.specs.Str.{bytes_eq}
use Rattle.std.specs.declared.cmp.Ordering.{Ordering}
use Rattle.indexmap.specs.IndexMap.{IndexMap, get as entry_of}
use Rattle.scan_types.specs.declared.offer.Offer.{Offer}
use Rattle.snapshot_pins.specs.declared.value.CellValue.{CellValue}
use Rattle.snapshot_pins.specs.declared.cell.Cell.{Cell}
use Rattle.snapshot_pins.specs.declared.match_cells.Slot.{Slot}
use Rattle.snapshot_pins.specs.Values.{offer_at}

-- slots by feed, and within a feed by selection
abbrev pub slot_cmp : Slot → Slot → Ordering
slot_cmp a b = ordering_then (nat_cmp a.feed b.feed) (nat_cmp a.number b.number)

-- the values of the cell in a slot, and none if there is no cell
abbrev pub cell_in : BTreeMap Slot Cell → ℕ → ℕ → List CellValue
cell_in cells feed number = option_map_or (λ cell. cell.values.items) (get slot_cmp cells (record { feed = feed; number = number })) []

-- the offers that the cells hold at a version, by their slots
abbrev pub offers_in : BTreeMap Slot Cell → ℕ → List Offer
offers_in cells version = filter_map (λ cell. offer_at cell.values.items version) (values cells)

module _ {S : Type 0} where
  -- the values of the cell in a slot on a match
  abbrev pub cell_on : IndexMap (List ℕ) (BTreeMap Slot Cell) S → List ℕ → ℕ → ℕ → List CellValue
  cell_on matches match_name feed number = option_map_or (λ cells. cell_in cells feed number) (entry_of bytes_eq matches match_name) []

  -- the offers that the cells of a match hold at a version, by their slots
  abbrev pub offers_on : IndexMap (List ℕ) (BTreeMap Slot Cell) S → List ℕ → ℕ → List Offer
  offers_on matches match_name version = option_map_or (λ cells. offers_in cells version) (entry_of bytes_eq matches match_name) []
