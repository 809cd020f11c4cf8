-- What contracts see of the cells: the values of each, what a match offers at a version, and which reads stay when values are dropped.
use Rattle.std.specs.Prelude.{ℕ, ◌≡◌, ◌+◌, ◌≤◌, ◌⊎◌, ◌==◌, ◌&&◌, Bool, if◌then◌else◌, List, [], ◌∷◌, ◌++◌, length, Option, Contains}
use Rattle.std.specs.List.{filter_map, flat_map, range_with_len}
use Rattle.std.specs.Map.{lookup}
use Rattle.std.specs.BTreeMap.{is_at}
use Rattle.std.specs.Option.{option_map_or}
use Rattle.std.specs.Str.{bytes_eq}
use Rattle.scan_types.specs.declared.limits.TheConstants.{MOST_FEEDS}
use Rattle.scan_types.specs.declared.offer.Offer.{Offer}
use Rattle.board_definitions.specs.declared.key.TheConstants.{SELECTIONS}
use Rattle.scan_types.specs.Selections.{selection_number}
use Rattle.snapshot_pins.specs.declared.key.CellKey.{CellKey}
use Rattle.snapshot_pins.specs.declared.value.CellValue.{CellValue}
use Rattle.snapshot_pins.specs.declared.match_cells.Slot.{Slot}
use Rattle.snapshot_pins.specs.Values.{offer_at}
use Rattle.snapshot_pins.specs.Kept.{slot_cmp}

-- all cells: the values of each, by match and by slot, and the version of the last one that was added
pub record CellsView : Type 0 where
  pub matches : List (List ℕ × List (Slot × List CellValue))
  pub newest : ℕ

-- the values of a cell that are kept, from the oldest on, and none if there is no such cell
abbrev pub cell_of : CellsView → List ℕ → ℕ → ℕ → List CellValue
cell_of cells match_name feed number =
    option_map_or (λ slots. option_map_or (λ values. values) (lookup (is_at (slot_cmp (record { feed = feed; number = number }))) slots) [])
    (lookup (bytes_eq match_name) cells.matches) []

-- the offers of these, by feed, and within a feed by the number of the selection
unfoldable pub offers_by : (ℕ → ℕ → Option Offer) → List Offer
offers_by held = flat_map (λ feed. filter_map (held feed) (range_with_len 0 SELECTIONS)) (range_with_len 0 MOST_FEEDS)

-- the offers that the cells of a match hold at a version, by feed, and within a feed by the number of the selection
abbrev pub offers_at : CellsView → List ℕ → ℕ → List Offer
offers_at cells match_name version = offers_by (λ feed number. offer_at (cell_of cells match_name feed number) version)

-- the version is still read: it is live, or not below that of the last value that was added
abbrev pub IsRead : List ℕ → ℕ → ℕ → Type 0
IsRead live newest version = Contains live version ⊎ (newest ≤ version)

-- the same values in each cell, and the same version of the last one
pub record AreSame (before after : CellsView) : Type 0 where
  pub values : (match_name : List ℕ) (feed number : ℕ) → cell_of after match_name feed number ≡ cell_of before match_name feed number
  pub newest : after.newest ≡ before.newest

-- the cell of this key
abbrev pub is_cell : CellKey → List ℕ → ℕ → ℕ → Bool
is_cell key match_name feed number = bytes_eq key.match_name match_name && (key.feed == feed && selection_number key.selection == number)

-- the value is added to the cell of this key, and the others stay
pub record IsAdded (before : CellsView) (key : CellKey) (value : CellValue) (after : CellsView) : Type 0 where
  pub values : (match_name : List ℕ) (feed number : ℕ) → cell_of after match_name feed number ≡
      (if is_cell key match_name feed number then cell_of before match_name feed number ++ value ∷ [] else cell_of before match_name feed number)
  pub newest : after.newest ≡ value.version

-- the cell holds the same offer as before at each version that is still read
abbrev pub HoldsStill : List ℕ → CellsView → CellsView → List ℕ → ℕ → ℕ → Type 0
HoldsStill live before after match_name feed number = (version : ℕ) → IsRead live before.newest version →
    offer_at (cell_of after match_name feed number) version ≡ offer_at (cell_of before match_name feed number) version

-- the match offers the same as before at each version that is still read
abbrev pub OffersStill : List ℕ → CellsView → CellsView → List ℕ → Type 0
OffersStill live before after match_name = (version : ℕ) → IsRead live before.newest version → offers_at after match_name version ≡ offers_at before match_name version

-- the cell keeps at most one value more than there are live versions
abbrev pub KeepsFew : List ℕ → CellsView → List ℕ → ℕ → ℕ → Type 0
KeepsFew live after match_name feed number = length (cell_of after match_name feed number) ≤ length live + 1
