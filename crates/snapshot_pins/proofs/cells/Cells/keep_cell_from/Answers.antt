use Rattle.std.proofs.Common.{ℕ, List, Bool, ◌∙◌}
use Rattle.std.specs.Prelude.{◌==◌, ◌&&◌}
use Rattle.std.specs.Str.{bytes_eq}
use Rattle.scan_types.specs.Selections.{selection_number}
use Rattle.snapshot_pins.specs.declared.key.CellKey.{CellKey}
use Rattle.snapshot_pins.specs.declared.match_cells.Slot.{Slot}
use Rattle.snapshot_pins.proofs.Views.{cells_kept, holds_still, offers_still, keeps_few, others_stay, own_cell, slot_cell}
use Rattle.snapshot_pins.proofs.cells.Cells.keep_cell_from.Goals as goal

is_in_slot : CellKey → Slot → List ℕ → ℕ → ℕ → Bool
is_in_slot key slot m feed number = bytes_eq key.match_name m && (slot.feed == feed && slot.number == number)

pub invariant_of-self : goal.invariant_of-self
unfolding is_in_slot
invariant_of-self c =
    cells_kept c.self.inside.matches c.keep_cell_on.new.matches c.self.inside.newest c.args.live.now (is_in_slot c.args.key.now c.slot_of.result) c.keep_cell_on.ensures c.self.invariant

pub returns-clause-reads : goal.returns-clause-reads
unfolding is_in_slot
returns-clause-reads c = rw (← c.self.view_is)
    (offers_still c.self.inside.matches c.keep_cell_on.new.matches c.self.inside.newest c.args.live.now (is_in_slot c.args.key.now c.slot_of.result) c.keep_cell_on.ensures c.self.invariant c.args.key.now.match_name)

pub returns-clause-cell : goal.returns-clause-cell
unfolding is_in_slot
returns-clause-cell c = rw (← c.self.view_is)
    (holds_still c.self.inside.matches c.keep_cell_on.new.matches c.self.inside.newest c.args.live.now (is_in_slot c.args.key.now c.slot_of.result) c.keep_cell_on.ensures c.self.invariant
    c.args.key.now.match_name c.args.key.now.feed (selection_number c.args.key.now.selection))

pub returns-clause-few : goal.returns-clause-few
unfolding is_in_slot
returns-clause-few c =
    keeps_few c.self.inside.matches c.keep_cell_on.new.matches c.self.inside.newest c.args.live.now (is_in_slot c.args.key.now c.slot_of.result) c.keep_cell_on.ensures c.self.invariant
    c.args.key.now.match_name c.args.key.now.feed (selection_number c.args.key.now.selection) (own_cell c.args.key.now c.slot_of.result c.slot_of.ensures.feed c.slot_of.ensures.number)

pub returns-clause-others : goal.returns-clause-others
unfolding is_in_slot
returns-clause-others c = rw (← c.self.view_is) (λ m feed number other.
    others_stay c.self.inside.matches c.keep_cell_on.new.matches c.self.inside.newest c.args.live.now (is_in_slot c.args.key.now c.slot_of.result) c.keep_cell_on.ensures m feed number
    (slot_cell c.args.key.now c.slot_of.result c.slot_of.ensures.feed c.slot_of.ensures.number m feed number ∙ other))
