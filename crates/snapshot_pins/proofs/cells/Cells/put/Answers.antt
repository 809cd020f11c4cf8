use Rattle.std.proofs.Common.{refl, sym, ap, ◌∙◌, Some}
use Rattle.scan_types.specs.Selections.{selection_number}
use Rattle.snapshot_pins.specs.declared.value.CellValue.{CellValue}
use Rattle.snapshot_pins.proofs.Changes.{on_err_any}
use Rattle.snapshot_pins.proofs.Views.{same_after, cells_added, is_added}
use Rattle.snapshot_pins.proofs.cells.Cells.put.Goals as goal

pub returns-in_err-push_on-clause-unchanged : goal.returns-in_err-push_on-clause-unchanged
returns-in_err-push_on-clause-unchanged c = rw (← c.self.view_is) (on_err_any _ (same_after c.self.inside.matches c.push_on.new.matches c.self.inside.newest c.in_err-push_on.ensures.unchanged))

pub invariant_of-self-2 : goal.invariant_of-self-2
invariant_of-self-2 c =
    let value : CellValue = record { version = c.args.version; offer = Some c.args.offer } in
    cells_added c.self.inside.matches c.push_on.new.matches c.self.inside.newest c.args.key.match_name c.slot_of.result value c.in_ok-push_on.ensures.pushed
    (rw (← c.self.view_is) at c.requires.later) (record { feed_is = c.requires.feed ∙ sym c.slot_of.ensures.feed; number_is = ap selection_number c.requires.selection ∙ sym c.slot_of.ensures.number }) c.self.invariant

pub returns-clause-added : goal.returns-clause-added
returns-clause-added c =
    let value : CellValue = record { version = c.args.version; offer = Some c.args.offer } in
    rw (← c.self.view_is) (is_added c.self.inside.matches c.push_on.new.matches c.self.inside.newest c.args.key.match_name c.slot_of.result value c.in_ok-push_on.ensures.pushed
    c.args.key refl c.slot_of.ensures.feed c.slot_of.ensures.number)
