use Rattle.std.proofs.Common.{refl, None}
use Rattle.snapshot_pins.specs.declared.value.CellValue.{CellValue}
use Rattle.snapshot_pins.proofs.Changes.{on_err_any}
use Rattle.snapshot_pins.proofs.Views.{same_after, cells_added, is_added}
use Rattle.snapshot_pins.proofs.cells.Cells.remove.Goals as goal

pub returns-in_err-push_on-clause-unchanged : goal.returns-in_err-push_on-clause-unchanged
returns-in_err-push_on-clause-unchanged c = rw (← c.self.view_is) (on_err_any _ (same_after c.self.inside.matches c.push_on.new.matches c.self.inside.newest c.in_err-push_on.ensures.unchanged))

pub invariant_of-self-2 : goal.invariant_of-self-2
invariant_of-self-2 c =
    let value : CellValue = record { version = c.args.version; offer = None } in
    cells_added c.self.inside.matches c.push_on.new.matches c.self.inside.newest c.args.key.now.match_name c.slot_of.result value c.in_ok-push_on.ensures.pushed
    (rw (← c.self.view_is) at c.requires) tt c.self.invariant

pub returns-clause-added : goal.returns-clause-added
returns-clause-added c =
    let value : CellValue = record { version = c.args.version; offer = None } in
    rw (← c.self.view_is) (is_added c.self.inside.matches c.push_on.new.matches c.self.inside.newest c.args.key.now.match_name c.slot_of.result value c.in_ok-push_on.ensures.pushed
    c.args.key.now refl c.slot_of.ensures.feed c.slot_of.ensures.number)
