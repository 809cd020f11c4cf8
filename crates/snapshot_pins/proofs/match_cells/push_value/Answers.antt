use Rattle.std.proofs.Common.{◌∷◌, [], ◌++◌, Some, cond, sym, ap, ◌∙◌, rules}
use Rattle.std.proofs.lemmas.Result.{on_err_weaker, on_ok_weaker}
use Rattle.std.specs.BTreeMap.{BTreeMap, get, is_at}
use Rattle.std.specs.Option.{option_copied_mut}
use Rattle.snapshot_pins.specs.declared.cell.Cell.{Cell}
use Rattle.snapshot_pins.specs.declared.match_cells.Slot.{Slot}
use Rattle.snapshot_pins.specs.Kept.{slot_cmp}
use Rattle.snapshot_pins.proofs.Changes.{cell_after, cell_same, values_of_cell}
use Rattle.snapshot_pins.proofs.match_cells.push_value.Goals as goal

pub returns-in-Some-clause-pushed : goal.returns-in-Some-clause-pushed
returns-in-Some-clause-pushed c = on_ok_weaker c.push.result (λ added.
    cell_after (λ values. values ++ c.args.value ∷ []) c.args.cells.now _ c.args.slot c.push.new.cell (search rules)
    (added ∙ ap (λ o. values_of_cell o ++ c.args.value ∷ []) (sym (ap option_copied_mut c.in-Some.is) ∙ c.get_mut.ensures.value)))
    c.push.ensures.pushed

pub returns-in-Some-clause-unchanged : goal.returns-in-Some-clause-unchanged
returns-in-Some-clause-unchanged c = on_err_weaker c.push.result (λ stays.
    cell_same c.args.cells.now _ c.args.slot c.push.new.cell (search rules)
    (stays ∙ ap values_of_cell (sym (ap option_copied_mut c.in-Some.is) ∙ c.get_mut.ensures.value)))
    c.push.ensures.unchanged

pub returns-in_ok-insert-in-None-clause-pushed : goal.returns-in_ok-insert-in-None-clause-pushed
returns-in_ok-insert-in-None-clause-pushed c =
    cell_after (λ values. values ++ c.args.value ∷ []) c.args.cells.now _ c.args.slot c.in_ok-cell-in-None.cell
    (λ q. c.in_ok-insert-in-None.ensures.updates.0 q
    ∙ ap (λ (m : BTreeMap Slot Cell). cond (is_at (slot_cmp c.args.slot) q) (Some c.in_ok-cell-in-None.cell) (get slot_cmp m q)) c.get_mut.follows.holds-at-none)
    (c.in_ok-cell-in-None.ensures ∙ ap (λ o. values_of_cell o ++ c.args.value ∷ []) (sym (ap option_copied_mut c.in-None.is) ∙ c.get_mut.ensures.value))
