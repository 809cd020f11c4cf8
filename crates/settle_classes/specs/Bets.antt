use Rattle.std.specs.Prelude.{Bool, true, false, ◌&&◌, ◌==◌}
use Rattle.scan_types.specs.declared.rule.VoidRule.{VoidRule}
use Rattle.scan_types.specs.declared.rule.VoidRule.TheVariants.{Void, Score, Decided}
use Rattle.scan_types.specs.declared.offer.Offer.{Offer}
use Rattle.scan_types.specs.Selections.{selection_number}

-- whether two rules are the same
abbrev pub same_rule : VoidRule → VoidRule → Bool
same_rule Void Void = true
same_rule Void Score = false
same_rule Void Decided = false
same_rule Score Void = false
same_rule Score Score = true
same_rule Score Decided = false
same_rule Decided Void = false
same_rule Decided Score = false
same_rule Decided Decided = true

-- whether two offers are of one selection and rule
abbrev pub same_bet : Offer → Offer → Bool
same_bet one other =
    (selection_number one.selection == selection_number other.selection) && same_rule one.rule other.rule
