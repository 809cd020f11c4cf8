use Rattle.std.specs.Prelude.{◌≡◌}
use Rattle.scan_types.specs.declared.selection.Selection.{Selection}
use Rattle.scan_types.specs.Selections.{selection_number}

-- two selections of the same number are the same
abbrev pub OneSelectionANumber : Type 0
OneSelectionANumber = (a b : Selection) → selection_number a ≡ selection_number b → a ≡ b
