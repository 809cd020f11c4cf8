use Rattle.scan_types.proofs.Terms.{selection_same}
use Rattle.scan_types.proofs.laws.a_number_has_one_selection.Goals as goal

pub returns : goal.returns
returns c = selection_same
