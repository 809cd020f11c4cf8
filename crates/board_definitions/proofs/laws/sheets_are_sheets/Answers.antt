use Rattle.std.proofs.Common.{take}
use Rattle.board_definitions.proofs.Counts.{few_stand}
use Rattle.board_definitions.proofs.Rising.{sheet_is_sheet}
use Rattle.board_definitions.proofs.laws.sheets_are_sheets.Goals as goal

pub returns : goal.returns
returns g c = λ rules law history legal version m.
    sheet_is_sheet rules (take version history) m (λ f. few_stand rules (g.W.Law.allows law) history m f legal version)
