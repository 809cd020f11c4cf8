use Rattle.board_laws.proofs.Pins.{others_keep}
use Rattle.board_laws.proofs.laws.others_keep_pins.Goals as goal

pub returns : goal.returns
returns g c = λ rules law. others_keep rules (g.W.Law.allows law)
