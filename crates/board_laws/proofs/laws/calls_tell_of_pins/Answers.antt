use Rattle.board_laws.proofs.Pins.{one_pin, tell_of_pins}
use Rattle.board_laws.proofs.laws.calls_tell_of_pins.Goals as goal

pub returns-clause-one : goal.returns-clause-one
returns-clause-one g c = λ rules law. one_pin rules (g.W.Law.allows law)

pub returns-clause-none : goal.returns-clause-none
returns-clause-none g c = λ rules law. tell_of_pins rules (g.W.Law.allows law)
