use Rattle.board_definitions.proofs.Live.{live_stays}
use Rattle.board_definitions.proofs.laws.live_pins_stay.Goals as goal

pub returns : goal.returns
returns c = λ history more pin live none. live_stays history more pin live none
